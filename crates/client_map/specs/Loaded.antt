-- The deal that a front-loaded map stands for.
use Rattle.owner_map.specs.Meaning.{Deal}
use Rattle.client_map.specs.declared.front.FrontLoaded.{FrontLoaded}
use Rattle.client_map.specs.Rule.{front_deal}

abbrev pub loaded_deal : FrontLoaded → Deal
loaded_deal m = front_deal m.numbers.boards m.numbers.length m.front
