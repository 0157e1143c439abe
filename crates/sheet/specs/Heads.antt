-- What a `stmt` line says, as the code holds it. Assumes nothing.
use Rattle.sheet.specs.declared.heading.Heading.{Heading}
use Rattle.sheet.specs.Verdicts.{Head}

abbrev pub headed : Heading → Head
headed h = record { mode = h.mode; i = h.i; j = h.j }
