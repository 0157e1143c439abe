-- What the code's nest stands for. Assumes nothing.
use Rattle.std.specs.Prelude.{List, map, vec_items, Vec}
use Rattle.std.specs.declared.alloc.Global.{Global}
use Rattle.nest.specs.declared.terms.Statement.{Statement}
use Rattle.nest.specs.Terms.{Said}

-- a statement, with its reads as a list
abbrev pub said : Statement → Said
said s = record { mode = s.mode; i = s.i; j = s.j; put = s.put; base = s.base; reads = vec_items s.reads }

-- the statements of a nest, as a list
abbrev pub said_all : Vec Statement Global → List Said
said_all v = map said (vec_items v)
