use Rattle.std.proofs.Common.{◌≡◌, ◌++◌, map, take, drop}
use Rattle.tokens.specs.Texts.{got, then, fields_behind}
use Rattle.tokens.specs.Views.{part_of, before}
use Rattle.sheet.proofs.forms.read_fields.Given as goal

abbrev pub invariant-loop-i : goal.invariant-loop-i
invariant-loop-i l = fields_behind 61 l.kinds (before l.initial.cursor) ≡ then (fields_behind l.lead (drop l.i l.kinds) (before l.cursor)) (λ qs u. got (map part_of (take l.i l.fields) ++ qs) u)
