use Rattle.std.proofs.Common.{◌≡◌, ◌++◌, map, take, drop}
use Rattle.clause_compiler.specs.Sections.{placed_code}
use Rattle.clause_compiler.proofs.choices.place_choices.Given as goal

abbrev pub invariant-loop-i : goal.invariant-loop-i
invariant-loop-i l = l.code.items ≡ map (placed_code l.places) (take l.i l.initial.code.items) ++ drop l.i l.initial.code.items
