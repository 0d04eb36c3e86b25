use Rattle.std.proofs.Common.{◌≡◌, ◌+◌, [], length}
use Rattle.clause_code.specs.Predicates.{base_in}
use Rattle.clause_code.specs.Sides.{Stands, turns_of, sides_turns}
use Rattle.clause_code.specs.SimpleGoals.{AreMade}
use Rattle.clause_code.proofs.goals.write_goals.Given as goal

abbrev pub invariant-loop-next : goal.invariant-loop-next
invariant-loop-next l = record {
  stands : Stands l.program (base_in l.program l.predicates) l.homes (record { before = l.fn.code.items; part = l.fn.part; levels = l.fn.levels })
      l.sides.items l.code.items l.next.part l.next.levels;
  same : l.made.items ≡ l.fn.made.items;
  all : AreMade l.made.items;
  long : length l.made.items ≡ length l.homes;
  works : l.works.items ≡ [];
}

abbrev pub decreases-loop-next : goal.decreases-loop-next
decreases-loop-next l = turns_of l.program l.next.part + sides_turns l.program l.sides.items
