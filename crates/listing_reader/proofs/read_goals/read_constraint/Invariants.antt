use Rattle.std.proofs.Common.{◌≡◌, Bool, false, List, take}
use Rattle.std.specs.List.{list_any}
use Rattle.std.specs.Str.{bytes_eq}
use Rattle.listing_reader.specs.Goals.{constraint_spelled}
use Rattle.listing_reader.proofs.GoalWords.{all_constraints}
use Rattle.listing_reader.proofs.read_goals.read_constraint.Given as goal

abbrev pub invariant-loop-kind : goal.invariant-loop-kind
invariant-loop-kind l = list_any (λ k. bytes_eq (constraint_spelled k) l.word) (take l.kind-index all_constraints) ≡ false
