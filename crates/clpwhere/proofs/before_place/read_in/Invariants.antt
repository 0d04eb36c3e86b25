use Rattle.std.proofs.Common.{length}
use Rattle.clpwhere.specs.declared.before_place.Before.{Before}
use Rattle.clpwhere.specs.BeforePlace.{none_passed}
use Rattle.clpwhere.proofs.BeforePlace.{Tells}
use Rattle.clpwhere.proofs.before_place.read_in.Given as goal

abbrev pub invariant-loop-token : goal.invariant-loop-token
invariant-loop-token l =
    (b : Before) → Tells l.place (length l.text) l.last l.scanner.place l.scanner.bytes b → Tells l.place (length l.text) none_passed 0 l.text b

abbrev pub decreases-loop-token : goal.decreases-loop-token
decreases-loop-token l = length l.scanner.bytes
