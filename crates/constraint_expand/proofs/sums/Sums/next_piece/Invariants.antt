use Rattle.std.proofs.Common.{◌≡◌, ◌-◌, length}
use Rattle.constraint_expand.specs.Sums.{sums_ahead, AreReadySums}
use Rattle.constraint_expand.proofs.sums.Sums.next_piece.Given as goal

abbrev pub invariant-loop-self : goal.invariant-loop-self
invariant-loop-self l = AreReadySums l.self × (sums_ahead l.self ≡ sums_ahead l.fn.self)

abbrev pub decreases-loop-self : goal.decreases-loop-self
decreases-loop-self l = length l.self.forms.items - l.self.next
