use Rattle.std.proofs.Common.{◌-◌, length}
use Rattle.domain_trail.proofs.ForgottenCells.{IsSifting}
use Rattle.domain_trail.proofs.forget.Given as goal

abbrev pub invariant-sifting : goal.invariant-sifting
invariant-sifting l = IsSifting l.from l.stamp l.fn.saved.items l.saved.items l.kept l.place

abbrev pub decreases-sifting : goal.decreases-sifting
decreases-sifting l = length l.saved.items - l.place
