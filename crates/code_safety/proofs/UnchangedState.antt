-- What an instruction leaves as it was: behind the current registers, and below the current pair of the branch.
use Rattle.std.proofs.Common.{◌≡◌, refl, ap, ◌∙◌}
use Rattle.branch_state.specs.States as branch
use Rattle.branch_state.specs.States.{IsSameBelow, with_heap}
use Rattle.code_areas.specs.Areas.{Contents}
use Rattle.code_safety.specs.Machine.{IsSameBehind}

pub same_behind : (c : Contents) → IsSameBehind c c
same_behind c = record { returns = refl; points = refl }

-- one after the other
pub behind_both : (a b c : Contents) → IsSameBehind a b → IsSameBehind b c → IsSameBehind a c
behind_both a b c s t = record { returns = t.returns ∙ s.returns; points = t.points ∙ s.points }

pub same_below : (s : branch.State) → IsSameBelow s s
same_below s = record { atoms = refl; infinity = refl; heaps = refl; levels = refl }

-- another heap alone
pub below_heap : (a b : branch.State) → b ≡ with_heap a b.heaps.now → IsSameBelow a b
below_heap a b e = record {
  atoms = ap (λ (s : branch.State). s.atoms) e;
  infinity = ap (λ (s : branch.State). s.infinity) e;
  heaps = ap (λ (s : branch.State). s.heaps.below) e;
  levels = ap (λ (s : branch.State). s.levels.below) e;
}

-- one after the other
pub below_both : (a b c : branch.State) → IsSameBelow a b → IsSameBelow b c → IsSameBelow a c
below_both a b c s t = record { atoms = t.atoms ∙ s.atoms; infinity = t.infinity ∙ s.infinity; heaps = t.heaps ∙ s.heaps; levels = t.levels ∙ s.levels }
