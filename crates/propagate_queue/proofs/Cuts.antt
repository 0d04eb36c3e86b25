-- A set of the store intersected with another one.
use Rattle.std.proofs.Common.{◌≡◌, ℕ, List, sym, subst}
use Rattle.std.specs.Prelude.{Result, IfOk}
use Rattle.std.proofs.lemmas.Result.{IfOk-weaker}
use Rattle.fd_language.specs.declared.TheConstants.{INFINITY}
use Rattle.fd_language.specs.Family.{universe, IsRising, IsSubset}
use Rattle.fd_language.specs.Range.{Indexical, set_of}
use Rattle.fd_language.proofs.Lemmas.{rising_inside}
use Rattle.range_code.specs.Frames.{family_of}
use Rattle.domain_trail.specs.Stores.{Stores}
use Rattle.domain_trail.specs.Cuts.{IsCut}
use Rattle.domain_trail.specs.declared.Cut.{Cut}
use Rattle.propagate_queue.specs.PropagationInvariant.{Activated}

-- the target's set intersected with what the range's set is
pub cut_done : (p : Indexical) (x : ℕ) (set : List ℕ) (old new : Stores) (cut : Cut) → x ≡ p.target → set_of INFINITY (family_of old.current) p.range ≡ set
    → IsCut set x old new cut → Activated p old new cut
cut_done p x set old new cut e f h = subst (λ y. IsCut (set_of INFINITY (family_of old.current) p.range) y old new cut) e (subst (λ s. IsCut s x old new cut) (sym f) h)

pub cut_activates : {E : Type 0} (res : Result Cut E) (p : Indexical) (x : ℕ) (set : List ℕ) (old new : Stores) → x ≡ p.target
    → set_of INFINITY (family_of old.current) p.range ≡ set → IfOk res (IsCut set x old new) → IfOk res (Activated p old new)
cut_activates res p x set old new e f h = IfOk-weaker res (IsCut set x old new) (Activated p old new) (λ cut g. cut_done p x set old new cut e f g) h

-- all is left of a set among all numbers
pub all_left : (xs set : List ℕ) → IsRising 0 INFINITY xs → set ≡ universe INFINITY → IsSubset xs set
all_left xs set r e = subst (IsSubset xs) (sym e) (rising_inside INFINITY xs r)
