-- Ranges without parameters that fit the direction table are monotone.
use Rattle.std.proofs.Common.{◌≡◌, ℕ, Bool, true, ℤ, pos, List, [], ◌∷◌, map, ap, subst}
use Rattle.std.specs.List.{list_all}
use Rattle.fd_language.specs.declared.range_node.Need.{Need}
use Rattle.fd_language.specs.Range.{Range, Indexical}
use Rattle.fd_language.specs.Needs.{asks, meets, once, strongest}
use Rattle.fd_model.specs.ClosedFamilies.{AllPosted}
use Rattle.fd_language.specs.Monotonicity.{IsMonotone}
use Rattle.fd_language.proofs.Lemmas.{accepted_is_monotone, filled_as_is, nothing_asked}
use Rattle.fd_model.specs.ConstraintLaws.{MonotoneRows}
use Rattle.fd_model.proofs.RowDirections.{IsFitting, Fitting}
use Rattle.fd_model.proofs.SplitDirections.{expand_fitting}

-- the needs, of the places where something is asked
needs_of : (ℕ → ℤ) → List (ℕ × Need) → Bool
needs_of p ds = list_all (λ (d : ℕ × Need). meets d.1 (p d.0)) (map (λ x. (x, strongest ds x)) (once (map (λ (d : ℕ × Need). d.0) ds)))

pub fitting_monotone : (M : ℕ) (r : Range) → IsFitting M r → IsMonotone M r
unfolding needs_of
fitting_monotone M r f =
    let p : ℕ → ℤ = λ x. pos 0 in
    let met : needs_of p (asks r) ≡ true = ap (needs_of p) (nothing_asked r f.params) in
    subst (IsMonotone M) (filled_as_is p r f.params) (accepted_is_monotone M r p f.fits met)

all_monotone : (M : ℕ) (ps : List Indexical) → Fitting M ps → AllPosted (λ p. IsMonotone M p.range) ps
all_monotone M [] h = tt
all_monotone M (p ∷ ps) h = (fitting_monotone M p.range h.0, all_monotone M ps h.1)

pub monotone_rows : MonotoneRows
monotone_rows M kind ts n x h = all_monotone M x.ranges (expand_fitting M kind ts n x h)
