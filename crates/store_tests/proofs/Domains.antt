-- Sets of a family that stand in a list: no set is empty, where no listed one is.
use Rattle.std.proofs.Common.{◌≡◌, ℕ, zero, suc, ◌<◌, ◌≤◌, ◌⊎◌, inl, inr, List, [], ◌∷◌, length, get_or, false, refl, ap, sym, subst, ◌∙◌, arith}
use Rattle.fd_language.specs.declared.TheConstants.{INFINITY}
use Rattle.fd_language.specs.Family.{IsRising, universe}
use Rattle.fd_language.specs.Range.{is_none_left}
use Rattle.fd_language.proofs.Lemmas.{universe_rising}

-- a place stands in the list, or the whole universe stands for it
at_or_past : (domains : List (List ℕ)) (k : ℕ) → (k < length domains) ⊎ (get_or domains k (universe INFINITY) ≡ universe INFINITY)
at_or_past [] k = inr refl
at_or_past (d ∷ ds) zero = inl (omega arith)
at_or_past (d ∷ ds) (suc k) = elim (at_or_past ds k) [ inl h ↦ inl (omega arith) | inr h ↦ inr h ]

-- the universe has a number
universe_some : (M : ℕ) → is_none_left (universe M) ≡ false
unfolding universe
universe_some M = refl

-- what holds of each listed set, and of the universe, holds of each set of the family
pub all_some : (domains : List (List ℕ)) (i : ℕ) → length domains ≤ i
    → ((k : ℕ) → k < i → (is_none_left (get_or domains k (universe INFINITY)) ≡ false) × IsRising 0 INFINITY (get_or domains k (universe INFINITY))) → (k : ℕ)
    → (is_none_left (get_or domains k (universe INFINITY)) ≡ false) × IsRising 0 INFINITY (get_or domains k (universe INFINITY))
all_some domains i l h k = elim (at_or_past domains k) [
  | inl g ↦ h k (omega arith)
  | inr g ↦ (ap is_none_left g ∙ universe_some INFINITY, subst (IsRising 0 INFINITY) (sym g) (universe_rising INFINITY))
]
