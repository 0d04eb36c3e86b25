-- A greatest number of variables as ranges: what a store of the whole universe holds where each of its variables was bounded when it was made.
use Rattle.std.specs.Prelude.{◌≡◌, ℕ, ◌≤◌, IsTrue, pos, List, [], ◌∷◌}
use Rattle.fd_language.specs.Family.{Family, has, universe}
use Rattle.fd_language.specs.Range.{Indexical, Span, Number}
use Rattle.fd_model.specs.Answers.{Somewhere}
use Rattle.fd_model.specs.ClosedFamilies.{constrained}
use Rattle.fd_model.specs.Models.{IsModel}

-- x in 0..N
abbrev pub bound : ℕ → ℕ → Indexical
bound N x = record { target = x; range = Span (Number (pos 0)) (Number (pos N)) }

-- the second list is the first with bounds among its ranges
pub data HasBounds (N : ℕ) : List Indexical → List Indexical → Type 0 where
  no_bounds : HasBounds N [] []
  posted : {ps qs : List Indexical} (p : Indexical) → HasBounds N ps qs → HasBounds N (p ∷ ps) (p ∷ qs)
  bounded : {ps qs : List Indexical} (x : ℕ) → HasBounds N ps qs → HasBounds N ps (bound N x ∷ qs)

-- The models of the one list in the universe are those of the other with no number of a variable beyond N. Of a variable on which nothing but its bound is
-- posted the set is free: there is a model in which it has all numbers up to N.
pub record AreBoundedModels (M N : ℕ) (ps qs : List Indexical) : Type 0 where
  pub there : (T : Family) → IsModel M M [] qs T → IsModel M N [] ps T
  pub back : (S : Family) → IsModel M N [] ps S → (T : Family) × IsModel M M [] qs T × ((x : ℕ) → IsTrue (has (constrained ps) x) → T x ≡ S x)
      × ((x : ℕ) → (IsTrue (has (constrained ps) x) → ⊥) → T x ≡ universe N)

abbrev pub BoundedModels : Type 0
BoundedModels =
    (M N : ℕ) (ps qs : List Indexical) → N ≤ M → HasBounds N ps qs → ((x : ℕ) → IsTrue (has (constrained ps) x) → Somewhere (λ q. q ≡ bound N x) qs) → AreBoundedModels M N ps qs
