-- Sums that tell.
use Rattle.std.specs.Prelude.{◌≡◌, ℕ, ◌≤◌, ◌<◌, false, ℤ, pos, List, [], ◌∷◌, ◌++◌, length, map, take, ◌==◌, slice_index_or, MatchResult, Result, Ok}
use Rattle.std.specs.List.{list_all}
use Rattle.fd_model.specs.Linear as linear
use Rattle.fd_model.specs.Linear.{with_product, in_integers}
use Rattle.fd_model.specs.ReifiedRows.{told_by}
use Rattle.linear_forms.specs.declared.Linear.{Linear}
use Rattle.linear_forms.specs.LinearForm.{form_of}
use Rattle.linear_forms.specs.IntegerSums.{AreIntegers, IsInside}
use Rattle.product_bool.specs.declared.faults.SplitFault.{SplitFault}
use Rattle.product_bool.specs.Faults.{IsFaultOf}

-- no coefficient is 0
abbrev pub NoneZero : List (ℕ × ℤ) → Type 0
NoneZero [] = Unit {0}
NoneZero (t ∷ ts) = (t.1 ≡ pos 0 → ⊥) × NoneZero ts

-- the numbers are integers of the language, and no coefficient is 0
pub record IsNormal (l : linear.Linear) : Type 0 where
  pub inside : IsInside l
  pub nonzero : NoneZero l.products

-- none is a product of the variable
abbrev pub AreApart : ℕ → List (ℕ × ℤ) → Type 0
AreApart x [] = Unit {0}
AreApart x (t ∷ ts) = ((t.0 == x) ≡ false) × AreApart x ts

-- the place of the variable, or the end
pub record FindsProduct (ts : List (ℕ × ℤ)) (x i : ℕ) : Type 0 where
  pub within : i ≤ length ts
  pub here : i < length ts → (slice_index_or ts i (0, pos 0)).0 ≡ x
  pub before : AreApart x (take i ts)

-- the products with one more, whose coefficients are integers of the language
pub record Adds (ts : List (ℕ × ℤ)) (x : ℕ) (a : ℤ) (us : List (ℕ × ℤ)) : Type 0 where
  pub products : us ≡ with_product ts x a
  pub inside : AreIntegers us

-- one of them isn't
abbrev pub Exceeds : List (ℕ × ℤ) → ℕ → ℤ → Type 0
Exceeds ts x a = list_all (λ t. in_integers t.1) (with_product ts x a) ≡ false

-- the sums of the definition behind the others, or its fault
abbrev pub Tells : ℕ → ℤ → linear.Linear → List Linear → List Linear → Result (Unit {0}) SplitFault → Type 0
Tells x w l old new r = MatchResult r (λ _. (ls : List linear.Linear) × (told_by x w l ≡ Ok ls) × (map form_of new ≡ map form_of old ++ ls)) (IsFaultOf (told_by x w l))
