-- A constraint with another number of arguments than its row has no ranges.
use Rattle.std.proofs.Common.{◌≡◌, ℕ, ◌<◌, ◌≤◌, List, [], ◌∷◌, length, Err, refl, ap, ◌∙◌, arith}
use Rattle.fd_language.specs.Term.{Term}
use Rattle.fd_model.specs.declared.kinds.QueryFault.TheVariants.{BadType}
use Rattle.fd_model.specs.declared.kinds.Relation.{Relation}
use Rattle.fd_model.specs.declared.kinds.ConstraintKind.{ConstraintKind}
use Rattle.fd_model.specs.declared.kinds.ConstraintKind.TheVariants.{Compare, AllDifferent, Element, Atmost, And, Or, Not, Reified}
use Rattle.fd_model.specs.ConstraintExpansion.{basic}
use Rattle.term_pool.specs.declared.TermId.{TermId}
use Rattle.term_pool.specs.Terms.{terms_by}

module _ (part : TermId → Term) (n : ℕ) where
  few_compared : (r : Relation) (ts : List TermId) → length ts < 2 → basic (Compare r) (terms_by part ts) n ≡ Err BadType
  few_compared r [] h = refl
  few_compared r (a ∷ []) h = refl
  few_compared r (a ∷ b ∷ ts) h = absurd (omega arith)

  many_compared : (r : Relation) (ts : List TermId) → 3 ≤ length ts → basic (Compare r) (terms_by part ts) n ≡ Err BadType
  many_compared r (a ∷ b ∷ c ∷ ts) h = refl
  many_compared r [] h = absurd (omega arith)
  many_compared r (a ∷ []) h = absurd (omega arith)
  many_compared r (a ∷ b ∷ []) h = absurd (omega arith)

  few_differ : (ts : List TermId) → length ts < 1 → basic AllDifferent (terms_by part ts) n ≡ Err BadType
  few_differ [] h = refl
  few_differ (a ∷ ts) h = absurd (omega arith)

  many_differ : (ts : List TermId) → 2 ≤ length ts → basic AllDifferent (terms_by part ts) n ≡ Err BadType
  many_differ (a ∷ b ∷ ts) h = refl
  many_differ [] h = absurd (omega arith)
  many_differ (a ∷ []) h = absurd (omega arith)

  few_elements : (ts : List TermId) → length ts < 3 → basic Element (terms_by part ts) n ≡ Err BadType
  few_elements [] h = refl
  few_elements (a ∷ []) h = refl
  few_elements (a ∷ b ∷ []) h = refl
  few_elements (a ∷ b ∷ c ∷ ts) h = absurd (omega arith)

  many_elements : (ts : List TermId) → 4 ≤ length ts → basic Element (terms_by part ts) n ≡ Err BadType
  many_elements (a ∷ b ∷ c ∷ d ∷ ts) h = refl
  many_elements [] h = absurd (omega arith)
  many_elements (a ∷ []) h = absurd (omega arith)
  many_elements (a ∷ b ∷ []) h = absurd (omega arith)
  many_elements (a ∷ b ∷ c ∷ []) h = absurd (omega arith)

  few_counted : (ts : List TermId) → length ts < 3 → basic Atmost (terms_by part ts) n ≡ Err BadType
  few_counted [] h = refl
  few_counted (a ∷ []) h = refl
  few_counted (a ∷ b ∷ []) h = refl
  few_counted (a ∷ b ∷ c ∷ ts) h = absurd (omega arith)

  many_counted : (ts : List TermId) → 4 ≤ length ts → basic Atmost (terms_by part ts) n ≡ Err BadType
  many_counted (a ∷ b ∷ c ∷ d ∷ ts) h = refl
  many_counted [] h = absurd (omega arith)
  many_counted (a ∷ []) h = absurd (omega arith)
  many_counted (a ∷ b ∷ []) h = absurd (omega arith)
  many_counted (a ∷ b ∷ c ∷ []) h = absurd (omega arith)

-- at a kind that is known by an equation
module _ (part : TermId → Term) (n : ℕ) (k : ConstraintKind) (ts : List TermId) where
  refused : (q : ConstraintKind) → k ≡ q → basic q (terms_by part ts) n ≡ Err BadType → basic k (terms_by part ts) n ≡ Err BadType
  refused q e h = ap (λ (p : ConstraintKind). basic p (terms_by part ts) n) e ∙ h

  pub compare_few : (r : Relation) → k ≡ Compare r → length ts < 2 → basic k (terms_by part ts) n ≡ Err BadType
  compare_few r e h = refused (Compare r) e (few_compared part n r ts h)

  pub compare_many : (r : Relation) → k ≡ Compare r → 3 ≤ length ts → basic k (terms_by part ts) n ≡ Err BadType
  compare_many r e h = refused (Compare r) e (many_compared part n r ts h)

  pub different_few : k ≡ AllDifferent → length ts < 1 → basic k (terms_by part ts) n ≡ Err BadType
  different_few e h = refused AllDifferent e (few_differ part n ts h)

  pub different_many : k ≡ AllDifferent → 2 ≤ length ts → basic k (terms_by part ts) n ≡ Err BadType
  different_many e h = refused AllDifferent e (many_differ part n ts h)

  pub element_few : k ≡ Element → length ts < 3 → basic k (terms_by part ts) n ≡ Err BadType
  element_few e h = refused Element e (few_elements part n ts h)

  pub element_many : k ≡ Element → 4 ≤ length ts → basic k (terms_by part ts) n ≡ Err BadType
  element_many e h = refused Element e (many_elements part n ts h)

  pub atmost_few : k ≡ Atmost → length ts < 3 → basic k (terms_by part ts) n ≡ Err BadType
  atmost_few e h = refused Atmost e (few_counted part n ts h)

  pub atmost_many : k ≡ Atmost → 4 ≤ length ts → basic k (terms_by part ts) n ≡ Err BadType
  atmost_many e h = refused Atmost e (many_counted part n ts h)

  -- the kinds that are split
  pub another : ((r : Relation) → k ≡ Compare r → ⊥) → (k ≡ AllDifferent → ⊥) → (k ≡ Element → ⊥) → (k ≡ Atmost → ⊥) → basic k (terms_by part ts) n ≡ Err BadType
  another a b c d = by_kind k a b c d where
    by_kind : (k : ConstraintKind) → ((r : Relation) → k ≡ Compare r → ⊥) → (k ≡ AllDifferent → ⊥) → (k ≡ Element → ⊥) → (k ≡ Atmost → ⊥) → basic k (terms_by part ts) n ≡ Err BadType
    by_kind (Compare r) a b c d = absurd (a r refl)
    by_kind AllDifferent a b c d = absurd (b refl)
    by_kind Element a b c d = absurd (c refl)
    by_kind Atmost a b c d = absurd (d refl)
    by_kind And a b c d = refl
    by_kind Or a b c d = refl
    by_kind Not a b c d = refl
    by_kind Reified a b c d = refl
