-- A goal with another number of arguments than its row is not split.
use Rattle.std.proofs.Common.{◌≡◌, ℕ, ◌<◌, ◌≤◌, List, [], ◌∷◌, length, None, refl, ap, ◌∙◌, arith}
use Rattle.fd_language.specs.Term.{Term}
use Rattle.fd_model.specs.declared.kinds.Relation.{Relation}
use Rattle.fd_model.specs.declared.kinds.ConstraintKind.{ConstraintKind}
use Rattle.fd_model.specs.declared.kinds.ConstraintKind.TheVariants.{Compare, AllDifferent, Element, Atmost, And, Or, Not, Reified}
use Rattle.fd_model.specs.Splitting.{split}
use Rattle.term_pool.specs.declared.TermId.{TermId}
use Rattle.term_pool.specs.Terms.{terms_by}

module _ (M : ℕ) (part : TermId → Term) (n : ℕ) where
  few_compared : (r : Relation) (ts : List TermId) → length ts < 2 → split M (Compare r) (terms_by part ts) n ≡ None
  few_compared r [] h = refl
  few_compared r (a ∷ []) h = refl
  few_compared r (a ∷ b ∷ ts) h = absurd (omega arith)

  many_compared : (r : Relation) (ts : List TermId) → 3 ≤ length ts → split M (Compare r) (terms_by part ts) n ≡ None
  many_compared r (a ∷ b ∷ c ∷ ts) h = refl
  many_compared r [] h = absurd (omega arith)
  many_compared r (a ∷ []) h = absurd (omega arith)
  many_compared r (a ∷ b ∷ []) h = absurd (omega arith)

  few_and : (ts : List TermId) → length ts < 3 → split M And (terms_by part ts) n ≡ None
  few_and [] h = refl
  few_and (a ∷ []) h = refl
  few_and (a ∷ b ∷ []) h = refl
  few_and (a ∷ b ∷ c ∷ ts) h = absurd (omega arith)

  many_and : (ts : List TermId) → 4 ≤ length ts → split M And (terms_by part ts) n ≡ None
  many_and (a ∷ b ∷ c ∷ d ∷ ts) h = refl
  many_and [] h = absurd (omega arith)
  many_and (a ∷ []) h = absurd (omega arith)
  many_and (a ∷ b ∷ []) h = absurd (omega arith)
  many_and (a ∷ b ∷ c ∷ []) h = absurd (omega arith)

  few_or : (ts : List TermId) → length ts < 3 → split M Or (terms_by part ts) n ≡ None
  few_or [] h = refl
  few_or (a ∷ []) h = refl
  few_or (a ∷ b ∷ []) h = refl
  few_or (a ∷ b ∷ c ∷ ts) h = absurd (omega arith)

  many_or : (ts : List TermId) → 4 ≤ length ts → split M Or (terms_by part ts) n ≡ None
  many_or (a ∷ b ∷ c ∷ d ∷ ts) h = refl
  many_or [] h = absurd (omega arith)
  many_or (a ∷ []) h = absurd (omega arith)
  many_or (a ∷ b ∷ []) h = absurd (omega arith)
  many_or (a ∷ b ∷ c ∷ []) h = absurd (omega arith)

  few_not : (ts : List TermId) → length ts < 2 → split M Not (terms_by part ts) n ≡ None
  few_not [] h = refl
  few_not (a ∷ []) h = refl
  few_not (a ∷ b ∷ ts) h = absurd (omega arith)

  many_not : (ts : List TermId) → 3 ≤ length ts → split M Not (terms_by part ts) n ≡ None
  many_not (a ∷ b ∷ c ∷ ts) h = refl
  many_not [] h = absurd (omega arith)
  many_not (a ∷ []) h = absurd (omega arith)
  many_not (a ∷ b ∷ []) h = absurd (omega arith)

  few_reified : (ts : List TermId) → length ts < 2 → split M Reified (terms_by part ts) n ≡ None
  few_reified [] h = refl
  few_reified (a ∷ []) h = refl
  few_reified (a ∷ b ∷ ts) h = absurd (omega arith)

  many_reified : (ts : List TermId) → 3 ≤ length ts → split M Reified (terms_by part ts) n ≡ None
  many_reified (a ∷ b ∷ c ∷ ts) h = refl
  many_reified [] h = absurd (omega arith)
  many_reified (a ∷ []) h = absurd (omega arith)
  many_reified (a ∷ b ∷ []) h = absurd (omega arith)

-- at a kind that is known by an equation
module _ (M : ℕ) (part : TermId → Term) (n : ℕ) (k : ConstraintKind) (ts : List TermId) where
  whole : (q : ConstraintKind) → k ≡ q → split M q (terms_by part ts) n ≡ None → split M k (terms_by part ts) n ≡ None
  whole q e h = ap (λ (p : ConstraintKind). split M p (terms_by part ts) n) e ∙ h

  pub compare_few : (r : Relation) → k ≡ Compare r → length ts < 2 → split M k (terms_by part ts) n ≡ None
  compare_few r e h = whole (Compare r) e (few_compared M part n r ts h)

  pub compare_many : (r : Relation) → k ≡ Compare r → 3 ≤ length ts → split M k (terms_by part ts) n ≡ None
  compare_many r e h = whole (Compare r) e (many_compared M part n r ts h)

  pub and_few : k ≡ And → length ts < 3 → split M k (terms_by part ts) n ≡ None
  and_few e h = whole And e (few_and M part n ts h)

  pub and_many : k ≡ And → 4 ≤ length ts → split M k (terms_by part ts) n ≡ None
  and_many e h = whole And e (many_and M part n ts h)

  pub or_few : k ≡ Or → length ts < 3 → split M k (terms_by part ts) n ≡ None
  or_few e h = whole Or e (few_or M part n ts h)

  pub or_many : k ≡ Or → 4 ≤ length ts → split M k (terms_by part ts) n ≡ None
  or_many e h = whole Or e (many_or M part n ts h)

  pub not_few : k ≡ Not → length ts < 2 → split M k (terms_by part ts) n ≡ None
  not_few e h = whole Not e (few_not M part n ts h)

  pub not_many : k ≡ Not → 3 ≤ length ts → split M k (terms_by part ts) n ≡ None
  not_many e h = whole Not e (many_not M part n ts h)

  pub reified_few : k ≡ Reified → length ts < 2 → split M k (terms_by part ts) n ≡ None
  reified_few e h = whole Reified e (few_reified M part n ts h)

  pub reified_many : k ≡ Reified → 3 ≤ length ts → split M k (terms_by part ts) n ≡ None
  reified_many e h = whole Reified e (many_reified M part n ts h)

  -- the other kinds
  pub another : ((r : Relation) → k ≡ Compare r → ⊥) → (k ≡ And → ⊥) → (k ≡ Or → ⊥) → (k ≡ Not → ⊥) → (k ≡ Reified → ⊥) → split M k (terms_by part ts) n ≡ None
  another a b c d e = by_kind k a b c d e where
    by_kind : (k : ConstraintKind) → ((r : Relation) → k ≡ Compare r → ⊥) → (k ≡ And → ⊥) → (k ≡ Or → ⊥) → (k ≡ Not → ⊥) → (k ≡ Reified → ⊥) → split M k (terms_by part ts) n ≡ None
    by_kind (Compare r) a b c d e = absurd (a r refl)
    by_kind AllDifferent a b c d e = refl
    by_kind Element a b c d e = refl
    by_kind Atmost a b c d e = refl
    by_kind And a b c d e = absurd (b refl)
    by_kind Or a b c d e = absurd (c refl)
    by_kind Not a b c d e = absurd (d refl)
    by_kind Reified a b c d e = absurd (e refl)
