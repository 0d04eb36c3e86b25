-- Whether a branch is consistent can be decided, and a consistent one has a view.
use Rattle.std.proofs.Common.{◌≡◌, ℕ, true, ◌==◌, List, [], ◌∷◌, refl, sym, subst, inl, inr, ◌⊎◌, eqb-true, eq-eqb}
use Rattle.std.proofs.lemmas.Bool.{or_cases, or_left, or_right, true≢false}
use Rattle.fd_language.specs.Term.{Substitution}
use Rattle.fd_language.specs.Unifier.{Equation, IsMostGeneral}
use Rattle.fd_language.specs.Family.{Family, has, IsInside}
use Rattle.fd_language.specs.Range.{Indexical}
use Rattle.fd_model.specs.ClosedFamilies.{constrained, AllPosted, IsClosed}
use Rattle.fd_language.specs.Monotonicity.{IsMonotone}
use Rattle.fd_model.specs.BranchViews.{IsConsistent, IsView}
use Rattle.fd_model.proofs.ClosedFamilies.{greatest_for, closed_either}
use Rattle.fd_language.proofs.Lemmas.{solved, Solved}
use Rattle.fd_model.proofs.CanonicalUnifiers.{canonical}

-- some variable of the list has no value, or each has one
some_empty : (D : Family) (vs : List ℕ) → ((x : ℕ) → has vs x ≡ true → (n : ℕ) × (has (D x) n ≡ true)) ⊎ ((x : ℕ) × (has vs x ≡ true) × (D x ≡ []))
some_empty D [] = inl (λ x h. absurd (true≢false (sym h)))
some_empty D (v ∷ vs) = by_set (D v) refl (some_empty D vs)
  where
    by_set : (xs : List ℕ) → D v ≡ xs → ((x : ℕ) → has vs x ≡ true → (n : ℕ) × (has (D x) n ≡ true)) ⊎ ((x : ℕ) × (has vs x ≡ true) × (D x ≡ []))
        → ((x : ℕ) → has (v ∷ vs) x ≡ true → (n : ℕ) × (has (D x) n ≡ true)) ⊎ ((x : ℕ) × (has (v ∷ vs) x ≡ true) × (D x ≡ []))
    by_set [] e later = inr (v, or_left (v == v) (has vs v) (eq-eqb v v refl), e)
    by_set (n ∷ ns) e (inl f) = inl (λ x h. elim (or_cases (v == x) (has vs x) h) [
      | inl g ↦ (n, subst (λ y. has (D y) n ≡ true) (eqb-true v x g) (subst (λ l. has l n ≡ true) (sym e) (or_left (n == n) (has ns n) (eq-eqb n n refl))))
      | inr g ↦ f x g
    ])
    by_set (n ∷ ns) e (inr f) = inr (f.0, or_right (v == f.0) (has vs f.0) f.1, f.2)

pub decide_consistent : (M N : ℕ) (es : List Equation) (ps : List Indexical) → AllPosted (λ p. IsMonotone M p.range) ps → IsConsistent M N es ps ⊎ (IsConsistent M N es ps → ⊥)
decide_consistent M N es ps mono = by_unifier (solved es)
  where
    by_sets : (s : Substitution) (g : IsMostGeneral es s) (D : Family) → IsClosed M N s ps D → ((S : Family) → IsClosed M N s ps S → IsInside S D)
        → ((x : ℕ) → has (constrained ps) x ≡ true → (n : ℕ) × (has (D x) n ≡ true)) ⊎ ((x : ℕ) × (has (constrained ps) x ≡ true) × (D x ≡ []))
        → IsConsistent M N es ps ⊎ (IsConsistent M N es ps → ⊥)
    by_sets s g D closed contains (inl f) = inl (record {
      unifier = s;
      general = g;
      some = λ x h. (let n = f x h in
          (n.0, record { unifier = s; general = g; family = D; closed = closed; member = n.1 }));
    })
    by_sets s g D closed contains (inr f) = inr (λ c.
        let d = c.some f.0 f.1 in
        let inside = contains d.1.family (closed_either M N es s d.1.unifier ps d.1.family g d.1.general d.1.closed) in
        true≢false (sym (subst (λ l. has l d.0 ≡ true) f.2 ((inside.at f.0).each d.0 d.1.member))))

    by_unifier : Solved es → IsConsistent M N es ps ⊎ (IsConsistent M N es ps → ⊥)
    by_unifier (inl s) = let d = greatest_for M N s.0 ps mono in by_sets s.0 s.1 d.0 d.1 d.2 (some_empty d.0 (constrained ps))
    by_unifier (inr n) = inr (λ c. n c.unifier c.general.unifies)

pub has_view : (M N : ℕ) (es : List Equation) (ps : List Indexical) → AllPosted (λ p. IsMonotone M p.range) ps → IsConsistent M N es ps → (s : Substitution) × (D : Family) × IsView M N es ps s D
has_view M N es ps mono c =
    let r = canonical es c.unifier c.general in
    let d = greatest_for M N r.0 ps mono in
    (r.0, d.0, record { general = r.1; least = r.2; closed = d.1; contains = d.2 })
