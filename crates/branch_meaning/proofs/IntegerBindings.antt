-- Linked cells that take integers, as one unification.
use Rattle.std.proofs.Common.{◌≡◌, ℕ, suc, ◌<◌, Bool, true, false, cond, ◌==◌, ℤ, List, [], ◌∷◌, Option, Some, None, refl, ap, sym, ◌∙◌, subst, inl, inr, ◌⊎◌}
use Rattle.std.proofs.Common.{arith, eqb-true, eq-eqb, ne_eqb}
use Rattle.std.proofs.lemmas.Bool.{or_cases, true≢false}
use Rattle.std.proofs.lemmas.Option.{none-some, same_Some}
use Rattle.fd_language.specs.Term.{Var, Int, Substitution, apply}
use Rattle.fd_language.specs.Unifier.{Unifies}
use Rattle.fd_language.specs.Family.{has}
use Rattle.fd_language.specs.Lists.{Each}
use Rattle.fd_model.specs.ClosedFamilies.{constrained}
use Rattle.fd_model.specs.ConstraintExpansion.{equations}
use Rattle.branch_meaning.specs.Heap.{Below}
use Rattle.branch_meaning.specs.Store.{Touch, Value, touched, posts, IsUnified}

-- each listed cell's integer, and any other cell itself
abbrev pub bindings : List (ℕ × ℤ) → Substitution
bindings [] c = Var c
bindings (d ∷ ds) c = cond (c == d.0) (Int d.1) (bindings ds c)

-- the listed cells are no longer linked
abbrev pub without : List (ℕ × ℤ) → (ℕ → Option ℕ) → ℕ → Option ℕ
without [] link c = link c
without (d ∷ ds) link c = cond (c == d.0) None (without ds link c)

-- their variables of the store are touched by the integers
abbrev pub number_touches : (ℕ → ℕ) → List (ℕ × ℤ) → List Touch
number_touches g [] = []
number_touches g (d ∷ ds) = Value (g d.0) d.1 ∷ number_touches g ds

pub same_var : (c d : ℕ) → Var c ≡ Var d → c ≡ d
same_var c d e = cc

pub int_no_var : (z : ℤ) (c : ℕ) → Int z ≡ Var c → ⊥
int_no_var z c e = cc

module _ (link : ℕ → Option ℕ) where
  -- a cell has its integer, or nothing changes at it
  pub bound_or_not : (ds : List (ℕ × ℤ)) (c : ℕ) → ((z : ℤ) × (bindings ds c ≡ Int z) × (without ds link c ≡ None)) ⊎ ((bindings ds c ≡ Var c) × (without ds link c ≡ link c))
  bound_or_not [] c = inr (refl, refl)
  bound_or_not (d ∷ ds) c = by_test (c == d.0) (bound_or_not ds c) where
    by_test : (b : Bool) → ((z : ℤ) × (bindings ds c ≡ Int z) × (without ds link c ≡ None)) ⊎ ((bindings ds c ≡ Var c) × (without ds link c ≡ link c))
        → ((z : ℤ) × (cond b (Int d.1) (bindings ds c) ≡ Int z) × (cond b None (without ds link c) ≡ None)) ⊎ ((cond b (Int d.1) (bindings ds c) ≡ Var c) × (cond b None (without ds link c) ≡ link c))
    by_test true h = inl (d.1, refl, refl)
    by_test false h = h

  number_unifies : (all ds : List (ℕ × ℤ)) → Each (λ d. bindings all d.0 ≡ Int d.1) ds → Unifies (bindings all) (equations ds)
  number_unifies all [] h = tt
  number_unifies all (d ∷ ds) h = (h.0, number_unifies all ds h.1)

  number_most : (ds : List (ℕ × ℤ)) (u : Substitution) (x : ℕ) → Unifies u (equations ds) → apply u (bindings ds x) ≡ u x
  number_most [] u x h = refl
  number_most (d ∷ ds) u x h = by_test (x == d.0) refl (number_most ds u x h.1) where
    by_test : (b : Bool) → (x == d.0) ≡ b → apply u (bindings ds x) ≡ u x → apply u (cond b (Int d.1) (bindings ds x)) ≡ u x
    by_test true e k = sym h.0 ∙ ap u (sym (eqb-true x d.0 e))
    by_test false e k = k

  number_cells : (h : ℕ) (ds : List (ℕ × ℤ)) (c : ℕ) → c < h → Below h (bindings ds c)
  number_cells h ds c l = elim (bound_or_not ds c) [
    | inl a ↦ subst (Below h) (sym a.1) tt
    | inr a ↦ subst (Below h) (sym a.0) l
  ]

  number_named : (g : ℕ → ℕ) (ds : List (ℕ × ℤ)) → Each (λ d. link d.0 ≡ Some (g d.0)) ds → (k : ℕ) → has (constrained (posts (number_touches g ds))) k ≡ true → (c : ℕ) × (link c ≡ Some k)
  number_named g [] h k e = absurd (true≢false (sym e))
  number_named g (d ∷ ds) h k e = elim (or_cases (g d.0 == k) (has (constrained (posts (number_touches g ds))) k) e) [
    | inl i ↦ (d.0, h.0 ∙ ap Some (eqb-true (g d.0) k i))
    | inr i ↦ number_named g ds h.1 k i
  ]

  number_follow : (g : ℕ → ℕ) (all ds : List (ℕ × ℤ)) → Each (λ d. bindings all d.0 ≡ Int d.1) ds → Each (λ d. link d.0 ≡ Some (g d.0)) ds → (a : Substitution)
      → ((c k : ℕ) (z : ℤ) → link c ≡ Some k → bindings all c ≡ Int z → a k ≡ Int z) → Unifies a (touched (number_touches g ds))
  number_follow g all [] h l a i = tt
  number_follow g all (d ∷ ds) h l a i = (i d.0 (g d.0) d.1 l.0 h.0, number_follow g all ds h.1 l.1 a i)

  number_values : (g : ℕ → ℕ) (ds : List (ℕ × ℤ)) → Each (λ d. link d.0 ≡ Some (g d.0)) ds → (a : Substitution) → Unifies a (touched (number_touches g ds))
      → (c k : ℕ) (z : ℤ) → link c ≡ Some k → bindings ds c ≡ Int z → a k ≡ Int z
  number_values g [] l a u c k z e i = absurd (int_no_var z c (sym i))
  number_values g (d ∷ ds) l a u c k z e i = by_test (c == d.0) refl (number_values g ds l.1 a u.1 c k z e) i where
    by_test : (b : Bool) → (c == d.0) ≡ b → (bindings ds c ≡ Int z → a k ≡ Int z) → cond b (Int d.1) (bindings ds c) ≡ Int z → a k ≡ Int z
    by_test true t later h =
        let same : k ≡ g d.0 = same_Some k (g d.0) (sym e ∙ ap link (eqb-true c d.0 t) ∙ l.0) in
        ap a same ∙ u.0 ∙ h
    by_test false t later h = later h

  number_pairs : (ds : List (ℕ × ℤ)) (a : Substitution) (c d k j : ℕ) → link c ≡ Some k → without ds link d ≡ Some j → bindings ds c ≡ Var d → a k ≡ a j
  number_pairs ds a c d k j e f i = elim (bound_or_not ds c) [
    | inl b ↦ absurd (int_no_var b.0 d (sym b.1 ∙ i))
    | inr b ↦
        let same : c ≡ d = same_var c d (sym b.0 ∙ i) in
        ap a (same_Some k j (sym e ∙ sym b.1 ∙ ap (without ds link) same ∙ f))
  ]

  -- Each listed cell is listed with one integer, and linked: then the cells take their integers, and their variables are touched by these.
  pub numbered : (h : ℕ) (g : ℕ → ℕ) (ds : List (ℕ × ℤ)) → Each (λ d. bindings ds d.0 ≡ Int d.1) ds → Each (λ d. link d.0 ≡ Some (g d.0)) ds
      → IsUnified h link (equations ds) (bindings ds) (without ds link) (number_touches g ds)
  numbered h g ds found linked = record {
    general = record { unifies = number_unifies ds ds found; general = number_most ds };
    cells = number_cells h ds;
    still = λ c k e. elim (bound_or_not ds c) [
      | inl b ↦ absurd (none-some k (sym b.2 ∙ e))
      | inr b ↦ (sym b.1 ∙ e, b.0)
    ];
    plain = λ c k e. elim (bound_or_not ds c) [
      | inl b ↦ inl (b.0, b.1)
      | inr b ↦ inr (c, k, b.0, b.1 ∙ e)
    ];
    named = number_named g ds linked;
    follow = λ a ints pairs. number_follow g ds ds found linked a ints;
    values = λ a u. number_values g ds linked a u;
    pairs = λ a u c d k j e f i. number_pairs ds a c d k j e f i;
  }

-- consecutive cells are listed with one integer each
abbrev pub AreConsecutive : ℕ → List (ℕ × ℤ) → Type 0
AreConsecutive n [] = Unit {0}
AreConsecutive n (d ∷ ds) = (d.0 ≡ n) × AreConsecutive (suc n) ds

kept_behind : (n : ℕ) (d : ℕ × ℤ) (all : List (ℕ × ℤ)) → d.0 < n → (ds : List (ℕ × ℤ)) → AreConsecutive n ds → Each (λ e. bindings all e.0 ≡ Int e.1) ds
    → Each (λ e. bindings (d ∷ all) e.0 ≡ Int e.1) ds
kept_behind n d all l [] c h = tt
kept_behind n d all l (e ∷ ds) c h = (
  ap (λ b. cond b (Int d.1) (bindings all e.0)) (ne_eqb e.0 d.0 (λ i. (let a = c.0 in omega (arith, i, a, l)))) ∙ h.0,
  kept_behind (suc n) d all (omega (arith, l)) ds c.1 h.1,
)

pub each_found : (n : ℕ) (ds : List (ℕ × ℤ)) → AreConsecutive n ds → Each (λ d. bindings ds d.0 ≡ Int d.1) ds
each_found n [] c = tt
each_found n (d ∷ ds) c = (ap (λ b. cond b (Int d.1) (bindings ds d.0)) (eq-eqb d.0 d.0 refl), kept_behind (suc n) d ds (let a = c.0 in omega (arith, a)) ds c.1 (each_found (suc n) ds c.1))
