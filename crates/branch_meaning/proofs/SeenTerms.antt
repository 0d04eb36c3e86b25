-- The heap's terms are the seen terms, up to the names of variables.
use Rattle.std.proofs.Common.{◌≡◌, ℕ, Bool, true, false, cond, ◌==◌, pos, negsuc, List, [], ◌∷◌, ◌++◌, Option, Some, None, refl, ap, sym, ◌∙◌, subst, inl, inr}
use Rattle.std.proofs.Common.{eqb-true, eq-eqb}
use Rattle.std.proofs.lemmas.Bool.{or_cases, or_left, or_right, true≢false}
use Rattle.fd_language.specs.Term.{Term, Terms, Var, Int, Atom, Comp, no_terms, term, Substitution, apply, apply_all}
use Rattle.fd_language.specs.Unifier.{Equation, Unifies}
use Rattle.fd_language.specs.Family.{Family, has}
use Rattle.fd_language.specs.Range.{Indexical}
use Rattle.fd_model.specs.ClosedFamilies.{constrained}
use Rattle.fd_model.specs.BranchViews.{IsView, seen, set_at, by_set, is_variable}
use Rattle.fd_model.specs.Models.{IsModel}
use Rattle.fd_model.proofs.Lemmas.{join_both, split_both, single_from, is_variable_true}
use Rattle.branch_meaning.specs.Heap.{after, StandsForEquations}
use Rattle.branch_meaning.specs.Models.{Fix, numbers, Sure}
use Rattle.branch_meaning.specs.Store.{IsStored, shown_set, linked_set}
use Rattle.fd_language.proofs.Lemmas.{still_unifies}

-- the first of the constrained variables that s takes to y
pub record Found (s : Substitution) (D : Family) (ws : List ℕ) (y : ℕ) (o : Option (List ℕ)) : Type 0 where
  pub variable : ℕ
  pub there : has ws variable ≡ true
  pub goes : s variable ≡ Var y
  pub is : o ≡ Some (D variable)

further : (s : Substitution) (D : Family) (w : ℕ) (ws : List ℕ) (y : ℕ) (o : Option (List ℕ)) → Found s D ws y o → Found s D (w ∷ ws) y o
further s D w ws y o f = record { variable = f.variable; there = or_right (w == f.variable) (has ws f.variable) f.there; goes = f.goes; is = f.is }

by_first : (b : Bool) (s : Substitution) (D : Family) (w : ℕ) (ws : List ℕ) (y : ℕ) → (b ≡ true → s w ≡ Var y) → (b ≡ false → Found s D ws y (set_at s D ws y))
    → Found s D (w ∷ ws) y (cond b (Some (D w)) (set_at s D ws y))
by_first true s D w ws y h g = record { variable = w; there = or_left (w == w) (has ws w) (eq-eqb w w refl); goes = h refl; is = refl }
by_first false s D w ws y h g = further s D w ws y (set_at s D ws y) (g refl)

pub found : (s : Substitution) (D : Family) (ws : List ℕ) (x y : ℕ) → has ws x ≡ true → s x ≡ Var y → Found s D ws y (set_at s D ws y)
found s D [] x y c e = absurd (true≢false (sym c))
found s D (w ∷ ws) x y c e = by_first (is_variable (s w) y) s D w ws y (is_variable_true (s w) y) (λ q. elim (or_cases (w == x) (has ws x) c) [
  | inl g ↦ absurd (true≢false (sym (subst (λ t. is_variable t y ≡ true) (sym (ap s (eqb-true w x g) ∙ e)) (eq-eqb y y refl)) ∙ q))
  | inr g ↦ found s D ws x y g e
])

pub some_found : (s : Substitution) (D : Family) (ws : List ℕ) (y : ℕ) (xs : List ℕ) → set_at s D ws y ≡ Some xs → Found s D ws y (Some xs)
some_found s D [] y xs e = absurd (cc)
some_found s D (w ∷ ws) y xs e = by_test (is_variable (s w) y) refl e (some_found s D ws y xs)
  where
    by_test : (b : Bool) → is_variable (s w) y ≡ b → cond b (Some (D w)) (set_at s D ws y) ≡ Some xs → (set_at s D ws y ≡ Some xs → Found s D ws y (Some xs)) → Found s D (w ∷ ws) y (Some xs)
    by_test true h g later = record { variable = w; there = or_left (w == w) (has ws w) (eq-eqb w w refl); goes = is_variable_true (s w) y h; is = sym g }
    by_test false h g later = further s D w ws y (Some xs) (later g)

module _ (M N : ℕ) (es : List Equation) (ps : List Indexical) (s : Substitution) (D : Family) (v : IsView M N es ps s D) (full : (x : ℕ)
    → has (constrained ps) x ≡ true → (n : ℕ) × (has (D x) n ≡ true)) where
  abbrev at : Substitution
  at y = by_set (set_at s D (constrained ps) y) y

  model : IsModel M N es ps D
  model = record { unifier = s; general = v.general; closed = v.closed; full = full }

  one_value : (x n : ℕ) → has (constrained ps) x ≡ true → ((k : ℕ) → has (D x) k ≡ true → k ≡ n) → D x ≡ n ∷ []
  one_value x n c only = let f = full x c in single_from 0 M n (D x) (v.closed.family.rising x) (subst (λ k. has (D x) k ≡ true) (only f.0 f.1) f.1) only

  fixed_term : (x n : ℕ) (t : Term) → has (constrained ps) x ≡ true → D x ≡ n ∷ [] → s x ≡ t → apply at t ≡ Int (pos n)
  fixed_term x n (Var y) c e g =
      let f = found s D (constrained ps) x y c g in
      let one : D f.variable ≡ n ∷ [] = v.closed.same f.variable x y f.there c f.goes g ∙ e in
      ap (λ o. by_set o y) (f.is ∙ ap Some one)
  fixed_term x n (Int z) c e g = ap Int (sym (v.closed.values x z n c g (subst (λ l. has l n ≡ true) (sym e) (or_left (n == n) false (eq-eqb n n refl)))))
  fixed_term x n (Atom a) c e g = absurd (let h : n ∷ [] ≡ [] = sym e ∙ v.closed.atoms x a c g in cc)
  fixed_term x n (Comp f ts) c e g = absurd (let h : n ∷ [] ≡ [] = sym e ∙ v.closed.compounds x f ts c g in cc)

  seen_fixes : (fs : List Fix) → Sure M N es ps fs → Unifies (after at s) (numbers fs)
  seen_fixes [] h = tt
  seen_fixes (f ∷ fs) h = (fixed_term f.variable f.number (s f.variable) h.0.0 (one_value f.variable f.number h.0.0 (h.0.1 D model)) refl, seen_fixes fs h.1)

  -- the seen terms unify what the machine bound, so they come from the heap's terms
  pub seen_from_look : (fs : List Fix) → Sure M N es ps fs → (P : ℕ → Type 0) (h : ℕ) (look : Substitution) → StandsForEquations (numbers fs ++ es) P h look
      → (back : Substitution) × ((x : ℕ) → P x → apply back (look x) ≡ seen s D (constrained ps) (Var x))
  seen_from_look fs sure P h look st = st.through (after at s) (join_both (after at s) (numbers fs) es (seen_fixes fs sure) (still_unifies at s es v.general.unifies))

  -- and the other way, once each cell whose set has one value was bound
  module _ (ds : List Equation) (P : ℕ → Type 0) (h : ℕ) (look : Substitution) (link : ℕ → Option ℕ) (slot : ℕ → ℕ) (qs : List Indexical)
      (st : IsStored M N (ds ++ es) ps P h look link slot qs) (T : Family) (t : IsModel M N [] qs T)
      (sets : (x : ℕ) → has (constrained ps) x ≡ true → D x ≡ T (slot x)) (none_left : (c k i : ℕ) → link c ≡ Some k → T k ≡ i ∷ [] → ⊥) where
    look_at_s : (x : ℕ) → apply look (s x) ≡ look x
    look_at_s x = v.general.general look x (split_both look ds es st.heap.unifies).1

    bound_term : (w i : ℕ) (r : Term) → has (constrained ps) w ≡ true → T (slot w) ≡ i ∷ [] → look w ≡ r → shown_set link T r ≡ T (slot w) → r ≡ Int (pos i)
    bound_term w i (Var c) d e g k = absurd (let l = st.linked w c d g in none_left c l.0 i l.1 (sym (ap (λ o. linked_set o T) l.1) ∙ k ∙ e))
    bound_term w i (Int (pos z)) d e g k = let q : z ∷ [] ≡ i ∷ [] = k ∙ e in let p : z ≡ i = cc in ap (λ j. Int (pos j)) p
    bound_term w i (Int (negsuc z)) d e g k = absurd (let q : [] ≡ i ∷ [] = k ∙ e in cc)
    bound_term w i (Atom a) d e g k = absurd (let q : [] ≡ i ∷ [] = k ∙ e in cc)
    bound_term w i (Comp f ts) d e g k = absurd (let q : [] ≡ i ∷ [] = k ∙ e in cc)

    at_set : (y : ℕ) (o : Option (List ℕ)) → set_at s D (constrained ps) y ≡ o → apply look (by_set o y) ≡ look y
    at_set y None e = refl
    at_set y (Some []) e = refl
    at_set y (Some (i ∷ j ∷ js)) e = refl
    at_set y (Some (i ∷ [])) e =
        let f = some_found s D (constrained ps) y (i ∷ []) e in
        let one : D f.variable ≡ i ∷ [] = let q : Some (i ∷ []) ≡ Some (D f.variable) = f.is in (let r : i ∷ [] ≡ D f.variable = cc in sym r) in
        let w : look f.variable ≡ look y = sym (look_at_s f.variable) ∙ ap (apply look) f.goes in
        sym (sym w ∙ bound_term f.variable i (look f.variable) f.there (sym (sets f.variable f.there) ∙ one) refl (st.agrees T t f.variable f.there))

    mutual
      through_at : (r : Term) → apply look (apply at r) ≡ apply look r
      through_at (Var y) = at_set y (set_at s D (constrained ps) y) refl
      through_at (Int z) = refl
      through_at (Atom a) = refl
      through_at (Comp f ts) = ap (Comp f) (through_all ts)

      through_all : (ts : Terms) → apply_all look (apply_all at ts) ≡ apply_all look ts
      through_all no_terms = refl
      through_all (term r ts) = let a = through_at r in let b = through_all ts in cc

    pub look_from_seen : (x : ℕ) → apply look (seen s D (constrained ps) (Var x)) ≡ look x
    look_from_seen x = through_at (s x) ∙ look_at_s x
