-- A variable takes a term that the heap has already: no cell is made and nothing is posted.
use Rattle.std.proofs.Common.{◌≡◌, ℕ, suc, ◌<◌, cond, ◌==◌, List, [], ◌∷◌, ◌++◌, Option, Some, refl, ap, sym, ◌∙◌, subst, inl, inr, ◌⊎◌, arith, eq-eqb, ne_eqb}
use Rattle.std.proofs.Common.{append-nil}
use Rattle.std.proofs.lemmas.Bool.{cases_eq, true≢false}
use Rattle.fd_language.proofs.Lemmas.{apply_vars}
use Rattle.fd_language.specs.Term.{Term, Var, Int, Substitution, apply}
use Rattle.fd_language.specs.Unifier.{Equation}
use Rattle.fd_language.specs.Range.{Indexical}
use Rattle.branch_meaning.specs.Heap.{after, applied_each, Of}
use Rattle.branch_meaning.specs.Store.{IsUnified, IsStored, shown_set}
use Rattle.branch_meaning.proofs.HeapExtension.{agree, agree_each, still_of, more_of, more_each}
use Rattle.branch_meaning.proofs.TouchedValues.{unified}

abbrev pub Or : (ℕ → Type 0) → ℕ → ℕ → Type 0
Or P v x = (x ≡ v) ⊎ P x

abbrev pub with_one : ℕ → Term → Substitution → Substitution
with_one v t s x = cond (x == v) t (s x)

-- a variable that gets a value has it, and the others stay
pub one_here : (v : ℕ) (t : Term) (s : Substitution) → with_one v t s v ≡ t
one_here v t s = ap (λ b. cond b t (s v)) (eq-eqb v v refl)

pub one_else : (v : ℕ) (t : Term) (s : Substitution) (x : ℕ) → (x ≡ v → ⊥) → with_one v t s x ≡ s x
one_else v t s x d = ap (λ b. cond b t (s x)) (ne_eqb x v d)

module _ (M N : ℕ) (es : List Equation) (ps : List Indexical) (P : ℕ → Type 0) (h : ℕ) (look : Substitution) (link : ℕ → Option ℕ) (slot : ℕ → ℕ)
    (qs : List Indexical) (st : IsStored M N es ps P h look link slot qs) where
  -- another look that agrees, over other cells
  pub other : (look' : Substitution) (h' : ℕ) → ((x : ℕ) → P x → look x ≡ look' x) → ((x : ℕ) → P x → Of (λ c. c < h') (look' x)) → IsStored M N es ps P h' look' link slot qs
  other look' h' same cells = record {
    heap = record {
      scoped = st.heap.scoped;
      unifies = agree_each P look look' same es st.heap.scoped st.heap.unifies;
      through = λ u g. let b = st.heap.through u g in (b.0, λ x p. ap (apply b.0) (sym (same x p)) ∙ b.1 x p);
      cells = cells;
    };
    used = st.used;
    down = st.down;
    up = st.up;
    agrees = λ T m v c. ap (shown_set link T) (sym (same v (st.used v c))) ∙ st.agrees T m v c;
    slots = st.slots;
    linked = λ v c e f. st.linked v c e (same v (st.used v e) ∙ f);
    from = λ c k e. (let f = st.from c k e in (f.0, f.1, sym (same f.0 (st.used f.0 f.1)) ∙ f.2, f.3));
  }

  linked_low : (c k : ℕ) → link c ≡ Some k → c < h
  linked_low c k e = let v = st.from c k e in subst (Of (λ d. d < h)) v.2 (st.heap.cells v.0 (st.used v.0 v.1))

  module _ (v : ℕ) (new_one : P v → ⊥) where
    other_old : (x : ℕ) → P x → look x ≡ with_one v (Var h) look x
    other_old x p = sym (one_else v (Var h) look x (λ e. new_one (subst P e p)))

    -- one more variable and one more cell
    pub stored_cell : IsStored M N es ps (Or P v) (suc h) (with_one v (Var h) look) link slot qs
    stored_cell = record {
      heap = record {
        scoped = more_each P (Or P v) (λ x p. inr p) es st.heap.scoped;
        unifies = agree_each P look (with_one v (Var h) look) other_old es st.heap.scoped st.heap.unifies;
        through = λ u g.
            let b = st.heap.through u g in (
              with_one h (u v) b.0,
              λ x c. elim c [
                | inl e ↦ ap (λ y. apply (with_one h (u v) b.0) (with_one v (Var h) look y)) e ∙ ap (apply (with_one h (u v) b.0)) (one_here v (Var h) look) ∙ one_here h (u v) b.0 ∙ ap u (sym e)
                | inr p ↦ ap (apply (with_one h (u v) b.0)) (sym (other_old x p))
                    ∙ sym (agree (λ c. c < h) b.0 (with_one h (u v) b.0) (λ c l. sym (one_else h (u v) b.0 c (λ e. omega (arith, e, l)))) (look x)
                    (st.heap.cells x p)) ∙ b.1 x p
              ],
            );
        cells = λ x c. elim c [
          | inl e ↦ subst (Of (λ c. c < suc h)) (sym (one_here v (Var h) look) ∙ ap (with_one v (Var h) look) (sym e)) (omega arith)
          | inr p ↦ more_of (λ c. c < h) (λ c. c < suc h) (λ c l. omega (arith, l)) (with_one v (Var h) look x) (subst (Of (λ c. c < h)) (other_old x p) (st.heap.cells x p))
        ];
      };
      used = λ x c. inr (st.used x c);
      down = st.down;
      up = st.up;
      agrees = λ T m x c. ap (shown_set link T) (sym (other_old x (st.used x c))) ∙ st.agrees T m x c;
      slots = st.slots;
      linked = λ x c e f. st.linked x c e (other_old x (st.used x e) ∙ f);
      from = λ c k e. (let f = st.from c k e in (f.0, f.1, sym (other_old f.0 (st.used f.0 f.1)) ∙ f.2, f.3));
    }

    module _ (t : Term) (o : Of P t) where
      low : Of (λ c. c < h) (apply look t)
      low = still_of P (λ c. c < h) look st.heap.cells t o

      abbrev new : Substitution
      new = with_one h (apply look t) Var

      kept : apply new (apply look t) ≡ apply look t
      kept = sym (agree (λ c. c < h) Var new (λ c l. sym (one_else h (apply look t) Var c (λ e. omega (arith, e, l)))) (apply look t) low) ∙ apply_vars (apply look t)

      abbrev cell_look : Substitution
      cell_look = with_one v (Var h) look

      abbrev ds : List Equation
      ds = record { left = t; right = Var v } ∷ []

      left_is : apply cell_look t ≡ apply look t
      left_is = sym (agree P look cell_look other_old t o)

      at_link : (c k : ℕ) → link c ≡ Some k → new c ≡ Var c
      at_link c k e = one_else h (apply look t) Var c (λ i. let l = linked_low c k e in omega (arith, i, l))

      unify_cell : IsUnified (suc h) link (applied_each cell_look ds) new link []
      unify_cell = record {
        general = record {
          unifies = (ap (apply new) left_is ∙ kept ∙ sym (one_here h (apply look t) Var) ∙ ap (apply new) (sym (one_here v (Var h) look)), tt);
          general = λ u x g. elim (cases_eq x h) [
            | inl e ↦ ap (λ y. apply u (new y)) e ∙ ap (apply u) (one_here h (apply look t) Var) ∙ ap (apply u) (sym left_is) ∙ g.0 ∙ ap (apply u) (one_here v (Var h) look) ∙ ap u (sym e)
            | inr d ↦ ap (apply u) (one_else h (apply look t) Var x d)
          ];
        };
        cells = λ c l. elim (cases_eq c h) [
          | inl e ↦ subst (Of (λ d. d < suc h)) (sym (one_here h (apply look t) Var) ∙ ap new (sym e)) (more_of (λ d. d < h) (λ d. d < suc h) (λ d k. omega (arith, k)) (apply look t) low)
          | inr d ↦ subst (Of (λ d. d < suc h)) (sym (one_else h (apply look t) Var c d)) l
        ];
        still = λ c k e. (e, at_link c k e);
        plain = λ c k e. inr (c, k, at_link c k e, e);
        named = λ k e. absurd (true≢false (sym e));
        follow = λ a i p. tt;
        values = λ a u c k z e g. absurd (let f : Var c ≡ Int z = sym (at_link c k e) ∙ g in cc);
        pairs = λ a u c d k j e g w. (let f : Var c ≡ Var d = sym (at_link c k e) ∙ w in let i : c ≡ d = cc in let same : Some k ≡ Some j = sym e ∙ ap link i ∙ g in let q : k ≡ j = cc in ap a q);
      }

      both : IsStored M N (ds ++ es) ps (Or P v) (suc h) (after new cell_look) link slot (qs ++ [])
      both = unified M N es ps (Or P v) (suc h) cell_look link slot qs stored_cell ds ((more_of P (Or P v) (λ x p. inr p) t o, inl refl), tt) new link [] unify_cell

      final : (x : ℕ) → Or P v x → after new cell_look x ≡ with_one v (apply look t) look x
      final x (inl e) = ap (λ y. apply new (cell_look y)) e ∙ ap (apply new) (one_here v (Var h) look) ∙ one_here h (apply look t) Var
          ∙ sym (one_here v (apply look t) look) ∙ ap (with_one v (apply look t) look) (sym e)
      final x (inr p) = ap (apply new) (sym (other_old x p))
          ∙ sym (agree (λ c. c < h) Var new (λ c l. sym (one_else h (apply look t) Var c (λ e. omega (arith, e, l)))) (look x) (st.heap.cells x p))
          ∙ apply_vars (look x) ∙ sym (one_else v (apply look t) look x (λ e. new_one (subst P e p)))

      cells_now : (x : ℕ) → Or P v x → Of (λ c. c < h) (with_one v (apply look t) look x)
      cells_now x (inl e) = subst (Of (λ c. c < h)) (sym (one_here v (apply look t) look) ∙ ap (with_one v (apply look t) look) (sym e)) low
      cells_now x (inr p) = subst (Of (λ c. c < h)) (sym (one_else v (apply look t) look x (λ e. new_one (subst P e p)))) (st.heap.cells x p)

-- GetVariable, and UnifyVariable on a structure that is there
pub stored_place : (M N : ℕ) (es : List Equation) (ps : List Indexical) (P : ℕ → Type 0) (h : ℕ) (look : Substitution) (link : ℕ → Option ℕ) (slot : ℕ → ℕ)
    (qs : List Indexical) → IsStored M N es ps P h look link slot qs → (v : ℕ) → (P v → ⊥) → (t : Term) → Of P t
    → IsStored M N (record { left = t; right = Var v } ∷ es) ps (Or P v) h (with_one v (apply look t) look) link slot qs
stored_place M N es ps P h look link slot qs st v new_one t o =
    subst (λ l. IsStored M N (record { left = t; right = Var v } ∷ es) ps (Or P v) h (with_one v (apply look t) look) link slot l) (append-nil qs)
    (other M N (record { left = t; right = Var v } ∷ es) ps (Or P v) (suc h) (after (with_one h (apply look t) Var) (with_one v (Var h) look)) link slot (qs ++ [])
    (both M N es ps P h look link slot qs st v new_one t o) (with_one v (apply look t) look) h
    (final M N es ps P h look link slot qs st v new_one t o) (cells_now M N es ps P h look link slot qs st v new_one t o))
