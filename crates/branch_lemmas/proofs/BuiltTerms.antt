-- Terms that are built on the heap, with new variables for a clause's variables that have no cell yet.
use Rattle.std.proofs.Common.{◌≡◌, ℕ, ◌<◌, ◌≤◌, true, false, cond, nat_lt, List, Option, ap, sym, ◌∙◌, subst, inl, inr, ◌⊎◌, arith}
use Rattle.std.proofs.lemmas.Bool.Decides.{nat_tests}
use Rattle.fd_language.specs.Term.{Var, Substitution, apply}
use Rattle.fd_language.specs.Unifier.{Equation}
use Rattle.fd_language.specs.Range.{Indexical}
use Rattle.branch_meaning.specs.Heap.{Of}
use Rattle.branch_meaning.specs.Store.{IsStored, shown_set}
use Rattle.branch_meaning.proofs.Lemmas.{agree, agree_each, more_of, more_each}

-- b up to n, and from there on u of the variable that seek finds
abbrev back : ℕ → (ℕ → ℕ) → Substitution → Substitution → Substitution
back n seek b u c = cond (nat_lt c n) (b c) (u (seek c))

back_old : (n : ℕ) (seek : ℕ → ℕ) (b u : Substitution) (c : ℕ) → c < n → back n seek b u c ≡ b c
back_old n seek b u c l = let t : nat_lt c n ≡ true = grind (arith, nat_tests) in ap (λ x. cond x (b c) (u (seek c))) t

back_new : (n : ℕ) (seek : ℕ → ℕ) (b u : Substitution) (c : ℕ) → n ≤ c → back n seek b u c ≡ u (seek c)
back_new n seek b u c l = let t : nat_lt c n ≡ false = grind (arith, nat_tests) in ap (λ x. cond x (b c) (u (seek c))) t

-- Variables that weren't known get new cells, each its own; seek finds the variable of each of these.
pub stored_spread : (M N : ℕ) (es : List Equation) (ps : List Indexical) (P : ℕ → Type 0) (h : ℕ) (look : Substitution) (link : ℕ → Option ℕ) (slot : ℕ → ℕ)
    (qs : List Indexical) → IsStored M N es ps P h look link slot qs → (h' : ℕ) → h ≤ h' → (Q : ℕ → Type 0) (look' : Substitution) (seek : ℕ → ℕ)
    → ((v : ℕ) → P v → Q v) → ((v : ℕ) → P v → look v ≡ look' v) → ((v : ℕ) → Q v → P v ⊎ ((i : ℕ) × (look' v ≡ Var i) × (h ≤ i) × (i < h') × (seek i ≡ v)))
    → IsStored M N es ps Q h' look' link slot qs
stored_spread M N es ps P h look link slot qs st h' longer Q look' seek wider same cases = record {
  heap = record {
    scoped = more_each P Q wider es st.heap.scoped;
    unifies = agree_each P look look' same es st.heap.scoped st.heap.unifies;
    through = λ u k.
        let b = st.heap.through u k in (
          back h seek b.0 u,
          λ v o. elim (cases v o) [
            | inl p ↦ ap (apply (back h seek b.0 u)) (sym (same v p)) ∙ sym (agree (λ c. c < h) b.0 (back h seek b.0 u) (λ c l. sym (back_old h seek b.0 u c l)) (look v) (st.heap.cells v p)) ∙ b.1 v p
            | inr n ↦ ap (apply (back h seek b.0 u)) n.1 ∙ back_new h seek b.0 u n.0 n.2 ∙ ap u n.4
          ],
        );
    cells = λ v o. elim (cases v o) [
      | inl p ↦ more_of (λ c. c < h) (λ c. c < h') (λ c l. omega (arith, l, longer)) (look' v) (subst (Of (λ c. c < h)) (same v p) (st.heap.cells v p))
      | inr n ↦ subst (Of (λ c. c < h')) (sym n.1) n.3
    ];
  };
  used = λ v c. wider v (st.used v c);
  down = st.down;
  up = st.up;
  agrees = λ T m v c. ap (shown_set link T) (sym (same v (st.used v c))) ∙ st.agrees T m v c;
  slots = st.slots;
  linked = λ v c d e. st.linked v c d (same v (st.used v d) ∙ e);
  from = λ c k e. (let f = st.from c k e in (f.0, f.1, sym (same f.0 (st.used f.0 f.1)) ∙ f.2, f.3));
}
