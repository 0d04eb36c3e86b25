-- What is kept in a frame: known variables come in and are forgotten, and the heap grows.
use Rattle.std.proofs.Common.{◌≡◌, ℕ, suc, ◌<◌, true, List, [], ◌∷◌, ◌++◌, length, refl, ap, sym, subst, arith, length-append}
use Rattle.fd_language.specs.Term.{Term, Var, Substitution, apply}
use Rattle.fd_language.specs.Unifier.{Equation}
use Rattle.fd_language.specs.Family.{Family, has}
use Rattle.fd_language.specs.Range.{Indexical}
use Rattle.fd_model.specs.ClosedFamilies.{constrained}
use Rattle.fd_model.specs.Models.{IsModel}
use Rattle.fd_model.specs.BranchViews.{IsConsistent}
use Rattle.fd_model.proofs.Lemmas.{consistent_from}
use Rattle.heap_cells.specs.Cells.{free, Cells, with_new_slot}
use Rattle.heap_cells.proofs.Lemmas.{new_slot_at}
use Rattle.branch_meaning.specs.Heap.{Of, EquationsOf, StandsForEquations}
use Rattle.branch_meaning.specs.Models.{HasModel}
use Rattle.branch_meaning.specs.EquivalentEquations.{SaysSame}
use Rattle.branch_meaning.specs.Store.{IsStored}
use Rattle.branch_meaning.proofs.Lemmas.{stored_forget, stored_more, more_of, more_each, Or, with_one, other, stored_cell, stored_place, functions}
use Rattle.branch_lemmas.specs.Frames.{link_of, link_in, IsKept, IsGrown}

module _ (M N : ℕ) (h : Cells) (qs : List Indexical) (es : List Equation) (ps : List Indexical) (P : ℕ → Type 0) (look : Substitution) (s : IsKept M N h qs es ps P look) where
  -- the store has a model: the branch is consistent
  pub kept_consistent : HasModel M N qs → IsConsistent M N es ps
  kept_consistent m = consistent_from M N es ps (λ v. m.0 (s.slot v)) (s.stored.down m.0 m.1)

  -- it has none: neither has the branch
  pub kept_no_model : ((T : Family) → IsModel M N [] qs T → ⊥) → (S : Family) → IsModel M N es ps S → ⊥
  kept_no_model none S m = let t = s.stored.up S m in none t.0 t.1

  -- the heap grows
  pub kept_grown : (now : Cells) → IsGrown h now → IsKept M N now qs es ps P look
  kept_grown now g =
      let links : link_in h ≡ link_in now = functions (λ c. ap link_of (sym (g.slots c))) in
      let wide = other M N es ps P (length h.slots) look (link_in h) s.slot qs s.stored look (length now.slots) (λ x p. refl)
      (λ x p. more_of (λ c. c < length h.slots) (λ c. c < length now.slots) (λ c l. (let w = g.longer in
      omega (arith, l, w))) (look x) (s.stored.heap.cells x p)) in
      record { slot = s.slot; stored = subst (λ l. IsStored M N es ps P (length now.slots) look l s.slot qs) links wide }

  -- the same known variables by another predicate
  pub kept_known : (Q : ℕ → Type 0) → ((x : ℕ) → P x → Q x) → ((x : ℕ) → Q x → P x) → IsKept M N h qs es ps Q look
  kept_known Q there back =
      let st = s.stored in
      record {
        slot = s.slot;
        stored = record {
          heap = record {
            scoped = more_each P Q there es st.heap.scoped;
            unifies = st.heap.unifies;
            through = λ u k. (let t = st.heap.through u k in
                (t.0, λ x l. t.1 x (back x l)));
            cells = λ x l. st.heap.cells x (back x l);
          };
          used = λ v c. there v (st.used v c);
          down = st.down;
          up = st.up;
          agrees = st.agrees;
          slots = st.slots;
          linked = st.linked;
          from = st.from;
        };
      }

  -- a new variable of the heap for a variable that wasn't known
  pub kept_cell : (v : ℕ) → (P v → ⊥) → IsKept M N (with_new_slot h) qs es ps (Or P v) (with_one v (Var (length h.slots)) look)
  kept_cell v new_one =
      let wide = stored_cell M N es ps P (length h.slots) look (link_in h) s.slot qs s.stored v new_one in
      let links : link_in h ≡ link_in (with_new_slot h) = functions (λ c. ap link_of (sym (new_slot_at h.slots c))) in
      let size : suc (length h.slots) ≡ length (h.slots ++ free ∷ []) = omega (arith, length-append h.slots (free ∷ [])) in
      record {
        slot = s.slot;
        stored = subst (λ n. IsStored M N es ps (Or P v) n (with_one v (Var (length h.slots)) look) (link_in (with_new_slot h)) s.slot qs) size
            (subst (λ l. IsStored M N es ps (Or P v) (suc (length h.slots)) (with_one v (Var (length h.slots)) look) l s.slot qs) links wide);
      }

  -- such a variable takes a term that the heap has already
  pub kept_place : (v : ℕ) → (P v → ⊥) → (t : Term) → Of P t → IsKept M N h qs (record { left = t; right = Var v } ∷ es) ps (Or P v) (with_one v (apply look t) look)
  kept_place v new_one t o = record { slot = s.slot; stored = stored_place M N es ps P (length h.slots) look (link_in h) s.slot qs s.stored v new_one t o }

  -- more known variables, with equations that say the same of the others
  pub kept_more : (ds : List Equation) (Q : ℕ → Type 0) (look' : Substitution) → ((x : ℕ) → P x → Q x) → SaysSame P ds es
      → StandsForEquations ds Q (length h.slots) look' → ((x : ℕ) → P x → look x ≡ look' x) → IsKept M N h qs ds ps Q look'
  kept_more ds Q look' wider says heap same = record {
    slot = s.slot;
    stored = stored_more M N ds es ps P Q (length h.slots) look (link_in h) s.slot qs s.stored.used wider look' says heap same s.stored;
  }

  -- and fewer
  pub kept_forget : (ds : List Equation) (Q : ℕ → Type 0) → ((v : ℕ) → has (constrained ps) v ≡ true → Q v) → ((x : ℕ) → Q x → P x) → SaysSame Q es ds → EquationsOf Q ds → IsKept M N h qs ds ps Q look
  kept_forget ds Q used wider says below = record {
    slot = s.slot;
    stored = stored_forget M N es ds ps Q P (length h.slots) look (link_in h) s.slot qs used wider says below s.stored;
  }
