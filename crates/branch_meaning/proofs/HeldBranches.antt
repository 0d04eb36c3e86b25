-- The steps of a frame that stands for equations and ranges.
use Rattle.std.proofs.Common.{◌≡◌, ℕ, suc, ◌<◌, ◌≤◌, true, pos, List, [], ◌∷◌, ◌++◌, Option, Some, ap, ◌∙◌, subst, inl, inr, arith}
use Rattle.fd_language.specs.Term.{Var, Substitution, apply}
use Rattle.fd_language.specs.Unifier.{Equation, Unifies}
use Rattle.fd_language.specs.Family.{Family, has, IsSubset}
use Rattle.fd_language.specs.Range.{Indexical, set_of}
use Rattle.fd_model.specs.ClosedFamilies.{constrained}
use Rattle.fd_language.specs.RangeRenaming.{rename_indexical}
use Rattle.fd_model.specs.BranchViews.{IsConsistent}
use Rattle.fd_model.specs.Models.{IsModel}
use Rattle.fd_model.proofs.Lemmas.{posted_left, posted_right, named_left, named_right, posted_both, constrained_either, join_both, split_both, consistent_from}
use Rattle.fd_model.proofs.Lemmas.{weaker as other_model}
use Rattle.branch_meaning.specs.Heap.{after, applied_each, EquationsOf, Below}
use Rattle.branch_meaning.specs.Models.{HasModel, numbers}
use Rattle.branch_meaning.specs.Store.{Touch, posts, IsUnified, IsStored, ArePosted}
use Rattle.branch_meaning.specs.HeldBranches.{HeldState, IsHeld, unified_held}
use Rattle.fd_language.proofs.Lemmas.{number_for}
use Rattle.branch_meaning.proofs.HeapExtension.{below_both, more_each}
use Rattle.branch_meaning.proofs.Models.{weaker, sure_grown, with_numbers, without_numbers}
use Rattle.branch_meaning.proofs.TouchedValues.{unified, Holds}
use Rattle.branch_meaning.proofs.Posting.{posted}
use Rattle.branch_meaning.proofs.Store.{bound, without_cell, number_other}
use Rattle.branch_meaning.proofs.TermBinding.{Or, with_one, other, stored_cell}

swapped : (u : Substitution) (es ds fs : List Equation) → Unifies u (ds ++ (fs ++ es)) → Unifies u (fs ++ (ds ++ es))
swapped u es ds fs h =
    let both = split_both u ds (fs ++ es) h in
    let later = split_both u fs es both.1 in
    join_both u fs (ds ++ es) later.0 (join_both u ds es both.0 later.1)

pub below_split : (P : ℕ → Type 0) (ds es : List Equation) → EquationsOf P (ds ++ es) → EquationsOf P ds × EquationsOf P es
below_split P [] es h = (tt, h)
below_split P (d ∷ ds) es h = let later = below_split P ds es h.1 in ((h.0, later.0), later.1)

-- the relation knows equations only by their unifiers
pub other_equations : (M N : ℕ) (es ds : List Equation) (ps : List Indexical) (P : ℕ → Type 0) (h : ℕ) (look : Substitution) (link : ℕ → Option ℕ) (slot : ℕ
    → ℕ) (qs : List Indexical) → ((u : Substitution) → Unifies u es → Unifies u ds) → ((u : Substitution) → Unifies u ds → Unifies u es) → EquationsOf P ds
    → IsStored M N es ps P h look link slot qs → IsStored M N ds ps P h look link slot qs
other_equations M N es ds ps P h look link slot qs there back below st = record {
  heap = record { scoped = below; unifies = there look st.heap.unifies; through = λ u k. st.heap.through u (back u k); cells = st.heap.cells };
  used = st.used;
  down = λ T m. other_model M N es ds ps (λ v. T (slot v)) there (st.down T m);
  up = λ S m. st.up S (other_model M N ds es ps S back m);
  agrees = st.agrees;
  slots = st.slots;
  linked = st.linked;
  from = st.from;
}

module _ (M N : ℕ) (f : HeldState) (es : List Equation) (ps : List Indexical) (P : ℕ → Type 0) (look : Substitution) (s : IsHeld M N f es ps P look) where
  -- the store has a model: the branch is consistent
  pub held_consistent : HasModel M N f.store → IsConsistent M N es ps
  held_consistent m = consistent_from M N es ps (λ v. m.0 (s.slot v)) (without_numbers M N es ps s.fixed (λ v. m.0 (s.slot v)) (s.stored.down m.0 m.1))

  -- new equations
  module _ (ds : List Equation) (below : EquationsOf P ds) where
    -- they have a unifier on the heap, and the touches are posted
    pub held_unify : (new : Substitution) (link' : ℕ → Option ℕ) (ts : List Touch) → IsUnified f.cells f.link (applied_each look ds) new link' ts
        → ((c : ℕ) → f.cells ≤ c → new c ≡ Var c) → IsHeld M N (unified_held f new link' ts) (ds ++ es) ps P (after new look)
    held_unify new link' ts u outside =
        let one = unified M N (numbers s.fixed ++ es) ps P f.cells look f.link s.slot f.store s.stored ds below new link' ts u in
        let first = below_split P ds (numbers s.fixed ++ es) one.heap.scoped in
        let later = below_split P (numbers s.fixed) es first.1 in
        record {
          slot = s.slot;
          fixed = s.fixed;
          unused = λ c l. ap (apply new) (s.unused c l) ∙ outside c l;
          stored = other_equations M N (ds ++ (numbers s.fixed ++ es)) (numbers s.fixed ++ (ds ++ es)) ps P f.cells (after new look) link' s.slot
              (f.store ++ posts ts) (λ r. swapped r es ds (numbers s.fixed)) (λ r. swapped r es (numbers s.fixed) ds)
              (below_both P (numbers s.fixed) (ds ++ es) later.0 (below_both P ds es first.0 later.1)) one;
          sure = sure_grown M N ds es [] ps s.fixed s.sure;
        }

  -- the machine binds a cell whose set has one value, and nothing is posted
  pub held_fix : (c k w : ℕ) → f.link c ≡ Some k → ((T : Family) → IsModel M N [] f.store T → T k ≡ w ∷ [])
      → IsHeld M N (record { heap = after (number_for c (pos w)) f.heap; cells = f.cells; link = without_cell c f.link; store = f.store }) es ps P
      (after (number_for c (pos w)) look)
  held_fix c k w e one =
      let r = bound M N (numbers s.fixed ++ es) ps P f.cells look f.link s.slot f.store s.stored c k w e one in
      record {
        slot = s.slot;
        fixed = record { variable = r.0; number = w } ∷ s.fixed;
        unused = λ d l. ap (apply (number_for c (pos w))) (s.unused d l) ∙ number_other M N (numbers s.fixed ++ es) ps P f.cells look f.link s.slot f.store s.stored c k w e one d (λ i. (
            let v = s.stored.from c k e in
            let low : c < f.cells = subst (Below f.cells) v.2 (s.stored.heap.cells v.0 (s.stored.used v.0 v.1)) in
            omega (arith, low, l, i)
            ));
        stored = r.2;
        sure = ((r.1, λ S m i h. r.3.0.1 S (with_numbers M N es ps s.fixed S s.sure m) i h), s.sure);
      }

  -- the same on other known variables, and by another look
  pub held_other : (look' : Substitution) → ((x : ℕ) → P x → look x ≡ look' x) → IsHeld M N f es ps P look'
  held_other look' same = record {
    slot = s.slot;
    fixed = s.fixed;
    unused = s.unused;
    stored = other M N (numbers s.fixed ++ es) ps P f.cells look f.link s.slot f.store s.stored look' f.cells same (λ x p. subst (Below f.cells) (same x p) (s.stored.heap.cells x p));
    sure = s.sure;
  }

  -- a new cell for a variable that wasn't known
  pub held_cell : (v : ℕ) → (P v → ⊥) → IsHeld M N (record { heap = f.heap; cells = suc f.cells; link = f.link; store = f.store }) es ps (Or P v) (with_one v (Var f.cells) look)
  held_cell v new_one = record {
    slot = s.slot;
    fixed = s.fixed;
    unused = λ c l. s.unused c (omega (arith, l));
    stored = stored_cell M N (numbers s.fixed ++ es) ps P f.cells look f.link s.slot f.store s.stored v new_one;
    sure = s.sure;
  }

  -- the same known variables by another predicate
  pub held_known : (Q : ℕ → Type 0) → ((x : ℕ) → P x → Q x) → ((x : ℕ) → Q x → P x) → IsHeld M N f es ps Q look
  held_known Q there back =
      let st = s.stored in
      record {
        slot = s.slot;
        fixed = s.fixed;
        unused = s.unused;
        stored = record {
          heap = record {
            scoped = more_each P Q there (numbers s.fixed ++ es) st.heap.scoped;
            unifies = st.heap.unifies;
            through = λ u k. (let t = st.heap.through u k in (t.0, λ x l. t.1 x (back x l)));
            cells = λ x l. st.heap.cells x (back x l);
          };
          used = λ v c. there v (st.used v c);
          down = st.down;
          up = st.up;
          agrees = st.agrees;
          slots = st.slots;
          linked = st.linked;
          from = st.from;
        };
        sure = s.sure;
      }

-- ranges that say no more of any family
abbrev NoMore : ℕ → List Indexical → List Indexical → Type 0
NoMore M ps qs = ((x : ℕ) → has (constrained qs) x ≡ true → has (constrained ps) x ≡ true) × ((S : Family) → Holds M S ps → Holds M S qs)

-- and others that say the same
stored_ranges : (M N : ℕ) (es : List Equation) (ps qs : List Indexical) (P : ℕ → Type 0) (h : ℕ) (look : Substitution) (link : ℕ → Option ℕ) (slot : ℕ → ℕ)
    (rs : List Indexical) → NoMore M ps qs → NoMore M qs ps → IsStored M N es ps P h look link slot rs → IsStored M N es qs P h look link slot rs
stored_ranges M N es ps qs P h look link slot rs a b st = record {
  heap = st.heap;
  used = λ v c. st.used v (a.0 v c);
  down = λ T m. weaker M N es es ps qs (λ v. T (slot v)) (λ u k. k) (a.1 (λ v. T (slot v))) a.0 (st.down T m);
  up = λ S m. (let t = st.up S (weaker M N es es qs ps S (λ u k. k) (b.1 S) b.0 m) in (t.0, t.1, λ v c. t.2 v (a.0 v c)));
  agrees = λ T m v c. st.agrees T m v (a.0 v c);
  slots = λ v c. st.slots v (a.0 v c);
  linked = λ v c d e. st.linked v c (a.0 v d) e;
  from = λ c k e. (let g = st.from c k e in (g.0, b.0 g.0 g.1, g.2, g.3));
}

moved : (M : ℕ) (w : Indexical) (ws ps : List Indexical) → NoMore M (ws ++ (w ∷ ps)) (w ∷ (ws ++ ps)) × NoMore M (w ∷ (ws ++ ps)) (ws ++ (w ∷ ps))
moved M w ws ps = (
  (
    λ x c. elim (constrained_either (w ∷ []) (ws ++ ps) x c) [
      | inl d ↦ named_right ws (w ∷ ps) x (named_left (w ∷ []) ps x d)
      | inr d ↦ elim (constrained_either ws ps x d) [ inl e ↦ named_left ws (w ∷ ps) x e | inr e ↦ named_right ws (w ∷ ps) x (named_right (w ∷ []) ps x e) ]
    ],
    λ S h. (let later = posted_right (λ p. IsSubset (S p.target) (set_of M S p.range)) ws (w ∷ ps) h in (
      later.0,
      posted_both (λ p. IsSubset (S p.target) (set_of M S p.range)) ws ps
          (posted_left (λ p. IsSubset (S p.target) (set_of M S p.range)) ws (w ∷ ps) h) later.1,
    )),
  ),
  (
    λ x c. elim (constrained_either ws (w ∷ ps) x c) [
      | inl d ↦ named_right (w ∷ []) (ws ++ ps) x (named_left ws ps x d)
      | inr d ↦ elim (constrained_either (w ∷ []) ps x d) [ inl e ↦ named_left (w ∷ []) (ws ++ ps) x e | inr e ↦ named_right (w ∷ []) (ws ++ ps) x (named_right ws ps x e) ]
    ],
    λ S h. posted_both (λ p. IsSubset (S p.target) (set_of M S p.range)) ws (w ∷ ps) (posted_left (λ p. IsSubset (S p.target) (set_of M S p.range)) ws ps h.1)
        (h.0, posted_right (λ p. IsSubset (S p.target) (set_of M S p.range)) ws ps h.1),
  ),
)

-- several more ranges
pub stored_posts : (M N : ℕ) (es : List Equation) (P : ℕ → Type 0) (h : ℕ) (look : Substitution) (link' : ℕ → Option ℕ) (slot' : ℕ → ℕ) (qs' : List Indexical)
    (ws ps : List Indexical) (link : ℕ → Option ℕ) (slot : ℕ → ℕ) (qs : List Indexical)
    → IsStored M N es ps P h look link slot qs → ArePosted ps P look link slot qs ws link' slot' qs' → IsStored M N es (ws ++ ps) P h look link' slot' qs'
stored_posts M N es P h look link' slot' qs' [] ps link slot qs st a =
    subst (λ l. IsStored M N es ps P h look l slot' qs') a.0 (subst (λ t. IsStored M N es ps P h look link t qs') a.1 (subst (λ r. IsStored M N es ps P h look link slot r) a.2 st))
stored_posts M N es P h look link' slot' qs' (w ∷ ws) ps link slot qs st a =
    let one = posted M N es ps P h look link slot qs st w a.0 a.1 a.2 a.3 in
    let more = stored_posts M N es P h look link' slot' qs' ws (w ∷ ps) a.1 a.2 (qs ++ rename_indexical a.0 w ∷ []) one a.4 in
    let same = moved M w ws ps in
    stored_ranges M N es (ws ++ (w ∷ ps)) (w ∷ (ws ++ ps)) P h look link' slot' qs' same.0 same.1 more

pub held_posts : (M N : ℕ) (f : HeldState) (es : List Equation) (ps : List Indexical) (P : ℕ → Type 0) (look : Substitution) (s : IsHeld M N f es ps P look)
    (ws : List Indexical) (link' : ℕ → Option ℕ) (slot' : ℕ → ℕ) (qs' : List Indexical) → ArePosted ps P look f.link s.slot f.store ws link' slot' qs'
    → IsHeld M N (record { heap = f.heap; cells = f.cells; link = link'; store = qs' }) es (ws ++ ps) P look
held_posts M N f es ps P look s ws link' slot' qs' a = record {
  slot = slot';
  fixed = s.fixed;
  unused = s.unused;
  stored = stored_posts M N (numbers s.fixed ++ es) P f.cells look link' slot' qs' ws ps f.link s.slot f.store s.stored a;
  sure = sure_grown M N [] es ws ps s.fixed s.sure;
}
