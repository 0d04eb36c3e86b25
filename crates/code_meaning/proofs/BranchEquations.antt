-- What instructions make of a branch's equations, on the heap and in the registers.
use Rattle.std.proofs.Common.{◌≡◌, ℕ, ◌<◌, ◌≤◌, true, cond, List, [], ◌∷◌, ◌++◌, length, Some, refl, ap, sym, ◌∙◌, subst, inl, inr, arith, eq-eqb, ne_eqb}
use Rattle.std.proofs.Common.{length-append}
use Rattle.std.proofs.lemmas.Bool.{cases_eq, true≢false}
use Rattle.fd_language.specs.Term.{Term, Var, Substitution, apply}
use Rattle.fd_language.specs.Unifier.{Equation}
use Rattle.fd_language.specs.Family.{Family}
use Rattle.fd_language.specs.Range.{Indexical}
use Rattle.fd_model.specs.Goal.{Branch}
use Rattle.fd_model.specs.Models.{IsModel}
use Rattle.fd_model.proofs.Lemmas.{join_both, split_both, weaker}
use Rattle.heap_cells.specs.declared.Cell.{Cell}
use Rattle.heap_cells.specs.declared.Cell.TheVariants as cell
use Rattle.heap_cells.specs.Cells.{free, Cells, IsOf, with_new_slot}
use Rattle.heap_cells.specs.Terms.{Naming, term_of}
use Rattle.heap_cells.specs.HeapInvariant.{IsHeap}
use Rattle.heap_cells.proofs.Lemmas.{of_same, of_wider, var_kept}
use Rattle.unify_core.specs.declared.Touch.{Touch}
use Rattle.unify_core.specs.PairReduction.{IsSameSize}
use Rattle.unify_core.specs.Touches.{IsRefuted}
use Rattle.unify_core.specs.Unifications as core
use Rattle.unify_core.specs.Unifications.{cells_equal}
use Rattle.branch_meaning.specs.Heap.{after, Of}
use Rattle.branch_meaning.specs.EquivalentEquations.{SaysSame}
use Rattle.branch_meaning.specs.Store.{posts}
use Rattle.branch_meaning.proofs.Lemmas.{same_model, after_is, agree, more_of, Or, with_one}
use Rattle.branch_lemmas.specs.Frames.{store_touches}
use Rattle.branch_lemmas.proofs.Lemmas.{kept_known, kept_cell, kept_place, new_open, one_here, one_else, kept_unified, kept_refuted}
use Rattle.wam_code.specs.declared.instruction.Register.{Register}
use Rattle.wam_code.specs.declared.instruction.Register.TheVariants.{X, Y}
use Rattle.wam_code.specs.Places.{Places, write, learn, read, IsFresh}
use Rattle.wam_code.specs.CodeMeaning.{Return}
use Rattle.code_meaning.specs.Registers.{Registers, Saved, cell_in, IsWritten, IsShown, AreShown, AllShown}
use Rattle.code_meaning.specs.StateMeaning.{Made, IsOld, IsMade}
use Rattle.code_meaning.proofs.Levels.{leveled_same, leveled_drop}
use Rattle.code_meaning.proofs.RegisterTerms.{one_moved, shown_moved, all_moved, shown_same, shown_put}

-- the first of the equations still to be made is made
pub moved_over : (P : ℕ → Type 0) (done later es : List Equation) (e : Equation) → SaysSame P (done ++ (e ∷ later)) es → SaysSame P ((e ∷ done) ++ later) es
moved_over P done later es e s = record {
  there = λ u k. (let b = split_both u done later k.1 in s.there u (join_both u done (e ∷ later) b.0 (k.0, b.1)));
  back = λ u k. (let w = s.back u k in let b = split_both w.0 done (e ∷ later) w.1 in (w.0, (b.1.0, join_both w.0 done later b.0 b.1.1), w.2));
}

old_made : (p : Places) (fresh v : ℕ) → IsOld p fresh v → Made p fresh v
old_made p fresh v o = (o.0, inl o.1)

pub learnt_here : (p : Places) (v x : ℕ) → x ≡ v → (learn p v).known x ≡ true
learnt_here p v x e = ap (λ b. cond b true (p.known x)) (eq-eqb x v e)

pub learnt_else : (p : Places) (v x : ℕ) → (x ≡ v → ⊥) → (learn p v).known x ≡ p.known x
learnt_else p v x d = ap (λ b. cond b true (p.known x)) (ne_eqb x v d)

pub learnt_more : (p : Places) (v x : ℕ) → p.known x ≡ true → (learn p v).known x ≡ true
learnt_more p v x k = elim (cases_eq x v) [ inl e ↦ learnt_here p v x e | inr d ↦ learnt_else p v x d ∙ k ]

module _ (p : Places) (fresh v : ℕ) (new_one : IsFresh p v) where
  none_made : Made p fresh v → ⊥
  none_made k = true≢false (sym k.0 ∙ new_one.0)

  made_there : (x : ℕ) → Or (Made p fresh) v x → Made (learn p v) fresh x
  made_there x (inl e) = (learnt_here p v x e, inr (let l = new_one.1 in omega (arith, e, l)))
  made_there x (inr k) = (learnt_more p v x k.0, k.1)

  made_back : (x : ℕ) → Made (learn p v) fresh x → Or (Made p fresh) v x
  made_back x k = elim (cases_eq x v) [ inl e ↦ inl e | inr d ↦ inr (sym (learnt_else p v x d) ∙ k.0, k.1) ]

module _ (M N : ℕ) (marks : List ℕ) (name : Naming) (qs : List Indexical) (returns : List Return) (stack : List Saved) (b : Branch) where
  abbrev Makes : Cells → Registers → Places → List Equation → Type 0
  Makes h c p todo = IsMade M N marks name h qs c returns stack b p todo

  -- what a register holds is the cell of its term
  pub made_read : (h : Cells) (c : Registers) (p : Places) (todo : List Equation) (m : Makes h c p todo) (r : Register) (t : Term) → read p r ≡ Some t
      → (d : Cell) × (cell_in c r ≡ Some d) × IsShown name h m.look (Made p b.fresh) t d
  made_read h c p todo m (X n) t e = m.xs n t e
  made_read h c p todo m (Y n) t e = m.ys n t e

  -- a register is written
  pub made_write : (h : Cells) (c c' : Registers) (p : Places) (todo : List Equation) (m : Makes h c p todo) (r : Register) (t : Term) (d : Cell)
      → IsShown name h m.look (Made p b.fresh) t d → IsWritten c r d c'
      → (now : Makes h c' (write p r t) todo) × IsShown name h now.look (Made (write p r t) b.fresh) t d
      × ((s : Term) (e : Cell) → IsShown name h m.look (Made p b.fresh) s e → IsShown name h now.look (Made (write p r t) b.fresh) s e)
  made_write h c c' p todo m (X n) t d s w = (
    record {
      done = m.done;
      look = m.look;
      kept = m.kept;
      same = m.same;
      xs = shown_put name h m.look (Made p b.fresh) p.x c.x c'.x n t d s w.0 m.xs;
      ys = shown_same name h m.look (Made p b.fresh) p.y c.y c'.y w.1 m.ys;
      saved = m.saved;
      leveled = leveled_same marks p.levels p.noted c returns stack m.leveled c' w.2 w.3;
      own = m.own;
      covered = m.covered;
      used = m.used;
      scoped = m.scoped;
    },
    s,
    λ u e k. k,
  )
  made_write h c c' p todo m (Y n) t d s w = (
    record {
      done = m.done;
      look = m.look;
      kept = m.kept;
      same = m.same;
      xs = shown_same name h m.look (Made p b.fresh) p.x c.x c'.x w.0 m.xs;
      ys = shown_put name h m.look (Made p b.fresh) p.y c.y c'.y n t d s w.1 m.ys;
      saved = m.saved;
      leveled = leveled_drop marks p.levels p.noted c returns stack m.leveled n c' w.2 w.3;
      own = m.own;
      covered = m.covered;
      used = m.used;
      scoped = m.scoped;
    },
    s,
    λ u e k. k,
  )

  -- by another look, on a heap that has grown
  module _ (h now : Cells) (c : Registers) (p : Places) (todo : List Equation) (m : Makes h c p todo) (v : ℕ) (new_one : IsFresh p v) (t : Term)
      (moves : (d : Cell) → IsOf h d → IsOf now d × (term_of name now d ≡ term_of name h d)) where
    abbrev look' : Substitution
    look' = with_one v t m.look

    old_look : (x : ℕ) → Made p b.fresh x → m.look x ≡ look' x
    old_look x k = sym (one_else v t m.look x (λ e. none_made p b.fresh v new_one (subst (Made p b.fresh) e k)))

    moved : (s : Term) (d : Cell) → Of (Made p b.fresh) s → IsOf h d → apply m.look s ≡ term_of name h d → IsOf now d × (apply look' s ≡ term_of name now d)
    moved s d o i e = let k = moves d i in (k.0, sym (agree (Made p b.fresh) m.look look' old_look s o) ∙ e ∙ sym k.1)

    more : (x : ℕ) → Made p b.fresh x → Made (learn p v) b.fresh x
    more x k = made_there p b.fresh v new_one x (inr k)

    xs_now : AreShown name now look' (Made (learn p v) b.fresh) p.x c.x
    xs_now = shown_moved name h now m.look look' (Made p b.fresh) (Made (learn p v) b.fresh) more moved p.x c.x m.xs

    ys_now : AreShown name now look' (Made (learn p v) b.fresh) p.y c.y
    ys_now = shown_moved name h now m.look look' (Made p b.fresh) (Made (learn p v) b.fresh) more moved p.y c.y m.ys

    saved_now : AllShown name now look' (IsOld (learn p v) b.fresh) b.fresh returns stack
    saved_now = all_moved name h now m.look look' (IsOld p b.fresh) (IsOld (learn p v) b.fresh) (λ x k. (learnt_more p v x k.0, k.1))
        (λ s d o i e. moved s d (more_of (IsOld p b.fresh) (Made p b.fresh) (λ x k. old_made p b.fresh x k) s o) i e) b.fresh b.fresh (omega arith) returns stack m.saved

    covered_now : (x : ℕ) → x < b.fresh → p.top ≤ x → (learn p v).known x ≡ true
    covered_now x l k = learnt_more p v x (m.covered x l k)

    abbrev there : (x : ℕ) → Or (Made p b.fresh) v x → Made (learn p v) b.fresh x
    there = made_there p b.fresh v new_one

    abbrev back : (x : ℕ) → Made (learn p v) b.fresh x → Or (Made p b.fresh) v x
    back = made_back p b.fresh v new_one

  -- A variable that is met first is what a register holds.
  pub made_place : (h : Cells) (c : Registers) (p : Places) (todo : List Equation) (m : Makes h c p todo) (v : ℕ) → IsFresh p v → (t : Term) (d : Cell)
      → IsShown name h m.look (Made p b.fresh) t d → (later : List Equation) → todo ≡ record { left = t; right = Var v } ∷ later
      → (now : Makes h c (learn p v) later) × IsShown name h now.look (Made (learn p v) b.fresh) (Var v) d
      × ((s : Term) (e : Cell) → IsShown name h m.look (Made p b.fresh) s e → IsShown name h now.look (Made (learn p v) b.fresh) s e)
  made_place h c p todo m v f t d s later is =
      let u = apply m.look t in
      let stays : (d : Cell) → IsOf h d → IsOf h d × (term_of name h d ≡ term_of name h d) = λ d o. (o, refl) in
      let e : Equation = record { left = t; right = Var v } in (
        record {
          done = e ∷ m.done;
          look = with_one v u m.look;
          kept = kept_known M N h qs (e ∷ m.done) b.posted (Or (Made p b.fresh) v) (with_one v u m.look)
              (kept_place M N h qs m.done b.posted (Made p b.fresh) m.look m.kept v (none_made p b.fresh v f) t s.known) (Made (learn p v) b.fresh)
              (made_there p b.fresh v f) (made_back p b.fresh v f);
          same = moved_over (λ x. x < b.fresh) m.done later b.equations e (subst (λ l. SaysSame (λ x. x < b.fresh) (m.done ++ l) b.equations) is m.same);
          xs = xs_now h h c p todo m v f u stays;
          ys = ys_now h h c p todo m v f u stays;
          saved = saved_now h h c p todo m v f u stays;
          leveled = m.leveled;
          own = m.own;
          covered = covered_now h h c p todo m v f u stays;
          used = m.used;
          scoped = m.scoped;
        },
        record { known = made_there p b.fresh v f v (inl refl); own = s.own; value = one_here v u m.look ∙ s.value },
        one_moved name h h m.look (with_one v u m.look) (Made p b.fresh) (Made (learn p v) b.fresh) (more h h c p todo m v f u stays) (moved h h c p todo m v f u stays),
      )

  -- A new variable of the heap.
  pub made_cell : (h : Cells) → IsHeap h → (c : Registers) (p : Places) (todo : List Equation) (m : Makes h c p todo) (v : ℕ) → IsFresh p v
      → (now : Makes (with_new_slot h) c (learn p v) todo)
      × IsShown name (with_new_slot h) now.look (Made (learn p v) b.fresh) (Var v) (cell.Ref (length h.slots))
      × ((s : Term) (e : Cell) → IsShown name h m.look (Made p b.fresh) s e → IsShown name (with_new_slot h) now.look (Made (learn p v) b.fresh) s e)
  made_cell h valid c p todo m v f =
      let u : Term = Var (length h.slots) in
      let now = with_new_slot h in
      let longer : length h.slots ≤ length now.slots = omega (arith, length-append h.slots (free ∷ [])) in
      let grows : (d : Cell) → IsOf h d → IsOf now d × (term_of name now d ≡ term_of name h d) = λ d o. (of_wider h now d longer (omega arith) o, var_kept h valid name d o) in (
        record {
          done = m.done;
          look = with_one v u m.look;
          kept = kept_known M N now qs m.done b.posted (Or (Made p b.fresh) v) (with_one v u m.look)
              (kept_cell M N h qs m.done b.posted (Made p b.fresh) m.look m.kept v (none_made p b.fresh v f)) (Made (learn p v) b.fresh)
              (made_there p b.fresh v f) (made_back p b.fresh v f);
          same = m.same;
          xs = xs_now h now c p todo m v f u grows;
          ys = ys_now h now c p todo m v f u grows;
          saved = saved_now h now c p todo m v f u grows;
          leveled = m.leveled;
          own = m.own;
          covered = covered_now h now c p todo m v f u grows;
          used = m.used;
          scoped = m.scoped;
        },
        record { known = made_there p b.fresh v f v (inl refl); own = (omega (arith, length-append h.slots (free ∷ []))); value = one_here v u m.look ∙ sym (new_open name h valid) },
        one_moved name h now m.look (with_one v u m.look) (Made p b.fresh) (Made (learn p v) b.fresh) (more h now c p todo m v f u grows) (moved h now c p todo m v f u grows),
      )

  -- One more equation, between two terms whose cells are known.
  module _ (h : Cells) (c : Registers) (p : Places) (todo : List Equation) (m : Makes h c p todo) (l r : Term) (a d : Cell)
      (at_l : IsShown name h m.look (Made p b.fresh) l a) (at_r : IsShown name h m.look (Made p b.fresh) r d)
      (later : List Equation) (is : todo ≡ record { left = l; right = r } ∷ later) where
    abbrev e : Equation
    e = record { left = l; right = r }

    says : SaysSame (λ x. x < b.fresh) ((e ∷ m.done) ++ later) b.equations
    says = moved_over (λ x. x < b.fresh) m.done later b.equations e (subst (λ l. SaysSame (λ x. x < b.fresh) (m.done ++ l) b.equations) is m.same)

    -- the cells are equal now, and what was touched is to be posted
    pub made_unified : (now : Cells) (ts : List Touch) → core.IsUnified name h a d now ts → IsSameSize h now → IsMade M N marks name now (qs ++ posts (store_touches ts)) c returns stack b p later
    made_unified now ts u size =
        let own : (c : Cell) → IsOf h c → IsOf now c = λ c o. of_same h now c (sym size.slots) (sym (ap length size.compounds)) o in
        let moves : (P : ℕ → Type 0) (t : Term) (c : Cell) → Of P t → IsOf h c → apply m.look t ≡ term_of name h c → IsOf now c × (apply (after u.unifier m.look) t ≡ term_of name now c) =
        λ P t c o i k. (own c i, after_is u.unifier m.look t ∙ ap (apply u.unifier) k ∙ sym (u.terms c)) in
        record {
          done = e ∷ m.done;
          look = after u.unifier m.look;
          kept = kept_unified M N name h qs m.done b.posted (Made p b.fresh) m.look m.kept l r a d (at_l.known, at_r.known) at_l.value at_r.value now ts u size;
          same = says;
          xs = shown_moved name h now m.look (after u.unifier m.look) (Made p b.fresh) (Made p b.fresh) (λ x k. k) (moves (Made p b.fresh)) p.x c.x m.xs;
          ys = shown_moved name h now m.look (after u.unifier m.look) (Made p b.fresh) (Made p b.fresh) (λ x k. k) (moves (Made p b.fresh)) p.y c.y m.ys;
          saved = all_moved name h now m.look (after u.unifier m.look) (IsOld p b.fresh) (IsOld p b.fresh) (λ x k. k) (moves (IsOld p b.fresh)) b.fresh b.fresh (omega arith) returns stack m.saved;
          leveled = m.leveled;
          own = m.own;
          covered = m.covered;
          used = m.used;
          scoped = m.scoped;
        }

    pub unified_look : (now : Cells) (ts : List Touch) (u : core.IsUnified name h a d now ts) (size : IsSameSize h now) → (made_unified now ts u size).look ≡ after u.unifier m.look
    unfolding made_unified
    unified_look now ts u size = refl

    -- what cells show of other terms they show still
    pub unified_keeps : (now : Cells) (ts : List Touch) (u : core.IsUnified name h a d now ts) (size : IsSameSize h now) (s : Term) (k : Cell)
        → IsShown name h m.look (Made p b.fresh) s k → IsShown name now (made_unified now ts u size).look (Made p b.fresh) s k
    unfolding made_unified
    unified_keeps now ts u size s k i = record {
      known = i.known;
      own = of_same h now k (sym size.slots) (sym (ap length size.compounds)) i.own;
      value = after_is u.unifier m.look s ∙ ap (apply u.unifier) i.value ∙ sym (u.terms k);
    }

    -- they can't be equal: the branch has no model
    pub made_refuted : IsRefuted h (cells_equal name h a d) → (S : Family) → IsModel M N b.equations b.posted S → ⊥
    made_refuted no_one S k =
        let all = same_model M N (λ x. x < b.fresh) ((e ∷ m.done) ++ later) b.equations b.posted S says m.used k in
        kept_refuted M N name h qs m.done b.posted (Made p b.fresh) m.look m.kept l r a d (at_l.known, at_r.known) at_l.value at_r.value no_one S
        (weaker M N ((e ∷ m.done) ++ later) (e ∷ m.done) b.posted S (λ u g. (g.0, (split_both u m.done later g.1).0)) all)
