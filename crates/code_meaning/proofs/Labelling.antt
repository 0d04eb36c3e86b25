-- The steps from a labelling, and back to one.
use Rattle.std.proofs.Common.{◌≡◌, ℕ, suc, ◌<◌, pos, List, [], ◌∷◌, ◌++◌, length, map, Option, Some, refl, ap, sym, ◌∙◌, subst, inl}
use Rattle.fd_model.specs.declared.kinds.Order.{Order}
use Rattle.fd_model.specs.declared.kinds.QueryFault.{QueryFault}
use Rattle.fd_language.specs.Term.{Term, Var, Int, Substitution, apply}
use Rattle.fd_language.specs.Family.{Family, IsInside}
use Rattle.fd_language.specs.Range.{Indexical}
use Rattle.fd_model.specs.Children.{by_value, look_in, with_goals, is_number}
use Rattle.fd_model.specs.ClosedFamilies.{constrained}
use Rattle.fd_model.specs.Goal.{Goal, Program, Query, Branch, Event, Fault}
use Rattle.fd_model.specs.Goal as goal
use Rattle.fd_model.specs.Labelling.{read_list, values_by}
use Rattle.fd_model.specs.Models.{IsModel}
use Rattle.fd_model.specs.BranchViews.{IsConsistent, seen, set_at}
use Rattle.fd_model.specs.RunnablePrograms.{IsRunnableProgram, EachBelow}
use Rattle.fd_model.proofs.Lemmas.{has_view, one_view, join_both, split_both}
use Rattle.heap_cells.specs.declared.Cell.{Cell}
use Rattle.heap_cells.specs.declared.Cell.TheVariants as cell
use Rattle.heap_cells.specs.Cells.{Cells}
use Rattle.heap_cells.specs.Terms.{Naming, term_of}
use Rattle.heap_cells.specs.HeapInvariant.{IsHeap}
use Rattle.heap_cells.proofs.Lemmas.{term-Int}
use Rattle.unify_core.specs.declared.Touch.{Touch}
use Rattle.unify_core.specs.PairReduction.{IsSameSize}
use Rattle.unify_core.specs.Unifications as core
use Rattle.branch_meaning.specs.RemainingEvents.{at_top, offered, IsFit, AreFit, Ahead, Spends}
use Rattle.branch_meaning.specs.Heap.{Of, Below}
use Rattle.fd_language.specs.SingleValues.{value_at}
use Rattle.branch_meaning.specs.HeldBranches.{HeldState, fixed_held}
use Rattle.branch_meaning.specs.Labelling.{Labelled, faults, done, labels, labelled, by_labelled}
use Rattle.branch_meaning.specs.AnswerTexts.{cell_set}
use Rattle.branch_meaning.specs.Store.{posts}
use Rattle.branch_meaning.proofs.Lemmas.{label_there, label_done, label_faults, after_is, row_by, label_in, of_below, seen_of, variables_on, seen_by_variable}
use Rattle.branch_lemmas.specs.Frames.{link_in, store_touches, held_of, IsKept}
use Rattle.branch_lemmas.specs.SeenHeap.{read_term, heap_label}
use Rattle.branch_lemmas.proofs.Lemmas.{unsettled, settled_look, settled_held, settled_rest}
use Rattle.wam_code.specs.declared.instruction.Code.TheVariants as code
use Rattle.wam_code.specs.Area.{Area, Holds}
use Rattle.wam_code.specs.Places.{Places}
use Rattle.wam_code.specs.CodeMeaning.{LabelRule, Return}
use Rattle.code_meaning.specs.Registers.{Registers, Saved, IsShown}
use Rattle.code_meaning.specs.StateMeaning.{Made, IsMade, Stands}
use Rattle.code_meaning.specs.MachineStates.{values, Choice, IsReady, IsTaking, Runs, Returns}
use Rattle.code_meaning.proofs.Arguments.{cell_shows}
use Rattle.code_meaning.proofs.BranchEquations.{made_unified}
use Rattle.code_meaning.proofs.GoalStates.{ready_kept, ready_consistent, taking, taken_same, goal_fault, goal_gives, goal_one}
use Rattle.code_meaning.proofs.MachineStates.{goes_inside, kept_later, stands_pushed}
use Rattle.code_meaning.proofs.RestatedEquations.{all_made}

-- d is the cell of the list
module _ (M N : ℕ) (area : Area) (prog : Program) (q : Query) (name : Naming) (h : Cells) (valid : IsHeap h) (qs : List Indexical) (at : ℕ) (c : Registers)
    (stack : List Saved) (cs : List Choice) (k : Option ℕ) (es : List Event) (r : ℕ)
    (runnable : IsRunnableProgram M prog) (n : ℕ) (G : Family) (model : IsModel M N [] qs G) (most : (R : Family) → IsModel M N [] qs R → IsInside R G)
    (m : Runs M N area prog q name h qs at c stack cs (suc n) k es r)
    (o : Order) (d : Cell) (at_d : c.x 1 ≡ Some d) where
  abbrev Takes : Branch → Type 0
  Takes b = IsTaking M N m.marks area q.shown name h qs at c stack b (λ p. LabelRule o p)

  abbrev on_heap : Labelled
  on_heap = heap_label M N name h qs G o (read_term h G (term_of name h d))

  module _ (b : Branch) (t : Takes b) (one : m.first ≡ b ∷ []) where
    abbrev list : Term
    list = t.is.0

    abbrev g : Goal
    g = goal.Label o list

    abbrev P : ℕ → Type 0
    P v = v < b.fresh

    abbrev F : HeldState
    F = fixed_held (held_of name h qs) G

    abbrev raw : Substitution
    raw = t.ready.made.look

    kept : IsKept M N h qs b.equations b.posted P raw
    kept = ready_kept M N m.marks area q.shown name h qs at c stack b t.ready

    consistent : IsConsistent M N b.equations b.posted
    consistent = ready_consistent M N m.marks area q.shown name h qs at c stack b t.ready (G, model)

    abbrev look : Substitution
    look = settled_look M N name h valid qs b.equations b.posted P raw kept G most

    is : b.goals ≡ g ∷ t.later
    is = t.goals ∙ ap (λ x. x ∷ t.later) t.is.2

    known : Of P list
    known = of_below b.fresh list (subst (EachBelow b.fresh) is t.ready.below).0

    list_is : apply look list ≡ read_term h G (term_of name h d)
    list_is =
        after_is (λ e. value_at (link_in h e) G e) raw list
        ∙ ap (read_term h G) (cell_shows name h raw (Made t.ready.p b.fresh) t.ready.p c.x t.ready.made.xs 1 list d t.is.1 at_d).1

    same_list : labelled o (λ e. values_by N (cell_set G (F.link e))) (apply look list) ≡ on_heap
    same_list = ap (labelled o (λ e. values_by N (cell_set G (F.link e)))) list_is

    gives : (s : Substitution) (D : Family) (l : Labelled)
        → labelled o (λ y. values_by N (set_at s D (constrained b.posted) y)) (seen s D (constrained b.posted) list) ≡ l
        → offered M N (at_top m.marks) prog b g t.later s D ≡ by_labelled b g t.later l
    gives s D l e =
        row_by M b o g t.later (λ x. values_by N (set_at s D (constrained b.posted) x)) (read_list (apply (look_in b s D) list))
        ∙ ap (λ x. by_labelled b g t.later (labelled o (λ y. values_by N (set_at s D (constrained b.posted) y)) x)) (seen_by_variable s D (constrained b.posted) list)
        ∙ ap (by_labelled b g t.later) e

    fault : (e : QueryFault) → on_heap ≡ faults e → (es ≡ Fault e ∷ []) × (r ≡ 1)
    fault e i =
        let held = settled_held M N name h valid qs b.equations b.posted P raw kept G most in
        let rest = settled_rest M N name h valid qs b.equations b.posted P raw kept G most q model in
        goal_fault M N area prog q name h qs at c stack cs k es r b consistent g t.later is runnable n m one e (λ s D view. gives s D (faults e)
        (label_faults M N F b.equations b.posted P look held G rest s D view consistent o list known e (same_list ∙ i)))

    all_done : on_heap ≡ done → Spends (Runs M N area prog q name h qs (suc at) c stack cs n k) [] es r
    all_done i =
        let held = settled_held M N name h valid qs b.equations b.posted P raw kept G most in
        let rest = settled_rest M N name h valid qs b.equations b.posted P raw kept G most q model in
        goal_one M N area prog q name h qs at c stack cs k es r b consistent g t.later is runnable n m one (λ i. refl) (with_goals b t.later) []
        (λ s D view. gives s D done (label_done M N F b.equations b.posted P look held G rest s D view consistent o list known (same_list ∙ i))) (λ s D view. refl)
        h qs (suc at) c stack (taken_same M N m.marks area q.shown name h qs at c stack b (λ p. LabelRule o p) t (with_goals b t.later) refl refl refl refl)

    tries : (v : ℕ) (ns : List ℕ) → on_heap ≡ labels v ns
        → Spends (Returns M N area prog q name (record { left = values ns v at; registers = c; stack = stack; heap = h; store = qs } ∷ cs) n k) [] es r
    tries v ns i =
        let fit : IsFit M b = (subst (λ bs. AreFit M (bs ++ m.others)) one m.ahead.fit).0 in
        let held = settled_held M N name h valid qs b.equations b.posted P raw kept G most in
        let rest = settled_rest M N name h valid qs b.equations b.posted P raw kept G most q model in
        let view = has_view M N b.equations b.posted fit.1 consistent in
        let s = view.0 in
        let D = view.1 in
        let w = view.2 in
        let x = label_there M N F b.equations b.posted P look held G rest s D w consistent o list known v ns (same_list ∙ i) in
        let lies = variables_on P (seen s D (constrained b.posted) list) (seen_of b.fresh b.equations s w.general kept.stored.heap.scoped D (constrained b.posted) list known)
        x.0 (label_in o (λ y. values_by N (set_at s D (constrained b.posted) y)) (seen s D (constrained b.posted) list) x.0 ns x.1) in
        let kids = map (by_value b (g ∷ t.later) x.0) ns in
        let a = goal_gives M N area prog q name h qs at c stack cs k es r b consistent g t.later is runnable n m one (λ i. refl) kids []
        (λ u E z.
        let same = one_view M N b.equations b.posted u s E D z w in
        subst (λ y. offered M N (at_top m.marks) prog b g t.later y E ≡ by_labelled b g t.later (labels x.0 ns)) (sym same.0)
        (subst (λ Y. offered M N (at_top m.marks) prog b g t.later s Y ≡ by_labelled b g t.later (labels x.0 ns)) (sym same.1) (gives s D (labels x.0 ns) x.1)))
        (λ u E z. refl) in (
          a.0,
          a.1,
          a.2,
          a.3,
          record {
            others = kids ++ m.others;
            marks = length a.4.branches ∷ m.marks;
            wait = (kids, m.others, m.marks, a.4.branches, (b, x.0, t.ready, lies, unsettled h G (raw x.0) v x.2, ap (λ l. map (by_value b l x.0) ns) (sym is)), m.wait, refl, a.4.kept, refl);
            ahead = a.4;
          },
        )

  module _ (f : Holds area at (code.Label o)) where
    here : (b : Branch) × Takes b × (m.first ≡ b ∷ [])
    here =
        let s = goes_inside M N m.marks area q.shown name h qs at c stack m.first m.here (code.Label o) tt f in
        (s.0, taking M N m.marks area q.shown name h qs at c stack s.0 (λ p. LabelRule o p) (code.Label o) (λ w p es r. r) f s.1, s.2)

    -- no list of integers and variables
    pub run_label_fault : (e : QueryFault) → on_heap ≡ faults e → (es ≡ Fault e ∷ []) × (r ≡ 1)
    run_label_fault = let s = here in fault s.0 s.1 s.2

    -- no open member
    pub run_label_done : on_heap ≡ done → Spends (Runs M N area prog q name h qs (suc at) c stack cs n k) [] es r
    run_label_done = let s = here in all_done s.0 s.1 s.2

    -- The values of the variable v of the heap, each of which comes back to this place.
    pub run_label : (v : ℕ) (ns : List ℕ) → on_heap ≡ labels v ns
        → Spends (Returns M N area prog q name (record { left = values ns v at; registers = c; stack = stack; heap = h; store = qs } ∷ cs) n k) [] es r
    run_label = let s = here in tries s.0 s.1 s.2

-- ---- back to a labelling

-- one more equation is to be made
pub made_asked : (M N : ℕ) (marks : List ℕ) (name : Naming) (h : Cells) (qs : List Indexical) (c : Registers) (returns : List Return) (stack : List Saved)
    (b : Branch) (p : Places) (m : IsMade M N marks name h qs c returns stack b p []) (x v : ℕ) → x < b.fresh
    → IsMade M N marks name h qs c returns stack (by_value b b.goals x v) p (is_number x v ∷ [])
made_asked M N marks name h qs c returns stack b p m x v low = record {
  done = m.done;
  look = m.look;
  kept = m.kept;
  same = record {
    there = λ u k. (let s = split_both u m.done (is_number x v ∷ []) k in (s.1.0, m.same.there u (join_both u m.done [] s.0 tt)));
    back = λ u k. (let w = m.same.back u k.1 in let s = split_both w.0 m.done [] w.1 in (w.0, join_both w.0 m.done (is_number x v ∷ []) s.0 (w.2 x low ∙ k.0, tt), w.2));
  };
  xs = m.xs;
  ys = m.ys;
  saved = m.saved;
  leveled = m.leveled;
  own = m.own;
  covered = m.covered;
  used = m.used;
  scoped = ((low, tt), m.scoped);
}

pub asked_look : (M N : ℕ) (marks : List ℕ) (name : Naming) (h : Cells) (qs : List Indexical) (c : Registers) (returns : List Return) (stack : List Saved)
    (b : Branch) (p : Places) (m : IsMade M N marks name h qs c returns stack b p []) (x v : ℕ) (low : x < b.fresh)
    → (made_asked M N marks name h qs c returns stack b p m x v low).look ≡ m.look
unfolding made_asked
asked_look M N marks name h qs c returns stack b p m x v low = refl

module _ (M N : ℕ) (area : Area) (prog : Program) (q : Query) (name : Naming) (h : Cells) (valid : IsHeap h) (qs : List Indexical) (at : ℕ) (c : Registers)
    (stack : List Saved) (cs : List Choice) (n : ℕ) (k : Option ℕ) (es : List Event) (r : ℕ) (v : ℕ) where
  abbrev of : List ℕ → Choice
  of ns = record { left = values ns v at; registers = c; stack = stack; heap = h; store = qs }

  -- no value is left
  pub back_no_values : Returns M N area prog q name (of [] ∷ cs) n k es r → Returns M N area prog q name cs n k es r
  back_no_values m = record { others = m.wait.1; marks = m.wait.2; wait = m.wait.5; ahead = subst (λ l. Ahead M N prog q n k l es r) (m.wait.6 ∙ ap (λ l. l ++ m.wait.1) m.wait.4.5) m.ahead }

  -- The next value: it is unified with the variable, the others stay, and the machine goes on at the labelling.
  module _ (i : ℕ) (ns : List ℕ) (open_now : term_of name h (cell.Ref v) ≡ Var v) (now : Cells) (ts : List Touch)
      (u : core.IsUnified name h (cell.Ref v) (cell.Int (pos i)) now ts) (size : IsSameSize h now) where
    with_value : (marks : List ℕ) (b : Branch) (x : ℕ) (s : IsReady M N marks area q.shown name h qs at c stack b) → x < b.fresh → s.made.look x ≡ Var v
        → Stands M N marks area q.shown name now (qs ++ posts (store_touches ts)) at c stack (by_value b b.goals x i)
    unfolding made_asked
    with_value marks b x s low sees =
        let P : ℕ → Type 0 = Made s.p b.fresh in
        let known = all_made M N marks name h qs s.returns stack b c s.p [] s.made s.whole x low in
        let own : v < length h.slots = subst (Below (length h.slots)) sees (s.made.kept.stored.heap.cells x known) in
        let a = made_asked M N marks name h qs c s.returns stack b s.p s.made x i low in
        let on_x : IsShown name h a.look P (Var x) (cell.Ref v) = record { known = known; own = own; value = sees ∙ sym open_now } in
        let on_i : IsShown name h a.look P (Int (pos i)) (cell.Int (pos i)) = record { known = tt; own = tt; value = sym (term-Int name h valid (pos i)) } in
        record {
          p = s.p;
          todo = [];
          returns = s.returns;
          after = s.after;
          made = made_unified M N marks name qs s.returns stack (by_value b b.goals x i) h c s.p (is_number x i ∷ []) a (Var x) (Int (pos i)) (cell.Ref v)
              (cell.Int (pos i)) on_x on_i [] refl now ts u size;
          continues = s.continues;
          means = s.means;
          below = s.below;
          asked = s.asked;
        }

    pub back_value : Returns M N area prog q name (of (i ∷ ns) ∷ cs) n k es r → Runs M N area prog q name now (qs ++ posts (store_touches ts)) at c stack (of ns ∷ cs) n k es r
    back_value m =
        let w = m.wait.4 in
        let older = m.wait.2 in
        let kid = by_value w.0 w.0.goals w.1 i in
        let rest = map (by_value w.0 w.0.goals w.1) ns in
        let a : Ahead M N prog q n k (kid ∷ (rest ++ m.wait.1)) es r = subst (λ l. Ahead M N prog q n k l es r) (m.wait.6 ∙ ap (λ l. l ++ m.wait.1) w.5) m.ahead in
        let d = kept_later M N (kid ∷ []) (rest ++ m.wait.1) a.branches a.kept in
        let there = with_value older w.0 w.1 w.2 w.3 w.4 in
        record {
          first = kid ∷ [];
          others = rest ++ m.wait.1;
          marks = length d.0 ∷ older;
          here = inl (kid, stands_pushed M N (length d.0) older area q.shown name now (qs ++ posts (store_touches ts)) at c stack kid there, refl);
          wait = (rest, m.wait.1, older, d.0, (w.0, w.1, w.2, w.3, w.4, refl), m.wait.5, refl, d.1, refl);
          ahead = a;
        }

  -- The last value leaves no choice point.
  module _ (i : ℕ) (open_now : term_of name h (cell.Ref v) ≡ Var v) (now : Cells) (ts : List Touch) (u : core.IsUnified name h (cell.Ref v) (cell.Int (pos i)) now ts) (size : IsSameSize h now) where
    pub back_last_value : Returns M N area prog q name (of (i ∷ []) ∷ cs) n k es r → Runs M N area prog q name now (qs ++ posts (store_touches ts)) at c stack cs n k es r
    back_last_value m =
        let w = m.wait.4 in
        let kid = by_value w.0 w.0.goals w.1 i in
        record {
          first = kid ∷ [];
          others = m.wait.1;
          marks = m.wait.2;
          here = inl (kid, with_value i [] open_now now ts u size m.wait.2 w.0 w.1 w.2 w.3 w.4, refl);
          wait = m.wait.5;
          ahead = subst (λ l. Ahead M N prog q n k l es r) (m.wait.6 ∙ ap (λ l. l ++ m.wait.1) w.5) m.ahead;
        }
