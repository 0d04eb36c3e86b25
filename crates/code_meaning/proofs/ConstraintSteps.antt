-- The steps from a constraint: its row by the heap and the store's sets, whose fresh variables are the next variables of the heap.
use Rattle.std.proofs.Common.{◌≡◌, ℕ, suc, ◌<◌, ◌≤◌, ◌⊎◌, true, List, [], ◌∷◌, ◌++◌, length, Option, refl, ap, sym, ◌∙◌, subst, inl, inr, Result, Ok, Err}
use Rattle.fd_model.specs.declared.kinds.ConstraintKind.{ConstraintKind}
use Rattle.fd_model.specs.declared.kinds.QueryFault.{QueryFault}
use Rattle.fd_language.specs.Term.{Term, Var, Substitution, apply, apply_all}
use Rattle.fd_language.specs.Family.{Family, has, IsInside}
use Rattle.fd_language.specs.Range.{Indexical}
use Rattle.fd_language.specs.Variables.{variables_of}
use Rattle.fd_model.specs.Children.{by_constraint, with_expansion}
use Rattle.fd_model.specs.ClosedFamilies.{constrained}
use Rattle.fd_model.specs.ConstraintLaws.{AllFresh}
use Rattle.fd_model.specs.ConstraintExpansion.{arguments, expand}
use Rattle.fd_model.specs.Goal.{Program, Query, Branch, Event, Fault}
use Rattle.fd_model.specs.Goal as goal
use Rattle.fd_model.specs.LinearRows.{Expansion}
use Rattle.fd_model.specs.Models.{IsModel}
use Rattle.fd_model.specs.BranchViews.{IsView, seen, IsConsistent}
use Rattle.fd_model.specs.RunnablePrograms.{IsRunnableProgram, EachBelow}
use Rattle.fd_model.proofs.Lemmas.{has_view, scoped_rows, one_view}
use Rattle.heap_cells.specs.declared.Cell.{Cell}
use Rattle.heap_cells.specs.Cells.{Cells}
use Rattle.heap_cells.specs.Terms.{Naming, terms_by, term_of}
use Rattle.heap_cells.specs.HeapInvariant.{IsHeap}
use Rattle.branch_meaning.specs.RemainingEvents.{at_top, offered, IsFit, AreFit, Spends}
use Rattle.branch_meaning.specs.Heap.{after, Of}
use Rattle.fd_language.specs.SingleValues.{value_at}
use Rattle.branch_meaning.specs.HeldBranches.{HeldState, fixed_held}
use Rattle.branch_meaning.specs.Rows.{rename_expansion, rename_row}
use Rattle.branch_meaning.specs.Store.{Touch, posts}
use Rattle.branch_meaning.proofs.Lemmas.{place_from, cell as cell_number, cell_from, row_same, row_cell, after_is, after_are, agree, of_below, seen_of}
use Rattle.branch_meaning.proofs.Lemmas.{variables_on, seen_by_variable, GivesAll, was_row}
use Rattle.branch_lemmas.specs.Frames.{link_in, held_of, IsKept}
use Rattle.branch_lemmas.specs.Posting.{IsRowLinked}
use Rattle.branch_lemmas.proofs.Lemmas.{look_old, row_look, kept_row, kept_no_model, unsettled, settled_look, settled_held, settled_rest}
use Rattle.wam_code.specs.declared.instruction.Code.TheVariants as code
use Rattle.fd_model.specs.Arities.{constraint_arity}
use Rattle.wam_code.specs.Area.{Area, Holds}
use Rattle.wam_code.specs.Places.{made}
use Rattle.wam_code.specs.CodeMeaning.{ConstrainRule}
use Rattle.code_meaning.specs.Registers.{Registers, Saved, AreIn}
use Rattle.code_meaning.specs.StateMeaning.{Made, Stands}
use Rattle.code_meaning.specs.MachineStates.{Choice, Waits, IsTaking, Runs, Returns}
use Rattle.code_meaning.proofs.Arguments.{arguments_applied, cells_show}
use Rattle.code_meaning.proofs.GoalStates.{ready_kept, ready_consistent, taking, taken_on, goal_fault, goal_one, goal_gone}
use Rattle.code_meaning.proofs.MachineStates.{goes_inside}

row_fault : (f : ℕ → ℕ) (x : Result Expansion QueryFault) (e : QueryFault) → rename_row f x ≡ Err e → x ≡ Err e
row_fault f (Err d) e h = let g : d ≡ e = cc in ap Err g
row_fault f (Ok x) e h = absurd (cc)

-- ds are the arguments' cells.
module _ (M N : ℕ) (area : Area) (prog : Program) (q : Query) (name : Naming) (h : Cells) (valid : IsHeap h) (qs : List Indexical) (at : ℕ) (c : Registers)
    (stack : List Saved) (cs : List Choice) (k : Option ℕ) (es : List Event) (r : ℕ)
    (runnable : IsRunnableProgram M prog) (n : ℕ) (G : Family) (model : IsModel M N [] qs G) (most : (R : Family) → IsModel M N [] qs R → IsInside R G)
    (m : Runs M N area prog q name h qs at c stack cs (suc n) k es r)
    (kind : ConstraintKind) (ds : List Cell) (cells : AreIn c.x 1 ds) (counted : length ds ≡ constraint_arity kind) where
  abbrev Takes : Branch → Type 0
  Takes b = IsTaking M N m.marks area q.shown name h qs at c stack b (λ p. ConstrainRule kind p)

  -- the row of the arguments' cells
  abbrev pub cells_row : Result Expansion QueryFault
  cells_row = expand M kind (apply_all (λ e. value_at (link_in h e) G e) (terms_by (term_of name h) ds)) (length h.slots)

  module _ (b : Branch) (t : Takes b) (one : m.first ≡ b ∷ []) where
    abbrev u : Term
    u = made t.is.0 t.is.1

    abbrev B : ℕ → Type 0
    B v = v < b.fresh

    abbrev F : HeldState
    F = fixed_held (held_of name h qs) G

    abbrev raw : Substitution
    raw = t.ready.made.look

    kept : IsKept M N h qs b.equations b.posted B raw
    kept = ready_kept M N m.marks area q.shown name h qs at c stack b t.ready

    consistent : IsConsistent M N b.equations b.posted
    consistent = ready_consistent M N m.marks area q.shown name h qs at c stack b t.ready (G, model)

    abbrev look : Substitution
    look = settled_look M N name h valid qs b.equations b.posted B raw kept G most

    is : b.goals ≡ goal.Constrain kind u ∷ t.later
    is = t.goals ∙ ap (λ g. g ∷ t.later) t.is.4

    known : Of B u
    known = of_below b.fresh u (subst (EachBelow b.fresh) is t.ready.below).0

    args_are : arguments (apply look u) ≡ apply_all (λ e. value_at (link_in h e) G e) (terms_by (term_of name h) ds)
    args_are =
        arguments_applied look t.is.0 t.is.1 ∙ after_are (λ e. value_at (link_in h e) G e) raw t.is.1
        ∙ ap (apply_all (λ e. value_at (link_in h e) G e)) (cells_show name h raw (Made t.ready.p b.fresh) t.ready.p c.x t.ready.made.xs 1 t.is.1 ds t.is.3 cells (t.is.2 ∙ sym counted))

    module _ (s : Substitution) (D : Family) (v : IsView M N b.equations b.posted s D) where
      abbrev seen_term : Term
      seen_term = seen s D (constrained b.posted) u

      abbrev seen_row : Result Expansion QueryFault
      seen_row = expand M kind (arguments seen_term) b.fresh

      low : (y : ℕ) → has (variables_of seen_term) y ≡ true → y < b.fresh
      low = variables_on B seen_term (seen_of b.fresh b.equations s v.general kept.stored.heap.scoped D (constrained b.posted) u known)

      abbrev on_held : ℕ → ℕ
      on_held = cell_from M N F b.equations b.posted B look (settled_held M N name h valid qs b.equations b.posted B raw kept G most) G
          (settled_rest M N name h valid qs b.equations b.posted B raw kept G most q model) s D v consistent b.fresh

      same : cells_row ≡ rename_row on_held seen_row
      same =
          ap (λ x. expand M kind x (length h.slots)) (sym args_are)
          ∙ row_same M N F b.equations b.posted B look (settled_held M N name h valid qs b.equations b.posted B raw kept G most) G
          (settled_rest M N name h valid qs b.equations b.posted B raw kept G most q model) s D v consistent b.fresh u known low kind

      gives : offered M N (at_top m.marks) prog b (goal.Constrain kind u) t.later s D ≡ by_constraint b t.later seen_row
      gives = ap (λ x. by_constraint b t.later (expand M kind (arguments x) b.fresh)) (seen_by_variable s D (constrained b.posted) u)

      cells_of : (x : Expansion) → seen_row ≡ Ok x → (y : ℕ) → has (constrained x.ranges) y ≡ true → ((y < b.fresh) × (raw y ≡ Var (on_held y))) ⊎ ((b.fresh ≤ y) × (y < x.fresh))
      cells_of x e y i = elim ((scoped_rows M kind (arguments seen_term) b.fresh x e).named y i) [
        | inl j ↦
            let w = row_cell M N F b.equations b.posted B look (settled_held M N name h valid qs b.equations b.posted B raw kept G most) G
            (settled_rest M N name h valid qs b.equations b.posted B raw kept G most q model) s D v consistent b.fresh u known low y j in
            inl (w.0, unsettled h G (raw y) (on_held y) w.1)
        | inr j ↦ inr j
      ]

    fault : (e : QueryFault) → cells_row ≡ Err e → (es ≡ Fault e ∷ []) × (r ≡ 1)
    fault e i = goal_fault M N area prog q name h qs at c stack cs k es r b consistent (goal.Constrain kind u) t.later is runnable n m one e
        (λ s D v. gives s D v ∙ ap (by_constraint b t.later) (row_fault (on_held s D v) (seen_row s D v) e (sym (same s D v) ∙ i)))

    module _ (y : Expansion) (row : cells_row ≡ Ok y) (now : Cells) (link' : ℕ → Option ℕ) (qs' : List Indexical) (new : Substitution) (ts : List Touch)
        (l : IsRowLinked h now qs y link' qs' new ts) where
      child : (kid : Branch) × GivesAll M N prog q Choice (Waits M N area q.shown name) (at_top m.marks) b (goal.Constrain kind u) t.later (kid ∷ [])
          × Stands M N m.marks area q.shown name now (qs' ++ posts ts) (suc at) c stack kid
          × ((look : Substitution) × IsKept M N now (qs' ++ posts ts) kid.equations kid.posted (λ v. v < kid.fresh) look)
      child =
          let fit : IsFit M b = (subst (λ bs. AreFit M (bs ++ m.others)) one m.ahead.fit).0 in
          let view = has_view M N b.equations b.posted fit.1 consistent in
          let s = view.0 in
          let D = view.1 in
          let v = view.2 in
          let x = was_row (on_held s D v) (seen_row s D v) y (sym (same s D v) ∙ row) in
          let scoped = scoped_rows M kind (arguments (seen_term s D v)) b.fresh x.0 x.1 in
          let kid = with_expansion b t.later x.0 in
          let offers : offered M N (at_top m.marks) prog b (goal.Constrain kind u) t.later s D ≡ by_constraint b t.later (Ok x.0) = gives s D v ∙ ap (by_constraint b t.later) x.1 in
          let linked = subst (λ z. IsRowLinked h now qs z link' qs' new ts) (sym x.2) l in
          let there = here_row (cell_of s D v) x.0 scoped.grows scoped.equated (cells_of s D v x.0 x.1) linked in (
            kid,
            (λ w E i.
                let alike = one_view M N b.equations b.posted w s E D i v in
                subst (λ z. offered M N (at_top m.marks) prog b (goal.Constrain kind u) t.later z E ≡ by_constraint b t.later (Ok x.0)) (sym alike.0)
                (subst (λ Z. offered M N (at_top m.marks) prog b (goal.Constrain kind u) t.later s Z ≡ by_constraint b t.later (Ok x.0)) (sym alike.1) offers)),
            there.0,
            there.1,
          )
        where
          cell_of : (s : Substitution) (D : Family) → IsView M N b.equations b.posted s D → ℕ → ℕ
          cell_of s D v = cell_number M N F b.equations b.posted B look (settled_held M N name h valid qs b.equations b.posted B raw kept G most) G
              (settled_rest M N name h valid qs b.equations b.posted B raw kept G most q model) s D v consistent

          here_row : (at_cell : ℕ → ℕ) (x : Expansion) → b.fresh ≤ x.fresh → AllFresh b.fresh x.fresh x.ranges x.equated
              → ((v : ℕ) → has (constrained x.ranges) v ≡ true → ((v < b.fresh) × (raw v ≡ Var (place_from b.fresh (length h.slots) at_cell v))) ⊎ ((b.fresh ≤ v) × (v < x.fresh)))
              → IsRowLinked h now qs (rename_expansion (place_from b.fresh (length h.slots) at_cell) x) link' qs' new ts
              → Stands M N m.marks area q.shown name now (qs' ++ posts ts) (suc at) c stack (with_expansion b t.later x)
              × ((look : Substitution) × IsKept M N now (qs' ++ posts ts) (with_expansion b t.later x).equations (with_expansion b t.later x).posted
              (λ v. v < x.fresh) look)
          here_row at_cell x grows f named linked =
              let last = row_look M N h now qs b.equations b.posted b.fresh raw kept at_cell x grows f named link' qs' new ts linked in
              let old : (w : ℕ) → w < b.fresh → last w ≡ apply new (raw w) = λ w i. ap (apply new)
              (look_old M N h now qs b.equations b.posted b.fresh raw kept at_cell x grows f named link' qs' new ts linked w i) in
              let then' = kept_row M N h now qs b.equations b.posted b.fresh raw kept at_cell x grows f named link' qs' new ts linked in (
                taken_on M N m.marks area q.shown name h qs at c stack b (λ p. ConstrainRule kind p) t (with_expansion b t.later x) refl grows now (qs' ++ posts ts) last then'
                    (λ w d o i e. (linked.own d i, agree B last (after new raw) old w o ∙ after_is new raw w ∙ ap (apply new) e ∙ sym (linked.terms name d i))),
                (last, then'),
              )

      on : Spends (Runs M N area prog q name now (qs' ++ posts ts) (suc at) c stack cs n k) [] es r
      on =
          let o = child in
          goal_one M N area prog q name h qs at c stack cs k es r b consistent (goal.Constrain kind u) t.later is runnable n m one (λ i. refl) o.0 [] o.1
          (λ s D v. refl) now (qs' ++ posts ts) (suc at) c stack o.2

      off : ((S : Family) → IsModel M N [] (qs' ++ posts ts) S → ⊥) → Spends (Returns M N area prog q name cs n k) [] es r
      off none =
          let o = child in
          goal_gone M N area prog q name h qs at c stack cs k es r b consistent (goal.Constrain kind u) t.later is runnable n m one (λ i. refl) o.0 [] o.1 (λ s D v. refl)
          (kept_no_model M N now (qs' ++ posts ts) o.0.equations o.0.posted (λ v. v < o.0.fresh) o.3.0 o.3.1 none)

  module _ (f : Holds area at (code.Constrain kind)) where
    here : (b : Branch) × Takes b × (m.first ≡ b ∷ [])
    here =
        let s = goes_inside M N m.marks area q.shown name h qs at c stack m.first m.here (code.Constrain kind) tt f in
        (s.0, taking M N m.marks area q.shown name h qs at c stack s.0 (λ p. ConstrainRule kind p) (code.Constrain kind) (λ w p es r. r) f s.1, s.2)

    -- the row is a fault
    pub run_constraint_fault : (e : QueryFault) → cells_row ≡ Err e → (es ≡ Fault e ∷ []) × (r ≡ 1)
    run_constraint_fault = let s = here in fault s.0 s.1 s.2

    module _ (y : Expansion) (row : cells_row ≡ Ok y) (now : Cells) (link' : ℕ → Option ℕ) (qs' : List Indexical) (new : Substitution) (ts : List Touch)
        (l : IsRowLinked h now qs y link' qs' new ts) where
      -- the row's ranges and equations are made
      pub run_constraint : Spends (Runs M N area prog q name now (qs' ++ posts ts) (suc at) c stack cs n k) [] es r
      run_constraint = let s = here in on s.0 s.1 s.2 y row now link' qs' new ts l

      -- and the store has no model with them
      pub run_constraint_failed : ((S : Family) → IsModel M N [] (qs' ++ posts ts) S → ⊥) → Spends (Returns M N area prog q name cs n k) [] es r
      run_constraint_failed = let s = here in off s.0 s.1 s.2 y row now link' qs' new ts l
