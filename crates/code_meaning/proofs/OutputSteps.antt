-- The steps from `write` and `nl`.
use Rattle.std.proofs.Common.{◌≡◌, ℕ, suc, ◌<◌, List, [], ◌∷◌, Option, Some, refl, ap, sym, ◌∙◌, subst}
use Rattle.fd_model.specs.declared.kinds.BuiltinKind.TheVariants as kind
use Rattle.fd_language.specs.Term.{Name, Term, Terms, no_terms, term, apply}
use Rattle.fd_language.specs.Family.{Family, IsInside}
use Rattle.fd_language.specs.Range.{Indexical}
use Rattle.fd_language.specs.Variables.{TermBelow}
use Rattle.fd_language.specs.TermTexts.{Plain, term_text}
use Rattle.fd_model.specs.Builtins.{first_argument}
use Rattle.fd_model.specs.Children.{with_goals}
use Rattle.fd_model.specs.ClosedFamilies.{constrained}
use Rattle.fd_model.specs.Goal.{Program, Query, Event, Wrote, Newline}
use Rattle.fd_model.specs.Goal as goal
use Rattle.fd_model.specs.Lines.{only_argument, written_text}
use Rattle.fd_model.specs.Models.{IsModel}
use Rattle.fd_model.specs.BranchViews.{seen}
use Rattle.fd_model.specs.RunnablePrograms.{IsRunnableProgram, EachBelow}
use Rattle.fd_model.proofs.Lemmas.{first_below}
use Rattle.heap_cells.specs.declared.Cell.{Cell}
use Rattle.heap_cells.specs.Cells.{Cells}
use Rattle.heap_cells.specs.Terms.{Naming, term_of}
use Rattle.heap_cells.specs.HeapInvariant.{IsHeap}
use Rattle.branch_meaning.specs.RemainingEvents.{Spends}
use Rattle.branch_meaning.specs.Heap.{Of}
use Rattle.fd_language.specs.SingleValues.{value_at}
use Rattle.branch_meaning.specs.HeldBranches.{HeldState, fixed_held}
use Rattle.branch_meaning.specs.Models.{HasModel}
use Rattle.branch_meaning.specs.AnswerTexts.{cell_text}
use Rattle.branch_meaning.proofs.Lemmas.{written_same, after_is, of_below}
use Rattle.branch_lemmas.specs.Frames.{link_in, held_of}
use Rattle.branch_lemmas.specs.SeenHeap.{read_term}
use Rattle.branch_lemmas.proofs.Lemmas.{settled_look, settled_held, settled_rest}
use Rattle.wam_code.specs.declared.instruction.Code.TheVariants as code
use Rattle.wam_code.specs.Area.{Area, Holds}
use Rattle.wam_code.specs.Places.{made}
use Rattle.wam_code.specs.CodeMeaning.{BuiltinRule}
use Rattle.code_meaning.specs.Registers.{Registers, Saved}
use Rattle.code_meaning.specs.StateMeaning.{Made}
use Rattle.code_meaning.specs.MachineStates.{Choice, Runs}
use Rattle.code_meaning.proofs.Arguments.{first_shows}
use Rattle.code_meaning.proofs.Goals.{at_builtin}
use Rattle.code_meaning.proofs.GoalStates.{ready_kept, ready_consistent, taken_same, goal_one}

only_first : (f : Name) (ts : Terms) → only_argument (made f ts) ≡ first_argument (made f ts)
only_first f no_terms = refl
only_first f (term t ts) = refl

module _ (M N : ℕ) (area : Area) (prog : Program) (q : Query) (name : Naming) (h : Cells) (valid : IsHeap h) (qs : List Indexical) (at : ℕ) (c : Registers)
    (stack : List Saved) (cs : List Choice) (k : Option ℕ) (es : List Event) (r : ℕ)
    (runnable : IsRunnableProgram M prog) (n : ℕ) where
  pub run_newline : (model : HasModel M N qs) → Runs M N area prog q name h qs at c stack cs (suc n) k es r → Holds area at (code.Builtin kind.Nl)
      → Spends (Runs M N area prog q name h qs (suc at) c stack cs n k) (Newline ∷ []) es r
  run_newline model m f =
      let s = at_builtin M N area prog q name h qs at c stack cs k es r runnable n model m kind.Nl f in
      let b = s.0 in
      let t = s.1 in
      let u = made t.is.0 t.is.1 in
      goal_one M N area prog q name h qs at c stack cs k es r b (ready_consistent M N m.marks area q.shown name h qs at c stack b t.ready model)
      (goal.Builtin kind.Nl u) t.later (t.goals ∙ ap (λ g. g ∷ t.later) t.is.4) runnable n m s.2 (λ i. refl) (with_goals b t.later) (Newline ∷ [])
      (λ w D v. refl) (λ w D v. refl) h qs (suc at) c stack (taken_same M N m.marks area q.shown name h qs at c stack b (λ p. BuiltinRule kind.Nl p) t (with_goals b t.later) refl refl refl refl)

  module _ (G : Family) (model : IsModel M N [] qs G) (most : (R : Family) → IsModel M N [] qs R → IsInside R G) where
    abbrev F : HeldState
    F = fixed_held (held_of name h qs) G

    -- the text of a term of the heap
    abbrev pub written : Term → List ℕ
    written x = term_text Plain (cell_text F G (term x no_terms)) 1200 x

    -- d is the cell of what is written
    pub run_write : (d : Cell) → c.x 1 ≡ Some d → Runs M N area prog q name h qs at c stack cs (suc n) k es r → Holds area at (code.Builtin kind.Write)
        → Spends (Runs M N area prog q name h qs (suc at) c stack cs n k) (Wrote (written (read_term h G (term_of name h d))) ∷ []) es r
    run_write d at_d m f =
        let s = at_builtin M N area prog q name h qs at c stack cs k es r runnable n (G, model) m kind.Write f in
        let b = s.0 in
        let t = s.1 in
        let P : ℕ → Type 0 = λ v. v < b.fresh in
        let raw = t.ready.made.look in
        let kept = ready_kept M N m.marks area q.shown name h qs at c stack b t.ready in
        let consistent = ready_consistent M N m.marks area q.shown name h qs at c stack b t.ready (G, model) in
        let whole = made t.is.0 t.is.1 in
        let is : b.goals ≡ goal.Builtin kind.Write whole ∷ t.later = t.goals ∙ ap (λ g. g ∷ t.later) t.is.4 in
        let low : TermBelow b.fresh whole = (subst (EachBelow b.fresh) is t.ready.below).0 in
        let u = first_argument whole in
        let known : Of P u = of_below b.fresh u (first_below b.fresh whole low) in
        let look = settled_look M N name h valid qs b.equations b.posted P raw kept G most in
        let held = settled_held M N name h valid qs b.equations b.posted P raw kept G most in
        let at_rest = settled_rest M N name h valid qs b.equations b.posted P raw kept G most q model in
        let term_is : apply look u ≡ read_term h G (term_of name h d) = after_is (λ e. value_at (link_in h e) G e) raw u
        ∙ ap (read_term h G) (first_shows name h raw (Made t.ready.p b.fresh) t.ready.p c.x t.ready.made.xs t.is.0 t.is.1 t.is.3 0 t.is.2 d at_d) in
        goal_one M N area prog q name h qs at c stack cs k es r b consistent (goal.Builtin kind.Write whole) t.later is runnable n m s.2 (λ i. refl)
        (with_goals b t.later) (Wrote (written (read_term h G (term_of name h d))) ∷ [])
        (λ w D v. refl)
        (λ w D v. ap (λ x. Wrote (written_text (constrained b.posted) w D (seen w D (constrained b.posted) x)) ∷ []) (only_first t.is.0 t.is.1)
        ∙ ap (λ x. Wrote x ∷ []) (sym (written_same M N F b.equations b.posted P look held G at_rest w D v consistent u known) ∙ ap written term_is))
        h qs (suc at) c stack (taken_same M N m.marks area q.shown name h qs at c stack b (λ p. BuiltinRule kind.Write p) t (with_goals b t.later) refl refl refl refl)
