-- The steps from a built-in goal, by what it comes to on the heap and the store's sets.
use Rattle.std.proofs.Common.{◌≡◌, ℕ, suc, ◌<◌, ◌⊎◌, Bool, true, false, List, [], ◌∷◌, ◌++◌, Option, Some, refl, ap, sym, ◌∙◌, subst, inl, inr}
use Rattle.fd_model.specs.declared.kinds.QueryFault.{QueryFault}
use Rattle.fd_model.specs.declared.kinds.BuiltinKind.{BuiltinKind}
use Rattle.fd_language.specs.Term.{Term, Substitution, apply}
use Rattle.fd_language.specs.Family.{Family, IsInside}
use Rattle.fd_language.specs.Range.{Indexical}
use Rattle.fd_language.specs.Variables.{TermBelow}
use Rattle.fd_language.proofs.Lemmas.{two}
use Rattle.fd_model.specs.Builtins.{Finding, faulted, decided, equated, found, first_argument, second_argument}
use Rattle.fd_model.specs.Children.{with_goals, with_equations, Gives, by_finding}
use Rattle.fd_model.specs.ClosedFamilies.{constrained}
use Rattle.fd_model.specs.Goal.{Goal, Program, Query, Branch, Event, Fault}
use Rattle.fd_model.specs.Goal as goal
use Rattle.fd_model.specs.Lines.{says}
use Rattle.fd_model.specs.Models.{IsModel}
use Rattle.fd_model.specs.BranchViews.{IsConsistent, seen, set_at, IsView}
use Rattle.fd_model.specs.RunnablePrograms.{IsRunnableProgram, EachBelow}
use Rattle.fd_model.proofs.Lemmas.{SameFinding, IsFindingBelow, found_below, first_below, second_below, has_view, one_view}
use Rattle.heap_cells.specs.declared.Cell.{Cell}
use Rattle.heap_cells.specs.Cells.{Cells}
use Rattle.heap_cells.specs.Terms.{Naming, term_of}
use Rattle.heap_cells.specs.HeapInvariant.{IsHeap}
use Rattle.unify_core.specs.declared.Touch.{Touch}
use Rattle.unify_core.specs.PairReduction.{IsSameSize}
use Rattle.unify_core.specs.Touches.{IsRefuted}
use Rattle.unify_core.specs.Unifications as core
use Rattle.unify_core.specs.Unifications.{cells_equal}
use Rattle.branch_meaning.specs.RemainingEvents.{at_top, offered, IsFit, AreFit, Spends}
use Rattle.branch_meaning.specs.Heap.{Of}
use Rattle.fd_language.specs.SingleValues.{value_at}
use Rattle.branch_meaning.specs.HeldBranches.{HeldState, fixed_held}
use Rattle.branch_meaning.specs.AnswerTexts.{cell_set}
use Rattle.branch_meaning.specs.Store.{posts}
use Rattle.branch_meaning.proofs.Lemmas.{found_same, after_is, of_below, seen_by_variable, GivesAll}
use Rattle.branch_lemmas.specs.Frames.{link_in, store_touches, held_of, IsKept}
use Rattle.branch_lemmas.specs.SeenHeap.{read_term, heap_finding}
use Rattle.branch_lemmas.proofs.Lemmas.{settled_look, settled_held, settled_rest}
use Rattle.wam_code.specs.declared.instruction.Code.TheVariants as code
use Rattle.fd_model.specs.Arities.{builtin_arity}
use Rattle.wam_code.specs.Area.{Area, Holds}
use Rattle.wam_code.specs.Places.{Places, made}
use Rattle.wam_code.specs.CodeMeaning.{NamedRule, BuiltinRule}
use Rattle.code_meaning.specs.Registers.{Registers, Saved}
use Rattle.code_meaning.specs.StateMeaning.{Made}
use Rattle.code_meaning.specs.MachineStates.{Choice, Waits, IsTaking, Runs, Returns}
use Rattle.code_meaning.proofs.Arguments.{first_shows, second_shows}
use Rattle.code_meaning.proofs.Goals.{taken_equal, taken_unequal}
use Rattle.code_meaning.proofs.GoalStates.{ready_kept, ready_consistent, taking, taken_same, goal_fault, goal_one, goal_gone, goal_none}
use Rattle.code_meaning.proofs.MachineStates.{goes_inside}

was_faulted : (raw : Substitution) (f : Finding) (e : QueryFault) → SameFinding raw f (faulted e) → f ≡ faulted e
was_faulted raw (faulted x) e h = sym h
was_faulted raw (decided b) e h = absurd (cc)
was_faulted raw (equated l r) e h = absurd (cc)

was_decided : (raw : Substitution) (f : Finding) (b : Bool) → SameFinding raw f (decided b) → f ≡ decided b
was_decided raw (faulted x) b h = absurd (cc)
was_decided raw (decided c) b h = sym h
was_decided raw (equated l r) b h = absurd (cc)

was_equated : (raw : Substitution) (f : Finding) (l r : Term) → SameFinding raw f (equated l r) → (a : Term) × (b : Term) × (f ≡ equated a b) × (apply raw a ≡ l) × (apply raw b ≡ r)
was_equated raw (faulted x) l r h = absurd (cc)
was_equated raw (decided c) l r h = absurd (cc)
was_equated raw (equated a b) l r h = (a, b, refl, (cc), (cc))

-- d is the cell of the first argument, and e that of the second one, or of the only one too.
module _ (M N : ℕ) (area : Area) (prog : Program) (q : Query) (name : Naming) (h : Cells) (valid : IsHeap h) (qs : List Indexical) (at : ℕ) (c : Registers)
    (stack : List Saved) (cs : List Choice) (k : Option ℕ) (es : List Event) (r : ℕ)
    (runnable : IsRunnableProgram M prog) (n : ℕ) (G : Family) (model : IsModel M N [] qs G) (most : (R : Family) → IsModel M N [] qs R → IsInside R G)
    (m : Runs M N area prog q name h qs at c stack cs (suc n) k es r)
    (kind : BuiltinKind) (quiet : (s : Substitution) (D : Family) (b : Branch) (t : Term) → says s D b (goal.Builtin kind t) ≡ [])
    (named : (p : Places) (g : Goal) → BuiltinRule kind p g → NamedRule (builtin_arity kind) (goal.Builtin kind) p g)
    (d e : Cell) (at_d : c.x 1 ≡ Some d) (at_e : ((builtin_arity kind ≡ 1) × (e ≡ d)) ⊎ ((builtin_arity kind ≡ 2) × (c.x 2 ≡ Some e))) where
  abbrev Rule : Places → Goal → Type 0
  Rule p g = NamedRule (builtin_arity kind) (goal.Builtin kind) p g

  abbrev Takes : Branch → Type 0
  Takes b = IsTaking M N m.marks area q.shown name h qs at c stack b Rule

  abbrev on_heap : Finding
  on_heap = heap_finding name h qs G kind (term_of name h d) (term_of name h e)

  some : (i : ℕ) → ((i ≡ 1) × (e ≡ d)) ⊎ ((i ≡ 2) × (c.x 2 ≡ Some e)) → (j : ℕ) × (i ≡ suc j)
  some i (inl w) = (0, w.0)
  some i (inr w) = (1, w.0)

  module _ (b : Branch) (t : Takes b) (one : m.first ≡ b ∷ []) where
    abbrev u : Term
    u = made t.is.0 t.is.1

    abbrev g : Goal
    g = goal.Builtin kind u

    abbrev P : ℕ → Type 0
    P v = v < b.fresh

    abbrev F : HeldState
    F = fixed_held (held_of name h qs) G

    abbrev raw : Substitution
    raw = t.ready.made.look

    kept : IsKept M N h qs b.equations b.posted P raw
    kept = ready_kept M N m.marks area q.shown name h qs at c stack b t.ready

    consistent : IsConsistent M N b.equations b.posted
    consistent = ready_consistent M N m.marks area q.shown name h qs at c stack b t.ready (G, model)

    abbrev look : Substitution
    look = settled_look M N name h valid qs b.equations b.posted P raw kept G most

    abbrev first : Term
    first = first_argument u

    abbrev second : Term
    second = second_argument u

    is : b.goals ≡ g ∷ t.later
    is = t.goals ∙ ap (λ x. x ∷ t.later) t.is.4

    low : TermBelow b.fresh u
    low = (subst (EachBelow b.fresh) is t.ready.below).0

    low_first : TermBelow b.fresh first
    low_first = first_below b.fresh u low

    low_second : TermBelow b.fresh second
    low_second = second_below b.fresh u low

    raw_first : apply raw first ≡ term_of name h d
    raw_first = let i = some (builtin_arity kind) at_e in first_shows name h raw (Made t.ready.p b.fresh) t.ready.p c.x t.ready.made.xs t.is.0 t.is.1 t.is.3 i.0 (t.is.2 ∙ i.1) d at_d

    raw_second : apply raw second ≡ term_of name h e
    raw_second = second_shows name h raw (Made t.ready.p b.fresh) t.ready.p c.x t.ready.made.xs t.is.0 t.is.1 t.is.3 (builtin_arity kind) t.is.2 d e at_d at_e

    read_first : apply look first ≡ read_term h G (term_of name h d)
    read_first = after_is (λ i. value_at (link_in h i) G i) raw first ∙ ap (read_term h G) raw_first

    read_second : apply look second ≡ read_term h G (term_of name h e)
    read_second = after_is (λ i. value_at (link_in h i) G i) raw second ∙ ap (read_term h G) raw_second

    module _ (s : Substitution) (D : Family) (v : IsView M N b.equations b.posted s D) where
      abbrev in_branch : Finding
      in_branch = found kind (set_at s D (constrained b.posted)) first second (seen s D (constrained b.posted) first) (seen s D (constrained b.posted) second)

      same : SameFinding raw in_branch on_heap
      same =
          let held = settled_held M N name h valid qs b.equations b.posted P raw kept G most in
          let at_rest = settled_rest M N name h valid qs b.equations b.posted P raw kept G most q model in
          let one = found_same M N F b.equations b.posted P look held G at_rest s D v consistent kind raw first second (of_below b.fresh first low_first) (of_below b.fresh second low_second) in
          subst (λ w. SameFinding raw in_branch (found kind (λ i. cell_set G (F.link i)) (term_of name h d) (term_of name h e) (read_term h G (term_of name h d)) w)) read_second
          (subst (λ w. SameFinding raw in_branch (found kind (λ i. cell_set G (F.link i)) (term_of name h d) (term_of name h e) w (apply look second))) read_first
          (subst (λ w. SameFinding raw in_branch (found kind (λ i. cell_set G (F.link i)) (term_of name h d) w (apply look first) (apply look second))) raw_second
          (subst (λ w. SameFinding raw in_branch (found kind (λ i. cell_set G (F.link i)) w (apply raw second) (apply look first) (apply look second))) raw_first one)))

      gives : (f : Finding) → in_branch ≡ f → offered M N (at_top m.marks) prog b g t.later s D ≡ by_finding b t.later f
      gives f i =
          two (λ x y. by_finding b t.later (found kind (set_at s D (constrained b.posted)) first second x y))
          (seen_by_variable s D (constrained b.posted) first) (seen_by_variable s D (constrained b.posted) second)
          ∙ ap (by_finding b t.later) i

    fault : (x : QueryFault) → on_heap ≡ faulted x → (es ≡ Fault x ∷ []) × (r ≡ 1)
    fault x i = goal_fault M N area prog q name h qs at c stack cs k es r b consistent g t.later is runnable n m one x
        (λ s D v. gives s D v (faulted x) (was_faulted raw (in_branch s D v) x (subst (SameFinding raw (in_branch s D v)) i (same s D v))))

    holds : on_heap ≡ decided true → Spends (Runs M N area prog q name h qs (suc at) c stack cs n k) [] es r
    holds i = goal_one M N area prog q name h qs at c stack cs k es r b consistent g t.later is runnable n m one (λ i. refl) (with_goals b t.later) []
        (λ s D v. gives s D v (decided true) (was_decided raw (in_branch s D v) true (subst (SameFinding raw (in_branch s D v)) i (same s D v)))) (λ s D v. quiet s D b u)
        h qs (suc at) c stack (taken_same M N m.marks area q.shown name h qs at c stack b Rule t (with_goals b t.later) refl refl refl refl)

    fails : on_heap ≡ decided false → Spends (Returns M N area prog q name cs n k) [] es r
    fails i = goal_none M N area prog q name h qs at c stack cs k es r b consistent g t.later is runnable n m one (λ i. refl) []
        (λ s D v. gives s D v (decided false) (was_decided raw (in_branch s D v) false (subst (SameFinding raw (in_branch s D v)) i (same s D v)))) (λ s D v. quiet s D b u)

    -- two terms are to be equal, whose cells are x and y
    module _ (x y : Cell) (i : on_heap ≡ equated (term_of name h x) (term_of name h y)) where
      abbrev Kid : Term → Term → Branch
      Kid l w = with_equations b t.later (record { left = l; right = w } ∷ []) b.fresh

      kid : (l : Term) × (w : Term) × GivesAll M N prog q Choice (Waits M N area q.shown name) (at_top m.marks) b g t.later (Kid l w ∷ []) × (Of P l × Of P w)
          × (apply raw l ≡ term_of name h x) × (apply raw w ≡ term_of name h y)
      kid =
          let fit : IsFit M b = (subst (λ bs. AreFit M (bs ++ m.others)) one m.ahead.fit).0 in
          let view = has_view M N b.equations b.posted fit.1 consistent in
          let s = view.0 in
          let D = view.1 in
          let v = view.2 in
          let was = was_equated raw (in_branch s D v) (term_of name h x) (term_of name h y) (subst (SameFinding raw (in_branch s D v)) i (same s D v)) in
          let lows : IsFindingBelow b.fresh (equated was.0 was.1) = subst (IsFindingBelow b.fresh) was.2
          (found_below b.fresh kind (set_at s D (constrained b.posted)) first second (seen s D (constrained b.posted) first)
          (seen s D (constrained b.posted) second) low_first low_second) in (
            was.0,
            was.1,
            (λ w E o.
                let alike = one_view M N b.equations b.posted w s E D o v in
                subst (λ z. offered M N (at_top m.marks) prog b g t.later z E ≡ Gives (Kid was.0 was.1 ∷ [])) (sym alike.0)
                (subst (λ Z. offered M N (at_top m.marks) prog b g t.later s Z ≡ Gives (Kid was.0 was.1 ∷ [])) (sym alike.1) (gives s D v (equated was.0 was.1) was.2))),
            (of_below b.fresh was.0 lows.0, of_below b.fresh was.1 lows.1),
            was.3,
            was.4,
          )

      unequal : IsRefuted h (cells_equal name h x y) → Spends (Returns M N area prog q name cs n k) [] es r
      unequal no_one =
          let o = kid in
          goal_gone M N area prog q name h qs at c stack cs k es r b consistent g t.later is runnable n m one (λ i. refl) (Kid o.0 o.1) [] o.2 (λ s D v. quiet s D b u)
          (taken_unequal M N m.marks area q.shown name h qs at c stack b Rule t o.0 o.1 x y o.3 o.4 o.5 no_one)

      equal : (now : Cells) (ts : List Touch) → core.IsUnified name h x y now ts → IsSameSize h now
          → Spends (Runs M N area prog q name now (qs ++ posts (store_touches ts)) (suc at) c stack cs n k) [] es r
      equal now ts z size =
          let o = kid in
          goal_one M N area prog q name h qs at c stack cs k es r b consistent g t.later is runnable n m one (λ i. refl) (Kid o.0 o.1) [] o.2 (λ s D v. quiet s D b u)
          now (qs ++ posts (store_touches ts)) (suc at) c stack (taken_equal M N m.marks area q.shown name h qs at c stack b Rule t o.0 o.1 x y o.3 o.4 o.5 now ts z size)

  module _ (f : Holds area at (code.Builtin kind)) where
    here : (b : Branch) × Takes b × (m.first ≡ b ∷ [])
    here =
        let s = goes_inside M N m.marks area q.shown name h qs at c stack m.first m.here (code.Builtin kind) tt f in
        (s.0, taking M N m.marks area q.shown name h qs at c stack s.0 Rule (code.Builtin kind) (λ w p es r. (r.0, r.1, r.2, named p r.0 r.3, r.4, r.5, r.6, r.7)) f s.1, s.2)

    pub run_found_fault : (x : QueryFault) → on_heap ≡ faulted x → (es ≡ Fault x ∷ []) × (r ≡ 1)
    run_found_fault = let s = here in fault s.0 s.1 s.2

    -- the goal holds
    pub run_found_true : on_heap ≡ decided true → Spends (Runs M N area prog q name h qs (suc at) c stack cs n k) [] es r
    run_found_true = let s = here in holds s.0 s.1 s.2

    -- it doesn't hold
    pub run_found_false : on_heap ≡ decided false → Spends (Returns M N area prog q name cs n k) [] es r
    run_found_false = let s = here in fails s.0 s.1 s.2

    -- Two terms are to be equal, whose cells are x and y: they can't be, or they are now, and what was touched is posted.
    module _ (x y : Cell) (i : on_heap ≡ equated (term_of name h x) (term_of name h y)) where
      pub run_found_refuted : IsRefuted h (cells_equal name h x y) → Spends (Returns M N area prog q name cs n k) [] es r
      run_found_refuted = let s = here in unequal s.0 s.1 s.2 x y i

      pub run_found_equated : (now : Cells) (ts : List Touch) → core.IsUnified name h x y now ts → IsSameSize h now
          → Spends (Runs M N area prog q name now (qs ++ posts (store_touches ts)) (suc at) c stack cs n k) [] es r
      run_found_equated = let s = here in equal s.0 s.1 s.2 x y i
