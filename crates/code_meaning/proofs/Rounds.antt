-- The numbers that a search has found are taken, one after the other, by the variables that the labelling picks.
use Rattle.std.proofs.Common.{◌≡◌, ℕ, suc, ◌<◌, Bool, pos, List, [], ◌∷◌, ◌++◌, length, Option, Some, None, Ok, refl, ap, sym, ◌∙◌, subst, inl, inr}
use Rattle.fd_language.specs.Family.{Family, IsInside}
use Rattle.fd_language.specs.Range.{Indexical}
use Rattle.fd_language.specs.SingleValues.{value_at}
use Rattle.fd_language.specs.Term.{Term, Var, Int, Substitution, apply}
use Rattle.fd_language.specs.Unifier.{IsMostGeneral}
use Rattle.fd_model.specs.declared.kinds.Order.{Order}
use Rattle.fd_model.specs.declared.kinds.QueryFault.{QueryFault}
use Rattle.fd_model.specs.Children.{by_value, look_in, with_goals, is_number}
use Rattle.fd_model.specs.ClosedFamilies.{constrained}
use Rattle.fd_model.specs.Goal.{Label, Program, Query, Branch, Event}
use Rattle.fd_model.specs.Labelling.{read_list, pick, values_by}
use Rattle.fd_model.specs.Members.{Member}
use Rattle.fd_model.specs.Models.{IsModel}
use Rattle.fd_model.specs.BranchViews.{IsConsistent, IsView, seen, set_at}
use Rattle.fd_model.specs.RunnablePrograms.{EachBelow}
use Rattle.heap_cells.specs.declared.Cell.{Cell}
use Rattle.heap_cells.specs.declared.Cell.TheVariants as cell
use Rattle.heap_cells.specs.Cells.{Cells}
use Rattle.heap_cells.specs.Terms.{Naming, term_of}
use Rattle.heap_cells.specs.HeapInvariant.{IsHeap}
use Rattle.heap_cells.proofs.Lemmas.{term-Int}
use Rattle.unify_core.specs.declared.Touch.{Touch}
use Rattle.unify_core.specs.PairReduction.{IsSameSize}
use Rattle.unify_core.specs.Touches.{IsRefuted}
use Rattle.unify_core.specs.Unifications as core
use Rattle.unify_core.specs.Unifications.{cells_equal}
use Rattle.branch_meaning.specs.RemainingEvents.{Ahead}
use Rattle.branch_meaning.specs.AnswerTexts.{cell_set}
use Rattle.branch_meaning.specs.Heap.{after, Of, Below}
use Rattle.branch_meaning.specs.HeldBranches.{HeldState, IsHeld, IsAtRest, fixed_held}
use Rattle.branch_meaning.specs.Labelling.{Labelled, faults, done, labels, labelled, by_listing, by_picked}
use Rattle.branch_meaning.specs.Models.{HasModel}
use Rattle.branch_meaning.specs.Store.{posts}
use Rattle.branch_meaning.proofs.Lemmas.{after_is, functions, label_there, label_done, label_faults, label_in, of_below, seen_of, variables_on}
use Rattle.branch_meaning.proofs.Lemmas.{seen_by_variable}
use Rattle.branch_lemmas.specs.Frames.{link_in, store_touches, held_of, IsKept}
use Rattle.branch_lemmas.specs.SeenHeap.{read_term, heap_label}
use Rattle.branch_lemmas.proofs.Lemmas.{unsettled, settled_look, settled_held, settled_rest}
use Rattle.sought_leaves.specs.LeafSearch.{found_at, Takes}
use Rattle.sought_leaves.proofs.Lemmas.{branch_model, number_alone, number_stays, put_number, takes_either}
use Rattle.wam_code.specs.Area.{Area}
use Rattle.wam_code.specs.CodeMeaning.{BestRule}
use Rattle.code_meaning.specs.BestLeafSearch.{Leads}
use Rattle.code_meaning.specs.Registers.{Registers, Saved, IsShown}
use Rattle.code_meaning.specs.StateMeaning.{Made, IsMade}
use Rattle.code_meaning.specs.MachineStates.{Choice, IsReady, IsTaking, Runs}
use Rattle.code_meaning.proofs.Arguments.{cell_shows}
use Rattle.code_meaning.proofs.Labelling.{made_asked, asked_look}
use Rattle.code_meaning.proofs.BranchEquations.{made_unified, made_refuted, unified_look}
use Rattle.code_meaning.proofs.GoalStates.{ready_kept, taken_same}
use Rattle.code_meaning.proofs.RestatedEquations.{all_made}

module _ (M N : ℕ) (area : Area) (prog : Program) (q : Query) (name : Naming) (h : Cells) (qs : List Indexical) (at : ℕ) (c : Registers) (stack : List Saved) (cs : List Choice) (n : ℕ)
    (k : Option ℕ) (es : List Event) (r : ℕ)
    (o : Order) (least : Bool) (cells numbers : List ℕ) (left : ℕ) (m : Leads M N area prog q name o least cells numbers left h qs at c stack cs n k es r) where
  abbrev at_branch : Branch
  at_branch = m.branch

  at_rest : IsKept M N h qs at_branch.equations at_branch.posted (λ v. v < at_branch.fresh) m.taking.ready.made.look
  at_rest = ready_kept M N m.marks area q.shown name h qs at c stack at_branch m.taking.ready

  -- the store has a model
  pub lead_model : HasModel M N qs
  lead_model =
      let w = branch_model M N at_branch.equations at_branch.posted m.monotone m.consistent in
      let u = at_rest.stored.up w.0 w.1 in
      (u.0, u.1)

module _ (M N : ℕ) (area : Area) (prog : Program) (q : Query) (name : Naming) (h : Cells) (valid : IsHeap h) (qs : List Indexical) (at : ℕ) (c : Registers) (stack : List Saved)
    (cs : List Choice) (n : ℕ) (k : Option ℕ) (es : List Event) (r : ℕ)
    (o : Order) (least : Bool) (cells numbers : List ℕ) (left : ℕ) (m : Leads M N area prog q name o least cells numbers left h qs at c stack cs n k es r) where
  abbrev b : Branch
  b = m.branch

  abbrev t : IsTaking M N m.marks area q.shown name h qs at c stack b (λ p. BestRule o least p)
  t = m.taking

  abbrev list : Term
  list = t.is.0

  abbrev P : ℕ → Type 0
  P v = v < b.fresh

  abbrev raw : Substitution
  raw = t.ready.made.look

  kept : IsKept M N h qs b.equations b.posted P raw
  kept = ready_kept M N m.marks area q.shown name h qs at c stack b t.ready

  list_known : Of P list
  list_known = of_below b.fresh list (subst (EachBelow b.fresh) (t.goals ∙ ap (λ x. x ∷ t.later) t.is.4) t.ready.below).0.0

  module _ (G : Family) (model : IsModel M N [] qs G) (most : (R : Family) → IsModel M N [] qs R → IsInside R G) (d : Cell) (at_d : c.x 1 ≡ Some d) where
    abbrev F : HeldState
    F = fixed_held (held_of name h qs) G

    -- what the labelling does now
    abbrev outcome : Labelled
    outcome = heap_label M N name h qs G o (read_term h G (term_of name h d))

    abbrev look : Substitution
    look = settled_look M N name h valid qs b.equations b.posted P raw kept G most

    abbrev here : ℕ → List ℕ
    here x = values_by N (cell_set G (F.link x))

    on_heap : labelled o here (apply look list) ≡ outcome
    on_heap = ap (labelled o here) (
        after_is (λ e. value_at (link_in h e) G e) raw list
        ∙ ap (read_term h G) (cell_shows name h raw (Made t.ready.p b.fresh) t.ready.p c.x t.ready.made.xs 1 list d t.is.2 at_d).1)

    -- by a view with which the list has members
    module _ (s : Substitution) (D : Family) (ms : List Member) (view : IsView M N b.equations b.posted s D) (read : read_list (apply (look_in b s D) list) ≡ Ok ms) where
      abbrev there : ℕ → List ℕ
      there y = values_by N (set_at s D (constrained b.posted) y)

      seen_is : labelled o there (seen s D (constrained b.posted) list) ≡ by_picked there (pick o there ms)
      seen_is = ap (by_listing o there) (ap read_list (sym (seen_by_variable s D (constrained b.posted) list)) ∙ read)

      held : IsHeld M N F b.equations b.posted P look
      held = settled_held M N name h valid qs b.equations b.posted P raw kept G most

      rest : IsAtRest M N F G
      rest = settled_rest M N name h valid qs b.equations b.posted P raw kept G most q model

      no_fault : (f : QueryFault) → outcome ≡ faults f → ⊥
      no_fault f e = by_pick (pick o there ms) (sym seen_is ∙ label_faults M N F b.equations b.posted P look held G rest s D view m.consistent o list list_known f (on_heap ∙ e))
        where
          by_pick : (p : Option ℕ) → by_picked there p ≡ faults f → ⊥
          by_pick None i = cc
          by_pick (Some x) i = cc

      no_more : (x : ℕ) → pick o there ms ≡ Some x → outcome ≡ done → ⊥
      no_more x p e =
          let i = label_done M N F b.equations b.posted P look held G rest s D view m.consistent o list list_known (on_heap ∙ e) in
          let j : labels x (there x) ≡ done = sym (ap (by_picked there) p) ∙ sym seen_is ∙ i in
          cc

      picked_none : (v : ℕ) (vs : List ℕ) → pick o there ms ≡ None → outcome ≡ labels v vs → ⊥
      picked_none v vs p e =
          let i = label_there M N F b.equations b.posted P look held G rest s D view m.consistent o list list_known v vs (on_heap ∙ e) in
          let j : done ≡ labels i.0 vs = sym (ap (by_picked there) p) ∙ sym seen_is ∙ i.1 in
          cc

      -- the picked variable is the cell
      picked_cell : (x v : ℕ) (vs : List ℕ) → pick o there ms ≡ Some x → outcome ≡ labels v vs → (x < b.fresh) × (raw x ≡ Var v)
      picked_cell x v vs p e =
          let i = label_there M N F b.equations b.posted P look held G rest s D view m.consistent o list list_known v vs (on_heap ∙ e) in
          let j : labels x (there x) ≡ labels i.0 vs = sym (ap (by_picked there) p) ∙ sym seen_is ∙ i.1 in
          let same : i.0 ≡ x = cc in
          let low = variables_on P (seen s D (constrained b.posted) list) (seen_of b.fresh b.equations s view.general kept.stored.heap.scoped D (constrained b.posted) list list_known) i.0
          (label_in o there (seen s D (constrained b.posted) list) i.0 vs i.1) in
          (subst P same low, unsettled h G (raw x) v (ap look (sym same) ∙ i.2))

    -- ---- what comes next

    -- no outcome is a fault
    pub lead_no_fault : (f : QueryFault) → outcome ≡ faults f → ⊥
    lead_no_fault f e = elim (takes_either M N o list m.value m.takes) [
      | inl w ↦ no_fault w.0.unifier w.0.family w.0.members w.0.view w.0.list f e
      | inr w ↦ no_fault w.2.unifier w.2.family w.2.members w.2.view w.2.list f e
    ]

    -- Nothing is picked: the leaf is reached.
    pub lead_done : outcome ≡ done → Runs M N area prog q name h qs (suc at) c stack cs n k es r
    lead_done e = elim (takes_either M N o list m.value m.takes) [
      | inl w ↦ reached w.0.same
      | inr w ↦ absurd (no_more w.2.unifier w.2.family w.2.members w.2.view w.2.list w.2.variable w.2.picked e)
    ]
      where
        reached : with_goals b (Label o list ∷ []) ≡ m.leaf → Runs M N area prog q name h qs (suc at) c stack cs n k es r
        reached same = record {
          first = with_goals b t.later ∷ [];
          others = m.others;
          marks = m.marks;
          here = inl (with_goals b t.later, taken_same M N m.marks area q.shown name h qs at c stack b (λ p. BestRule o least p) t (with_goals b t.later) refl refl refl refl, refl);
          wait = m.wait;
          ahead = subst (λ (z : Branch). Ahead M N prog q n k (with_goals z t.later ∷ m.others) es r) (sym same) m.ahead;
        }

    module _ (v : ℕ) (vs : List ℕ) (picks : outcome ≡ labels v vs) where
      abbrev pub number : ℕ
      number = found_at cells numbers v

      -- The picked variable takes its number: it is the cell v.
      record IsRound (rounds : ℕ) : Type 0 where
        pub variable : ℕ
        pub low : variable < b.fresh
        pub cell : raw variable ≡ Var v
        pub consistent : IsConsistent M N (is_number variable number ∷ b.equations) b.posted
        pub takes : Takes M N o list m.value rounds (with_goals (by_value b b.goals variable number) (Label o list ∷ [])) m.leaf

      round : (rounds : ℕ) × (left ≡ suc rounds) × IsRound rounds
      round = elim (takes_either M N o list m.value m.takes) [
        | inl w ↦ absurd (picked_none w.0.unifier w.0.family w.0.members w.0.view w.0.list v vs w.0.picked picks)
        | inr w ↦
            let p = picked_cell w.2.unifier w.2.family w.2.members w.2.view w.2.list w.2.variable v vs w.2.picked picks in
            let same = m.values w.2.variable v p.0 p.1 in (
              w.0,
              w.1,
              record {
                variable = w.2.variable;
                low = p.0;
                cell = p.1;
                consistent = subst (λ i. IsConsistent M N (is_number w.2.variable i ∷ b.equations) b.posted) same w.2.consistent;
                takes = subst (λ i. Takes M N o list m.value w.0 (with_goals (by_value b b.goals w.2.variable i) (Label o list ∷ [])) m.leaf) same w.2.more;
              },
            )
      ]

      -- a number is still to be taken
      pub lead_more : (rounds : ℕ) × (left ≡ suc rounds)
      lead_more = let w = round in (w.0, w.1)

      module _ (open_now : term_of name h (cell.Ref v) ≡ Var v) where
        abbrev x : ℕ
        x = round.2.variable

        abbrev kid : Branch
        kid = by_value b b.goals x number

        known : Made t.ready.p b.fresh x
        known = all_made M N m.marks name h qs t.ready.returns stack b c t.ready.p [] t.ready.made t.ready.whole x round.2.low

        asked : IsMade M N m.marks name h qs c t.ready.returns stack kid t.ready.p (is_number x number ∷ [])
        asked = made_asked M N m.marks name h qs c t.ready.returns stack b t.ready.p t.ready.made x number round.2.low

        look_asked : asked.look ≡ raw
        unfolding asked
        look_asked = asked_look M N m.marks name h qs c t.ready.returns stack b t.ready.p t.ready.made x number round.2.low

        on_x : IsShown name h asked.look (Made t.ready.p b.fresh) (Var x) (cell.Ref v)
        on_x = record { known = known; own = subst (Below (length h.slots)) round.2.cell (t.ready.made.kept.stored.heap.cells x known); value = ap (λ f. f x) look_asked ∙ round.2.cell ∙ sym open_now }

        on_number : IsShown name h asked.look (Made t.ready.p b.fresh) (Int (pos number)) (cell.Int (pos number))
        on_number = record { known = tt; own = tt; value = sym (term-Int name h valid (pos number)) }

        -- they can be made equal
        pub lead_equal : IsRefuted h (cells_equal name h (cell.Ref v) (cell.Int (pos number))) → ⊥
        lead_equal no_one =
            let w = branch_model M N kid.equations b.posted m.monotone round.2.consistent in
            made_refuted M N m.marks name qs t.ready.returns stack kid h c t.ready.p (is_number x number ∷ []) asked (Var x) (Int (pos number)) (cell.Ref v)
            (cell.Int (pos number)) on_x on_number [] refl no_one w.0 w.1

        module _ (now : Cells) (ts : List Touch) (u : core.IsUnified name h (cell.Ref v) (cell.Int (pos number)) now ts) (size : IsSameSize h now) where
          abbrev store : List Indexical
          store = qs ++ posts (store_touches ts)

          made_now : IsMade M N m.marks name now store c t.ready.returns stack kid t.ready.p []
          made_now = made_unified M N m.marks name qs t.ready.returns stack kid h c t.ready.p (is_number x number ∷ []) asked (Var x) (Int (pos number)) (cell.Ref v)
              (cell.Int (pos number)) on_x on_number [] refl now ts u size

          look_now : made_now.look ≡ after u.unifier raw
          unfolding made_now
          look_now =
              unified_look M N m.marks name qs t.ready.returns stack kid h c t.ready.p (is_number x number ∷ []) asked (Var x) (Int (pos number)) (cell.Ref v)
              (cell.Int (pos number)) on_x on_number [] refl now ts u size
              ∙ ap (after u.unifier) look_asked

          -- the other cells stay
          alone : (y : ℕ) → u.unifier y ≡ put_number v number y
          alone y =
              let eqs : cells_equal name h (cell.Ref v) (cell.Int (pos number)) ≡ record { left = Var v; right = Int (pos number) } ∷ [] =
              ap (λ l. record { left = l; right = term_of name h (cell.Int (pos number)) } ∷ []) open_now
              ∙ ap (λ l. record { left = Var v; right = l } ∷ []) (term-Int name h valid (pos number)) in
              number_alone u.unifier v number (subst (λ l. IsMostGeneral l u.unifier) eqs u.general) y

          was_cell : (y w : ℕ) → made_now.look y ≡ Var w → raw y ≡ Var w
          was_cell y w e = number_stays v number (raw y) w (ap (λ f. apply f (raw y)) (sym (functions alone)) ∙ ap (λ f. f y) (sym look_now) ∙ e)

          ready_now : IsReady M N m.marks area q.shown name now store at c stack kid
          ready_now = record {
            p = t.ready.p;
            returns = t.ready.returns;
            after = t.ready.after;
            made = made_now;
            whole = t.ready.whole;
            continues = t.ready.continues;
            means = t.ready.means;
            below = t.ready.below;
            asked = t.ready.asked;
          }

          -- The cell has its number, and what was touched is posted: there is one number less to be taken.
          pub lead_value : (rounds : ℕ) × (left ≡ suc rounds) × Leads M N area prog q name o least cells numbers rounds now store at c stack cs n k es r
          unfolding ready_now
          lead_value = (
            round.0,
            round.1,
            record {
              branch = kid;
              leaf = m.leaf;
              others = m.others;
              marks = m.marks;
              taking = record { ready = ready_now; goal = t.goal; later = t.later; q = t.q; is = t.is; settled = t.settled; goals = t.goals; next = t.next };
              consistent = round.2.consistent;
              monotone = m.monotone;
              value = m.value;
              values = λ y w l e. m.values y w l (was_cell y w e);
              takes = round.2.takes;
              wait = m.wait;
              ahead = m.ahead;
            },
          )
