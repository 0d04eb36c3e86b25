-- The steps from a search for the best leaf: its fault, no leaf, and the numbers found, which the machine takes one after the other.
use Rattle.std.proofs.Common.{◌≡◌, ℕ, suc, ◌<◌, ◌≤◌, Bool, cond, List, [], ◌∷◌, ◌++◌, length, map, Option, Some, None, Result, Ok, Err, refl, ap, sym, ◌∙◌}
use Rattle.std.proofs.Common.{subst}
use Rattle.fd_language.specs.Family.{Family, has, IsInside}
use Rattle.fd_language.specs.Monotonicity.{IsMonotone}
use Rattle.fd_language.specs.Range.{Indexical}
use Rattle.fd_language.specs.SingleValues.{value_at}
use Rattle.fd_language.specs.Term.{Term, Var, Int, Atom, Comp, Substitution, apply}
use Rattle.fd_language.specs.Variables.{TermBelow}
use Rattle.fd_model.specs.declared.kinds.Order.{Order}
use Rattle.fd_model.specs.declared.kinds.QueryFault.{QueryFault}
use Rattle.fd_model.specs.declared.kinds.QueryFault.TheVariants.{Parameter}
use Rattle.fd_model.specs.BestPosted.{IsCostOf, SoughtValues}
use Rattle.fd_model.specs.Children.{Faults, Seeks, by_cost, cost_fault, unless_fault, look_in, with_goals}
use Rattle.fd_model.specs.ClosedFamilies.{AllPosted, constrained}
use Rattle.fd_model.specs.Goal.{Goal, Label, Program, Query, Branch, Event, Fault}
use Rattle.fd_model.specs.Goal as goal
use Rattle.fd_model.specs.Labelling.{read_list, pick, values_by, open_ones}
use Rattle.fd_model.specs.Leaves.{SoughtLeaf}
use Rattle.fd_model.specs.Members.{Member, Open, Known, as_member}
use Rattle.fd_model.specs.Models.{IsModel}
use Rattle.fd_model.specs.BranchViews.{IsConsistent, IsView, seen, set_at}
use Rattle.fd_model.specs.RunnablePrograms.{IsRunnableProgram, EachBelow}
use Rattle.heap_cells.specs.declared.Cell.{Cell}
use Rattle.heap_cells.specs.Cells.{Cells}
use Rattle.heap_cells.specs.Terms.{Naming, term_of}
use Rattle.heap_cells.specs.HeapInvariant.{IsHeap}
use Rattle.branch_meaning.specs.RemainingEvents.{at_top, offered, IsFit, AreFit, Ahead, Spends}
use Rattle.branch_meaning.specs.AnswerTexts.{cell_set}
use Rattle.branch_meaning.specs.Heap.{Of}
use Rattle.branch_meaning.specs.HeldBranches.{HeldState, fixed_held}
use Rattle.branch_meaning.specs.Labelling.{faults, labelled, by_listing, by_picked}
use Rattle.branch_meaning.proofs.Lemmas.{ahead_sought, after_is, label_faults, of_below, seen_by_variable}
use Rattle.branch_lemmas.specs.Frames.{link_in, held_of, IsKept}
use Rattle.branch_lemmas.specs.SeenHeap.{read_term}
use Rattle.branch_lemmas.proofs.Lemmas.{settled_held, settled_rest}
use Rattle.sought_leaves.specs.LeafSearch.{owned, search_fault, shown_by, AreOwned, IsBegun, IsSearched, found_at, cell_of, IsFound}
use Rattle.sought_leaves.proofs.Lemmas.{members_there, searches_agree}
use Rattle.wam_code.specs.declared.instruction.Code.TheVariants as code
use Rattle.wam_code.specs.Area.{Area, Holds}
use Rattle.wam_code.specs.CodeMeaning.{BestRule}
use Rattle.code_meaning.specs.BestLeafSearch.{Leads}
use Rattle.code_meaning.specs.Registers.{Registers, Saved}
use Rattle.code_meaning.specs.StateMeaning.{Made}
use Rattle.code_meaning.specs.MachineStates.{Choice, IsTaking, Runs, Returns}
use Rattle.code_meaning.proofs.Arguments.{cell_shows}
use Rattle.code_meaning.proofs.GoalStates.{ready_kept, ready_consistent, taking, goal_fault, ahead_of, others, counted}
use Rattle.code_meaning.proofs.MachineStates.{goes_inside}

-- a list that is a fault
listing_fault : (o : Order) (v : ℕ → List ℕ) (l : Result (List Member) QueryFault) (f : QueryFault) → by_listing o v l ≡ faults f → l ≡ Err f
listing_fault o v (Err g) f e = let same : g ≡ f = cc in ap Err same
listing_fault o v (Ok ms) f e = absurd (by_pick (pick o v ms) e)
  where
    by_pick : (p : Option ℕ) → by_picked v p ≡ faults f → ⊥
    by_pick None i = cc
    by_pick (Some x) i = cc

-- an integer, or one of the members, is no fault
cost_none : (ms : List Member) (u : Term) (k : Member) → as_member u ≡ Ok k → IsCostOf ms k → cost_fault ms u ≡ None
cost_none ms (Var x) k e i = by_member k (cc) i
  where
    by_member : (k : Member) → Open x ≡ k → IsCostOf ms k → cost_fault ms (Var x) ≡ None
    by_member (Open y) j i = let same : x ≡ y = cc in ap (λ p. cond p None (Some Parameter)) (ap (has (open_ones ms)) same ∙ i)
    by_member (Known z) j i = absurd (cc)
cost_none ms (Int z) k e i = refl
cost_none ms (Atom a) k e i = absurd (cc)
cost_none ms (Comp f ts) k e i = absurd (cc)

-- d is the cell of the list, and e that of the cost
module _ (M N : ℕ) (area : Area) (prog : Program) (q : Query) (name : Naming) (h : Cells) (valid : IsHeap h) (qs : List Indexical) (at : ℕ) (c : Registers) (stack : List Saved)
    (cs : List Choice) (k : Option ℕ) (es : List Event) (r : ℕ)
    (runnable : IsRunnableProgram M prog) (n : ℕ) (G : Family) (model : IsModel M N [] qs G) (most : (R : Family) → IsModel M N [] qs R → IsInside R G)
    (m : Runs M N area prog q name h qs at c stack cs (suc n) k es r)
    (o : Order) (least : Bool) (d e : Cell) (at_d : c.x 1 ≡ Some d) (at_e : c.x 2 ≡ Some e) where
  abbrev Takings : Branch → Type 0
  Takings b = IsTaking M N m.marks area q.shown name h qs at c stack b (λ p. BestRule o least p)

  -- the list and the cost, as the sets show them
  abbrev shown_list : Term
  shown_list = read_term h G (term_of name h d)

  abbrev shown_cost : Term
  shown_cost = read_term h G (term_of name h e)

  module _ (b : Branch) (t : Takings b) (one : m.first ≡ b ∷ []) where
    abbrev list : Term
    list = t.is.0

    abbrev cost : Term
    cost = t.is.1

    abbrev g : Goal
    g = goal.Best o least list cost

    abbrev P : ℕ → Type 0
    P v = v < b.fresh

    abbrev F : HeldState
    F = fixed_held (held_of name h qs) G

    abbrev raw : Substitution
    raw = t.ready.made.look

    kept : IsKept M N h qs b.equations b.posted P raw
    kept = ready_kept M N m.marks area q.shown name h qs at c stack b t.ready

    consistent : IsConsistent M N b.equations b.posted
    consistent = ready_consistent M N m.marks area q.shown name h qs at c stack b t.ready (G, model)

    is : b.goals ≡ g ∷ t.later
    is = t.goals ∙ ap (λ x. x ∷ t.later) t.is.4

    low : TermBelow b.fresh list × TermBelow b.fresh cost
    low = (subst (EachBelow b.fresh) is t.ready.below).0

    list_known : Of P list
    list_known = of_below b.fresh list low.0

    cost_known : Of P cost
    cost_known = of_below b.fresh cost low.1

    fit : IsFit M b
    fit = (subst (λ bs. AreFit M (bs ++ m.others)) one m.ahead.fit).0

    abbrev look : Substitution
    look = shown_by (link_in h) G raw

    list_is : apply look list ≡ shown_list
    list_is =
        after_is (λ e. value_at (link_in h e) G e) raw list
        ∙ ap (read_term h G) (cell_shows name h raw (Made t.ready.p b.fresh) t.ready.p c.x t.ready.made.xs 1 list d t.is.2 at_d).1

    cost_is : apply look cost ≡ shown_cost
    cost_is =
        after_is (λ e. value_at (link_in h e) G e) raw cost
        ∙ ap (read_term h G) (cell_shows name h raw (Made t.ready.p b.fresh) t.ready.p c.x t.ready.made.xs 2 cost e t.is.3 at_e).1

    -- what the goal offers, where the list has members
    offer_ok : (ms : List Member) → read_list shown_list ≡ Ok ms → (s : Substitution) (D : Family) → IsView M N b.equations b.posted s D
        → offered M N (at_top m.marks) prog b g t.later s D ≡ unless_fault (cost_fault ms shown_cost) (Seeks b t.later o least list cost)
    offer_ok ms i s D view =
        let w = members_there M N b.fresh b.equations b.posted (length h.slots) raw (link_in h) kept.slot qs G kept.stored model most consistent s D view list cost list_known cost_known ms
        (ap read_list list_is ∙ i) in
        ap (by_cost (apply (look_in b s D) cost) (Seeks b t.later o least list cost)) w.1
        ∙ ap (λ f. unless_fault f (Seeks b t.later o least list cost)) (w.2 ∙ ap (cost_fault ms) cost_is)

    -- and where it is a fault
    offer_fault : (f : QueryFault) → read_list shown_list ≡ Err f → (s : Substitution) (D : Family) → IsView M N b.equations b.posted s D → offered M N (at_top m.marks) prog b g t.later s D ≡ Faults f
    offer_fault f i s D view =
        let held = settled_held M N name h valid qs b.equations b.posted P raw kept G most in
        let rest = settled_rest M N name h valid qs b.equations b.posted P raw kept G most q model in
        let here : ℕ → List ℕ = λ x. values_by N (cell_set G (F.link x)) in
        let there : ℕ → List ℕ = λ y. values_by N (set_at s D (constrained b.posted) y) in
        let on_heap : labelled o here (apply look list) ≡ faults f = ap (by_listing o here) (ap read_list list_is ∙ i) in
        let in_branch = label_faults M N F b.equations b.posted P look held G rest s D view consistent o list list_known f on_heap in
        let read = listing_fault o there (read_list (seen s D (constrained b.posted) list)) f in_branch in
        ap (by_cost (apply (look_in b s D) cost) (Seeks b t.later o least list cost)) (ap read_list (seen_by_variable s D (constrained b.posted) list) ∙ read)

    fault : (l : Result (List Member) QueryFault) → read_list shown_list ≡ l → (f : QueryFault) → search_fault l shown_cost ≡ Some f → (es ≡ Fault f ∷ []) × (r ≡ 1)
    fault (Err x) i f w =
        let same : x ≡ f = cc in
        goal_fault M N area prog q name h qs at c stack cs k es r b consistent g t.later is runnable n m one f (offer_fault f (i ∙ ap Err same))
    fault (Ok ms) i f w =
        goal_fault M N area prog q name h qs at c stack cs k es r b consistent g t.later is runnable n m one f
        (λ s D v. offer_ok ms i s D v ∙ ap (λ p. unless_fault p (Seeks b t.later o least list cost)) w)

    -- ---- what is found

    module _ (within : N ≤ M) (big : 0 < N) (store : AllPosted (λ p. IsMonotone M p.range) qs) (ms : List Member) (member : Member) (own : ℕ → ℕ) (members : read_list shown_list ≡ Ok ms)
        (costs : as_member shown_cost ≡ Ok member)
        (among : IsCostOf ms member) (owns : AreOwned (link_in h) qs own (open_ones ms)) (ls : List Indexical) (begun : IsBegun M N (link_in h) qs own (open_ones ms) ls) where
      searched : IsSearched M N b list cost (length h.slots) raw (link_in h) kept.slot qs G ms member own ls
      searched = record {
        within = within;
        stored = kept.stored;
        consistent = consistent;
        monotone = fit.1;
        store = store;
        list = list_known;
        known = cost_known;
        model = model;
        most = most;
        members = ap read_list list_is ∙ members;
        costs = ap as_member cost_is ∙ costs;
        among = among;
        owned = owns;
        begun = begun;
      }

      found_there : (found : Option (List ℕ)) → SoughtValues M o (map (owned own) ms) (owned own member) least ls found → IsFound M N b t.later o least list cost raw (open_ones ms) found
      found_there found w = searches_agree M N b list cost (length h.slots) raw (link_in h) kept.slot qs G ms member own ls big searched o least t.later found w

      seeks : (s : Substitution) (D : Family) → IsView M N b.equations b.posted s D → offered M N (at_top m.marks) prog b g t.later s D ≡ Seeks b t.later o least list cost
      seeks s D v = offer_ok ms members s D v ∙ ap (λ p. unless_fault p (Seeks b t.later o least list cost)) (cost_none ms shown_cost member costs among)

      -- what is ahead of the leaf, or of the others where there is none
      goes : (kids : List Branch) → SoughtLeaf M N b t.later o least list cost kids
          → (later : List Event) × (j : ℕ) × (es ≡ [] ++ later) × (r ≡ suc j) × Ahead M N prog q n k (kids ++ m.others) later j
      goes kids w =
          let rest = others M N area prog q name h qs at c stack cs k es r b consistent g t.later is runnable n m one in
          let count = counted M N area prog q name h qs at c stack cs k es r b consistent g t.later is runnable n m one in
          let a = ahead_of M N area prog q name h qs at c stack cs k es r b consistent g t.later is (suc n) m one in
          ahead_sought M N prog q runnable n k b g t.later m.others es r consistent is a (at_top m.marks) count [] m.others refl rest.0 rest.1
          (sym (count rest.0 rest.1)) o least list cost kids [] seeks w (λ s D v. refl)

      no_leaf : SoughtValues M o (map (owned own) ms) (owned own member) least ls None → Spends (Returns M N area prog q name cs n k) [] es r
      no_leaf w =
          let a = goes [] (found_there None w) in
          (a.0, a.1, a.2, a.3, record { others = m.others; marks = m.marks; wait = m.wait; ahead = a.4 })

      one_leaf : (ns : List ℕ) → SoughtValues M o (map (owned own) ms) (owned own member) least ls (Some ns)
          → (left : ℕ) × (left ≤ length (open_ones ms)) × Spends (Leads M N area prog q name o least (open_ones ms) ns left h qs at c stack cs n k) [] es r
      one_leaf ns w =
          let f = found_there (Some ns) w in
          let a = goes (with_goals f.0 t.later ∷ []) f.1 in (
            f.2,
            f.3,
            (
              a.0,
              a.1,
              a.2,
              a.3,
              record {
                branch = b;
                leaf = f.0;
                others = m.others;
                marks = m.marks;
                taking = t;
                consistent = consistent;
                monotone = fit.1;
                value = λ x. found_at (open_ones ms) ns (cell_of (raw x));
                values = λ x v l i. ap (λ u. found_at (open_ones ms) ns (cell_of u)) i;
                takes = f.4;
                wait = m.wait;
                ahead = a.4;
              },
            ),
          )

  module _ (f : Holds area at (code.Best o least)) where
    here : (b : Branch) × Takings b × (m.first ≡ b ∷ [])
    here =
        let s = goes_inside M N m.marks area q.shown name h qs at c stack m.first m.here (code.Best o least) tt f in
        (s.0, taking M N m.marks area q.shown name h qs at c stack s.0 (λ p. BestRule o least p) (code.Best o least) (λ w p es r. r) f s.1, s.2)

    -- the list or the cost is a fault
    pub run_best_fault : (x : QueryFault) → search_fault (read_list shown_list) shown_cost ≡ Some x → (es ≡ Fault x ∷ []) × (r ≡ 1)
    run_best_fault x w = let s = here in fault s.0 s.1 s.2 (read_list shown_list) refl x w

    module _ (within : N ≤ M) (big : 0 < N) (store : AllPosted (λ p. IsMonotone M p.range) qs) (ms : List Member) (member : Member) (own : ℕ → ℕ) (members : read_list shown_list ≡ Ok ms)
        (costs : as_member shown_cost ≡ Ok member)
        (among : IsCostOf ms member) (owns : AreOwned (link_in h) qs own (open_ones ms)) (ls : List Indexical) (begun : IsBegun M N (link_in h) qs own (open_ones ms) ls) where
      -- there is no leaf
      pub run_best_none : SoughtValues M o (map (owned own) ms) (owned own member) least ls None → Spends (Returns M N area prog q name cs n k) [] es r
      run_best_none w = let s = here in no_leaf s.0 s.1 s.2 within big store ms member own members costs among owns ls begun w

      -- The numbers found are to be taken, one a cell at most.
      pub run_best : (ns : List ℕ) → SoughtValues M o (map (owned own) ms) (owned own member) least ls (Some ns)
          → (left : ℕ) × (left ≤ length (open_ones ms)) × Spends (Leads M N area prog q name o least (open_ones ms) ns left h qs at c stack cs n k) [] es r
      run_best ns w = let s = here in one_leaf s.0 s.1 s.2 within big store ms member own members costs among owns ls begun ns w
