-- The steps of the code, as steps of a search.
use Rattle.std.proofs.Common.{◌≡◌, ℕ, ◌+◌, ◌-◌, ◌<◌, Bool, false, ℤ, List, [], ◌∷◌, ◌++◌, map, reverse, take, length, Some, None, Result, Ok, Err, ◌⊎◌, refl}
use Rattle.std.proofs.Common.{ap, sym, ◌∙◌, subst, inl, inr, arith}
use Rattle.std.specs.Prelude.{OnOk}
use Rattle.std.proofs.lemmas.List.{reverse-append, append-nil}
use Rattle.fd_language.specs.declared.TheConstants.{INFINITY}
use Rattle.fd_language.specs.Range.{Indexical, least}
use Rattle.fd_language.specs.Monotonicity.{IsMonotone}
use Rattle.fd_model.specs.ClosedFamilies.{AllPosted}
use Rattle.fd_model.specs.Labelling.{open_ones}
use Rattle.fd_model.specs.Levels.{Level, Levels}
use Rattle.fd_language.specs.Family.{IsInside}
use Rattle.fd_model.specs.PostedLeaves.{AreLeft, picked_in, with_value}
use Rattle.fd_model.proofs.Lemmas.{left_narrower}
use Rattle.propagate_queue.specs.PropagationInvariant.{AreDomains}
use Rattle.fd_model.specs.BestPosted.{IsCostOf, SoughtValues}
use Rattle.fd_model.specs.BranchViews.{IsConsistent}
use Rattle.range_code.specs.Frames.{family_of}
use Rattle.label_search.specs.declared.Member.{Member}
use Rattle.label_search.specs.declared.Member.TheVariants.{Var}
use Rattle.label_search.specs.Picks.{member_at, IsPicked}
use Rattle.bound_search.specs.declared.search.Aim.{Aim}
use Rattle.bound_search.specs.declared.search.Node.{Node}
use Rattle.bound_search.specs.declared.best_leaf.SoFar.{SoFar}
use Rattle.bound_search.specs.Members.{member_of, members_of, bound, Improves, IsNoBetter}
use Rattle.bound_search.specs.SearchStates.{Wanted, Progress, progress, all_levels, IsNode, IsOpen, AreOpen, values_left, IsBestAmong, IsBestOf, IsSearching, Continues}
use Rattle.bound_search.specs.Objectives.{AreWanted, IsBounded, wanted}
use Rattle.bound_search.specs.Work.{open_count, tree_size, node_work, work}
use Rattle.bound_search.proofs.Nodes.{node_left, node_some, node_consistent}
use Rattle.bound_search.proofs.PickedMembers.{none_there, some_there, IsVariableAt}
use Rattle.bound_search.proofs.Steps.{begun, ended, opened, kept_leaf, dropped, closed_empty, closed_no_better, bounded_open, bounded_none, tried, passed}
use Rattle.bound_search.proofs.Work.{tree_some, opened_work, child_work, bounded_work, passed_work}

pub on_ok : {X E : Type 0} (r : Result X E) (A B : Type 0) → (A → B) → OnOk r A → OnOk r B
on_ok (Ok x) A B f h = f h
on_ok (Err e) A B f h = h

-- the newest node stands first
pub newest_first : (nodes more : List Node) (n : Node) → more ≡ nodes ++ n ∷ [] → reverse more ≡ n ∷ reverse nodes
newest_first nodes more n e = ap (λ (ns : List Node). reverse ns) e ∙ reverse-append nodes (n ∷ [])

-- searches whose parts are equal
moved : (w : Wanted) (count : ℕ) (root : List Indexical) (base : List Level) (p q : Progress) (new : List (List Indexical)) → p ≡ q
    → IsSearching w count root base p new → IsSearching w count root base q new
moved w count root base p q new e s = subst (λ r. IsSearching w count root base r new) e s

same_progress : (ks ls : List Level) (ns ms : List Node) (best : SoFar) → ks ≡ ls → ns ≡ ms
    → ◌≡◌ {A = Progress} (record { levels = ks; nodes = ns; best = best }) (record { levels = ls; nodes = ms; best = best })
same_progress ks ls ns ms best e f =
    let by_levels : List Level → Progress = λ xs. record { levels = xs; nodes = ns; best = best } in
    let by_nodes : List Node → Progress = λ xs. record { levels = ls; nodes = xs; best = best } in
    ap by_levels e ∙ ap by_nodes f

module _ (list : List Member) (aim : Aim) where
  abbrev w : Wanted
  w = wanted list aim

  -- ---- A node is looked at.
  module _ (s : Levels) (nodes : List Node) (ok : AreWanted (length s.current.sets) list aim) (node : IsNode (length s.current.sets) s.current) where
    abbrev D : ℕ → List ℕ
    D = family_of s.current.sets

    at_place : (place : ℕ) → IsPicked INFINITY aim.order s.current.sets list (Some place) → IsVariableAt s.current.sets (node_some s.current.posted s.current.sets node.domains) aim.order list place
    at_place place p = some_there s.current.sets (node_some s.current.posted s.current.sets node.domains) aim.order (length s.current.sets) list place ok.list p

    pub picked_at : (place variable : ℕ) → IsPicked INFINITY aim.order s.current.sets list (Some place) → member_at list place ≡ Var variable → picked_in aim.order D (members_of list) ≡ Some variable
    picked_at place variable p e =
        let v = at_place place p in
        let f : Var v.variable ≡ Var variable = sym v.here ∙ e in
        let g : v.variable ≡ variable = cc in
        v.picked ∙ ap Some g

    pub look_opens : (place variable : ℕ) (more : List Node) (best : SoFar) → IsPicked INFINITY aim.order s.current.sets list (Some place)
        → member_at list place ≡ Var variable → more ≡ nodes ++ record { variable = variable; from = 0; bounded = best.cost } ∷ []
        → Continues w (length s.current.sets) (progress s.below nodes best) (s.current.posted ∷ []) (progress (all_levels s) more best)
    look_opens place variable more best p e f root base h =
        moved w (length s.current.sets) root base (record {
          levels = s.current ∷ s.below;
          nodes = record { variable = variable; from = 0; bounded = best.cost } ∷ reverse nodes;
          best = best;
        }) (progress (all_levels s) more best) []
        (same_progress (s.current ∷ s.below) (s.current ∷ s.below) (record { variable = variable; from = 0; bounded = best.cost } ∷ reverse nodes) (reverse more) best refl
        (sym (newest_first nodes more (record { variable = variable; from = 0; bounded = best.cost }) f)))
        (opened w ok.member (length s.current.sets) root base s.current node s.below (reverse nodes) best variable (picked_at place variable p e) h)

    pub look_opens_work : (place variable : ℕ) (more : List Node) (best : SoFar) → IsPicked INFINITY aim.order s.current.sets list (Some place)
        → member_at list place ≡ Var variable → more ≡ nodes ++ record { variable = variable; from = 0; bounded = best.cost } ∷ []
        → work (members_of list) (reverse more) (all_levels s) < work (members_of list) (reverse nodes) s.below + tree_size (open_count (members_of list) s.current)
    look_opens_work place variable more best p e f =
        subst (λ (ns : List Node). work (members_of list) ns (all_levels s) < work (members_of list) (reverse nodes) s.below + tree_size
        (open_count (members_of list) s.current)) (sym (newest_first nodes more (record { variable = variable; from = 0; bounded = best.cost }) f))
        (opened_work w (length s.current.sets) s.current s.below (reverse nodes) variable best.cost node (picked_at place variable p e))

    module _ (t : Levels) (given : s.below ≡ t.current ∷ t.below) where
      back : (best : SoFar) → ◌≡◌ {A = Progress} (record { levels = s.below; nodes = reverse nodes; best = best }) (progress (all_levels t) nodes best)
      back best = same_progress s.below (t.current ∷ t.below) (reverse nodes) (reverse nodes) best given refl

      pub look_keeps : (old new : SoFar) (z : ℤ) → IsPicked INFINITY aim.order s.current.sets list None → z ≡ bound aim.least D (member_of aim.cost)
          → Improves aim.least z old.cost → new.cost ≡ Some z → new.values.items ≡ map (λ x. least (D x)) (open_ones (members_of list))
          → Continues w (length s.current.sets) (progress s.below nodes old) (s.current.posted ∷ []) (progress (all_levels t) nodes new)
      look_keeps old new z p e i c v root base h =
          moved w (length s.current.sets) root base (record { levels = s.below; nodes = reverse nodes; best = new }) (progress (all_levels t) nodes new) [] (back new)
          (kept_leaf w ok.member (length s.current.sets) root base s.current node s.below (reverse nodes) old new
          (none_there s.current.sets (node_some s.current.posted s.current.sets node.domains) aim.order (length s.current.sets) list ok.list p)
          (subst (λ y. Improves aim.least y old.cost) e i) (c ∙ ap Some e) v h)

      pub look_drops : (best : SoFar) (z : ℤ) → z ≡ bound aim.least D (member_of aim.cost) → IsNoBetter aim.least z best.cost
          → Continues w (length s.current.sets) (progress s.below nodes best) (s.current.posted ∷ []) (progress (all_levels t) nodes best)
      look_drops best z e i root base h =
          moved w (length s.current.sets) root base (record { levels = s.below; nodes = reverse nodes; best = best }) (progress (all_levels t) nodes best) [] (back best)
          (dropped w ok.member (length s.current.sets) root base s.current node s.below (reverse nodes) best (subst (λ y. IsNoBetter aim.least y best.cost) e i) h)

      pub look_back_work : work (members_of list) (reverse nodes) (all_levels t) < work (members_of list) (reverse nodes) s.below + tree_size (open_count (members_of list) s.current)
      look_back_work =
          subst (λ (ls : List Level). work (members_of list) (reverse nodes) ls < work (members_of list) (reverse nodes) s.below + tree_size (open_count (members_of list) s.current)) given
          (let i = tree_some (open_count (members_of list) s.current) in omega arith)

  -- ---- The newest open node goes on.
  module _ (s : Levels) (nodes : List Node) (n : Node) (best : SoFar) (cost : IsCostOf (members_of list) (member_of aim.cost)) where
    before : (root : List Indexical) (base : List Level) → IsSearching w (length s.current.sets) root base (progress (all_levels s) (nodes ++ n ∷ []) best) []
        → IsSearching w (length s.current.sets) root base (record { levels = s.current ∷ s.below; nodes = n ∷ reverse nodes; best = best }) []
    before root base h = moved w (length s.current.sets) root base (progress (all_levels s) (nodes ++ n ∷ []) best) (record { levels = s.current ∷ s.below; nodes = n ∷ reverse nodes; best = best }) []
        (same_progress (s.current ∷ s.below) (s.current ∷ s.below) (reverse (nodes ++ n ∷ [])) (n ∷ reverse nodes) best refl (newest_first nodes (nodes ++ n ∷ []) n refl)) h

    pub advance_closes : (t : Levels) → s.below ≡ t.current ∷ t.below
        → (values_left s.current n ≡ []) ⊎ IsNoBetter aim.least (bound aim.least (family_of s.current.sets) (member_of aim.cost)) best.cost
        → Continues w (length s.current.sets) (progress (all_levels s) (nodes ++ n ∷ []) best) [] (progress (all_levels t) nodes best)
    advance_closes t given e root base h =
        moved w (length s.current.sets) root base (record { levels = s.below; nodes = reverse nodes; best = best }) (progress (all_levels t) nodes best) []
        (same_progress s.below (t.current ∷ t.below) (reverse nodes) (reverse nodes) best given refl)
        (elim e [
          | inl f ↦ closed_empty w cost (length s.current.sets) root base s.current s.below n (reverse nodes) best f (before root base h)
          | inr f ↦ closed_no_better w cost (length s.current.sets) root base s.current s.below n (reverse nodes) best f (before root base h)
        ])

    module _ (value : ℕ) (step : values_left s.current n ≡ value ∷ values_left s.current (record n { from = value + 1 })) (more : List Node)
        (pushed : more ≡ nodes ++ record { variable = n.variable; from = value + 1; bounded = best.cost } ∷ [])
        (marked : Levels) (mark : marked ≡ record s { below = s.current ∷ s.below })
        (t : Levels) (posted : t.current.posted ≡ with_value marked.current.posted n.variable value) (below : t.below ≡ marked.below)
      where
        next : Node
        next = record { variable = n.variable; from = value + 1; bounded = best.cost }

        levels_now : t.below ≡ s.current ∷ s.below
        levels_now = below ∙ ap (λ (l : Levels). l.below) mark

        posted_now : t.current.posted ≡ with_value s.current.posted n.variable value
        posted_now = posted ∙ ap (λ (l : Levels). with_value l.current.posted n.variable value) mark

        nodes_now : reverse more ≡ record { variable = n.variable; from = value + 1; bounded = best.cost } ∷ reverse nodes
        nodes_now = newest_first nodes more (record { variable = n.variable; from = value + 1; bounded = best.cost }) pushed

        pub advance_tries : (q : Progress) → IsNode (length marked.current.sets) t.current → Continues w (length t.current.sets) (progress t.below more best) (t.current.posted ∷ []) q
            → Continues w (length s.current.sets) (progress (all_levels s) (nodes ++ n ∷ []) best) [] q
        advance_tries q node go root base h =
            let sets : length t.current.sets ≡ length s.current.sets = node.vars ∙ ap (λ (l : Levels). length l.current.sets) mark in
            let ok : IsConsistent INFINITY INFINITY [] (with_value s.current.posted n.variable value) = subst (IsConsistent INFINITY INFINITY []) posted_now
            (node_consistent t.current.posted t.current.sets node.domains) in
            let here = tried w cost (length s.current.sets) root base s.current s.below n (reverse nodes) best
            (record { variable = n.variable; from = value + 1; bounded = best.cost }) value refl step ok (before root base h) in
            let as_given : IsSearching w (length s.current.sets) root base (progress t.below more best) (t.current.posted ∷ []) =
            subst (λ (ps : List Indexical). IsSearching w (length s.current.sets) root base (progress t.below more best) (ps ∷ [])) (sym posted_now)
            (moved w (length s.current.sets) root base
            (record { levels = s.current ∷ s.below; nodes = record { variable = n.variable; from = value + 1; bounded = best.cost } ∷ reverse nodes; best = best })
            (progress t.below more best) (with_value s.current.posted n.variable value ∷ [])
            (same_progress (s.current ∷ s.below) t.below (record { variable = n.variable; from = value + 1; bounded = best.cost } ∷ reverse nodes) (reverse more) best (sym levels_now) (sym nodes_now)) here) in
            subst (λ k. IsSearching w k root base q []) sets (go root base (subst (λ k. IsSearching w k root base (progress t.below more best) (t.current.posted ∷ [])) (sym sets) as_given))

        pub advance_tries_work : (x : ℕ) → IsOpen w (length s.current.sets) s.current n → IsNode (length marked.current.sets) t.current
            → x < work (members_of list) (reverse more) t.below + tree_size (open_count (members_of list) t.current)
            → x < node_work (members_of list) n s.current + work (members_of list) (reverse nodes) s.below
        advance_tries_work x o node l =
            let sets : length marked.current.sets ≡ length s.current.sets = ap (λ (l : Levels). length l.current.sets) mark in
            let c = child_work w (length s.current.sets) s.current s.below (reverse nodes) n (record { variable = n.variable; from = value + 1; bounded = best.cost }) value
            t.current o (subst (λ k. IsNode k t.current) sets node) posted_now refl step in
            let e : work (members_of list) (reverse more) t.below ≡ node_work (members_of list) (record { variable = n.variable; from = value + 1; bounded = best.cost })
            s.current + work (members_of list) (reverse nodes) s.below =
            ap (λ (ns : List Node). work (members_of list) ns t.below) nodes_now
            ∙ ap (λ (ls : List Level). work (members_of list) (record { variable = n.variable; from = value + 1; bounded = best.cost } ∷ reverse nodes) ls) levels_now in
            omega arith

        module _ (u : Levels) (given : t.below ≡ u.current ∷ u.below) where
          pub advance_passes : (IsConsistent INFINITY INFINITY [] t.current.posted → ⊥)
              → Continues w (length s.current.sets) (progress (all_levels s) (nodes ++ n ∷ []) best) [] (progress (all_levels u) more best)
          advance_passes none root base h =
              moved w (length s.current.sets) root base
              (record { levels = s.current ∷ s.below; nodes = record { variable = n.variable; from = value + 1; bounded = best.cost } ∷ reverse nodes; best = best })
              (progress (all_levels u) more best) []
              (same_progress (s.current ∷ s.below) (u.current ∷ u.below) (record { variable = n.variable; from = value + 1; bounded = best.cost } ∷ reverse nodes) (reverse more)
              best (sym levels_now ∙ given) (sym nodes_now))
              (passed w cost (length s.current.sets) root base s.current s.below n (reverse nodes) best (record { variable = n.variable; from = value + 1; bounded = best.cost })
              value refl step (subst (λ (ps : List Indexical). IsConsistent INFINITY INFINITY [] ps → ⊥) posted_now none) (before root base h))

          pub advance_passes_work : work (members_of list) (reverse more) (all_levels u) < node_work (members_of list) n s.current + work (members_of list) (reverse nodes) s.below
          advance_passes_work =
              let c = passed_work w (length s.current.sets) s.current s.below (reverse nodes) n (record { variable = n.variable; from = value + 1; bounded = best.cost }) value refl step in
              let e : work (members_of list) (reverse more) (u.current ∷ u.below) ≡ node_work (members_of list)
              (record { variable = n.variable; from = value + 1; bounded = best.cost }) s.current + work (members_of list) (reverse nodes) s.below =
              ap (λ (ns : List Node). work (members_of list) ns (u.current ∷ u.below)) nodes_now
              ∙ ap (λ (ls : List Level). work (members_of list) (record { variable = n.variable; from = value + 1; bounded = best.cost } ∷ reverse nodes) ls)
              (sym given ∙ levels_now) in
              omega arith

  -- ---- The whole search.
  pub search_begins : (s marked : Levels) (nodes : List Node) (best : SoFar) (q : Progress) → IsCostOf (members_of list) (member_of aim.cost)
      → marked ≡ record s { below = s.current ∷ s.below } → AllPosted (λ p. IsMonotone INFINITY p.range) marked.current.posted → nodes ≡ [] → best.cost ≡ None
      → Continues w (length marked.current.sets) (progress marked.below nodes best) (marked.current.posted ∷ []) q → IsSearching w (length s.current.sets) s.current.posted (all_levels s) q []
  search_begins s marked nodes best q cost mark mono e none go =
      let levels : marked.below ≡ s.current ∷ s.below = ap (λ (l : Levels). l.below) mark in
      let posted : marked.current.posted ≡ s.current.posted = ap (λ (l : Levels). l.current.posted) mark in
      let sets : length marked.current.sets ≡ length s.current.sets = ap (λ (l : Levels). length l.current.sets) mark in
      let first = begun w cost (length s.current.sets) s.current.posted (all_levels s) best (subst (λ (ps : List Indexical). AllPosted (λ p. IsMonotone INFINITY p.range) ps) posted mono) none in
      let here : IsSearching w (length s.current.sets) s.current.posted (all_levels s) (progress marked.below nodes best) (s.current.posted ∷ []) =
      moved w (length s.current.sets) s.current.posted (all_levels s) (record { levels = s.current ∷ s.below; nodes = []; best = best }) (progress marked.below nodes best) (s.current.posted ∷ [])
      (same_progress (s.current ∷ s.below) marked.below [] (reverse nodes) best (sym levels) (sym (ap (λ (ns : List Node). reverse ns) e))) first in
      subst (λ k. IsSearching w k s.current.posted (all_levels s) q []) sets
      (go s.current.posted (all_levels s) (subst (λ k. IsSearching w k s.current.posted (all_levels s) (progress marked.below nodes best) (marked.current.posted ∷ [])) (sym sets)
      (subst (λ (ps : List Indexical). IsSearching w (length s.current.sets) s.current.posted (all_levels s) (progress marked.below nodes best) (ps ∷ [])) (sym posted) here)))

  module _ (s t : Levels) (nodes older : List Node) (n : Node) (best : SoFar) (items : nodes ≡ older ++ n ∷ [])
      (search : IsSearching w (length s.current.sets) s.current.posted (all_levels s) (progress (all_levels t) nodes best) []) where
    as_newest : AreOpen w (length s.current.sets) (all_levels s) (n ∷ reverse older) (t.current ∷ t.below) search.untried
    as_newest = subst (λ (ns : List Node). AreOpen w (length s.current.sets) (all_levels s) ns (t.current ∷ t.below) search.untried) (newest_first older nodes n items) search.nodes

    pub same_sets : length t.current.sets ≡ length s.current.sets
    same_sets = as_newest.0.node.vars

    pub still_wanted : AreWanted (length s.current.sets) list aim → AreWanted (length t.current.sets) list aim
    still_wanted ok = subst (λ k. AreWanted k list aim) (sym same_sets) ok

    pub newest_open : IsOpen w (length t.current.sets) t.current n
    newest_open = subst (λ k. IsOpen w k t.current n) (sym same_sets) as_newest.0

    some_below : (ns : List Node) (ls : List Level) (cs : List (List Indexical)) → AreOpen w (length s.current.sets) (all_levels s) ns ls cs → 0 < length ls
    some_below [] ls cs a = let e = ap (λ (xs : List Level). length xs) a.0 in omega arith
    some_below (m ∷ ns) [] cs a = absurd a
    some_below (m ∷ ns) (l ∷ ls) cs a = omega arith

    pub levels_below : 0 < length t.below
    levels_below = some_below (reverse older) t.below as_newest.1.1 as_newest.1.4

    pub goes_on : (q : Progress) → Continues w (length t.current.sets) (progress (all_levels t) (older ++ n ∷ []) best) [] q
        → IsSearching w (length s.current.sets) s.current.posted (all_levels s) q []
    goes_on q go =
        subst (λ k. IsSearching w k s.current.posted (all_levels s) q []) same_sets
        (go s.current.posted (all_levels s) (subst (λ k. IsSearching w k s.current.posted (all_levels s) (progress (all_levels t) (older ++ n ∷ []) best) []) (sym same_sets)
        (subst (λ (ns : List Node). IsSearching w (length s.current.sets) s.current.posted (all_levels s) (progress (all_levels t) ns best) []) items search)))

    pub goes_down : (x : ℕ) → x < node_work (members_of list) n t.current + work (members_of list) (reverse older) t.below → x < work (members_of list) (reverse nodes) (all_levels t)
    goes_down x l = subst (λ (ns : List Node). x < work (members_of list) ns (t.current ∷ t.below)) (sym (newest_first older nodes n items)) l

    -- The level of the newest node may get a bound,
    module _ (cost : IsCostOf (members_of list) (member_of aim.cost)) (u : Levels) (below : u.below ≡ t.below) (b : IsBounded aim best.cost t.current u.current)
      where
        first : IsSearching w (length s.current.sets) s.current.posted (all_levels s) (record { levels = t.current ∷ t.below; nodes = n ∷ reverse older; best = best }) []
        first = moved w (length s.current.sets) s.current.posted (all_levels s) (progress (all_levels t) nodes best) (record { levels = t.current ∷ t.below; nodes = n ∷ reverse older; best = best }) []
            (same_progress (t.current ∷ t.below) (t.current ∷ t.below) (reverse nodes) (n ∷ reverse older) best refl (newest_first older nodes n items)) search

        given : (l : Level) → ◌≡◌ {A = Progress} (record { levels = l ∷ t.below; nodes = n ∷ reverse older; best = best }) (progress (l ∷ u.below) nodes best)
        given l = same_progress (l ∷ t.below) (l ∷ u.below) (n ∷ reverse older) (reverse nodes) best (ap (λ (ls : List Level). l ∷ ls) (sym below)) (sym (newest_first older nodes n items))

        pub newest_bounded : IsNode (length t.current.sets) u.current → IsSearching w (length s.current.sets) s.current.posted (all_levels s) (progress (all_levels u) nodes best) []
        newest_bounded node = moved w (length s.current.sets) s.current.posted (all_levels s) (record { levels = u.current ∷ t.below; nodes = n ∷ reverse older; best = best })
            (progress (all_levels u) nodes best) [] (given u.current) (elim b [
              | inl e ↦ subst (λ l. IsSearching w (length s.current.sets) s.current.posted (all_levels s) (record { levels = l ∷ t.below; nodes = n ∷ reverse older; best = best }) []) (sym e) first
              | inr e ↦ bounded_open w cost (length s.current.sets) s.current.posted (all_levels s) t.current t.below n (reverse older) best e.0 e.1 u.current e.2 (ap member_of e.3) e.4 e.5
                  (subst (λ k. IsNode k u.current) same_sets node) first
            ])

        pub bounded_wanted : IsNode (length t.current.sets) u.current → AreWanted (length s.current.sets) list aim → AreWanted (length u.current.sets) list aim
        bounded_wanted node ok = subst (λ k. AreWanted k list aim) (sym (node.vars ∙ same_sets)) ok

        pub bounded_newest : IsNode (length t.current.sets) u.current → IsOpen w (length u.current.sets) u.current n
        bounded_newest node = record { node = subst (λ k. IsNode k u.current) (sym node.vars) node; member = as_newest.0.member }

        pub bounded_below : 0 < length u.below
        bounded_below = subst (λ (ls : List Level). 0 < length ls) (sym below) levels_below

        -- or it is closed, where that isn't consistent.
        pub newest_closed : (v : Levels) → u.below ≡ v.current ∷ v.below → (IsConsistent INFINITY INFINITY [] u.current.posted → ⊥)
            → IsSearching w (length s.current.sets) s.current.posted (all_levels s) (progress (all_levels v) older best) []
        newest_closed v back none = moved w (length s.current.sets) s.current.posted (all_levels s) (record { levels = t.below; nodes = reverse older; best = best })
            (progress (all_levels v) older best) [] (same_progress t.below (v.current ∷ v.below) (reverse older) (reverse older) best (sym below ∙ back) refl) (elim b [
              | inl e ↦ absurd (none (subst (λ (l : Level). IsConsistent INFINITY INFINITY [] l.posted) (sym e) (node_consistent t.current.posted t.current.sets as_newest.0.node.domains)))
              | inr e ↦ bounded_none w cost (length s.current.sets) s.current.posted (all_levels s) t.current t.below n (reverse older) best e.0 e.1 u.current e.2 (ap member_of e.3) e.4 e.5 none first
            ])

        inside : (l : Level) → IsBounded aim best.cost t.current l → AreDomains l.posted l.sets → IsInside (family_of l.sets) (family_of t.current.sets)
        inside l (inl e) d = subst (λ (m : Level). IsInside (family_of m.sets) (family_of t.current.sets)) (sym e) (record { at = λ x. record { each = λ k h. h } })
        inside l (inr e) d = left_narrower INFINITY t.current.posted _ (family_of t.current.sets) (family_of l.sets) (node_left t.current.posted t.current.sets as_newest.0.node.domains)
            (subst (λ (ps : List Indexical). AreLeft INFINITY ps (family_of l.sets)) e.5 (node_left l.posted l.sets d))

        -- In both cases the work that is left falls, or stays as it is.
        pub bounded_down : (x : ℕ) → IsNode (length t.current.sets) u.current → x < node_work (members_of list) n u.current + work (members_of list) (reverse older) u.below
            → x < work (members_of list) (reverse nodes) (all_levels t)
        bounded_down x node l =
            let f = bounded_work w (length t.current.sets) t.current u.current n as_newest.0.node.domains node.domains (inside u.current b node.domains) in
            goes_down x (let e : work (members_of list) (reverse older) u.below ≡ work (members_of list) (reverse older) t.below = ap (λ (ls : List Level). work (members_of list) (reverse older) ls) below in omega arith)

        pub closed_down : (v : Levels) → u.below ≡ v.current ∷ v.below → work (members_of list) (reverse older) (all_levels v) < work (members_of list) (reverse nodes) (all_levels t)
        closed_down v back = goes_down _ (let e : work (members_of list) (reverse older) (v.current ∷ v.below) ≡ work (members_of list) (reverse older) t.below =
            ap (λ (ls : List Level). work (members_of list) (reverse older) ls) (sym back ∙ below) in omega arith)

  module _ (s t : Levels) (nodes : List Node) (best : SoFar) (cost : IsCostOf (members_of list) (member_of aim.cost)) (empty : nodes ≡ [])
      (search : IsSearching w (length s.current.sets) s.current.posted (all_levels s) (progress (all_levels t) nodes best) []) where
    last : (t.current ∷ t.below ≡ s.current ∷ s.below)
        × IsBestOf w s.current.posted best.cost best.values.items
    last = ended w cost (length s.current.sets) s.current.posted (all_levels s) (t.current ∷ t.below) best
        (subst (λ (ns : List Node). IsSearching w (length s.current.sets) s.current.posted (all_levels s) (record { levels = t.current ∷ t.below; nodes = reverse ns; best = best }) []) empty search)

    pub levels_back : t.spent ≡ false → s.spent ≡ false → t ≡ s
    levels_back u v =
        let e = last.0 in
        let current : t.current ≡ s.current = cc in
        let below : t.below ≡ s.below = cc in
        let spent : t.spent ≡ s.spent = u ∙ sym v in
        let by_current : Level → Levels = λ l. record { current = l; below = t.below; spent = t.spent } in
        let by_below : List Level → Levels = λ ls. record { current = s.current; below = ls; spent = t.spent } in
        let by_spent : Bool → Levels = λ b. record { current = s.current; below = s.below; spent = b } in
        ap by_current current ∙ ap by_below below ∙ ap by_spent spent

    pub found_none : best.cost ≡ None → SoughtValues INFINITY aim.order (members_of list) (member_of aim.cost) aim.least s.current.posted None
    found_none e =
        let none : IsBestAmong w last.1.0 None best.values.items = subst (λ o. IsBestAmong w last.1.0 o best.values.items) e last.1.2 in
        record { leaves = last.1.0; all = last.1.1; best = none }

    pub found_some : (z : ℤ) → best.cost ≡ Some z → SoughtValues INFINITY aim.order (members_of list) (member_of aim.cost) aim.least s.current.posted (Some best.values.items)
    found_some z e =
        let some : IsBestAmong w last.1.0 (Some z) best.values.items = subst (λ o. IsBestAmong w last.1.0 o best.values.items) e last.1.2 in
        record { leaves = last.1.0; all = last.1.1; best = (some.0, z, some.1, some.2) }

-- nothing is taken from no list
pub none_taken : (old new : List Node) (len : ℕ) → old ≡ new ++ [] → new ≡ take (len - 1) old → len ≡ 0 → old ≡ []
none_taken old new len e f l = e ∙ append-nil new ∙ f ∙ ap (λ k. take k old) (let g : len - 1 ≡ 0 = omega arith in g)
