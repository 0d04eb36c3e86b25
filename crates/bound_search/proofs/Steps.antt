-- What each step makes of a search: it keeps to its leaves.
use Rattle.std.proofs.Common.{◌≡◌, ℕ, ◌≤◌, ◌≤ℤ◌, Bool, true, false, nat_le, ℤ, List, [], ◌∷◌, ◌++◌, map, filter, Option, Some, None, refl, ap, sym, ◌∙◌, subst}
use Rattle.std.proofs.Common.{inl, inr, ◌⊎◌, arith, pos, append_assoc, append-nil}
use Rattle.std.proofs.lemmas.Int.{ints}
use Rattle.fd_language.specs.declared.TheConstants.{INFINITY}
use Rattle.fd_language.specs.Family.{Family, has, IsFamily}
use Rattle.fd_language.specs.Range.{Indexical, least, greatest}
use Rattle.fd_language.proofs.Lemmas.{least_low, greatest_high}
use Rattle.fd_model.specs.declared.kinds.Order.{Order}
use Rattle.fd_model.specs.declared.kinds.Order.TheVariants.{Leftmost}
use Rattle.fd_model.specs.Labelling.{open_ones}
use Rattle.fd_model.specs.Levels.{Level}
use Rattle.fd_model.specs.Members as seen
use Rattle.fd_model.specs.PostedLeaves.{AreLeft, picked_in, with_value, KeptLists, PostedLeaves, no_leaves, leaf, grows}
use Rattle.fd_model.specs.Leaves.{IsBetter, IsAsGood}
use Rattle.fd_model.specs.BestPosted.{IsCostOf, Costs, EachCosts, HaveValues, IsBestPosted}
use Rattle.fd_model.specs.BranchViews.{IsConsistent}
use Rattle.fd_model.proofs.Lemmas.{AllMonotone, left_once, leaves_there, parted, first_alone, first_more, first_new, IsAmong, end_costs, end_values}
use Rattle.fd_model.proofs.Lemmas.{leaves_within, children_within}
use Rattle.range_code.specs.Frames.{family_of}
use Rattle.bound_search.specs.declared.search.Node.{Node}
use Rattle.bound_search.specs.declared.best_leaf.SoFar.{SoFar}
use Rattle.bound_search.specs.Members.{bound, Improves, IsNoBetter}
use Rattle.bound_search.specs.SearchStates.{Wanted, IsNode, IsOpen, values_left, IsBestAmong, Becomes, IsBestOf, IsSearching}
use Rattle.domain_ranges.proofs.Lemmas.{filter_from_low}
use Rattle.bound_search.specs.Posting.{with_bound}
use Rattle.bound_search.proofs.Nodes.{node_left, cost_bound}
use Rattle.bound_search.proofs.PickedMembers.{picked_member}
use Rattle.bound_search.proofs.BoundedLeaves.{AreThinned, IsUnder, under_more, under_inside, kept_first, children_of, none_under, bounded_leaves}
use Rattle.bound_search.proofs.Bounds.{bound_within, values_under, leaves_both}

-- what is among a node's values is no better than its bound
good_below : (w z n : ℤ) → w ≤ℤ n → n ≤ℤ z → w ≤ℤ z
good_below w z n h g = omega (arith, ints)

among_bound : (wanted : Bool) (D : Family) (c : seen.Member) (w z : ℤ) → IsFamily INFINITY D → IsAsGood wanted w (bound wanted D c) → IsAmong D c z → IsAsGood wanted w z
among_bound wanted D (seen.Known y) w z r g a = subst (IsAsGood wanted w) (sym a) g
among_bound true D (seen.Open x) w z r g a =
    let low : least (D x) ≤ a.0 = least_low 0 INFINITY a.0 (D x) (r.rising x) a.2 in
    subst (λ y. w ≤ℤ y) (sym a.1) (good_below w (pos a.0) (pos (least (D x))) g (omega (arith, ints)))
among_bound false D (seen.Open x) w z r g a =
    let high : a.0 ≤ greatest (D x) = greatest_high 0 INFINITY a.0 (D x) (r.rising x) a.2 in
    subst (λ y. y ≤ℤ w) (sym a.1) (good_below (pos a.0) w (pos (greatest (D x))) (omega (arith, ints)) g)

as_good_self : (least : Bool) (z : ℤ) → IsAsGood least z z
as_good_self true z = omega (arith, ints)
as_good_self false z = omega (arith, ints)

as_good_then : (least : Bool) (u v w : ℤ) → IsAsGood least u v → IsAsGood least v w → IsAsGood least u w
as_good_then true u v w h g = omega (arith, ints)
as_good_then false u v w h g = omega (arith, ints)

as_good_of : (least : Bool) (u v : ℤ) → IsBetter least u v → IsAsGood least u v
as_good_of true u v h = omega (arith, ints)
as_good_of false u v h = omega (arith, ints)

better_then : (least : Bool) (u v w : ℤ) → IsBetter least u v → IsAsGood least v w → IsBetter least u w
better_then true u v w h g = omega (arith, ints)
better_then false u v w h g = omega (arith, ints)

-- what is no better than one is no better than what that is no better than
no_better : (wanted : Bool) (D : Family) (c : seen.Member) (z : ℤ) (o : Option ℤ) → IsFamily INFINITY D → IsNoBetter wanted (bound wanted D c) o → IsAmong D c z → IsNoBetter wanted z o
no_better wanted D c z None r n a = absurd n
no_better wanted D c z (Some w) r n a = among_bound wanted D c w z r n a

-- no lists have no leaves
no_lists : (o : Order) (ms : List seen.Member) {cs ls : List (List Indexical)} → PostedLeaves INFINITY o ms cs ls → cs ≡ [] → ls ≡ []
no_lists o ms no_leaves e = refl
no_lists o ms (leaf D d p l) e = absurd (let n : ⊥ = cc in n)
no_lists o ms (grows D x cs d p k l) e = absurd (let n : ⊥ = cc in n)

module _ (w : Wanted) (is_cost : IsCostOf w.members w.cost) where
  -- leaves that are no better change nothing
  stays : (D : Family) (c : Option ℤ) (ns : List ℕ) (ls others : List (List Indexical)) (d : Option ℤ) (ks : List ℕ) → IsFamily INFINITY D → IsNoBetter w.least (bound w.least D w.cost) c
      → EachCosts INFINITY w.cost (IsAmong D w.cost) ls → Becomes w c ns others d ks → Becomes w c ns (ls ++ others) d ks
  stays D c ns [] others d ks r worse each h = h
  stays D c ns (l ∷ ls) others d ks r worse each h =
      (each.0.0, each.0.1, inr (no_better w.least D w.cost each.0.0 c r worse each.0.2, stays D c ns ls others d ks r worse each.1 h))

  -- what the best of some leaves becomes by more of them is the best of all
  best_of_both : (met ls : List (List Indexical)) (c : Option ℤ) (ns : List ℕ) (d : Option ℤ) (ks : List ℕ) → IsBestAmong w met c ns → Becomes w c ns ls d ks → IsBestAmong w (met ++ ls) d ks
  best_of_both met [] c ns d ks b h =
      subst (λ (ms : List (List Indexical)). IsBestAmong w ms d ks) (sym (append-nil met)) (subst (λ vs. IsBestAmong w met d vs) h.1 (subst (λ o. IsBestAmong w met o ns) h.0 b))
  best_of_both met (l ∷ ls) c ns d ks b h =
      subst (λ (ms : List (List Indexical)). IsBestAmong w ms d ks) (append_assoc met (l ∷ []) ls) (by_cost c b h.2 (λ o vs i g. best_of_both (met ++ l ∷ []) ls o vs d ks i g))
    where
      by_cost : (o : Option ℤ) → IsBestAmong w met o ns
          → (Improves w.least h.0 o × ((vs : List ℕ) × HaveValues INFINITY (open_ones w.members) l vs × Becomes w (Some h.0) vs ls d ks)) ⊎ (IsNoBetter w.least h.0 o × Becomes w o ns ls d ks)
          → ((o : Option ℤ) (vs : List ℕ) → IsBestAmong w (met ++ l ∷ []) o vs → Becomes w o vs ls d ks → IsBestAmong w ((met ++ l ∷ []) ++ ls) d ks)
          → IsBestAmong w ((met ++ l ∷ []) ++ ls) d ks
      by_cost None e (inl i) later = later (Some h.0) i.1.0 (
        l,
        subst (λ (ms : List (List Indexical)). IsBestPosted INFINITY w.least w.cost (ms ++ l ∷ []) l h.0) (sym e) (first_alone INFINITY w.least w.cost l h.0 h.1),
        i.1.1,
      ) i.1.2
      by_cost None e (inr i) later = absurd i.0
      by_cost (Some y) e (inl i) later = later (Some h.0) i.1.0 (l, first_new INFINITY w.least w.cost met e.0 l y h.0 e.1 h.1 i.0, i.1.1) i.1.2
      by_cost (Some y) e (inr i) later = later (Some y) ns (e.0, first_more INFINITY w.least w.cost met (l ∷ []) e.0 y e.1 ((h.0, h.1, i.0), tt), e.2) i.1

  -- the leaves that a bound leaves out change nothing, where the best so far is as good as the bound
  module _ (x : ℕ) (z : ℤ) (is : w.cost ≡ seen.Open x) (others : List (List Indexical)) (d : Option ℤ) (ks : List ℕ) where
    thinned_same : (ls js : List (List Indexical)) (y : ℤ) (ns : List ℕ) → IsAsGood w.least y z → AreThinned INFINITY w.members w.least x z ls js
        → Becomes w (Some y) ns (js ++ others) d ks → Becomes w (Some y) ns (ls ++ others) d ks
    thinned_same [] js y ns g t h = subst (λ (l : List (List Indexical)). Becomes w (Some y) ns (l ++ others) d ks) t h
    thinned_same (l ∷ ls) js y ns g (inl t) h =
        (t.0, subst (λ c. Costs INFINITY c l t.0) (sym is) t.1, inr (as_good_then w.least y z t.0 g t.2, thinned_same ls js y ns g t.3 h))
    thinned_same (l ∷ ls) js y ns g (inr t) h =
        let i = subst (λ (ms : List (List Indexical)). Becomes w (Some y) ns (ms ++ others) d ks) t.2 h in (
          i.0,
          subst (λ c. Costs INFINITY c l i.0) (sym is) (t.3.costs i.0 (subst (λ c. Costs INFINITY c t.0 i.0) is i.1)),
          by_cost i.0 i.2 (λ v vs f b. thinned_same ls t.1 v vs f t.4 b),
        )
      where
        by_cost : (c : ℤ)
            → (Improves w.least c (Some y) × ((vs : List ℕ) × HaveValues INFINITY (open_ones w.members) t.0 vs × Becomes w (Some c) vs (t.1 ++ others) d ks))
            ⊎ (IsNoBetter w.least c (Some y) × Becomes w (Some y) ns (t.1 ++ others) d ks)
            → ((v : ℤ) (vs : List ℕ) → IsAsGood w.least v z → Becomes w (Some v) vs (t.1 ++ others) d ks → Becomes w (Some v) vs (ls ++ others) d ks)
            → (Improves w.least c (Some y) × ((vs : List ℕ) × HaveValues INFINITY (open_ones w.members) l vs × Becomes w (Some c) vs (ls ++ others) d ks))
            ⊎ (IsNoBetter w.least c (Some y) × Becomes w (Some y) ns (ls ++ others) d ks)
        by_cost c (inl i) later = inl (i.0, (i.1.0, t.3.values i.1.0 i.1.1, later c i.1.0 (as_good_of w.least c z (better_then w.least c y z i.0 g)) i.1.2))
        by_cost c (inr i) later = inr (i.0, later y ns g i.1)

  module _ (count : ℕ) (root : List Indexical) (base : List Level) where
    -- A search begins at its root,
    pub begun : (best : SoFar) → AllMonotone INFINITY root → best.cost ≡ None → IsSearching w count root base (record { levels = base; nodes = []; best = best }) (root ∷ [])
    begun best mono none =
        let l = leaves_there INFINITY w.order w.members root mono in
        record {
          untried = [];
          nodes = (refl, refl);
          rest = l.0;
          to_come = l.1;
          sought = λ cost values h. (
            l.0,
            l.1,
            best_of_both [] l.0 None best.values.items cost values refl (subst (λ o. Becomes w o best.values.items l.0 cost values) none h),
          );
        }

    -- and ends where no node is open.
    pub ended : (levels : List Level) (best : SoFar) → IsSearching w count root base (record { levels = levels; nodes = []; best = best }) []
        → (levels ≡ base) × IsBestOf w root best.cost best.values.items
    ended levels best s =
        let none : s.rest ≡ [] = no_lists w.order w.members s.to_come s.nodes.1 in
        (s.nodes.0, s.sought best.cost best.values.items (subst (λ (ls : List (List Indexical)). Becomes w best.cost best.values.items ls best.cost best.values.items) (sym none) (refl, refl)))

    -- ---- A node is looked at.
    module _ (l : Level) (node : IsNode count l) (levels : List Level) (nodes : List Node) where
      abbrev D : Family
      D = family_of l.sets

      left : AreLeft INFINITY l.posted D
      left = node_left l.posted l.sets node.domains

      record Opened (x : ℕ) (untried rest : List (List Indexical)) : Type 0 where
        pub kids : List (List Indexical)
        pub kept : KeptLists INFINITY (map (with_value l.posted x) (D x)) kids
        pub come : PostedLeaves INFINITY w.order w.members (kids ++ untried) rest

      same_pick : (E : Family) (p q : Option ℕ) → AreLeft INFINITY l.posted E → picked_in w.order D w.members ≡ p → picked_in w.order E w.members ≡ q → p ≡ q
      same_pick E p q d f g = sym f ∙ ap (λ S. picked_in w.order S w.members) (left_once INFINITY l.posted D E left d) ∙ g

      open_tree : (x : ℕ) → picked_in w.order D w.members ≡ Some x → {cs rest : List (List Indexical)} → PostedLeaves INFINITY w.order w.members cs rest
          → (untried : List (List Indexical)) → cs ≡ l.posted ∷ untried → Opened x untried rest
      open_tree x p no_leaves untried e = absurd (let n : ⊥ = cc in n)
      open_tree x p (leaf {b = b} E d f t) untried e = absurd (let k : b ≡ l.posted = cc in
          let g = same_pick E (Some x) None (subst (λ (ps : List Indexical). AreLeft INFINITY ps E) k d) p f in let n : ⊥ = cc in n)
      open_tree x p {rest = rest} (grows {b = b} {bs = bs} E y cs d f k t) untried e =
          let first : b ≡ l.posted = cc in
          let others : bs ≡ untried = cc in
          let there : AreLeft INFINITY l.posted E = subst (λ (ps : List Indexical). AreLeft INFINITY ps E) first d in
          let g : Some x ≡ Some y = same_pick E (Some x) (Some y) there p f in
          let same : y ≡ x = cc in
          let sets : E ≡ D = left_once INFINITY l.posted E D there left in
          record {
            kids = cs;
            kept = subst (λ (S : Family). KeptLists INFINITY (map (with_value l.posted x) (S x)) cs) sets
                (subst (λ v. KeptLists INFINITY (map (with_value l.posted v) (E v)) cs) same
                (subst (λ (ps : List Indexical). KeptLists INFINITY (map (with_value ps y) (E y)) cs) first k));
            come = subst (λ (xs : List (List Indexical)). PostedLeaves INFINITY w.order w.members (cs ++ xs) rest) others t;
          }

      -- It becomes an open one, where a variable is picked;
      pub opened : (best : SoFar) (x : ℕ) → picked_in w.order D w.members ≡ Some x
          → IsSearching w count root base (record { levels = levels; nodes = nodes; best = best }) (l.posted ∷ [])
          → IsSearching w count root base (record { levels = l ∷ levels; nodes = record { variable = x; from = 0; bounded = best.cost } ∷ nodes; best = best }) []
      opened best x p s =
          let t = open_tree x p s.to_come s.untried refl in
          let all : filter (λ k. nat_le 0 k) (D x) ≡ D x = filter_from_low 0 0 INFINITY (D x) (node.domains.family.rising x) (omega arith) in
          record {
            rest = s.rest;
            untried = t.kids ++ s.untried;
            nodes = (record { node = node; member = picked_member w.order D w.members x p }, (t.kids, s.untried, refl, subst (λ (ns : List ℕ). KeptLists INFINITY (map (with_value l.posted x) ns) t.kids) (sym all) t.kept, s.nodes));
            to_come = t.come;
            sought = s.sought;
          }

      record Met (untried rest : List (List Indexical)) : Type 0 where
        pub others : List (List Indexical)
        pub parts : rest ≡ l.posted ∷ others
        pub come : PostedLeaves INFINITY w.order w.members untried others

      leaf_tree : picked_in w.order D w.members ≡ None → {cs rest : List (List Indexical)} → PostedLeaves INFINITY w.order w.members cs rest
          → (untried : List (List Indexical)) → cs ≡ l.posted ∷ untried → Met untried rest
      leaf_tree p no_leaves untried e = absurd (let n : ⊥ = cc in n)
      leaf_tree p (leaf {b = b} {bs = bs} {ls = ls} E d f t) untried e =
          let first : b ≡ l.posted = cc in
          let others : bs ≡ untried = cc in
          record { others = ls; parts = ap (λ (x : List Indexical). x ∷ ls) first; come = subst (λ (xs : List (List Indexical)). PostedLeaves INFINITY w.order w.members xs ls) others t }
      leaf_tree p (grows {b = b} E y cs d f k t) untried e = absurd (let k : b ≡ l.posted = cc in
          let g = same_pick E None (Some y) (subst (λ (ps : List Indexical). AreLeft INFINITY ps E) k d) p f in let n : ⊥ = cc in n)

      -- or a leaf, which is the best so far where its cost improves it;
      pub kept_leaf : (old new : SoFar) → picked_in w.order D w.members ≡ None → Improves w.least (bound w.least D w.cost) old.cost
          → new.cost ≡ Some (bound w.least D w.cost) → new.values.items ≡ map (λ x. least (D x)) (open_ones w.members)
          → IsSearching w count root base (record { levels = levels; nodes = nodes; best = old }) (l.posted ∷ [])
          → IsSearching w count root base (record { levels = levels; nodes = nodes; best = new }) []
      kept_leaf old new p i cost values s =
          let t = leaf_tree p s.to_come s.untried refl in
          let c = end_costs INFINITY w.order w.members w.cost l.posted D is_cost left p in
          let z : c.0 ≡ bound w.least D w.cost = cost_bound l.posted l.sets node.domains w.least w.cost c.0 c.1 in
          let v = end_values INFINITY w.order w.members l.posted D left p in
          record {
            untried = s.untried;
            nodes = s.nodes;
            rest = t.others;
            to_come = t.come;
            sought = λ d ks h. s.sought d ks (subst (λ (ls : List (List Indexical)). Becomes w old.cost old.values.items ls d ks) (sym t.parts) (
              bound w.least D w.cost,
              subst (Costs INFINITY w.cost l.posted) z c.1,
              inl (
                i,
                (
                  map (λ x. least (D x)) (open_ones w.members),
                  v,
                  subst (λ ns. Becomes w (Some (bound w.least D w.cost)) ns t.others d ks) values (subst (λ o. Becomes w o new.values.items t.others d ks) cost h),
                ),
              ),
            ));
          }

      -- or it is dropped, where its bound is no better.
      pub dropped : (best : SoFar) → IsNoBetter w.least (bound w.least D w.cost) best.cost
          → IsSearching w count root base (record { levels = levels; nodes = nodes; best = best }) (l.posted ∷ [])
          → IsSearching w count root base (record { levels = levels; nodes = nodes; best = best }) []
      dropped best worse s =
          let p = parted INFINITY w.order w.members s.to_come (l.posted ∷ []) s.untried refl in
          record {
            untried = s.untried;
            nodes = s.nodes;
            rest = p.rest;
            to_come = p.others;
            sought = λ d ks h. s.sought d ks (subst (λ (ls : List (List Indexical)). Becomes w best.cost best.values.items ls d ks) (sym p.parts)
                (stays D best.cost best.values.items p.front p.rest d ks left.family worse (leaves_within INFINITY w.order w.members w.cost is_cost D l.posted p.front left p.first) h));
          }

    -- ---- The newest open node goes on.
    module _ (l : Level) (levels : List Level) (n : Node) (nodes : List Node) (best : SoFar) where
      -- It is closed where no value is left,
      pub closed_empty : values_left l n ≡ [] → IsSearching w count root base (record { levels = l ∷ levels; nodes = n ∷ nodes; best = best }) []
          → IsSearching w count root base (record { levels = levels; nodes = nodes; best = best }) []
      closed_empty e s =
          let ks : s.nodes.1.0 ≡ [] = subst (λ (ns : List ℕ). KeptLists INFINITY (map (with_value l.posted n.variable) ns) s.nodes.1.0) e s.nodes.1.3 in
          record {
            rest = s.rest;
            untried = s.nodes.1.1;
            nodes = s.nodes.1.4;
            to_come = subst (λ (cs : List (List Indexical)). PostedLeaves INFINITY w.order w.members cs s.rest) (s.nodes.1.2 ∙ ap (λ (ks : List (List Indexical)). ks ++ s.nodes.1.1) ks) s.to_come;
            sought = s.sought;
          }

      -- or none that can improve the best so far;
      pub closed_no_better : IsNoBetter w.least (bound w.least (family_of l.sets) w.cost) best.cost
          → IsSearching w count root base (record { levels = l ∷ levels; nodes = n ∷ nodes; best = best }) []
          → IsSearching w count root base (record { levels = levels; nodes = nodes; best = best }) []
      closed_no_better worse s =
          let left = node_left l.posted l.sets s.nodes.0.node.domains in
          let p = parted INFINITY w.order w.members s.to_come s.nodes.1.0 s.nodes.1.1 s.nodes.1.2 in
          record {
            untried = s.nodes.1.1;
            nodes = s.nodes.1.4;
            rest = p.rest;
            to_come = p.others;
            sought = λ d ks h. s.sought d ks (subst (λ (ls : List (List Indexical)). Becomes w best.cost best.values.items ls d ks) (sym p.parts)
                (stays (family_of l.sets) best.cost best.values.items p.front p.rest d ks left.family worse
                (children_within INFINITY w.order w.members w.cost is_cost (family_of l.sets) l.posted n.variable (values_left l n) s.nodes.1.0 p.front left
                s.nodes.1.3 p.first) h));
          }

      -- or its level gets a bound, by Leftmost, which is that the cost is better than that of the best so far:
      module _ (x : ℕ) (z : ℤ) (m : Level) (first : w.order ≡ Leftmost) (is : w.cost ≡ seen.Open x) (now : best.cost ≡ Some z) (more : m.posted ≡ with_bound l.posted x w.least z) where
        cost_open : has (open_ones w.members) x ≡ true
        cost_open = subst (IsCostOf w.members) is is_cost

        within : IsNode count l → IsUnder INFINITY w.members w.least x z l.posted m.posted
        within node = bound_within w.members w.least x z l.posted m.posted node.monotone more

        -- what becomes of the best so far is the same,
        same_best : (ls ks others : List (List Indexical)) (d : Option ℤ) (vs : List ℕ) → AreThinned INFINITY w.members w.least x z ls ks → Becomes w best.cost best.values.items (ks ++ others) d vs
            → Becomes w best.cost best.values.items (ls ++ others) d vs
        same_best ls ks others d vs t h =
            subst (λ o. Becomes w o best.values.items (ls ++ others) d vs) (sym now)
            (thinned_same x z is others d vs ls ks z best.values.items (as_good_self w.least z) t (subst (λ o. Becomes w o best.values.items (ks ++ others) d vs) now h))

        pub bounded_open : IsNode count m → IsSearching w count root base (record { levels = l ∷ levels; nodes = n ∷ nodes; best = best }) []
            → IsSearching w count root base (record { levels = m ∷ levels; nodes = n ∷ nodes; best = best }) []
        bounded_open node s =
            let p = parted INFINITY w.order w.members s.to_come s.nodes.1.0 s.nodes.1.1 s.nodes.1.2 in
            let left = node_left m.posted m.sets node.domains in
            let old = node_left l.posted l.sets s.nodes.0.node.domains in
            let b = within s.nodes.0.node in
            let kids = children_of INFINITY w.members w.least x z l.posted n.variable (family_of m.sets n.variable) (λ v. with_value m.posted n.variable v)
            (λ v. under_more INFINITY w.members w.least x z l.posted m.posted n.variable v b)
            (λ v c. (kept_first INFINITY m.posted (family_of m.sets) n.variable v b.monotone left c).1) (values_left l n) s.nodes.1.0 s.nodes.1.3 in
            let own : KeptLists INFINITY (map (with_value m.posted n.variable) (values_left m n)) kids.kids =
            subst (λ vs. KeptLists INFINITY (map (with_value m.posted n.variable) vs) kids.kids)
            (values_under (family_of l.sets n.variable) (family_of m.sets n.variable) n.from (old.family.rising n.variable) (left.family.rising n.variable)
            ((under_inside INFINITY w.members w.least x z l.posted m.posted (family_of l.sets) (family_of m.sets) b old left).at n.variable)) kids.kept in
            let made = bounded_leaves INFINITY w.members w.least x z cost_open (subst (λ o. PostedLeaves INFINITY o w.members s.nodes.1.0 p.front) first p.first) kids.kids kids.bounded in
            record {
              untried = kids.kids ++ s.nodes.1.1;
              nodes = (record { node = node; member = s.nodes.0.member }, (kids.kids, s.nodes.1.1, refl, own, s.nodes.1.4));
              rest = made.leaves ++ p.rest;
              to_come = leaves_both INFINITY w.order w.members s.nodes.1.1 p.rest p.others (subst (λ o. PostedLeaves INFINITY o w.members kids.kids made.leaves) (sym first) made.come);
              sought = λ d vs h. s.sought d vs (subst (λ (ls : List (List Indexical)). Becomes w best.cost best.values.items ls d vs) (sym p.parts)
                  (same_best p.front made.leaves p.rest d vs made.thinned h));
            }

        -- and nothing is left of it where that isn't consistent;
        pub bounded_none : (IsConsistent INFINITY INFINITY [] m.posted → ⊥) → IsSearching w count root base (record { levels = l ∷ levels; nodes = n ∷ nodes; best = best }) []
            → IsSearching w count root base (record { levels = levels; nodes = nodes; best = best }) []
        bounded_none none s =
            let p = parted INFINITY w.order w.members s.to_come s.nodes.1.0 s.nodes.1.1 s.nodes.1.2 in
            let kids = none_under INFINITY w.members w.least x z l.posted m.posted n.variable (within s.nodes.0.node) none (values_left l n) s.nodes.1.0 s.nodes.1.3 in
            let made = bounded_leaves INFINITY w.members w.least x z cost_open (subst (λ o. PostedLeaves INFINITY o w.members s.nodes.1.0 p.front) first p.first) [] kids in
            let empty : made.leaves ≡ [] = no_lists Leftmost w.members made.come refl in
            record {
              untried = s.nodes.1.1;
              nodes = s.nodes.1.4;
              rest = p.rest;
              to_come = p.others;
              sought = λ d vs h. s.sought d vs (subst (λ (ls : List (List Indexical)). Becomes w best.cost best.values.items ls d vs) (sym p.parts)
                  (same_best p.front [] p.rest d vs (subst (AreThinned INFINITY w.members w.least x z p.front) empty made.thinned) h));
            }

      module _ (n' : Node) (value : ℕ) (same : n'.variable ≡ n.variable) (step : values_left l n ≡ value ∷ values_left l n') where
        abbrev Kids : List (List Indexical) → Type 0
        Kids ks = KeptLists INFINITY (map (with_value l.posted n'.variable) (values_left l n')) ks

        record Split (ks : List (List Indexical)) (front : List (List Indexical)) : Type 0 where
          pub others : List (List Indexical)
          pub parts : ks ≡ front ++ others
          pub kept : Kids others

        split : (ks : List (List Indexical)) → KeptLists INFINITY (map (with_value l.posted n.variable) (values_left l n)) ks
            → KeptLists INFINITY (with_value l.posted n'.variable value ∷ map (with_value l.posted n'.variable) (values_left l n')) ks
        split ks k = subst (λ v. KeptLists INFINITY (map (with_value l.posted v) (value ∷ values_left l n')) ks) (sym same)
            (subst (λ (ns : List ℕ). KeptLists INFINITY (map (with_value l.posted n.variable) ns) ks) step k)

        split_kept : (ks : List (List Indexical)) → IsConsistent INFINITY INFINITY [] (with_value l.posted n'.variable value)
            → KeptLists INFINITY (with_value l.posted n'.variable value ∷ map (with_value l.posted n'.variable) (values_left l n')) ks
            → Split ks (with_value l.posted n'.variable value ∷ [])
        split_kept ks c (inl k) = record { others = k.1.0; parts = k.1.1; kept = k.1.2 }
        split_kept ks c (inr k) = absurd (k.0 c)

        split_left : (ks : List (List Indexical)) → (IsConsistent INFINITY INFINITY [] (with_value l.posted n'.variable value) → ⊥)
            → KeptLists INFINITY (with_value l.posted n'.variable value ∷ map (with_value l.posted n'.variable) (values_left l n')) ks → Split ks []
        split_left ks c (inl k) = absurd (c k.0)
        split_left ks c (inr k) = record { others = ks; parts = refl; kept = k.1 }

        still_open : IsOpen w count l n → IsOpen w count l n'
        still_open o = record { node = o.node; member = subst (λ v. has (open_ones w.members) v ≡ true) (sym same) o.member }

        -- or its next value is tried: what is posted for it is consistent,
        pub tried : IsConsistent INFINITY INFINITY [] (with_value l.posted n'.variable value)
            → IsSearching w count root base (record { levels = l ∷ levels; nodes = n ∷ nodes; best = best }) []
            → IsSearching w count root base (record { levels = l ∷ levels; nodes = n' ∷ nodes; best = best }) (with_value l.posted n'.variable value ∷ [])
        tried c s =
            let t = split_kept s.nodes.1.0 c (split s.nodes.1.0 s.nodes.1.3) in
            record {
              rest = s.rest;
              untried = t.others ++ s.nodes.1.1;
              nodes = (still_open s.nodes.0, (t.others, s.nodes.1.1, refl, t.kept, s.nodes.1.4));
              to_come = subst (λ (cs : List (List Indexical)). PostedLeaves INFINITY w.order w.members cs s.rest)
                  (s.nodes.1.2 ∙ ap (λ (ks : List (List Indexical)). ks ++ s.nodes.1.1) t.parts) s.to_come;
              sought = s.sought;
            }

        -- or not.
        pub passed : (IsConsistent INFINITY INFINITY [] (with_value l.posted n'.variable value) → ⊥)
            → IsSearching w count root base (record { levels = l ∷ levels; nodes = n ∷ nodes; best = best }) []
            → IsSearching w count root base (record { levels = l ∷ levels; nodes = n' ∷ nodes; best = best }) []
        passed c s =
            let t = split_left s.nodes.1.0 c (split s.nodes.1.0 s.nodes.1.3) in
            record {
              rest = s.rest;
              untried = t.others ++ s.nodes.1.1;
              nodes = (still_open s.nodes.0, (t.others, s.nodes.1.1, refl, t.kept, s.nodes.1.4));
              to_come = subst (λ (cs : List (List Indexical)). PostedLeaves INFINITY w.order w.members cs s.rest)
                  (s.nodes.1.2 ∙ ap (λ (ks : List (List Indexical)). ks ++ s.nodes.1.1) t.parts) s.to_come;
              sought = s.sought;
            }
