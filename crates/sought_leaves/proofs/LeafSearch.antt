-- The leaves over posted ranges are those of the labelling in the branch, and so is the best of them.
use Rattle.std.proofs.Common.{◌≡◌, ℕ, suc, ◌+◌, length, ◌<◌, ◌≤◌, ◌==◌, Bool, true, false, cond, ℤ, List, [], ◌∷◌, ◌++◌, map, Option, Some, None, refl, ap, sym}
use Rattle.std.proofs.Common.{◌∙◌, subst, inl, inr, eq-eqb, eqb-true, arith}
use Rattle.std.proofs.lemmas.Bool.{or_cases, or_left, or_right, true≢false}
use Rattle.std.proofs.lemmas.List.{map-append}
use Rattle.fd_language.specs.Family.{Family, has}
use Rattle.fd_language.specs.Lists.{Each}
use Rattle.fd_language.specs.Range.{Indexical}
use Rattle.fd_language.specs.Term.{Term, Var, Substitution}
use Rattle.fd_language.specs.Unifier.{Equation}
use Rattle.fd_language.proofs.Lemmas.{has_high}
use Rattle.fd_model.specs.declared.kinds.Order.{Order}
use Rattle.fd_model.specs.BestPosted.{Costs, EachCosts, IsBestPosted, BestValues, SoughtValues}
use Rattle.fd_model.specs.Branches.{Kept, is_number, by_value, with_goals, sets_in}
use Rattle.fd_model.specs.Goal.{Goal, Branch}
use Rattle.fd_model.specs.Labelling.{open_ones, values_by}
use Rattle.fd_model.specs.Leaves.{Leaves, leaf, grows, no_leaves, IsSeenAs, IsBetter, IsAsGood, IsBest, BestLeaf}
use Rattle.fd_model.specs.Members.{Member, Open, Known}
use Rattle.fd_model.specs.PostedLeaves.{AreLeft, KeptLists, PostedLeaves, exactly, with_value}
use Rattle.fd_model.specs.PostedLeaves as posted
use Rattle.fd_model.specs.BranchViews.{IsConsistent}
use Rattle.fd_model.proofs.Lemmas.{has_view}
use Rattle.sought_leaves.specs.LeafSearch.{owned, IsSearched, found_at, cell_of, Takes, ends, gives, IsFound}
use Rattle.sought_leaves.proofs.Nodes.{at_branch, IsPicked, Reached, begins, goes, reached_more, HasTaken, IsNode, first_node, first_open, list_consistent}
use Rattle.sought_leaves.proofs.Nodes.{branch_consistent, now, child_node, child_opens, child_path, opens, opens_all}
use Rattle.sought_leaves.proofs.NodeViews.{leaf_there, next_there, cost_there}
use Rattle.sought_leaves.proofs.Values.{left_model}

module _ (M N : ℕ) (big : 0 < N) (b : Branch) (o : Order) (t c : Term) (h : ℕ) (look : Substitution) (link : ℕ → Option ℕ) (slot : ℕ → ℕ) (qs : List Indexical) (A : Family) (ms : List Member)
    (cost : Member) (own : ℕ → ℕ) (ls : List Indexical) (s : IsSearched M N b t c h look link slot qs A ms cost own ls) where
  abbrev Node : List Equation → List Indexical → Type 0
  Node es l = IsNode M N big b o t c h look link slot qs A ms cost own ls s es l

  abbrev branch : List Equation → Branch
  branch = at_branch b o t

  abbrev Takings : Substitution → ℕ → ℕ → Type 0
  Takings bound = HasTaken M N big b o t c h look link slot qs A ms cost own ls s bound

  -- reached by so many cells that were bound
  abbrev IsReached : Substitution → List Equation → Type 0
  IsReached bound es = (j : ℕ) × Reached M N b o t (Takings bound) j es × (j + opens bound (open_ones ms) ≤ length (open_ones ms))

  -- a consistent node, and how it is reached
  abbrev IsThere : List Equation → List Indexical → Type 0
  IsThere es l = (k : Node es l) × IsReached k.bound es × IsConsistent M N es b.posted × IsConsistent M M [] l

  abbrev AreThere : List (List Equation) → List (List Indexical) → Type 0
  AreThere [] [] = Unit {0}
  AreThere (es ∷ more) (l ∷ ls) = IsThere es l × AreThere more ls
  AreThere _ _ = ⊥

  -- the labelling ends there, whatever values it has taken
  abbrev EndsAt : List Equation → Type 0
  EndsAt es = (value : ℕ → ℕ) → Takes M N o t value 0 (branch es) (branch es)

  abbrev AllEnd : List (List Equation) → Type 0
  AllEnd [] = Unit {0}
  AllEnd (es ∷ more) = EndsAt es × AllEnd more

  end_at : (ds : List (List Equation)) (es : List Equation) (gs : List (List Equation)) → AllEnd (ds ++ es ∷ gs) → EndsAt es
  end_at [] es gs a = a.0
  end_at (d ∷ ds) es gs a = end_at ds es gs a.1

  both_there : (ds : List (List Equation)) (ks : List (List Indexical)) (es : List (List Equation)) (ls : List (List Indexical)) → AreThere ds ks → AreThere es ls → AreThere (ds ++ es) (ks ++ ls)
  both_there [] [] es ls a i = i
  both_there [] (k ∷ ks) es ls a i = absurd a
  both_there (d ∷ ds) [] es ls a i = absurd a
  both_there (d ∷ ds) (k ∷ ks) es ls a i = (a.0, both_there ds ks es ls a.1 i)

  -- ---- the children of a node

  module _ (es : List Equation) (l : List Indexical) (k : Node es l) (r : IsReached k.bound es) (x d : ℕ) (low : x < b.fresh) (among : has (open_ones ms) d ≡ true) (at_d : look x ≡ Var d)
      (open_now : k.bound d ≡ Var d)
      (v : Substitution) (D : Family) (ns : List Member) (p : IsPicked M N b o t es v D ns x) where
    abbrev Values : List ℕ → Type 0
    Values ws = (n : ℕ) → has ws n ≡ true → n ≤ N

    -- those that are kept
    children_there : (ws : List ℕ) → Values ws → (cs : List (List Indexical)) → KeptLists M (map (with_value l (own d)) ws) cs
        → (ds : List (List Equation)) × Kept M N (map (by_value (branch es) (branch es).goals x) ws) (map branch ds) × AreThere ds cs
    children_there [] small cs e = ([], refl, subst (AreThere []) (sym e) tt)
    children_there (n ∷ ws) small cs i =
        let here = small n (or_left (n == n) (has ws n) (eq-eqb n n refl)) in
        let q = child_node M N big b o t c h look link slot qs A ms cost own ls s es l k x d n low among at_d open_now here in
        by_kept (children_there ws later) here q i
      where
        later : Values ws
        later m e = small m (or_right (n == m) (has ws m) e)

        by_kept : ((ks : List (List Indexical)) → KeptLists M (map (with_value l (own d)) ws) ks
            → (ds : List (List Equation)) × Kept M N (map (by_value (branch es) (branch es).goals x) ws) (map branch ds) × AreThere ds ks) → (here : n ≤ N)
            → (q : Node (is_number x n ∷ es) (with_value l (own d) n)) × (q.bound ≡ now M N big b o t c h look link slot qs A ms cost own ls s es l k x d n low among at_d open_now here)
            → KeptLists M (map (with_value l (own d)) (n ∷ ws)) cs → (ds : List (List Equation)) × Kept M N (map (by_value (branch es) (branch es).goals x) (n ∷ ws)) (map branch ds) × AreThere ds cs
        by_kept rest here q (inl g) =
            let more = rest g.1.0 g.1.2 in
            let there = branch_consistent M N big b o t c h look link slot qs A ms cost own ls s (is_number x n ∷ es) (with_value l (own d) n) q.0 g.0 in
            let path = child_path M N big b o t c h look link slot qs A ms cost own ls s es l k x d n low among at_d open_now here r.0 r.1 v D ns p there in
            let fewer = child_opens M N big b o t c h look link slot qs A ms cost own ls s es l k x d n low among at_d open_now here in
            let count = r.2 in
            let reached : IsReached (now M N big b o t c h look link slot qs A ms cost own ls s es l k x d n low among at_d open_now here) (is_number x n ∷ es) =
            (suc r.0, path, omega (arith, fewer, count)) in (
              (is_number x n ∷ es) ∷ more.0,
              inl (there, (map branch more.0, refl, more.1)),
              subst (AreThere ((is_number x n ∷ es) ∷ more.0)) (sym g.1.1) ((q.0, subst (λ f. IsReached f (is_number x n ∷ es)) (sym q.1) reached, there, g.0), more.2),
            )
        by_kept rest here q (inr g) =
            let more = rest cs g.1 in
            (more.0, inr ((λ i. g.0 (list_consistent M N big b o t c h look link slot qs A ms cost own ls s (is_number x n ∷ es) (with_value l (own d) n) q.0 i)), more.1), more.2)

  -- ---- all leaves

  leaves_there : {bs ls : List (List Indexical)} → PostedLeaves M o (map (owned own) ms) bs ls → (es : List (List Equation)) → AreThere es bs
      → (fs : List (List Equation)) × Leaves M N o t (map branch es) (map branch fs) × AreThere fs ls × AllEnd fs
  leaves_there posted.no_leaves [] a = ([], no_leaves, tt, tt)
  leaves_there posted.no_leaves (es ∷ more) a = absurd a
  leaves_there (posted.leaf G left none rest) [] a = absurd a
  leaves_there (posted.leaf {b = l} G left none rest) (es ∷ more) a =
      let k = a.0.0 in
      let view = has_view M N es b.posted s.monotone a.0.2 in
      let seen = leaf_there M N big b o t c h look link slot qs A ms cost own ls s es l k a.0.2 a.0.3 G left view.0 view.1 view.2 none in
      let later = leaves_there rest more a.1 in
      (es ∷ later.0, leaf view.0 view.1 seen.0 view.2 seen.1 seen.2 later.1, (a.0, later.2), ((λ value. ends view.0 view.1 seen.0 view.2 seen.1 seen.2), later.3))
  leaves_there (posted.grows G j cs left picked kept rest) [] a = absurd a
  leaves_there (posted.grows {b = l} {bs = bs} G j cs left picked kept rest) (es ∷ more) a =
      let k = a.0.0 in
      let view = has_view M N es b.posted s.monotone a.0.2 in
      let next = next_there M N big b o t c h look link slot qs A ms cost own ls s es l k a.0.2 a.0.3 G left view.0 view.1 view.2 j picked in
      let model = left_model M l G k.list_monotone a.0.3 left in
      let small : (n : ℕ) → has (G j) n ≡ true → n ≤ N = λ n e. k.low next.cell next.among G model n (subst (λ i. has (G i) n ≡ true) (sym next.owns) e) in
      let kids = children_there es l k a.0.1 next.variable next.cell next.low next.among next.is_cell next.open_now view.0 view.1 next.members next.picked (G j) small cs
      (subst (λ i. KeptLists M (map (with_value l i) (G j)) cs) (sym next.owns) kept) in
      let all = leaves_there rest (kids.0 ++ more) (both_there kids.0 cs more bs kids.2 a.1) in
      let values : values_by N (sets_in (branch es) view.0 view.1 next.variable) ≡ G j = next.values_are in (
        all.0,
        grows view.0 view.1 next.members next.variable (map branch kids.0) view.2 next.picked.list next.picked.picked
            (subst (λ ws. Kept M N (map (by_value (branch es) (branch es).goals next.variable) ws) (map branch kids.0)) (sym values) kids.1)
            (subst (λ bs. Leaves M N o t bs (map branch all.0)) (map-append branch kids.0 more) all.1),
        all.2,
        all.3,
      )

  -- ---- the best leaf

  module _ (least : Bool) where
    -- costs of leaves
    cost_of : (es : List Equation) (l : List Indexical) (z : ℤ) → IsThere es l → Costs M (owned own cost) l z → IsSeenAs M N (branch es) c z
    cost_of es l z a g =
        let view = has_view M N es b.posted s.monotone a.2 in
        cost_there M N big b o t c h look link slot qs A ms cost own ls s es l a.0 a.2 a.3 g.family g.left view.0 view.1 view.2 z g.seen

    costs_of : (Is : ℤ → Type 0) (fs : List (List Equation)) (ls : List (List Indexical)) → AreThere fs ls → EachCosts M (owned own cost) Is ls
        → Each (λ d. (z : ℤ) × IsSeenAs M N d c z × Is z) (map branch fs)
    costs_of Is [] [] a g = tt
    costs_of Is [] (l ∷ ls) a g = absurd a
    costs_of Is (es ∷ fs) [] a g = absurd a
    costs_of Is (es ∷ fs) (l ∷ ls) a g = ((g.0.0, cost_of es l g.0.0 a.0 g.0.1, g.0.2), costs_of Is fs ls a.1 g.1)

    -- the leaves in two parts, about one of them
    parts : (before : List (List Indexical)) (l : List Indexical) (behind : List (List Indexical)) (fs : List (List Equation)) → AreThere fs (before ++ l ∷ behind)
        → (ds : List (List Equation)) × (es : List Equation) × (gs : List (List Equation)) × (fs ≡ ds ++ es ∷ gs) × AreThere ds before × IsThere es l × AreThere gs behind
    parts [] l behind [] a = absurd a
    parts [] l behind (es ∷ gs) a = ([], es, gs, refl, tt, a.0, a.1)
    parts (k ∷ before) l behind [] a = absurd a
    parts (k ∷ before) l behind (d ∷ fs) a = let r = parts before l behind fs a.1 in (d ∷ r.0, r.1, r.2, ap (λ ws. d ∷ ws) r.3, (a.0, r.4), r.5, r.6)

    best_of : (ls : List (List Indexical)) (l : List Indexical) (z : ℤ) (fs : List (List Equation)) → AreThere fs ls → AllEnd fs → IsBestPosted M least (owned own cost) ls l z
        → (es : List Equation) × IsThere es l × IsBest M N least c (map branch fs) (branch es) × EndsAt es
    best_of ls l z fs a end g =
        let r = parts g.before l g.behind fs (subst (AreThere fs) g.among a) in (
          r.1,
          r.5,
          record {
            before = map branch r.0;
            behind = map branch r.2;
            among = ap (map branch) r.3 ∙ map-append branch r.0 (r.1 ∷ r.2);
            cost = z;
            costs = cost_of r.1 l z r.5 g.costs;
            earlier = costs_of (λ y. IsBetter least z y) r.0 g.before r.4 g.earlier;
            later = costs_of (λ y. IsAsGood least z y) r.2 g.behind r.6 g.later;
          },
          end_at r.0 r.1 r.2 (subst AllEnd r.3 end),
        )

  -- ---- the values found

  -- each cell's number is the one found for it
  found_values : (F : Family) (cs ns : List ℕ) → map F (map own cs) ≡ map (λ n. n ∷ []) ns → (d : ℕ) → has cs d ≡ true → F (own d) ≡ found_at cs ns d ∷ []
  found_values F [] ns e d i = absurd (true≢false (sym i))
  found_values F (x ∷ cs) [] e d i = absurd (cc)
  found_values F (x ∷ cs) (n ∷ ns) e d i = by_test (λ j. found_values F cs ns rest d j) (x == d) refl
    where
      first : F (own x) ≡ n ∷ []
      first = cc

      rest : map F (map own cs) ≡ map (λ n. n ∷ []) ns
      rest = cc

      by_test : (has cs d ≡ true → F (own d) ≡ found_at cs ns d ∷ []) → (q : Bool) → (x == d) ≡ q → F (own d) ≡ cond q n (found_at cs ns d) ∷ []
      by_test later true j = ap (λ y. F (own y)) (sym (eqb-true x d j)) ∙ first
      by_test later false j = later (elim (or_cases (x == d) (has cs d) i) [ inl a ↦ absurd (true≢false (sym a ∙ j)) | inr a ↦ a ])

  own_members : (ks : List Member) → open_ones (map (owned own) ks) ≡ map own (open_ones ks)
  own_members [] = refl
  own_members (Known z ∷ ks) = own_members ks
  own_members (Open d ∷ ks) = ap (λ ws. own d ∷ ws) (own_members ks)

  -- the labelling takes these values on the way
  taken_by : (value : ℕ → ℕ) (d : Branch) (i : ℕ) (es : List Equation) → Reached M N b o t (λ x n. n ≡ value x) i es → (j : ℕ) → Takes M N o t value j (branch es) d
      → Takes M N o t value (i + j) (branch b.equations) d
  taken_by value d i es begins j k = subst (λ a. Takes M N o t value a (branch b.equations) d) (let e : j ≡ 0 + j = omega arith in e) k
  taken_by value d i es (goes {j = f} {es = fs} r v D ns x n p g e) j k =
      subst (λ a. Takes M N o t value a (branch b.equations) d) (let q : f + suc j ≡ suc f + j = omega arith in q)
      (taken_by value d f fs r (suc j) (gives v D ns x p.view p.list p.picked (subst (λ m. IsConsistent M N (is_number x m ∷ fs) b.posted) e g)
      (subst (λ m. Takes M N o t value j (branch (is_number x m ∷ fs)) d) e k)))

  -- ---- what a search finds

  module _ (least : Bool) (rest : List Goal) (found_ones : List (List Indexical)) (all : PostedLeaves M o (map (owned own) ms) (ls ∷ []) found_ones) where
    -- the search begins with the branch, whose store is consistent as it is
    begun : IsThere b.equations ls
    begun =
        let first = first_node M N big b o t c h look link slot qs A ms cost own ls s in
        let none = first_open M N big b o t c h look link slot qs A ms cost own ls s in
        let all : opens first.bound (open_ones ms) ≡ length (open_ones ms) = ap (λ w. opens w (open_ones ms)) none ∙ opens_all (open_ones ms) in
        (first, (0, begins, omega (arith, all)), s.consistent, list_consistent M N big b o t c h look link slot qs A ms cost own ls s b.equations ls first s.consistent)

    leaves : (fs : List (List Equation)) × Leaves M N o t (branch b.equations ∷ []) (map branch fs) × AreThere fs found_ones × AllEnd fs
    leaves = leaves_there all (b.equations ∷ []) (begun, tt)

    no_leaf : (fs : List (List Equation)) → AreThere fs [] → fs ≡ []
    no_leaf [] a = refl
    no_leaf (es ∷ fs) a = absurd a

    -- one that is found goes on with the goals behind
    chosen : (fs : List (List Equation)) (es : List Equation) → IsBest M N least c (map branch fs) (branch es) → BestLeaf M N least c rest (map branch fs) (with_goals (branch es) rest ∷ [])
    chosen [] es i = absurd (none i.before i.among)
      where
        none : (ds : List Branch) → [] ≡ ds ++ branch es ∷ i.behind → ⊥
        none [] e = cc
        none (d ∷ ds) e = cc
    chosen (f ∷ fs) es i = (branch es, i, refl)

    pub found_leaf : (found : Option (List ℕ)) → BestValues M least (owned own cost) (open_ones (map (owned own) ms)) found_ones found → IsFound M N b rest o least t c look (open_ones ms) found
    found_leaf None e =
        let w = leaves in
        (map branch w.0, w.1, subst (λ fs. BestLeaf M N least c rest (map branch fs) []) (sym (no_leaf w.0 (subst (AreThere w.0) e w.2))) refl)
    found_leaf (Some ns) e =
        let w = leaves in
        let best = best_of least found_ones e.0 e.1 w.0 w.2 w.3 e.2 in
        let es = best.0 in
        let there = best.1 in
        let value : ℕ → ℕ = λ x. found_at (open_ones ms) ns (cell_of (look x)) in
        let F = e.3.family in
        let model = left_model M e.0 F there.0.list_monotone there.3 e.3.left in
        let values : map F (map own (open_ones ms)) ≡ map (λ n. n ∷ []) ns = ap (map F) (sym (own_members ms)) ∙ e.3.values in
        let takes : (x n : ℕ) → Takings there.0.bound x n → n ≡ value x = λ x n g. (
        let i = there.0.held g.0 n g.2 in
        let both : n ∷ [] ≡ found_at (open_ones ms) ns g.0 ∷ [] = sym (i.1 F model) ∙ found_values F (open_ones ms) ns values g.0 i.0 in
        let same : n ≡ found_at (open_ones ms) ns g.0 = cc in
        same ∙ ap (λ u. found_at (open_ones ms) ns (cell_of u)) (sym g.1)
        ) in
        let rounds = there.1.0 in
        let most = there.1.2 in
        let path = reached_more M N b o t (Takings there.0.bound) (λ x n. n ≡ value x) takes rounds es there.1.1 in
        (branch es, (map branch w.0, w.1, chosen w.0 es best.2), rounds + 0, omega (arith, most), taken_by value (branch es) rounds es path 0 (best.3 value))

-- What a search finds over the store's posted ranges is what the labelling's best leaf is in the branch.
pub searches_agree : (M N : ℕ) (b : Branch) (t c : Term) (h : ℕ) (look : Substitution) (link : ℕ → Option ℕ) (slot : ℕ → ℕ) (qs : List Indexical) (A : Family) (ms : List Member)
    (cost : Member) (own : ℕ → ℕ) (ls : List Indexical) → 0 < N → IsSearched M N b t c h look link slot qs A ms cost own ls
    → (o : Order) (least : Bool) (rest : List Goal) (found : Option (List ℕ)) → SoughtValues M o (map (owned own) ms) (owned own cost) least ls found
    → IsFound M N b rest o least t c look (open_ones ms) found
searches_agree M N b t c h look link slot qs A ms cost own ls big s o least rest found g = found_leaf M N big b o t c h look link slot qs A ms cost own ls s least rest g.leaves g.all found g.best
