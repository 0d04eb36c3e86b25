-- What a search for the best leaf of a labelling answers.
use Rattle.std.proofs.Common.{◌≡◌, ℕ, ◌≤◌, Bool, true, false, cond, ◌==◌, ℤ, pos, length, List, [], ◌∷◌, ◌++◌, map, Some, None, Ok, refl, ap, sym, ◌∙◌, subst}
use Rattle.std.proofs.Common.{inl, inr, ◌⊎◌, eqb-true, eq-eqb}
use Rattle.std.proofs.lemmas.List.{append-nil}
use Rattle.std.proofs.lemmas.Bool.{or_cases, or_left, or_right, true≢false, cases_Bool}
use Rattle.fd_language.specs.Term.{Term, Var, Int, Atom, Comp, Substitution, apply}
use Rattle.fd_language.specs.Family.{Family, has}
use Rattle.fd_language.specs.Lists.{Each}
use Rattle.fd_model.specs.declared.kinds.Order.{Order}
use Rattle.fd_model.specs.declared.kinds.QueryFault.TheVariants.{Parameter}
use Rattle.fd_model.specs.Goal.{Label, Best, Program, Branch}
use Rattle.fd_model.specs.BranchViews.{IsConsistent, IsView}
use Rattle.fd_model.specs.Members.{Member, Open, Known, as_member}
use Rattle.fd_model.specs.Labelling.{read_list, pick, values_by, open_ones}
use Rattle.fd_model.specs.Branches.{with_goals, by_value, Kept, look_in, sets_in}
use Rattle.fd_model.specs.Leaves.{Leaves, no_leaves, leaf as is_leaf, grows, IsSeenAs, IsBetter, IsAsGood, IsBest, BestLeaf, SoughtLeaf}
use Rattle.fd_model.specs.Children.{Gives, Seeks, KeptOffer, kept_by, last_of, offer, by_listing, by_pick, by_cost, cost_fault, unless_fault}
use Rattle.fd_model.specs.Answers.{answers, Shows, EachShows, Somewhere, InOrder, Comes, AreAnswers}
use Rattle.fd_model.specs.BestAnswers.{number_in, cost_in, IsBestAnswer, AreBestAnswers, BestAnswers}
use Rattle.fd_model.specs.LabellingLaws.{IsLabelled}
use Rattle.fd_model.proofs.Lists.{each_both, each_before, each_after}
use Rattle.fd_model.proofs.OneView.{from_view}
use Rattle.fd_model.proofs.CutBranches.{last_whole, last_none}
use Rattle.fd_model.proofs.ValueBranches.{kept_each}
use Rattle.fd_model.proofs.Leaves.{Passes, leaves_each}
use Rattle.fd_model.proofs.ModelSubstitutions.{look_heeds}
use Rattle.fd_language.proofs.Lemmas.{through_term}
use Rattle.fd_model.proofs.PickedMembers.{Element, element_of, picked_among, pick_some}
use Rattle.fd_model.proofs.SubstitutedLists.{read_members, with_member_back}
use Rattle.fd_model.proofs.OpenMembers.{IsGrounded, is_read, list_read, seen_plain, child_grounded}
use Rattle.fd_model.proofs.SearchAnswers.{searched, Search, stops, finds, takes, found_by}
use Rattle.fd_model.proofs.Labels.{IsReady, Allows, leaf, part, whole}
use Rattle.fd_model.proofs.LabelledAnswers.{answers_from, ready}
use Rattle.fd_model.proofs.FlatSearch.{Turned, turned, nothing}

-- a branch without goals
abbrev bare : Branch → Branch
bare b = with_goals b []

-- the leaves are what the labelling finds where nothing cuts it short
module _ (M N : ℕ) (prog : Program) (o : Order) (t : Term) where
  abbrev IsLabelling : Branch → Type 0
  IsLabelling b = (b.goals ≡ Label o t ∷ []) × IsConsistent M N b.equations b.posted

  same_others : (bs : List Branch) → last_of (kept_by (length bs) (Label o t)) bs ≡ bs
  same_others bs = last_whole (Label o t) bs refl

  leaves_found : {bs ls : List Branch} → Leaves M N o t bs ls → Each IsLabelling bs → Search M N prog bs (map bare ls) []
  leaves_found no_leaves h = stops
  leaves_found (is_leaf {b = b} {bs = bs} {ls = ls} s D ms v e p more) h =
      takes (Label o t) [] s D (bare b ∷ []) h.0.0 (record { view = v; kept = given b s D ms v e p h.0.1 })
      (subst (λ l. Search M N prog (bare b ∷ l) (map bare (b ∷ ls)) []) (sym (same_others bs)) (finds s D refl v (leaves_found more h.1)))
    where
      given : (b : Branch) (s : Substitution) (D : Family) (ms : List Member) → IsView M N b.equations b.posted s D
          → read_list (apply (look_in b s D) t) ≡ Ok ms → pick o (λ y. values_by N (sets_in b s D y)) ms ≡ None
          → IsConsistent M N b.equations b.posted → KeptOffer M N (offer M N (length bs) prog (look_in b s D) (sets_in b s D) b (Label o t) []) (Gives (bare b ∷ []))
      given b s D ms v e p ok =
          let values : ℕ → List ℕ = λ y. values_by N (sets_in b s D y) in
          let i : offer M N (length bs) prog (look_in b s D) (sets_in b s D) b (Label o t) [] ≡ Gives (bare b ∷ []) = ap (by_listing values b o (Label o t) [])
          e ∙ ap (by_pick values b (Label o t) []) p in
          subst (λ f. KeptOffer M N f (Gives (bare b ∷ []))) (sym i) (inl (ok, ([], refl, refl)))
  leaves_found (grows {b = b} {bs = bs} {ls = ls} s D ms x cs v e p k more) h =
      let kids : Kept M N (map (by_value b (Label o t ∷ []) x) (values_by N (sets_in b s D x))) cs = subst (λ gs. Kept M N (map (by_value b gs x) (values_by N (sets_in b s D x))) cs) h.0.0 k in
      let each : Each IsLabelling cs = kept_each M N (by_value b (Label o t ∷ []) x) IsLabelling (values_by N (sets_in b s D x)) cs (λ n i c. (refl, c)) kids in
      takes (Label o t) [] s D cs h.0.0 (record { view = v; kept = given b s D ms x cs e p kids })
      (subst (λ l. Search M N prog (cs ++ l) (map bare ls) []) (sym (same_others bs)) (leaves_found more (each_both IsLabelling cs bs each h.1)))
    where
      given : (b : Branch) (s : Substitution) (D : Family) (ms : List Member) (x : ℕ) (cs : List Branch) → read_list (apply (look_in b s D) t) ≡ Ok ms
          → pick o (λ y. values_by N (sets_in b s D y)) ms ≡ Some x
          → Kept M N (map (by_value b (Label o t ∷ []) x) (values_by N (sets_in b s D x))) cs → KeptOffer M N (offer M N (length bs) prog (look_in b s D) (sets_in b s D) b (Label o t) []) (Gives cs)
      given b s D ms x cs e p k =
          let values : ℕ → List ℕ = λ y. values_by N (sets_in b s D y) in
          let i : offer M N (length bs) prog (look_in b s D) (sets_in b s D) b (Label o t) [] ≡ Gives (map (by_value b (Label o t ∷ []) x) (values x)) = ap
          (by_listing values b o (Label o t) []) e ∙ ap (by_pick values b (Label o t) []) p in
          subst (λ f. KeptOffer M N f (Gives cs)) (sym i) k

-- what a branch shows doesn't depend on its goals
shows_bare : (M N : ℕ) (vs : List ℕ) (ls : List Branch) (nss : List (List ℕ)) → EachShows M N vs (map bare ls) nss → EachShows M N vs ls nss
shows_bare M N vs [] [] h = tt
shows_bare M N vs [] (ns ∷ nss) h = absurd h
shows_bare M N vs (l ∷ ls) [] h = absurd h
shows_bare M N vs (l ∷ ls) (ns ∷ nss) h = (record { unifier = h.0.unifier; family = h.0.family; view = h.0.view; values = h.0.values }, shows_bare M N vs ls nss h.1)

-- the numbers that the first branches show, one of them, and the others
shows_split : (M N : ℕ) (vs : List ℕ) (before : List Branch) (b : Branch) (behind : List Branch) (nss : List (List ℕ)) → EachShows M N vs (before ++ b ∷ behind) nss
    → (as' : List (List ℕ)) × (ns : List ℕ) × (bs : List (List ℕ)) × (nss ≡ as' ++ ns ∷ bs) × EachShows M N vs before as' × Shows M N vs b ns × EachShows M N vs behind bs
shows_split M N vs [] b behind [] h = absurd h
shows_split M N vs [] b behind (ns ∷ nss) h = ([], ns, nss, refl, tt, h.0, h.1)
shows_split M N vs (c ∷ before) b behind [] h = absurd h
shows_split M N vs (c ∷ before) b behind (ms ∷ nss) h = let r = shows_split M N vs before b behind nss h.1 in (ms ∷ r.0, r.1, r.2, ap (λ l. ms ∷ l) r.3, (h.0, r.4), r.5, r.6)

-- the number that is seen of a listed variable
shown_number : (f : Substitution) (vs ns : List ℕ) (x : ℕ) → map f vs ≡ map (λ n. Int (pos n)) ns → has vs x ≡ true → f x ≡ Int (pos (number_in vs ns x))
shown_number f [] ns x e h = absurd (true≢false (sym h))
shown_number f (v ∷ vs) [] x e h = absurd (cc)
shown_number f (v ∷ vs) (n ∷ ns) x e h = elim (cases_Bool (v == x)) [
  | inl k ↦ rw k (subst (λ w. f w ≡ Int (pos n)) (eqb-true v x k) (let i : f v ≡ Int (pos n) = cc in i))
  | inr k ↦ rw k (shown_number f vs ns x (let i : map f vs ≡ map (λ n. Int (pos n)) ns = cc in i) (elim (or_cases (v == x) (has vs x) h) [ inl j ↦ absurd (true≢false (sym j ∙ k)) | inr j ↦ j ]))
]

-- a member that stays open is one of the list as it is read then
open_by : (u : Substitution) (v x y : ℕ) (ms rest new : List Member) → Element (u v) rest new → u x ≡ Var y → has (v ∷ open_ones ms) x ≡ true
    → (has (open_ones ms) x ≡ true → has (open_ones rest) y ≡ true) → has (open_ones new) y ≡ true
open_by u v x y ms rest new (inl e) f h later = subst (λ l. has (open_ones l) y ≡ true) (sym e.2) (elim (or_cases (v == x) (has (open_ones ms) x) h) [
  | inl k ↦ or_left (e.0 == y) (has (open_ones rest) y) (eq-eqb e.0 y (let i : Var e.0 ≡ Var y = sym e.1 ∙ ap u (eqb-true v x k) ∙ f in cc))
  | inr k ↦ or_right (e.0 == y) (has (open_ones rest) y) (later k)
])
open_by u v x y ms rest new (inr e) f h later = subst (λ l. has (open_ones l) y ≡ true) (sym e.2) (elim (or_cases (v == x) (has (open_ones ms) x) h) [
  | inl k ↦ absurd (let i : Int e.0 ≡ Var y = sym e.1 ∙ ap u (eqb-true v x k) ∙ f in cc)
  | inr k ↦ later k
])

still_open : (u : Substitution) (ms new : List Member) (x y : ℕ) → read_members u ms ≡ Ok new → has (open_ones ms) x ≡ true → u x ≡ Var y → has (open_ones new) y ≡ true
still_open u [] new x y e h f = absurd (true≢false (sym h))
still_open u (Known z ∷ ms) new x y e h f = let m = with_member_back (Known z) (read_members u ms) new e in subst (λ l. has (open_ones l) y ≡ true) (sym m.1) (still_open u ms m.0 x y m.2 h f)
still_open u (Open v ∷ ms) new x y e h f = let m = element_of (u v) (read_members u ms) new e in open_by u v x y ms m.0 new m.2 f h (λ k. still_open u ms m.0 x y m.1 k f)

module _ (M N : ℕ) (low : N ≤ M) (prog : Program) (o : Order) (least : Bool) (t : Term) (ms : List Member) (base : Substitution) (ws : List ℕ) (listed : read_list (apply base t) ≡ Ok ms)
    (w : Term) (c : Member) (member : as_member (apply base w) ≡ Ok c) (fine : cost_fault ms (apply base w) ≡ None) where
  abbrev vs : List ℕ
  vs = open_ones ms

  abbrev cost : List ℕ → ℤ
  cost = cost_in vs c

  abbrev Grounded : Branch → Type 0
  Grounded = IsGrounded M N t ms base listed

  passes : Passes M N o t Grounded
  passes b s D new x n g v e p i ok =
      let members = sym (list_read M N t ms base listed b s D g v) ∙ e in
      child_grounded M N t ms base listed b s D g v x (picked_among o (look_in b s D) vs x (pick_some o _ (look_in b s D) ms new x members p)) n ok

  -- the cost that is seen is that of the numbers that are shown
  cost_by : (r : Term) (d : Member) (ns : List ℕ) (f : Substitution) (z : ℤ) → as_member r ≡ Ok d → cost_fault ms r ≡ None
      → map f vs ≡ map (λ n. Int (pos n)) ns → apply f r ≡ Int z → z ≡ cost_in vs d ns
  cost_by (Var x) d ns f z e g h i = by_member (has vs x) refl g
    where
      by_member : (b : Bool) → has vs x ≡ b → cond b None (Some Parameter) ≡ None → z ≡ cost_in vs d ns
      by_member true k l =
          let one : d ≡ Open x = (let j : Ok (Open x) ≡ Ok d = e in cc) in
          let seen = shown_number f vs ns x h k in
          let same : Int z ≡ Int (pos (number_in vs ns x)) = sym i ∙ seen in
          (let j : z ≡ pos (number_in vs ns x) = cc in j) ∙ sym (ap (λ a. cost_in vs a ns) one)
      by_member false k l = absurd (cc)
  cost_by (Int y) d ns f z e g h i =
      let one : d ≡ Known y = (let j : Ok (Known y) ≡ Ok d = e in cc) in
      (let j : z ≡ y = cc in j) ∙ sym (ap (λ a. cost_in vs a ns) one)
  cost_by (Atom a) d ns f z e g h i = absurd (cc)
  cost_by (Comp a ts) d ns f z e g h i = absurd (cc)

  leaf_cost : (l : Branch) (ns : List ℕ) (z : ℤ) → Grounded l → Shows M N vs l ns → IsSeenAs M N l w z → z ≡ cost ns
  leaf_cost l ns z g h i =
      let look = look_in l h.unifier h.family in
      let seen : apply look w ≡ Int z = from_view M N l h.unifier i.unifier h.family i.family (λ x X. apply (look_in l x X) w) h.view i.view ∙ i.seen in
      cost_by (apply base w) c ns look z member fine h.values (through_term base look (g.follows look (look_heeds M N l h.unifier h.family h.view g.consistent)) w ∙ seen)

  -- costs of the leaves before and behind the best one
  each_cost : (R : ℤ → Type 0) (ls : List Branch) (nss : List (List ℕ)) → Each Grounded ls → EachShows M N vs ls nss → Each (λ d. (z : ℤ) × IsSeenAs M N d w z × R z) ls → Each (λ ns. R (cost ns)) nss
  each_cost R [] [] g h i = tt
  each_cost R [] (ns ∷ nss) g h i = absurd h
  each_cost R (l ∷ ls) [] g h i = absurd h
  each_cost R (l ∷ ls) (ns ∷ nss) g h i = (subst R (leaf_cost l ns i.0.0 g.0 h.0 i.0.1) i.0.2, each_cost R ls nss g.1 h.1 i.1)

  module _ (b : Branch) (ready : IsReady M N low prog o t ms base ws listed (with_goals b (Label o t ∷ []))) where
    abbrev start : Branch
    start = with_goals b (Label o t ∷ [])

    abbrev Allowed : List ℕ → Type 0
    Allowed = Allows M N low prog o t ms base ws listed start

    -- the leaves have all that is allowed
    all_leaves : (ls : List Branch) → Leaves M N o t (start ∷ []) ls → AreAnswers M N o vs Allowed (map bare ls) (Unit {0})
    all_leaves ls l =
        let Good = IsReady M N low prog o t ms base ws listed in
        let Solved = Allows M N low prog o t ms base ws listed in
        let search = leaves_found M N prog o t l ((refl, ready.consistent), tt) in
        let f = found_by M N prog vs (Comes o) Good Solved (leaf M N low prog o t ms base ws listed) (part M N low prog o t ms base ws listed)
        (whole M N low prog o t ms base ws listed) search (ready, tt) (tt, tt) in
        let a = answers_from M N prog o vs Good Solved start (map bare ls) [] f in
        record { values = a.values; shown = a.shown; allowed = a.allowed; order = a.order; missing = a.missing; complete = λ u. a.complete refl }

    abbrev Result : List Branch → Type 0 → Type 0
    Result found Whole = AreBestAnswers M N o least t vs cost Allowed (λ d. d ≡ start) found Whole

    grounded_leaves : (ls : List Branch) → Leaves M N o t (start ∷ []) ls → Each Grounded ls
    grounded_leaves ls l = leaves_each M N o t Grounded passes l (record { consistent = ready.consistent; follows = ready.follows; ground = ready.ground }, tt)

    -- one leaf is the best, and it is the answer
    best_answer : (ls : List Branch) → Leaves M N o t (start ∷ []) ls → (d : Branch) → IsBest M N least w ls d → IsBestAnswer M N o least t vs cost Allowed (λ d. d ≡ start) (with_goals d [] ∷ [])
    best_answer ls l d best =
        let a = all_leaves ls l in
        let shown = shows_bare M N vs ls a.values a.shown in
        let cut = shows_split M N vs best.before d best.behind a.values (subst (λ k. EachShows M N vs k a.values) best.among shown) in
        let ground = subst (Each Grounded) best.among (grounded_leaves ls l) in
        let front = each_before Grounded best.before (d ∷ best.behind) ground in
        let back = each_after Grounded best.before (d ∷ best.behind) ground in
        let own : best.cost ≡ cost cut.1 = leaf_cost d cut.1 best.cost back.0 cut.5 best.costs in
        record {
          branch = with_goals d [];
          alone = refl;
          numbers = cut.1;
          shown = record { unifier = cut.5.unifier; family = cut.5.family; view = cut.5.view; values = cut.5.values };
          before = cut.0;
          behind = cut.2;
          allowed = subst (Each Allowed) cut.3 a.allowed;
          complete = λ ns h. subst (Somewhere (λ ms. ms ≡ ns)) cut.3 (a.complete tt ns h);
          order = subst (InOrder (Comes o)) cut.3 a.order;
          earlier = subst (λ z. Each (λ ns. IsBetter least z (cost ns)) cut.0) own (each_cost (IsBetter least best.cost) best.before cut.0 front cut.4 best.earlier);
          later = subst (λ z. Each (λ ns. IsAsGood least z (cost ns)) cut.2) own (each_cost (IsAsGood least best.cost) best.behind cut.2 back.1 cut.6 best.later);
          start = start;
          starts = refl;
          leaves = ls;
          labelled = l;
          values = subst (EachShows M N vs ls) cut.3 shown;
        }

    nothing_allowed : (ns : List ℕ) → Leaves M N o t (start ∷ []) [] → Allowed ns → ⊥
    nothing_allowed ns l h = let a = all_leaves [] l in no_values a.values a.shown (a.complete tt ns h)
      where
        no_values : (nss : List (List ℕ)) → EachShows M N vs [] nss → Somewhere (λ ms. ms ≡ ns) nss → ⊥
        no_values [] h k = k
        no_values (ms ∷ nss) h k = h

    -- what comes of the search's only child
    by_answer : (ls : List Branch) → Leaves M N o t (start ∷ []) ls → (d : Branch) → IsBest M N least w ls d → (found left : List Branch)
        → Turned M N prog (with_goals d []) [] found left → Result found (left ≡ [])
    by_answer ls l d best found left (inl h) = inr (h.0, λ i ns j. absurd (let g = sym i ∙ h.1 in cc))
    by_answer ls l d best found left (inr (inl h)) =
        let n = nothing M N prog h.1.2 refl in
        let one : found ≡ with_goals d [] ∷ [] = h.1.1 ∙ ap (λ more. with_goals d [] ∷ more) n.0 in
        inl (subst (IsBestAnswer M N o least t vs cost Allowed (λ d. d ≡ start)) (sym one) (best_answer ls l d best))
    by_answer ls l d best found left (inr (inr h)) = absurd (let g = h.goals in cc)

    after_best : (ls : List Branch) → Leaves M N o t (start ∷ []) ls → (cs : List Branch) → BestLeaf M N least w [] ls cs → (found left : List Branch)
        → Search M N prog cs found left → Result found (left ≡ [])
    after_best [] l cs e found left search = let n = nothing M N prog search e in inr (n.0, λ i ns h. nothing_allowed ns l h)
    after_best (k ∷ ls) l cs e found left search = by_answer (k ∷ ls) l e.0 e.1 found left (turned M N prog search (with_goals e.0 []) [] e.2)

    -- the list is read in the branch, and the cost is one of it
    module _ (s : Substitution) (D : Family) (v : IsView M N b.equations b.posted s D) where
      abbrev look : Substitution
      look = look_in b s D

      grounded : Grounded start
      grounded = record { consistent = ready.consistent; follows = ready.follows; ground = ready.ground }

      read : (new : List Member) × (read_members look ms ≡ Ok new)
      read = is_read M N t ms base listed start s D grounded v

      is_list : read_list (apply look t) ≡ Ok read.0
      is_list = list_read M N t ms base listed start s D grounded v ∙ read.1

      cost_seen : (r : Term) → cost_fault ms r ≡ None → cost_fault read.0 (apply look r) ≡ None
      cost_seen (Var x) e = by_member (has vs x) refl e
        where
          by_look : (u : Term) → look x ≡ u → has vs x ≡ true → ((y : ℕ) × (u ≡ Var y)) ⊎ ((z : ℤ) × (u ≡ Int z)) → cost_fault read.0 u ≡ None
          by_look u f h (inl y) = subst (λ r. cost_fault read.0 r ≡ None) (sym y.1) (rw (still_open look ms read.0 x y.0 read.1 h (f ∙ y.1)) refl)
          by_look u f h (inr z) = subst (λ r. cost_fault read.0 r ≡ None) (sym z.1) refl

          by_member : (a : Bool) → has vs x ≡ a → cond a None (Some Parameter) ≡ None → cost_fault read.0 (look x) ≡ None
          by_member true h f = by_look (look x) refl h (seen_plain M N t ms base listed start s D grounded v x h)
          by_member false h f = absurd (cc)
      cost_seen (Int z) e = refl
      cost_seen (Atom a) e = absurd (cc)
      cost_seen (Comp f ts) e = absurd (cc)

      is_fine : cost_fault read.0 (apply look w) ≡ None
      is_fine = subst (λ r. cost_fault read.0 r ≡ None) (through_term base look (ready.follows look (look_heeds M N start s D v ready.consistent)) w) (cost_seen (apply base w) fine)

      pub offered : (m : ℕ) → offer M N m prog look (sets_in b s D) b (Best o least t w) [] ≡ Seeks b [] o least t w
      offered m = ap (by_cost (apply look w) (Seeks b [] o least t w)) is_list ∙ ap (λ f. unless_fault f (Seeks b [] o least t w)) is_fine

    -- A search from a branch whose only goal asks for the best leaf.
    pub best_search : b.goals ≡ Best o least t w ∷ [] → (found left : List Branch) → Search M N prog (b ∷ []) found left → Result found (left ≡ [])
    best_search goals found left search = by_turn (turned M N prog search b [] refl)
      where
        by_turn : Turned M N prog b [] found left → Result found (left ≡ [])
        by_turn (inl h) = inr (h.0, λ i ns j. absurd (let g = sym i ∙ h.1 in cc))
        by_turn (inr (inl h)) = absurd (let g = sym h.0 ∙ goals in cc)
        by_turn (inr (inr h)) =
            let heads : h.goal ∷ h.rest ≡ Best o least t w ∷ [] = sym h.goals ∙ goals in
            let one : h.goal ≡ Best o least t w = cc in
            let others : h.rest ≡ [] = cc in
            let look = look_in b h.unifier h.family in
            let sets = sets_in b h.unifier h.family in
            let kept : KeptOffer M N (offer M N 0 prog look sets b (Best o least t w) []) (Gives h.children) =
            subst (λ r. KeptOffer M N (offer M N 0 prog look sets b (Best o least t w) r) (Gives h.children)) others
            (subst (λ g. KeptOffer M N (offer M N 0 prog look sets b g h.rest) (Gives h.children)) one h.given.kept) in
            let sought : SoughtLeaf M N b [] o least t w h.children = subst (λ f. KeptOffer M N f (Gives h.children)) (offered h.unifier h.family h.given.view 0) kept in
            let more : Search M N prog h.children found left = subst (λ l. Search M N prog l found left) (append-nil h.children)
            (subst (λ l. Search M N prog (h.children ++ l) found left) (last_none (kept_by 0 h.goal)) h.more) in
            after_best sought.0 sought.1 h.children sought.2 found left more

-- what such a branch answers
pub best_answers : BestAnswers
best_answers M N prog q n k b es r o least ms c ws low ok settles l run =
    let base = look_in b l.unifier l.family in
    let start = with_goals b (Label o l.list ∷ []) in
    let label : IsLabelled M N start o ms ws = record { list = l.list; goals = refl; unifier = l.unifier; family = l.family; view = l.view; read = l.read; covered = l.covered } in
    let begun = ready M N start o ms ws ok label low prog settles in
    let s = searched M N prog q run in
    let found = best_search M N low prog o least l.list ms base ws l.read l.cost c l.member l.listed b begun l.goals (answers run) s.0 s.1 in
    elim found [ inl h ↦ inl h | inr h ↦ inr (h.0, λ e ns i. h.1 (s.2 e) ns i) ]
