-- Each labelling has its leaves, and these have a best one.
use Rattle.std.proofs.Common.{◌≡◌, ℕ, zero, suc, ◌≤◌, Bool, true, false, ℤ, List, [], ◌∷◌, ◌++◌, map, Option, Some, None, Result, Ok, Err, cond, ◌⊎◌, refl, ap}
use Rattle.std.proofs.Common.{sym, ◌∙◌, subst, inl, inr, arith}
use Rattle.std.proofs.lemmas.Int.{ints}
use Rattle.std.proofs.lemmas.Bool.{cases_Bool}
use Rattle.std.proofs.lemmas.List.{append_assoc, append-nil}
use Rattle.std.specs.Prelude.{int_le}
use Rattle.fd_language.specs.Term.{Term, Var, Int, Atom, Comp, Substitution, apply}
use Rattle.fd_language.specs.Family.{Family, has}
use Rattle.fd_language.specs.Lists.{Each}
use Rattle.fd_language.specs.Monotonicity.{IsMonotone}
use Rattle.fd_model.specs.declared.kinds.Order.{Order}
use Rattle.fd_model.specs.ClosedFamilies.{AllPosted}
use Rattle.fd_model.specs.declared.kinds.QueryFault.{QueryFault}
use Rattle.fd_model.specs.declared.kinds.QueryFault.TheVariants.{Parameter}
use Rattle.fd_model.specs.Goal.{Goal, True, Fail, Unify, Post, Constrain, Label, Call, Either, Builtin, Cut, If, IfElse, Not, Best, Program, Branch}
use Rattle.fd_model.specs.BranchViews.{IsConsistent, IsView}
use Rattle.fd_model.specs.Members.{Member}
use Rattle.fd_model.specs.Labelling.{read_list, pick, values_by, open_ones}
use Rattle.fd_model.specs.Branches.{with_goals, by_value, Kept, look_in, sets_in}
use Rattle.fd_model.specs.Builtins.{Finding, faulted, decided, equated, finding}
use Rattle.fd_model.specs.Posting.{post, Found, offends, posts}
use Rattle.fd_model.specs.LinearRows.{Expansion}
use Rattle.fd_model.specs.ConstraintExpansion.{constrain}
use Rattle.fd_model.specs.Children.{Gives, Seeks, KeptOffer, offer, by_post, by_constraint, by_finding, by_pick as pick_offer, by_listing, by_cost, cost_fault}
use Rattle.fd_model.specs.Children.{unless_fault}
use Rattle.fd_model.specs.Leaves.{Leaves, no_leaves, leaf, grows, IsSeenAs, IsBetter, IsAsGood, IsBest, BestLeaf, SoughtLeaf}
use Rattle.fd_language.proofs.Lemmas.{through_term}
use Rattle.fd_model.proofs.Lists.{each_map, each_both}
use Rattle.fd_model.proofs.ValueBranches.{kept_each}
use Rattle.fd_model.proofs.ModelSubstitutions.{look_heeds, through_look}
use Rattle.fd_model.proofs.PickedMembers.{IsInt, AllInts, picked_among, pick_none, pick_some}
use Rattle.fd_model.proofs.OpenMembers.{IsGrounded, is_read, list_read, child_grounded, child_fewer, open_count, some_open, zero_ground}
use Rattle.fd_model.proofs.OneView.{from_view}
use Rattle.fd_model.proofs.ConsistentBranches.{decide_consistent, has_view}

-- the consistent ones among branches
pub kept_there_is : (M N : ℕ) (bs : List Branch) → Each (λ b. AllPosted (λ p. IsMonotone M p.range) b.posted) bs → (cs : List Branch) × Kept M N bs cs
kept_there_is M N [] h = ([], refl)
kept_there_is M N (b ∷ bs) h =
    let later = kept_there_is M N bs h.1 in
    elim (decide_consistent M N b.equations b.posted h.0) [
      | inl c ↦ (b ∷ later.0, inl (c, (later.0, refl, later.1)))
      | inr c ↦ (later.0, inr (c, later.1))
    ]

pub leaves_both : (M N : ℕ) (o : Order) (t : Term) {bs ls : List Branch} (cs ks : List Branch) → Leaves M N o t bs ls → Leaves M N o t cs ks → Leaves M N o t (bs ++ cs) (ls ++ ks)
leaves_both M N o t cs ks no_leaves h = h
leaves_both M N o t cs ks (leaf s D ms v e p more) h = leaf s D ms v e p (leaves_both M N o t cs ks more h)
leaves_both M N o t cs ks (grows {bs = bs} {ls = ls} s D ms x ds v e p k more) h =
    grows s D ms x ds v e p k (subst (λ l. Leaves M N o t l (ls ++ ks)) (append_assoc ds bs cs) (leaves_both M N o t cs ks more h))

module _ (M N : ℕ) (o : Order) (t c : Term) (ms : List Member) (base : Substitution) (listed : read_list (apply base t) ≡ Ok ms)
    (cost : (u : Substitution) → AllInts u (open_ones ms) → IsInt (apply u (apply base c))) where
  abbrev Grounded : Branch → Type 0
  Grounded = IsGrounded M N t ms base listed

  abbrev IsMono : Branch → Type 0
  IsMono b = AllPosted (λ p. IsMonotone M p.range) b.posted

  -- at most n members are open
  abbrev Few : ℕ → Branch → Type 0
  Few n b = (s : Substitution) (D : Family) → IsView M N b.equations b.posted s D → open_count (look_in b s D) (open_ones ms) ≤ n

  abbrev IsReady : ℕ → Branch → Type 0
  IsReady n b = Grounded b × IsMono b × Few n b

  abbrev HasCost : Branch → Type 0
  HasCost b = (z : ℤ) × IsSeenAs M N b c z

  abbrev HasLeaves : List Branch → Type 0
  HasLeaves bs = (ls : List Branch) × Leaves M N o t bs ls × Each HasCost ls

  cost_of : (b : Branch) (s : Substitution) (D : Family) → Grounded b → IsView M N b.equations b.posted s D → AllInts (look_in b s D) (open_ones ms) → HasCost b
  cost_of b s D g v ints =
      let look = look_in b s D in
      let i = cost look ints in
      (i.0, record { unifier = s; family = D; view = v; seen = sym (through_term base look (g.follows look (look_heeds M N b s D v g.consistent)) c) ∙ i.1 })

  one_leaf : (b : Branch) (s : Substitution) (D : Family) (new : List Member) → Grounded b → IsView M N b.equations b.posted s D → read_list (apply (look_in b s D) t) ≡ Ok new
      → pick o (λ y. values_by N (sets_in b s D y)) new ≡ None → HasLeaves (b ∷ [])
  one_leaf b s D new g v e p =
      let members = sym (list_read M N t ms base listed b s D g v) ∙ e in
      (b ∷ [], leaf s D new v e p no_leaves, (cost_of b s D g v (pick_none o _ (look_in b s D) ms new members p), tt))

  each_mono : (b : Branch) (x : ℕ) (ns : List ℕ) → IsMono b → Each IsMono (map (by_value b b.goals x) ns)
  each_mono b x [] h = tt
  each_mono b x (n ∷ ns) h = (h, each_mono b x ns h)

  all_leaves : (n : ℕ) → ((b : Branch) → IsReady n b → HasLeaves (b ∷ [])) → (bs : List Branch) → Each (IsReady n) bs → HasLeaves bs
  all_leaves n one [] h = ([], no_leaves, tt)
  all_leaves n one (b ∷ bs) h =
      let first = one b h.0 in
      let later = all_leaves n one bs h.1 in
      (first.0 ++ later.0, leaves_both M N o t bs later.0 first.1 later.1, each_both HasCost first.0 later.0 first.2 later.2)

  by_pick : (n : ℕ) → ((m : ℕ) → n ≡ suc m → (b : Branch) → IsReady m b → HasLeaves (b ∷ [])) → (b : Branch) (s : Substitution) (D : Family) (new : List Member)
      → IsReady n b → IsView M N b.equations b.posted s D
      → read_list (apply (look_in b s D) t) ≡ Ok new → (r : Option ℕ) → pick o (λ y. values_by N (sets_in b s D y)) new ≡ r → HasLeaves (b ∷ [])
  by_pick n less b s D new h v e None p = one_leaf b s D new h.0 v e p
  by_pick zero less b s D new h v e (Some x) p =
      let members = sym (list_read M N t ms base listed b s D h.0 v) ∙ e in
      let among = picked_among o (look_in b s D) (open_ones ms) x (pick_some o _ (look_in b s D) ms new x members p) in
      absurd (some_open (look_in b s D) (open_ones ms) among.0 x among.1 among.2 (h.2 s D v))
  by_pick (suc n) less b s D new h v e (Some x) p =
      let members = sym (list_read M N t ms base listed b s D h.0 v) ∙ e in
      let among = picked_among o (look_in b s D) (open_ones ms) x (pick_some o _ (look_in b s D) ms new x members p) in
      let values = values_by N (sets_in b s D x) in
      let kept = kept_there_is M N (map (by_value b b.goals x) values) (each_mono b x values h.1) in
      let ready : Each (IsReady n) kept.0 = kept_each M N (by_value b b.goals x) (IsReady n) values kept.0
      (λ k i ok. (
        child_grounded M N t ms base listed b s D h.0 v x among k ok,
        h.1,
        λ s' D' v'. (let fewer = child_fewer M N t ms base listed b s D h.0 v x among k ok s' D' v' in let few = h.2 s D v in
            omega (arith, fewer, few)),
      )) kept.1 in
      let leaves = all_leaves n (less n refl) kept.0 ready in
      (leaves.0, grows s D new x kept.0 v e p kept.1 (subst (λ l. Leaves M N o t l leaves.0) (sym (append-nil kept.0)) leaves.1), leaves.2)

  by_view : (n : ℕ) → ((m : ℕ) → n ≡ suc m → (b : Branch) → IsReady m b → HasLeaves (b ∷ [])) → (b : Branch) → IsReady n b → HasLeaves (b ∷ [])
  by_view n less b h =
      let v = has_view M N b.equations b.posted h.1 h.0.consistent in
      let r = is_read M N t ms base listed b v.0 v.1 h.0 v.2 in
      by_pick n less b v.0 v.1 r.0 h v.2 (list_read M N t ms base listed b v.0 v.1 h.0 v.2 ∙ r.1) _ refl

  has_leaves : (n : ℕ) (b : Branch) → IsReady n b → HasLeaves (b ∷ [])
  has_leaves zero b h = by_view zero (λ m e. absurd cc) b h
  has_leaves (suc n) b h = by_view (suc n) (λ m e d k. (let same : n ≡ m = cc in has_leaves n d (subst (λ i. IsReady i d) (sym same) k))) b h

-- of costs one is better, or the other is as good
one_wins : (least : Bool) (z w : ℤ) → IsAsGood least z w ⊎ IsBetter least w z
one_wins true z w = elim (cases_Bool (int_le z w)) [ inl h ↦ inl (omega (arith, ints)) | inr h ↦ inr (omega (arith, ints)) ]
one_wins false z w = elim (cases_Bool (int_le w z)) [ inl h ↦ inl (omega (arith, ints)) | inr h ↦ inr (omega (arith, ints)) ]

good_through : (least : Bool) (z w v : ℤ) → IsAsGood least z w → IsAsGood least w v → IsAsGood least z v
good_through true z w v h g = omega (arith, ints)
good_through false z w v h g = omega (arith, ints)

better_good : (least : Bool) (z w : ℤ) → IsBetter least z w → IsAsGood least z w
better_good true z w h = omega (arith, ints)
better_good false z w h = omega (arith, ints)

module _ (M N : ℕ) (least : Bool) (c : Term) where
  abbrev Costs : Branch → Type 0
  Costs b = (z : ℤ) × IsSeenAs M N b c z

  abbrev IsLater : ℤ → Branch → Type 0
  IsLater cost d = (z : ℤ) × IsSeenAs M N d c z × IsAsGood least cost z

  abbrev IsEarlier : ℤ → Branch → Type 0
  IsEarlier cost d = (z : ℤ) × IsSeenAs M N d c z × IsBetter least cost z

  pub best_there : (l : Branch) (ls : List Branch) → Each Costs (l ∷ ls) → (d : Branch) × IsBest M N least c (l ∷ ls) d
  best_there l [] h = (l, record { before = []; behind = []; among = refl; cost = h.0.0; costs = h.0.1; earlier = tt; later = tt })
  best_there l (k ∷ ls) h =
      let rest = best_there k ls h.1 in
      let best = rest.1 in
      elim (one_wins least h.0.0 best.cost) [
        | inl good ↦ (
          l,
          record {
            before = [];
            behind = k ∷ ls;
            among = refl;
            cost = h.0.0;
            costs = h.0.1;
            earlier = tt;
            later = subst (Each (IsLater h.0.0)) (sym best.among) (each_both (IsLater h.0.0) best.before (rest.0 ∷ best.behind)
                (each_map (IsEarlier best.cost) (IsLater h.0.0) (λ d g. (g.0, g.1, good_through least h.0.0 best.cost g.0 good (better_good least best.cost g.0 g.2))) best.before best.earlier)
                ((best.cost, best.costs, good), each_map (IsLater best.cost) (IsLater h.0.0) (λ d g. (g.0, g.1, good_through least h.0.0 best.cost g.0 good g.2)) best.behind best.later));
          },
        )
        | inr better ↦ (
          rest.0,
          record {
            before = l ∷ best.before;
            behind = best.behind;
            among = ap (λ r. l ∷ r) best.among;
            cost = best.cost;
            costs = best.costs;
            earlier = ((h.0.0, h.0.1, better), best.earlier);
            later = best.later;
          },
        )
      ]

  pub best_leaf_there : (rest : List Goal) (ls : List Branch) → Each Costs ls → (cs : List Branch) × BestLeaf M N least c rest ls cs
  best_leaf_there rest [] h = ([], refl)
  best_leaf_there rest (l ∷ ls) h = let best = best_there l ls h in (with_goals best.0 rest ∷ [], (best.0, best.1, refl))

-- what the cost is seen as, where all members are integers
module _ (ms : List Member) (base : Substitution) where
  cost_int : (t : Term) → cost_fault ms t ≡ None → (u : Substitution) → AllInts u (open_ones ms) → IsInt (apply u t)
  cost_int (Var x) e u ints = by_member (has (open_ones ms) x) refl e
    where
      by_member : (b : Bool) → has (open_ones ms) x ≡ b → cond b None (Some Parameter) ≡ None → IsInt (u x)
      by_member true h i = ints x h
      by_member false h i = absurd (cc)
  cost_int (Int z) e u ints = (z, refl)
  cost_int (Atom a) e u ints = absurd (cc)
  cost_int (Comp f ts) e u ints = absurd (cc)

-- a search for the best leaf finds it, if there is a leaf
pub found_there : (M N : ℕ) (b : Branch) (rest : List Goal) (o : Order) (least : Bool) (t c : Term) (s : Substitution) (D : Family) (ms : List Member)
    → IsConsistent M N b.equations b.posted → AllPosted (λ p. IsMonotone M p.range) b.posted
    → IsView M N b.equations b.posted s D → read_list (apply (look_in b s D) t) ≡ Ok ms → cost_fault ms (apply (look_in b s D) c) ≡ None → (cs : List Branch) × SoughtLeaf M N b rest o least t c cs
found_there M N b rest o least t c s D ms ok mono v e f =
    let base = look_in b s D in
    let start = with_goals b (Label o t ∷ []) in
    let grounded : IsGrounded M N t ms base e start = record { consistent = ok; follows = λ u h. through_look M N b s D v ok u h; ground = zero_ground M N b s D v ok t ms e } in
    let cost = cost_int ms base (apply base c) f in
    let count = open_count base (open_ones ms) in
    let few : (u : Substitution) (E : Family) → IsView M N b.equations b.posted u E → open_count (look_in b u E) (open_ones ms) ≤ count =
    λ u E w. subst (λ k. k ≤ count) (from_view M N b s u D E (λ x X. open_count (look_in b x X) (open_ones ms)) v w) (omega arith) in
    let leaves = has_leaves M N o t c ms base e cost count start (grounded, mono, few) in
    let best = best_leaf_there M N least c rest leaves.0 leaves.2 in
    (best.0, (leaves.0, leaves.1, best.1))

-- that an offer is such a search
abbrev IsSought : ℕ → ℕ → Branch → List Goal → Branch → List Goal → Order → Bool → Term → Term → Type 0
IsSought M N b rest d r o least t c = (cs : List Branch) × (d ≡ b) × (r ≡ rest) × SoughtLeaf M N d r o least t c cs

module _ (M N : ℕ) (b : Branch) (rest : List Goal) (s : Substitution) (D : Family) (ok : IsConsistent M N b.equations b.posted)
    (mono : AllPosted (λ p. IsMonotone M p.range) b.posted) (v : IsView M N b.equations b.posted s D)
    (p : Order) (most : Bool) (x y : Term) (d : Branch) (r : List Goal) (o : Order) (least : Bool) (t c : Term) where
  by_fault : (ms : List Member) → read_list (apply (look_in b s D) x) ≡ Ok ms → (f : Option QueryFault) → cost_fault ms (apply (look_in b s D) y) ≡ f
      → unless_fault f (Seeks b rest p most x y) ≡ Seeks d r o least t c
      → IsSought M N b rest d r o least t c
  by_fault ms e (Some f) h j = absurd (cc)
  by_fault ms e None h j =
      let found = found_there M N b rest p most x y s D ms ok mono v e h in
      let one : b ≡ d = cc in
      let two : rest ≡ r = cc in
      (found.0, sym one, sym two, subst (λ f. KeptOffer M N f (Gives found.0)) j found.1)

  by_list : (l : Result (List Member) QueryFault) → read_list (apply (look_in b s D) x) ≡ l
      → by_cost (apply (look_in b s D) y) (Seeks b rest p most x y) l ≡ Seeks d r o least t c → IsSought M N b rest d r o least t c
  by_list (Err f) e j = absurd (cc)
  by_list (Ok ms) e j = by_fault ms e (cost_fault ms (apply (look_in b s D) y)) refl j

-- where an offer is such a search
pub sought_there : (M N m : ℕ) (prog : Program) (b : Branch) (g : Goal) (rest : List Goal) (s : Substitution) (D : Family)
    → IsConsistent M N b.equations b.posted → AllPosted (λ p. IsMonotone M p.range) b.posted
    → IsView M N b.equations b.posted s D → (d : Branch) (r : List Goal) (o : Order) (least : Bool) (t c : Term) → offer M N m prog (look_in b s D) (sets_in b s D) b g rest ≡ Seeks d r o least t c
    → IsSought M N b rest d r o least t c
sought_there M N m prog b True rest s D ok mono v d r o least t c i = absurd (cc)
sought_there M N m prog b Fail rest s D ok mono v d r o least t c i = absurd (cc)
sought_there M N m prog b (Unify x y) rest s D ok mono v d r o least t c i = absurd (cc)
sought_there M N m prog b (Post x y) rest s D ok mono v d r o least t c i = absurd (no_post (post (look_in b s D) x y b.fresh) i)
  where
    no_post : (f : Found) → by_post b rest f ≡ Seeks d r o least t c → ⊥
    no_post (offends f) e = cc
    no_post (posts p n es) e = cc
sought_there M N m prog b (Constrain k x) rest s D ok mono v d r o least t c i = absurd (no_row (constrain M (look_in b s D) k x b.fresh) i)
  where
    no_row : (f : Result Expansion QueryFault) → by_constraint b rest f ≡ Seeks d r o least t c → ⊥
    no_row (Err f) e = cc
    no_row (Ok x) e = cc
sought_there M N m prog b (Label p x) rest s D ok mono v d r o least t c i = absurd (no_list (read_list (apply (look_in b s D) x)) i)
  where
    values : ℕ → List ℕ
    values y = values_by N (sets_in b s D y)

    no_pick : (f : Option ℕ) → pick_offer values b (Label p x) rest f ≡ Seeks d r o least t c → ⊥
    no_pick None e = cc
    no_pick (Some y) e = cc

    no_list : (f : Result (List Member) QueryFault) → by_listing values b p (Label p x) rest f ≡ Seeks d r o least t c → ⊥
    no_list (Err f) e = cc
    no_list (Ok ms) e = no_pick (pick p values ms) e
sought_there M N m prog b (Call x) rest s D ok mono v d r o least t c i = absurd (cc)
sought_there M N m prog b (Either x y) rest s D ok mono v d r o least t c i = absurd (cc)
sought_there M N m prog b (Builtin k x) rest s D ok mono v d r o least t c i = absurd (no_finding (finding k (look_in b s D) (sets_in b s D) x) i)
  where
    no_finding : (f : Finding) → by_finding b rest f ≡ Seeks d r o least t c → ⊥
    no_finding (faulted f) e = cc
    no_finding (decided true) e = cc
    no_finding (decided false) e = cc
    no_finding (equated x y) e = cc
sought_there M N m prog b (Cut k) rest s D ok mono v d r o least t c i = absurd (cc)
sought_there M N m prog b (If x y) rest s D ok mono v d r o least t c i = absurd (cc)
sought_there M N m prog b (IfElse x y z) rest s D ok mono v d r o least t c i = absurd (cc)
sought_there M N m prog b (Not x) rest s D ok mono v d r o least t c i = absurd (cc)
sought_there M N m prog b (Best p most x y) rest s D ok mono v d r o least t c i = by_list M N b rest s D ok mono v p most x y d r o least t c (read_list (apply (look_in b s D) x)) refl i
