-- What is found: that there is one answer, and that its cost is the best of all assignments that keep the posted ranges.
use Rattle.std.proofs.Common.{◌≡◌, ℕ, Bool, true, false, ◌==◌, ℤ, List, [], ◌∷◌, ◌++◌, map, Option, Some, None, ◌⊎◌, refl, ap, sym, ◌∙◌, subst, inl, inr, arith}
use Rattle.std.proofs.Common.{eqb-true, append_assoc, append-nil}
use Rattle.std.specs.Prelude.{int_le}
use Rattle.std.proofs.lemmas.Bool.{or_cases, cases_Bool, true≢false}
use Rattle.std.proofs.lemmas.Int.{ints}
use Rattle.fd_model.specs.declared.kinds.Order.{Order}
use Rattle.fd_language.specs.Family.{Family, has}
use Rattle.fd_language.specs.Lists.{Each}
use Rattle.fd_language.specs.Range.{Indexical, least}
use Rattle.fd_language.specs.SingleValues.{only}
use Rattle.fd_language.proofs.Lemmas.{each_after}
use Rattle.fd_model.specs.Answers.{Somewhere}
use Rattle.fd_model.specs.Labelling.{open_ones}
use Rattle.fd_model.specs.Members.{Member, Open, Known}
use Rattle.fd_model.specs.PostedLeaves.{AreLeft, open_unless, seen_in, picked_in, PostedLeaves}
use Rattle.fd_model.specs.Leaves.{IsBetter, IsAsGood}
use Rattle.fd_model.specs.BestPosted.{IsCostOf, Costs, HaveValues, IsBestPosted, EachCosts, BestValues}
use Rattle.fd_model.specs.PostedLaws.{Keeps, IsWhole, cost_by, IsBestKept, BestCost, OneSought}
use Rattle.fd_model.specs.Satisfaction.{Assignment}
use Rattle.fd_model.proofs.Lists.{each_at}
use Rattle.fd_model.proofs.PostedSets.{left_once}
use Rattle.fd_model.proofs.PostedLeaves.{each_leaf, leaves_there, leaves_once}
use Rattle.fd_model.proofs.BestPosted.{first_alone, first_more, first_new, end_costs, end_values}
use Rattle.fd_model.proofs.KeptLeaves.{kept_are_leaves, whole_leaves}

-- one list of values, and one cost
singles_same : (ns ks : List ℕ) → map (λ n. n ∷ []) ns ≡ map (λ n. n ∷ []) ks → ns ≡ ks
singles_same [] [] e = refl
singles_same [] (k ∷ ks) e = absurd (let n : ⊥ = cc in n)
singles_same (n ∷ ns) [] e = absurd (let b : ⊥ = cc in b)
singles_same (n ∷ ns) (k ∷ ks) e =
    let here : n ≡ k = cc in
    let tails : map (λ n. n ∷ []) ns ≡ map (λ n. n ∷ []) ks = cc in
    let rest = singles_same ns ks tails in
    cc

pub values_once : (M : ℕ) (xs : List ℕ) (l : List Indexical) (ns ks : List ℕ) → HaveValues M xs l ns → HaveValues M xs l ks → ns ≡ ks
values_once M xs l ns ks h g = singles_same ns ks (sym h.values ∙ ap (λ (S : Family). map S xs) (left_once M l h.family g.family h.left g.left) ∙ g.values)

pub costs_once : (M : ℕ) (c : Member) (l : List Indexical) (z w : ℤ) → Costs M c l z → Costs M c l w → z ≡ w
costs_once M c l z w h g = let e : Known z ≡ Known w = sym h.seen ∙ ap (λ (S : Family). seen_in S c) (left_once M l h.family g.family h.left g.left) ∙ g.seen in cc

-- better or no better
module _ (wanted : Bool) where
  better_as_good : (z w : ℤ) → IsBetter wanted z w → IsAsGood wanted z w
  better_as_good z w h = by_wanted wanted h
    where
      by_wanted : (b : Bool) → IsBetter b z w → IsAsGood b z w
      by_wanted true g = omega (arith, ints)
      by_wanted false g = omega (arith, ints)

  pub good_itself : (z : ℤ) → IsAsGood wanted z z
  good_itself z = by_wanted wanted
    where
      by_wanted : (b : Bool) → IsAsGood b z z
      by_wanted true = omega (arith, ints)
      by_wanted false = omega (arith, ints)

  pub not_both : (z w : ℤ) → IsBetter wanted z w → IsAsGood wanted w z → ⊥
  not_both z w h g = by_wanted wanted h g
    where
      by_wanted : (b : Bool) → IsBetter b z w → IsAsGood b w z → ⊥
      by_wanted true i j = omega (arith, ints)
      by_wanted false i j = omega (arith, ints)

  by_order : (z w : ℤ) → IsBetter wanted w z ⊎ IsAsGood wanted z w
  by_order z w = by_wanted wanted
    where
      by_wanted : (b : Bool) → IsBetter b w z ⊎ IsAsGood b z w
      by_wanted true = elim (cases_Bool (int_le z w)) [ inl e ↦ inr (omega (arith, ints)) | inr e ↦ inl (omega (arith, ints)) ]
      by_wanted false = elim (cases_Bool (int_le w z)) [ inl e ↦ inr (omega (arith, ints)) | inr e ↦ inl (omega (arith, ints)) ]

-- the cost that an assignment gives is that of the leaf with its values
value_at : (D : Family) (a : Assignment) (xs : List ℕ) (x : ℕ) → map D xs ≡ map (λ n. n ∷ []) (map a xs) → has xs x ≡ true → D x ≡ a x ∷ []
value_at D a [] x e h = absurd (true≢false (sym h))
value_at D a (y ∷ xs) x e h = elim (or_cases (y == x) (has xs x) h) [
  | inl k ↦ let j : D y ≡ a y ∷ [] = cc in subst (λ v. D v ≡ a v ∷ []) (eqb-true y x k) j
  | inr k ↦ value_at D a xs x (let j : map D xs ≡ map (λ n. n ∷ []) (map a xs) = cc in j) k
]

pub cost_there : (M : ℕ) (ms : List Member) (c : Member) (l : List Indexical) (a : Assignment) → IsCostOf ms c → HaveValues M (open_ones ms) l (map a (open_ones ms)) → Costs M c l (cost_by a c)
cost_there M ms (Known z) l a i h = record { family = h.family; left = h.left; seen = refl }
cost_there M ms (Open x) l a i h = record { family = h.family; left = h.left; seen = ap (λ s. open_unless x (only s)) (value_at h.family a (open_ones ms) x h.values i) }

pub some_split : {X : Type 0} (H : X → Type 0) (xs ys : List X) → Somewhere H (xs ++ ys) → Somewhere H xs ⊎ Somewhere H ys
some_split H [] ys h = inr h
some_split H (x ∷ xs) ys (inl h) = inl (inl h)
some_split H (x ∷ xs) ys (inr h) = elim (some_split H xs ys h) [ inl k ↦ inl (inr k) | inr k ↦ inr k ]

module _ (M : ℕ) (ms : List Member) (c : Member) (wanted : Bool) (is_cost : IsCostOf ms c) where
  abbrev Has : Assignment → List Indexical → Type 0
  Has b k = HaveValues M (open_ones ms) k (map b (open_ones ms))

  -- no leaf has a better cost than the best
  best_of_all : (ls : List (List Indexical)) (l : List Indexical) (z : ℤ) → IsBestPosted M wanted c ls l z → (b : Assignment)
      → Somewhere (λ k. HaveValues M (open_ones ms) k (map b (open_ones ms))) ls → IsAsGood wanted z (cost_by b c)
  best_of_all ls l z best b s = by_place (some_split (Has b) best.before (l ∷ best.behind) (subst (Somewhere (Has b)) best.among s))
    where
      here : (k : List Indexical) (w : ℤ) → Costs M c k w → Has b k → w ≡ cost_by b c
      here k w i h = costs_once M c k w (cost_by b c) i (cost_there M ms c k b is_cost h)

      by_place : Somewhere (Has b) best.before ⊎ Somewhere (Has b) (l ∷ best.behind) → IsAsGood wanted z (cost_by b c)
      by_place (inl h) = each_at (λ k. (w : ℤ) × Costs M c k w × IsBetter wanted z w) best.before (Has b) (IsAsGood wanted z (cost_by b c)) best.earlier h
          (λ k i j. subst (IsAsGood wanted z) (here k i.0 i.1 j) (better_as_good wanted z i.0 i.2))
      by_place (inr (inl h)) = subst (IsAsGood wanted z) (here l z best.costs h) (good_itself wanted z)
      by_place (inr (inr h)) = each_at (λ k. (w : ℤ) × Costs M c k w × IsAsGood wanted z w) best.behind (Has b) (IsAsGood wanted z (cost_by b c)) best.later h
          (λ k i j. subst (IsAsGood wanted z) (here k i.0 i.1 j) i.2)

  best_kept : (o : Order) (ps : List Indexical) (ws : List ℕ) (ls : List (List Indexical)) (found : Option (List ℕ)) → IsWhole M ms ps ws
      → PostedLeaves M o ms (ps ∷ []) ls → BestValues M wanted c (open_ones ms) ls found → IsBestKept M wanted c (open_ones ms) ps found
  best_kept o ps ws ls None whole all e = λ a k. subst (Somewhere (λ l. HaveValues M (open_ones ms) l (map a (open_ones ms)))) e (kept_are_leaves M o ms ps ls all a k)
  best_kept o ps ws ls (Some ns) whole all b =
      let l = b.0 in
      let best = b.2 in
      let each = subst (Each (λ k. (a : Assignment) × Keeps M ps a × HaveValues M (open_ones ms) k (map a (open_ones ms)))) best.among (whole_leaves M o ms ps ws whole ls all) in
      let mine = (each_after (λ k. (a : Assignment) × Keeps M ps a × HaveValues M (open_ones ms) k (map a (open_ones ms))) best.before (l ∷ best.behind) each).0 in
      let cost : b.1 ≡ cost_by mine.0 c = costs_once M c l b.1 (cost_by mine.0 c) best.costs (cost_there M ms c l mine.0 is_cost mine.2) in (
        mine.0,
        mine.1,
        values_once M (open_ones ms) l ns (map mine.0 (open_ones ms)) b.3 mine.2,
        λ a k. subst (λ z. IsAsGood wanted z (cost_by a c)) cost (best_of_all ls l b.1 best a (kept_are_leaves M o ms ps ls all a k)),
      )

pub best_cost : BestCost
best_cost M o ms c wanted ps ws found whole is_cost s = best_kept M ms c wanted is_cost o ps ws s.leaves found whole s.all s.best

-- there is an answer
module _ (M : ℕ) (o : Order) (ms : List Member) (c : Member) (wanted : Bool) (is_cost : IsCostOf ms c) where
  abbrev Ends : List Indexical → Type 0
  Ends l = (z : ℤ) × (ns : List ℕ) × Costs M c l z × HaveValues M (open_ones ms) l ns

  ends : (ps : List Indexical) (D : Family) → Unit {0} → AreLeft M ps D → picked_in o D ms ≡ None → Ends ps
  ends ps D u d e = let k = end_costs M o ms c ps D is_cost d e in (k.0, map (λ x. least (D x)) (open_ones ms), k.1, end_values M o ms ps D d e)

  all_end : (ps : List Indexical) (ls : List (List Indexical)) → PostedLeaves M o ms (ps ∷ []) ls → Each Ends ls
  all_end ps ls l = each_leaf M o ms (λ qs. Unit {0}) Ends (λ qs D x n u d e k. tt) ends l (tt, tt)

  abbrev SomeBest : List (List Indexical) → Type 0
  SomeBest ls = (found : Option (List ℕ)) × BestValues M wanted c (open_ones ms) ls found

  further : (rest met : List (List Indexical)) (l : List Indexical) (z : ℤ) (ns : List ℕ) → Each Ends rest → IsBestPosted M wanted c met l z → HaveValues M (open_ones ms) l ns → SomeBest (met ++ rest)
  further [] met l z ns h b v = (Some ns, (l, z, subst (λ ls. IsBestPosted M wanted c ls l z) (sym (append-nil met)) b, v))
  further (k ∷ rest) met l z ns h b v =
      let assoc : (met ++ k ∷ []) ++ rest ≡ met ++ k ∷ rest = append_assoc met (k ∷ []) rest in
      subst SomeBest assoc (elim (by_order wanted z h.0.0) [
        | inl e ↦ further rest (met ++ k ∷ []) k h.0.0 h.0.1 h.1 (first_new M wanted c met l k z h.0.0 b h.0.2 e) h.0.3
        | inr e ↦ further rest (met ++ k ∷ []) l z ns h.1 (first_more M wanted c met (k ∷ []) l z b ((h.0.0, h.0.2, e), tt)) v
      ])

  best_there : (ls : List (List Indexical)) → Each Ends ls → SomeBest ls
  best_there [] h = (None, refl)
  best_there (l ∷ ls) h = further ls (l ∷ []) l h.0.0 h.0.1 h.1 (first_alone M wanted c l h.0.0 h.0.2) h.0.3

  -- and one only
  same_best : (before before' behind behind' : List (List Indexical)) (l k : List Indexical) (z w : ℤ) → before ++ l ∷ behind ≡ before' ++ k ∷ behind'
      → Costs M c l z → Costs M c k w → EachCosts M c (IsBetter wanted z) before → EachCosts M c (IsAsGood wanted z) behind
      → EachCosts M c (IsBetter wanted w) before' → EachCosts M c (IsAsGood wanted w) behind' → l ≡ k
  same_best [] [] behind behind' l k z w e i j a b f g = let h : l ≡ k = cc in h
  same_best [] (x ∷ before') behind behind' l k z w e i j a b f g =
      let first : l ≡ x = cc in
      let others : behind ≡ before' ++ k ∷ behind' = cc in
      let v = (each_after (λ y. (u : ℤ) × Costs M c y u × IsAsGood wanted z u) before' (k ∷ behind') (subst (EachCosts M c (IsAsGood wanted z)) others b)).0 in
      let mine : f.0.0 ≡ z = costs_once M c l f.0.0 z (subst (λ y. Costs M c y f.0.0) (sym first) f.0.1) i in
      let other : v.0 ≡ w = costs_once M c k v.0 w v.1 j in
      absurd (not_both wanted w z (subst (IsBetter wanted w) mine f.0.2) (subst (IsAsGood wanted z) other v.2))
  same_best (x ∷ before) [] behind behind' l k z w e i j a b f g =
      let first : x ≡ k = cc in
      let others : before ++ l ∷ behind ≡ behind' = cc in
      let v = (each_after (λ y. (u : ℤ) × Costs M c y u × IsAsGood wanted w u) before (l ∷ behind) (subst (EachCosts M c (IsAsGood wanted w)) (sym others) g)).0 in
      let mine : a.0.0 ≡ w = costs_once M c k a.0.0 w (subst (λ y. Costs M c y a.0.0) first a.0.1) j in
      let other : v.0 ≡ z = costs_once M c l v.0 z v.1 i in
      absurd (not_both wanted z w (subst (IsBetter wanted z) mine a.0.2) (subst (IsAsGood wanted w) other v.2))
  same_best (x ∷ before) (y ∷ before') behind behind' l k z w e i j a b f g =
      let others : before ++ l ∷ behind ≡ before' ++ k ∷ behind' = cc in
      same_best before before' behind behind' l k z w others i j a.1 b f.1 g

  no_middle : (xs : List (List Indexical)) (l : List Indexical) (ys : List (List Indexical)) → xs ++ l ∷ ys ≡ [] → ⊥
  no_middle [] l ys e = cc
  no_middle (x ∷ xs) l ys e = cc

  best_once : (ls : List (List Indexical)) (f g : Option (List ℕ)) → BestValues M wanted c (open_ones ms) ls f → BestValues M wanted c (open_ones ms) ls g → f ≡ g
  best_once ls None None h i = refl
  best_once ls None (Some ks) h i = absurd (no_middle i.2.before i.0 i.2.behind (sym i.2.among ∙ h))
  best_once ls (Some ns) None h i = absurd (no_middle h.2.before h.0 h.2.behind (sym h.2.among ∙ i))
  best_once ls (Some ns) (Some ks) h i =
      let same : h.0 ≡ i.0 = same_best h.2.before i.2.before h.2.behind i.2.behind h.0 i.0 h.1 i.1 (sym h.2.among ∙ i.2.among) h.2.costs i.2.costs h.2.earlier h.2.later i.2.earlier i.2.later in
      ap Some (values_once M (open_ones ms) i.0 ns ks (subst (λ l. HaveValues M (open_ones ms) l ns) same h.3) i.3)

pub one_answer : OneSought
one_answer M o ms c wanted ps mono ok is_cost =
    let l = leaves_there M o ms ps mono in
    let b = best_there M o ms c wanted is_cost l.0 (all_end M o ms c wanted is_cost ps l.0 l.1) in (
      b.0,
      record { leaves = l.0; all = l.1; best = b.1 },
      λ other s. best_once M o ms c wanted is_cost l.0 other b.0 (subst (λ ls. BestValues M wanted c (open_ones ms) ls other) (leaves_once M o ms s.all l.1) s.best) b.1,
    )
