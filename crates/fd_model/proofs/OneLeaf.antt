-- There is one list of leaves of a labelling, and one best of them.
use Rattle.std.proofs.Common.{◌≡◌, ℕ, Bool, true, false, ℤ, List, [], ◌∷◌, ◌++◌, map, Some, None, Ok, refl, ap, sym, ◌∙◌, subst, inl, inr, ◌⊎◌, arith}
use Rattle.std.proofs.lemmas.Int.{ints}
use Rattle.fd_language.specs.Term.{Term, Int, Substitution, apply}
use Rattle.fd_language.specs.Family.{Family}
use Rattle.fd_language.specs.Lists.{Each}
use Rattle.fd_model.specs.declared.kinds.Order.{Order}
use Rattle.fd_model.specs.Goal.{Goal, Branch}
use Rattle.fd_model.specs.BranchViews.{IsView}
use Rattle.fd_model.specs.Members.{Member}
use Rattle.fd_model.specs.Labelling.{read_list, pick, values_by}
use Rattle.fd_model.specs.Branches.{with_goals, by_value, Kept, look_in, sets_in}
use Rattle.fd_model.specs.Leaves.{Leaves, no_leaves, leaf, grows, IsSeenAs, IsBetter, IsAsGood, IsBest, BestLeaf, SoughtLeaf}
use Rattle.fd_model.specs.Answers.{Somewhere}
use Rattle.fd_model.proofs.Lists.{each_at}
use Rattle.fd_model.proofs.OneView.{kept_once, from_view}

-- the list is read as one list, and one variable is picked
module _ (M N : ℕ) (o : Order) (t : Term) (b : Branch) (s u : Substitution) (D E : Family) (v : IsView M N b.equations b.posted s D) (w : IsView M N b.equations b.posted u E) where
  one_list : (ms ns : List Member) → read_list (apply (look_in b s D) t) ≡ Ok ms → read_list (apply (look_in b u E) t) ≡ Ok ns → ms ≡ ns
  one_list ms ns e f = let same = from_view M N b s u D E (λ x X. read_list (apply (look_in b x X) t)) v w in let k : Ok ms ≡ Ok ns = sym e ∙ same ∙ f in cc

  pub one_pick : (ms ns : List Member) → read_list (apply (look_in b s D) t) ≡ Ok ms → read_list (apply (look_in b u E) t) ≡ Ok ns
      → pick o (λ y. values_by N (sets_in b s D y)) ms ≡ pick o (λ y. values_by N (sets_in b u E y)) ns
  one_pick ms ns e f = from_view M N b s u D E (λ x X. pick o (λ y. values_by N (sets_in b x X y)) ms) v w ∙ ap (pick o (λ y. values_by N (sets_in b u E y))) (one_list ms ns e f)

  pub one_values : (x : ℕ) → values_by N (sets_in b s D x) ≡ values_by N (sets_in b u E x)
  one_values x = from_view M N b s u D E (λ y X. values_by N (sets_in b y X x)) v w

module _ (M N : ℕ) (o : Order) (t : Term) where
  pub leaves_once : {bs ls ks : List Branch} → Leaves M N o t bs ls → Leaves M N o t bs ks → ls ≡ ks
  leaves_once no_leaves no_leaves = refl
  leaves_once (leaf {b = b} s D ms v e p more) (leaf u E ns w f q later) = ap (λ l. b ∷ l) (leaves_once more later)
  leaves_once (leaf {b = b} s D ms v e p more) (grows u E ns x cs w f q k later) = absurd (let h : None ≡ Some x = sym p ∙ one_pick M N o t b s u D E v w ms ns e f ∙ q in cc)
  leaves_once (grows {b = b} s D ms x cs v e p k more) (leaf u E ns w f q later) = absurd (let h : Some x ≡ None = sym p ∙ one_pick M N o t b s u D E v w ms ns e f ∙ q in cc)
  leaves_once (grows {b = b} {bs = bs} {ls = ls} s D ms x cs v e p k more) (grows {ls = ks} u E ns y ds w f q l later) =
      let h : Some x ≡ Some y = sym p ∙ one_pick M N o t b s u D E v w ms ns e f ∙ q in
      let one : x ≡ y = cc in
      let kept : Kept M N (map (by_value b b.goals y) (values_by N (sets_in b u E y))) cs =
      subst (λ z. Kept M N (map (by_value b b.goals z) (values_by N (sets_in b u E z))) cs) one (subst (λ ns. Kept M N (map (by_value b b.goals x) ns) cs) (one_values M N o t b s u D E v w x) k) in
      leaves_once more (subst (λ zs. Leaves M N o t (zs ++ bs) ks) (sym (kept_once M N (map (by_value b b.goals y) (values_by N (sets_in b u E y))) cs ds kept l)) later)

-- what is seen is one
seen_once : (M N : ℕ) (b : Branch) (t : Term) (z w : ℤ) → IsSeenAs M N b t z → IsSeenAs M N b t w → z ≡ w
seen_once M N b t z w i j =
    let same = from_view M N b i.unifier j.unifier i.family j.family (λ x X. apply (look_in b x X) t) i.view j.view in
    let k : Int z ≡ Int w = sym i.seen ∙ same ∙ j.seen in cc

-- an element that stands in two places of one list
module _ {X : Type 0} where
  abbrev Crosses : X → X → List X → List X → List X → List X → Type 0
  Crosses x y before behind here there = (x ≡ y) ⊎ ((Somewhere (λ z. z ≡ y) before × Somewhere (λ z. z ≡ x) there) ⊎ (Somewhere (λ z. z ≡ x) here × Somewhere (λ z. z ≡ y) behind))

  some_middle : (xs ys : List X) (x : X) → Somewhere (λ z. z ≡ x) (xs ++ x ∷ ys)
  some_middle [] ys x = inl refl
  some_middle (z ∷ xs) ys x = inr (some_middle xs ys x)

  crossed : (before behind here there : List X) (x y : X) → before ++ x ∷ behind ≡ here ++ y ∷ there → Crosses x y before behind here there
  crossed [] behind [] there x y e = inl (let h : x ≡ y = cc in h)
  crossed [] behind (z ∷ here) there x y e = let h : x ≡ z = cc in let l : behind ≡ here ++ y ∷ there = cc in inr (inr (inl (sym h), subst (Somewhere (λ z. z ≡ y)) (sym l) (some_middle here there y)))
  crossed (z ∷ before) behind [] there x y e = let h : z ≡ y = cc in let l : before ++ x ∷ behind ≡ there = cc in inr (inl (inl h, subst (Somewhere (λ z. z ≡ x)) l (some_middle before behind x)))
  crossed (z ∷ before) behind (w ∷ here) there x y e = let l : before ++ x ∷ behind ≡ here ++ y ∷ there = cc in elim (crossed before behind here there x y l) [
    | inl h ↦ inl h
    | inr (inl h) ↦ inr (inl (inr h.0, h.1))
    | inr (inr h) ↦ inr (inr (inr h.0, h.1))
  ]

never_both : (least : Bool) (z w : ℤ) → IsBetter least z w → IsAsGood least w z → ⊥
never_both true z w h g = omega (arith, ints)
never_both false z w h g = omega (arith, ints)

module _ (M N : ℕ) (least : Bool) (c : Term) where
  abbrev IsLater : ℤ → Branch → Type 0
  IsLater cost d = (z : ℤ) × IsSeenAs M N d c z × IsAsGood least cost z

  abbrev IsEarlier : ℤ → Branch → Type 0
  IsEarlier cost d = (z : ℤ) × IsSeenAs M N d c z × IsBetter least cost z

  -- b isn't both better than d and no better
  no_cross : (b d : Branch) (cost worth : ℤ) (before there : List Branch) → IsSeenAs M N b c cost → IsSeenAs M N d c worth → Each (IsEarlier cost) before → Each (IsLater worth) there
      → Somewhere (λ e. e ≡ d) before → Somewhere (λ e. e ≡ b) there → ⊥
  no_cross b d cost worth before there seen other earlier later i j =
      each_at (IsEarlier cost) before (λ e. e ≡ d) ⊥ earlier i (λ e h g.
      each_at (IsLater worth) there (λ f. f ≡ b) ⊥ later j (λ f k l.
      let here : h.0 ≡ worth = seen_once M N d c h.0 worth (subst (λ a. IsSeenAs M N a c h.0) g h.1) other in
      let back : k.0 ≡ cost = seen_once M N b c k.0 cost (subst (λ a. IsSeenAs M N a c k.0) l k.1) seen in
      never_both least cost worth (subst (IsBetter least cost) here h.2) (subst (IsAsGood least worth) back k.2)))

  best_once : (ls : List Branch) (b d : Branch) → IsBest M N least c ls b → IsBest M N least c ls d → b ≡ d
  best_once ls b d h g = elim (crossed h.before h.behind g.before g.behind b d (sym h.among ∙ g.among)) [
    | inl e ↦ e
    | inr (inl e) ↦ absurd (no_cross b d h.cost g.cost h.before g.behind h.costs g.costs h.earlier g.later e.0 e.1)
    | inr (inr e) ↦ absurd (no_cross d b g.cost h.cost g.before h.behind g.costs h.costs g.earlier h.later e.0 e.1)
  ]

  best_leaf_once : (rest : List Goal) (ls cs ds : List Branch) → BestLeaf M N least c rest ls cs → BestLeaf M N least c rest ls ds → cs ≡ ds
  best_leaf_once rest [] cs ds h g = h ∙ sym g
  best_leaf_once rest (l ∷ ls) cs ds h g = h.2 ∙ ap (λ d. with_goals d rest ∷ []) (best_once (l ∷ ls) h.0 g.0 h.1 g.1) ∙ sym g.2

pub sought_once : (M N : ℕ) (b : Branch) (rest : List Goal) (o : Order) (least : Bool) (t c : Term) (cs ds : List Branch) → SoughtLeaf M N b rest o least t c cs
    → SoughtLeaf M N b rest o least t c ds → cs ≡ ds
sought_once M N b rest o least t c cs ds h g =
    let one = leaves_once M N o t h.1 g.1 in best_leaf_once M N least c rest g.0 cs ds (subst (λ ls. BestLeaf M N least c rest ls cs) one h.2) g.2
