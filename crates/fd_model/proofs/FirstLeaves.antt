-- What is found comes before all others with its cost.
use Rattle.std.proofs.Common.{◌≡◌, ℕ, Bool, ℤ, List, [], ◌∷◌, ◌++◌, map, ◌⊎◌, sym, ◌∙◌, subst, inl, inr}
use Rattle.fd_model.specs.declared.kinds.Order.{Order}
use Rattle.fd_language.specs.Lists.{Each}
use Rattle.fd_language.specs.Range.{Indexical}
use Rattle.fd_model.specs.Answers.{Somewhere, InOrder, Comes}
use Rattle.fd_model.specs.Labelling.{open_ones}
use Rattle.fd_model.specs.Members.{Member}
use Rattle.fd_model.specs.Leaves.{IsBetter, IsAsGood}
use Rattle.fd_model.specs.BestPosted.{IsCostOf, Costs, HaveValues, IsBestPosted}
use Rattle.fd_model.specs.PostedLaws.{cost_by, ComesBefore, FirstOfBest}
use Rattle.fd_model.specs.Satisfaction.{Assignment}
use Rattle.fd_model.proofs.Lists.{each_at}
use Rattle.fd_model.proofs.KeptLeaves.{kept_are_leaves}
use Rattle.fd_model.proofs.OrderedLeaves.{in_order}
use Rattle.fd_model.proofs.SoughtLeaves.{values_once, costs_once, cost_there, some_split, not_both, good_itself}

later_in_order : {X : Type 0} (R : X → X → Type 0) (xs : List X) (y : X) (ys : List X) → InOrder R (xs ++ y ∷ ys) → Each (R y) ys
later_in_order R [] y ys h = h.0
later_in_order R (x ∷ xs) y ys h = later_in_order R xs y ys h.1

module _ (M : ℕ) (o : Order) (ms : List Member) (c : Member) (wanted : Bool) (is_cost : IsCostOf ms c) where
  abbrev Has : Assignment → List Indexical → Type 0
  Has a k = HaveValues M (open_ones ms) k (map a (open_ones ms))

  of_leaf : (k : List Indexical) (z : ℤ) (a : Assignment) → Costs M c k z → Has a k → z ≡ cost_by a c
  of_leaf k z a i h = costs_once M c k z (cost_by a c) i (cost_there M ms c k a is_cost h)

  first_of : (ls : List (List Indexical)) (l : List Indexical) (z : ℤ) (ns : List ℕ) → IsBestPosted M wanted c ls l z → HaveValues M (open_ones ms) l ns → InOrder (ComesBefore M o (open_ones ms)) ls
      → (a b : Assignment) → ns ≡ map a (open_ones ms) → cost_by b c ≡ cost_by a c → Somewhere (Has b) ls → (map b (open_ones ms) ≡ ns) ⊎ Comes o ns (map b (open_ones ms))
  first_of ls l z ns best v order a b e same there = by_place (some_split (Has b) best.before (l ∷ best.behind) (subst (Somewhere (Has b)) best.among there))
    where
      mine : z ≡ cost_by a c
      mine = of_leaf l z a best.costs (subst (HaveValues M (open_ones ms) l) e v)

      later : Each (ComesBefore M o (open_ones ms) l) best.behind
      later = later_in_order (ComesBefore M o (open_ones ms)) best.before l best.behind (subst (InOrder (ComesBefore M o (open_ones ms))) best.among order)

      by_place : Somewhere (Has b) best.before ⊎ Somewhere (Has b) (l ∷ best.behind) → (map b (open_ones ms) ≡ ns) ⊎ Comes o ns (map b (open_ones ms))
      by_place (inl h) = absurd (each_at (λ k. (y : ℤ) × Costs M c k y × IsBetter wanted z y) best.before (Has b) ⊥ best.earlier h
          (λ k i j. not_both wanted z i.0 i.2 (subst (λ y. IsAsGood wanted y z) (mine ∙ sym same ∙ sym (of_leaf k i.0 b i.1 j)) (good_itself wanted z))))
      by_place (inr (inl h)) = inl (values_once M (open_ones ms) l (map b (open_ones ms)) ns h v)
      by_place (inr (inr h)) = inr (each_at (ComesBefore M o (open_ones ms) l) best.behind (Has b) (Comes o ns (map b (open_ones ms))) later h (λ k i j. i ns (map b (open_ones ms)) v j))

pub first_of_best : FirstOfBest
first_of_best M o ms c wanted ps ns mono ok is_cost s a b keeps_a keeps_b e same =
    first_of M o ms c wanted is_cost s.leaves s.best.0 s.best.1 ns s.best.2 s.best.3 (in_order M o ms ps s.leaves mono ok s.all) a b e same (kept_are_leaves M o ms ps s.leaves s.all b keeps_b)
