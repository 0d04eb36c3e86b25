-- The walk over a range's nodes: what waits fits, and the operands of the next node may be taken.
use Rattle.std.proofs.Common.{◌≡◌, ℕ, ℤ, ◌+◌, ◌<◌, ◌≤◌, List, [], ◌∷◌, ◌++◌, length, drop, get_or, Option, Some, refl, sym, ◌∙◌, ap, subst}
use Rattle.std.proofs.lemmas.List.{at_drop_more, drop_all}
use Rattle.std.proofs.lemmas.Option.{same_Some}
use Rattle.fd_language.specs.declared.range_node.RangeNode.{RangeNode}
use Rattle.fd_language.specs.declared.range_node.RangeNode.TheVariants as node
use Rattle.fd_language.specs.Range.{Range, Span, One, Dom, Union, Inter, Outside, Plus, Minus, Times, Over, Expr, Number, Infinity, Param, Min, Max, Val, Add}
use Rattle.fd_language.specs.Range.{Sub, Mul, DivDown, DivUp}
use Rattle.fd_language.specs.PostfixRanges.{nodes_of, built, builds_range}
use Rattle.fd_model.specs.Satisfaction.{Assignment}
use Rattle.answer_check.specs.declared.operand_stack.Work.{Work}
use Rattle.answer_check.specs.OperandStack.{value_by, is_in, Fits, RangeFits, CanOperate, CanTake, IsTakeable, stacked_numbers, IsPending, Follows, IsTaken}
use Rattle.answer_check.specs.OperandStack.{IsAt}

-- the last of two equal lists
pub record SameEnds (A : Type 0) (xs ys : List A) (x y : A) : Type 0 where
  pub fronts : xs ≡ ys
  pub lasts : x ≡ y

pub ends_same : {A : Type 0} (xs ys : List A) (x y : A) → xs ++ x ∷ [] ≡ ys ++ y ∷ [] → SameEnds A xs ys x y
ends_same [] [] x y e = record { fronts = refl; lasts = cc }
ends_same [] (z ∷ []) x y e = absurd cc
ends_same [] (z ∷ w ∷ zs) x y e = absurd cc
ends_same (z ∷ []) [] x y e = absurd cc
ends_same (z ∷ w ∷ zs) [] x y e = absurd cc
ends_same (z ∷ zs) (w ∷ ws) x y e =
    let heads : z ≡ w = cc in
    let tails : zs ++ x ∷ [] ≡ ws ++ y ∷ [] = cc in
    let k = ends_same zs ws x y tails in
    let f : zs ≡ ws = k.fronts in
    record { fronts = cc; lasts = k.lasts }

module _ (a : Assignment) where
  -- all that waits fits
  abbrev TermsFit : List Expr → Type 0
  TermsFit [] = Unit {0}
  TermsFit (t ∷ ts) = Fits a t × TermsFit ts

  abbrev RangesFit : List Range → Type 0
  RangesFit [] = Unit {0}
  RangesFit (r ∷ rs) = RangeFits a r × RangesFit rs

  record Fit (rs : List Range) (ts : List Expr) : Type 0 where
    ranges : RangesFit rs
    terms : TermsFit ts

  -- where the whole range fits, all that waits does
  all_fit : (ns : List RangeNode) (rs : List Range) (ts : List Expr) (r : Range) → Some r ≡ built ns rs ts → RangeFits a r → Fit rs ts
  all_fit [] [] [] r e h = absurd cc
  all_fit [] [] (t ∷ ts) r e h = absurd cc
  all_fit [] (q ∷ []) [] r e h = record { ranges = (subst (RangeFits a) (same_Some r q e) h, tt); terms = tt }
  all_fit [] (q ∷ []) (t ∷ ts) r e h = absurd cc
  all_fit [] (q ∷ x ∷ rs) [] r e h = absurd cc
  all_fit [] (q ∷ x ∷ rs) (t ∷ ts) r e h = absurd cc
  all_fit (node.Int z ∷ ns) rs ts r e h = let k = all_fit ns rs (Number z ∷ ts) r e h in record { ranges = k.ranges; terms = k.terms.1 }
  all_fit (node.Infinity ∷ ns) rs ts r e h = let k = all_fit ns rs (Infinity ∷ ts) r e h in record { ranges = k.ranges; terms = k.terms.1 }
  all_fit (node.Min y ∷ ns) rs ts r e h = let k = all_fit ns rs (Min y ∷ ts) r e h in record { ranges = k.ranges; terms = k.terms.1 }
  all_fit (node.Max y ∷ ns) rs ts r e h = let k = all_fit ns rs (Max y ∷ ts) r e h in record { ranges = k.ranges; terms = k.terms.1 }
  all_fit (node.Val y ∷ ns) rs ts r e h = let k = all_fit ns rs (Val y ∷ ts) r e h in record { ranges = k.ranges; terms = k.terms.1 }
  all_fit (node.Param x ∷ ns) rs ts r e h = let k = all_fit ns rs (Param x ∷ ts) r e h in absurd k.terms.0
  all_fit (node.Add ∷ ns) rs [] r e h = absurd cc
  all_fit (node.Add ∷ ns) rs (d ∷ []) r e h = absurd cc
  all_fit (node.Add ∷ ns) rs (d ∷ c ∷ ts) r e h = let k = all_fit ns rs (Add c d ∷ ts) r e h in record { ranges = k.ranges; terms = (k.terms.0.1, (k.terms.0.0, k.terms.1)) }
  all_fit (node.Sub ∷ ns) rs [] r e h = absurd cc
  all_fit (node.Sub ∷ ns) rs (d ∷ []) r e h = absurd cc
  all_fit (node.Sub ∷ ns) rs (d ∷ c ∷ ts) r e h = let k = all_fit ns rs (Sub c d ∷ ts) r e h in record { ranges = k.ranges; terms = (k.terms.0.1, (k.terms.0.0, k.terms.1)) }
  all_fit (node.Mul ∷ ns) rs [] r e h = absurd cc
  all_fit (node.Mul ∷ ns) rs (d ∷ []) r e h = absurd cc
  all_fit (node.Mul ∷ ns) rs (d ∷ c ∷ ts) r e h = let k = all_fit ns rs (Mul c d ∷ ts) r e h in record { ranges = k.ranges; terms = (k.terms.0.1, (k.terms.0.0, k.terms.1)) }
  all_fit (node.DivDown ∷ ns) rs [] r e h = absurd cc
  all_fit (node.DivDown ∷ ns) rs (d ∷ []) r e h = absurd cc
  all_fit (node.DivDown ∷ ns) rs (d ∷ c ∷ ts) r e h = let k = all_fit ns rs (DivDown c d ∷ ts) r e h in record { ranges = k.ranges; terms = (k.terms.0.1, (k.terms.0.0, k.terms.1)) }
  all_fit (node.DivUp ∷ ns) rs [] r e h = absurd cc
  all_fit (node.DivUp ∷ ns) rs (d ∷ []) r e h = absurd cc
  all_fit (node.DivUp ∷ ns) rs (d ∷ c ∷ ts) r e h = let k = all_fit ns rs (DivUp c d ∷ ts) r e h in record { ranges = k.ranges; terms = (k.terms.0.1, (k.terms.0.0, k.terms.1)) }
  all_fit (node.Span ∷ ns) rs [] r e h = absurd cc
  all_fit (node.Span ∷ ns) rs (d ∷ []) r e h = absurd cc
  all_fit (node.Span ∷ ns) rs (d ∷ c ∷ b ∷ ts) r e h = absurd cc
  all_fit (node.Span ∷ ns) rs (d ∷ c ∷ []) r e h = let k = all_fit ns (Span c d ∷ rs) [] r e h in record { ranges = k.ranges.1; terms = (k.ranges.0.1, (k.ranges.0.0, tt)) }
  all_fit (node.One ∷ ns) rs [] r e h = absurd cc
  all_fit (node.One ∷ ns) rs (d ∷ c ∷ ts) r e h = absurd cc
  all_fit (node.One ∷ ns) rs (c ∷ []) r e h = let k = all_fit ns (One c ∷ rs) [] r e h in record { ranges = k.ranges.1; terms = (k.ranges.0, tt) }
  all_fit (node.Dom y ∷ ns) rs (c ∷ ts) r e h = absurd cc
  all_fit (node.Dom y ∷ ns) rs [] r e h = let k = all_fit ns (Dom y ∷ rs) [] r e h in record { ranges = k.ranges.1; terms = tt }
  all_fit (node.Union ∷ ns) [] [] r e h = absurd cc
  all_fit (node.Union ∷ ns) (q ∷ []) [] r e h = absurd cc
  all_fit (node.Union ∷ ns) [] (c ∷ ts) r e h = absurd cc
  all_fit (node.Union ∷ ns) (q ∷ []) (c ∷ ts) r e h = absurd cc
  all_fit (node.Union ∷ ns) (q ∷ x ∷ rs) (c ∷ ts) r e h = absurd cc
  all_fit (node.Union ∷ ns) (q ∷ x ∷ rs) [] r e h = let k = all_fit ns (Union x q ∷ rs) [] r e h in record { ranges = (k.ranges.0.1, (k.ranges.0.0, k.ranges.1)); terms = tt }
  all_fit (node.Inter ∷ ns) [] [] r e h = absurd cc
  all_fit (node.Inter ∷ ns) (q ∷ []) [] r e h = absurd cc
  all_fit (node.Inter ∷ ns) [] (c ∷ ts) r e h = absurd cc
  all_fit (node.Inter ∷ ns) (q ∷ []) (c ∷ ts) r e h = absurd cc
  all_fit (node.Inter ∷ ns) (q ∷ x ∷ rs) (c ∷ ts) r e h = absurd cc
  all_fit (node.Inter ∷ ns) (q ∷ x ∷ rs) [] r e h = let k = all_fit ns (Inter x q ∷ rs) [] r e h in record { ranges = (k.ranges.0.1, (k.ranges.0.0, k.ranges.1)); terms = tt }
  all_fit (node.Outside ∷ ns) [] [] r e h = absurd cc
  all_fit (node.Outside ∷ ns) [] (c ∷ ts) r e h = absurd cc
  all_fit (node.Outside ∷ ns) (q ∷ rs) (c ∷ ts) r e h = absurd cc
  all_fit (node.Outside ∷ ns) (q ∷ rs) [] r e h = let k = all_fit ns (Outside q ∷ rs) [] r e h in record { ranges = (k.ranges.0, k.ranges.1); terms = tt }
  all_fit (node.Plus ∷ ns) [] [] r e h = absurd cc
  all_fit (node.Plus ∷ ns) [] (c ∷ []) r e h = absurd cc
  all_fit (node.Plus ∷ ns) [] (d ∷ c ∷ ts) r e h = absurd cc
  all_fit (node.Plus ∷ ns) (q ∷ rs) [] r e h = absurd cc
  all_fit (node.Plus ∷ ns) (q ∷ rs) (d ∷ c ∷ ts) r e h = absurd cc
  all_fit (node.Plus ∷ ns) (q ∷ rs) (c ∷ []) r e h = let k = all_fit ns (Plus q c ∷ rs) [] r e h in absurd k.ranges.0
  all_fit (node.Minus ∷ ns) [] [] r e h = absurd cc
  all_fit (node.Minus ∷ ns) [] (c ∷ []) r e h = absurd cc
  all_fit (node.Minus ∷ ns) [] (d ∷ c ∷ ts) r e h = absurd cc
  all_fit (node.Minus ∷ ns) (q ∷ rs) [] r e h = absurd cc
  all_fit (node.Minus ∷ ns) (q ∷ rs) (d ∷ c ∷ ts) r e h = absurd cc
  all_fit (node.Minus ∷ ns) (q ∷ rs) (c ∷ []) r e h = let k = all_fit ns (Minus q c ∷ rs) [] r e h in absurd k.ranges.0
  all_fit (node.Times ∷ ns) [] [] r e h = absurd cc
  all_fit (node.Times ∷ ns) [] (c ∷ []) r e h = absurd cc
  all_fit (node.Times ∷ ns) [] (d ∷ c ∷ ts) r e h = absurd cc
  all_fit (node.Times ∷ ns) (q ∷ rs) [] r e h = absurd cc
  all_fit (node.Times ∷ ns) (q ∷ rs) (d ∷ c ∷ ts) r e h = absurd cc
  all_fit (node.Times ∷ ns) (q ∷ rs) (c ∷ []) r e h = let k = all_fit ns (Times q c ∷ rs) [] r e h in absurd k.ranges.0
  all_fit (node.Over ∷ ns) [] [] r e h = absurd cc
  all_fit (node.Over ∷ ns) [] (c ∷ []) r e h = absurd cc
  all_fit (node.Over ∷ ns) [] (d ∷ c ∷ ts) r e h = absurd cc
  all_fit (node.Over ∷ ns) (q ∷ rs) [] r e h = absurd cc
  all_fit (node.Over ∷ ns) (q ∷ rs) (d ∷ c ∷ ts) r e h = absurd cc
  all_fit (node.Over ∷ ns) (q ∷ rs) (c ∷ []) r e h = let k = all_fit ns (Over q c ∷ rs) [] r e h in absurd k.ranges.0

  two_on_top : (ts : List Expr) (c d : Expr) (items front : List ℤ) (x y : ℤ) (n : RangeNode) → items ≡ stacked_numbers a (d ∷ c ∷ ts)
      → CanOperate n (value_by a c) (value_by a d) → items ≡ (front ++ x ∷ []) ++ y ∷ [] → CanOperate n x y
  two_on_top ts c d items front x y n e h g =
      let k = ends_same (front ++ x ∷ []) (stacked_numbers a ts ++ value_by a c ∷ []) y (value_by a d) (sym g ∙ e) in
      let j = ends_same front (stacked_numbers a ts) x (value_by a c) k.fronts in
      subst (λ z. CanOperate n z y) (sym j.lasts) (subst (CanOperate n (value_by a c)) (sym k.lasts) h)

  -- so the operands of the next node may be taken
  pub can_take : (m : RangeNode) (ns : List RangeNode) (rs : List Range) (ts : List Expr) (r : Range) (n : ℕ) (w : Work) → Some r ≡ built (m ∷ ns) rs ts
      → RangeFits a r → IsPending a n rs ts w → CanTake m w
  can_take (node.Int z) ns rs ts r n w e h k = λ front x y i. tt
  can_take node.Infinity ns rs ts r n w e h k = λ front x y i. tt
  can_take (node.Param x) ns rs ts r n w e h k = λ front x y i. tt
  can_take (node.Min y) ns rs ts r n w e h k = λ front x y i. tt
  can_take (node.Max y) ns rs ts r n w e h k = λ front x y i. tt
  can_take (node.Val y) ns rs ts r n w e h k = λ front x y i. tt
  can_take node.Span ns rs ts r n w e h k = λ front x y i. tt
  can_take node.One ns rs ts r n w e h k = λ front x y i. tt
  can_take (node.Dom y) ns rs ts r n w e h k = λ front x y i. tt
  can_take node.Union ns rs ts r n w e h k = λ front x y i. tt
  can_take node.Inter ns rs ts r n w e h k = λ front x y i. tt
  can_take node.Outside ns rs ts r n w e h k = λ front x y i. tt
  can_take node.Plus ns rs ts r n w e h k = λ front x y i. tt
  can_take node.Minus ns rs ts r n w e h k = λ front x y i. tt
  can_take node.Times ns rs ts r n w e h k = λ front x y i. tt
  can_take node.Over ns rs ts r n w e h k = λ front x y i. tt
  can_take node.Add ns rs [] r n w e h k = absurd cc
  can_take node.Add ns rs (d ∷ []) r n w e h k = absurd cc
  can_take node.Add ns rs (d ∷ c ∷ ts) r n w e h k =
      let f = all_fit ns rs (Add c d ∷ ts) r e h in λ front x y i. two_on_top ts c d w.numbers.items front x y node.Add k.numbers f.terms.0.2 i
  can_take node.Sub ns rs [] r n w e h k = absurd cc
  can_take node.Sub ns rs (d ∷ []) r n w e h k = absurd cc
  can_take node.Sub ns rs (d ∷ c ∷ ts) r n w e h k =
      let f = all_fit ns rs (Sub c d ∷ ts) r e h in λ front x y i. two_on_top ts c d w.numbers.items front x y node.Sub k.numbers f.terms.0.2 i
  can_take node.Mul ns rs [] r n w e h k = absurd cc
  can_take node.Mul ns rs (d ∷ []) r n w e h k = absurd cc
  can_take node.Mul ns rs (d ∷ c ∷ ts) r n w e h k =
      let f = all_fit ns rs (Mul c d ∷ ts) r e h in λ front x y i. two_on_top ts c d w.numbers.items front x y node.Mul k.numbers f.terms.0.2 i
  can_take node.DivDown ns rs [] r n w e h k = absurd cc
  can_take node.DivDown ns rs (d ∷ []) r n w e h k = absurd cc
  can_take node.DivDown ns rs (d ∷ c ∷ ts) r n w e h k =
      let f = all_fit ns rs (DivDown c d ∷ ts) r e h in λ front x y i. two_on_top ts c d w.numbers.items front x y node.DivDown k.numbers f.terms.0.2 i
  can_take node.DivUp ns rs [] r n w e h k = absurd cc
  can_take node.DivUp ns rs (d ∷ []) r n w e h k = absurd cc
  can_take node.DivUp ns rs (d ∷ c ∷ ts) r n w e h k =
      let f = all_fit ns rs (DivUp c d ∷ ts) r e h in λ front x y i. two_on_top ts c d w.numbers.items front x y node.DivUp k.numbers f.terms.0.2 i

  -- and each node is one that a flat range may have
  pub takeable : (m : RangeNode) (ns : List RangeNode) (rs : List Range) (ts : List Expr) (r : Range) → Some r ≡ built (m ∷ ns) rs ts → RangeFits a r → IsTakeable m
  takeable (node.Int z) ns rs ts r e h = tt
  takeable node.Infinity ns rs ts r e h = tt
  takeable (node.Min y) ns rs ts r e h = tt
  takeable (node.Max y) ns rs ts r e h = tt
  takeable (node.Val y) ns rs ts r e h = tt
  takeable node.Span ns rs ts r e h = tt
  takeable node.One ns rs ts r e h = tt
  takeable (node.Dom y) ns rs ts r e h = tt
  takeable node.Union ns rs ts r e h = tt
  takeable node.Inter ns rs ts r e h = tt
  takeable node.Outside ns rs ts r e h = tt
  takeable node.Add ns rs ts r e h = tt
  takeable node.Sub ns rs ts r e h = tt
  takeable node.Mul ns rs ts r e h = tt
  takeable node.DivDown ns rs ts r e h = tt
  takeable node.DivUp ns rs ts r e h = tt
  takeable (node.Param x) ns rs ts r e h = (all_fit ns rs (Param x ∷ ts) r e h).terms.0
  takeable node.Plus ns [] [] r e h = absurd cc
  takeable node.Plus ns [] (c ∷ []) r e h = absurd cc
  takeable node.Plus ns [] (d ∷ c ∷ ts) r e h = absurd cc
  takeable node.Plus ns (q ∷ rs) [] r e h = absurd cc
  takeable node.Plus ns (q ∷ rs) (d ∷ c ∷ ts) r e h = absurd cc
  takeable node.Plus ns (q ∷ rs) (c ∷ []) r e h = (all_fit ns (Plus q c ∷ rs) [] r e h).ranges.0
  takeable node.Minus ns [] [] r e h = absurd cc
  takeable node.Minus ns [] (c ∷ []) r e h = absurd cc
  takeable node.Minus ns [] (d ∷ c ∷ ts) r e h = absurd cc
  takeable node.Minus ns (q ∷ rs) [] r e h = absurd cc
  takeable node.Minus ns (q ∷ rs) (d ∷ c ∷ ts) r e h = absurd cc
  takeable node.Minus ns (q ∷ rs) (c ∷ []) r e h = (all_fit ns (Minus q c ∷ rs) [] r e h).ranges.0
  takeable node.Times ns [] [] r e h = absurd cc
  takeable node.Times ns [] (c ∷ []) r e h = absurd cc
  takeable node.Times ns [] (d ∷ c ∷ ts) r e h = absurd cc
  takeable node.Times ns (q ∷ rs) [] r e h = absurd cc
  takeable node.Times ns (q ∷ rs) (d ∷ c ∷ ts) r e h = absurd cc
  takeable node.Times ns (q ∷ rs) (c ∷ []) r e h = (all_fit ns (Times q c ∷ rs) [] r e h).ranges.0
  takeable node.Over ns [] [] r e h = absurd cc
  takeable node.Over ns [] (c ∷ []) r e h = absurd cc
  takeable node.Over ns [] (d ∷ c ∷ ts) r e h = absurd cc
  takeable node.Over ns (q ∷ rs) [] r e h = absurd cc
  takeable node.Over ns (q ∷ rs) (d ∷ c ∷ ts) r e h = absurd cc
  takeable node.Over ns (q ∷ rs) (c ∷ []) r e h = (all_fit ns (Over q c ∷ rs) [] r e h).ranges.0

-- ---- the walk

pub walk_start : (a : Assignment) (n : ℕ) (r : Range) (w : Work) → w.numbers.items ≡ [] → w.truths.items ≡ [] → IsAt a n r 0 w
walk_start a n r w e f = record { ranges = []; terms = []; left = sym (builds_range r [] []); pending = record { numbers = e; truths = f } }

next_is : (ns : List RangeNode) (i : ℕ) (d : RangeNode) (rs : List Range) (ts : List Expr) (o : Option Range) → i < length ns → o ≡ built (drop i ns) rs ts
    → o ≡ built (get_or ns i d ∷ drop (i + 1) ns) rs ts
next_is ns i d rs ts o l e = e ∙ at_drop_more (λ ms. built ms rs ts) ns i d l

module _ (a : Assignment) (n i : ℕ) (r : Range) (d : RangeNode) (l : i < length (nodes_of r)) where
  pub walk_takes : (w : Work) → RangeFits a r → IsAt a n r i w → CanTake (get_or (nodes_of r) i d) w
  walk_takes w h k = can_take a (get_or (nodes_of r) i d) (drop (i + 1) (nodes_of r)) k.ranges k.terms r n w (next_is (nodes_of r) i d k.ranges k.terms (Some r) l k.left) h k.pending

  at_next : (o : Option Range) (w : Work) → Some r ≡ o → Follows a n (drop (i + 1) (nodes_of r)) o w → IsAt a n r (i + 1) w
  at_next o w e f = let g = subst (λ q. Follows a n (drop (i + 1) (nodes_of r)) q w) (sym e) f in record { ranges = g.0; terms = g.1; left = g.2; pending = g.3 }

  pub walk_step : (old new : Work) → RangeFits a r → IsAt a n r i old → IsTaken a n (get_or (nodes_of r) i d) old new → IsAt a n r (i + 1) new
  walk_step old new h k f =
      let e = next_is (nodes_of r) i d k.ranges k.terms (Some r) l k.left in
      at_next (built (get_or (nodes_of r) i d ∷ drop (i + 1) (nodes_of r)) k.ranges k.terms) new e
      (f (takeable a (get_or (nodes_of r) i d) (drop (i + 1) (nodes_of r)) k.ranges k.terms r e h) (drop (i + 1) (nodes_of r)) k.ranges k.terms k.pending)

alone : (a : Assignment) (n : ℕ) (r : Range) (rs : List Range) (ts : List Expr) (w : Work) → Some r ≡ built [] rs ts → IsPending a n rs ts w → w.truths.items ≡ [] ++ is_in a n r ∷ []
alone a n r [] [] w e h = absurd cc
alone a n r [] (t ∷ ts) w e h = absurd cc
alone a n r (q ∷ []) (t ∷ ts) w e h = absurd cc
alone a n r (q ∷ x ∷ rs) [] w e h = absurd cc
alone a n r (q ∷ x ∷ rs) (t ∷ ts) w e h = absurd cc
alone a n r (q ∷ []) [] w e h = h.truths ∙ ap (λ k. [] ++ is_in a n k ∷ []) (sym (same_Some r q e))

-- behind the last node there is the truth of the range alone
pub truth_alone : (a : Assignment) (n : ℕ) (r : Range) (count : ℕ) (w : Work) → length (nodes_of r) ≤ count → IsAt a n r count w → w.truths.items ≡ [] ++ is_in a n r ∷ []
truth_alone a n r count w l k = alone a n r k.ranges k.terms w (k.left ∙ ap (λ ns. built ns k.ranges k.terms) (drop_all count (nodes_of r) l)) k.pending
