-- The walk over a range's instructions.
use Rattle.std.proofs.Common.{◌≡◌, ℕ, ℤ, ◌+◌, ◌<◌, ◌≤◌, List, [], ◌∷◌, ◌++◌, length, map, drop, get_or, Option, Some, refl, sym, ◌∙◌, ap, subst, inl, inr}
use Rattle.std.specs.List.{All}
use Rattle.std.proofs.lemmas.Bool.{cases_lt}
use Rattle.range_code.specs.declared.frame.Arg.{Arg}
use Rattle.range_code.specs.Nodes.{IsReadable}
use Rattle.range_code.proofs.ConstantPlaces.{at_drop, all_back}
use Rattle.std.proofs.lemmas.List.{at_drop_more, drop_all}
use Rattle.std.proofs.lemmas.Option.{same_Some}
use Rattle.monotone_check.proofs.Lemmas.{builds_all}
use Rattle.fd_language.specs.declared.range_node.RangeNode.{RangeNode}
use Rattle.fd_language.specs.declared.range_node.RangeNode.TheVariants as node
use Rattle.fd_language.specs.Family.{Family}
use Rattle.fd_language.specs.Range.{Range, Span, One, Dom, Union, Inter, Outside, Plus, Minus, Times, Over, Expr, Number, Infinity, Param, Min, Max, Val, Add}
use Rattle.fd_language.specs.Range.{Sub, Mul, DivDown, DivUp}
use Rattle.fd_language.specs.PostfixRanges.{built, spelled_range, IsSpelled}
use Rattle.fd_language.specs.declared.TheConstants.{INFINITY}
use Rattle.fd_language.specs.Check.{fill_range}
use Rattle.fd_language.specs.Range.{in_range}
use Rattle.range_code.specs.Steps.{outside}
use Rattle.range_code.proofs.Tables.{outside_is}
use Rattle.range_code.specs.declared.work.Work.{Work}
use Rattle.range_code.specs.declared.evaluate.Steps.{Steps}
use Rattle.range_code.specs.declared.instr.RangeInstr.{RangeInstr}
use Rattle.range_code.specs.declared.instr.RangeInstr.TheVariants as instr
use Rattle.range_code.specs.Instructions.{node_of}
use Rattle.range_code.specs.StepNodes.{steps_from, all_steps, IsAt}
use Rattle.domain_ranges.specs.Narrowing.{between}
use Rattle.range_code.specs.Work.{filled_value, filled_set, Fits, RangeFits, CanOperate, CanMove, CanTake, stacked_values, stacked_sets, IsPending, Follows}
use Rattle.range_code.specs.Work.{IsTaken}

-- the last of two equal lists
record SameEnds (A : Type 0) (xs ys : List A) (x y : A) : Type 0 where
  fronts : xs ≡ ys
  lasts : x ≡ y

ends_same : {A : Type 0} (xs ys : List A) (x y : A) → xs ++ x ∷ [] ≡ ys ++ y ∷ [] → SameEnds A xs ys x y
ends_same [] [] x y e = record { fronts = refl; lasts = cc }
ends_same [] (z ∷ []) x y e = absurd cc
ends_same [] (z ∷ w ∷ zs) x y e = absurd cc
ends_same (z ∷ []) [] x y e = absurd cc
ends_same (z ∷ w ∷ zs) [] x y e = absurd cc
ends_same (z ∷ zs) (w ∷ ws) x y e =
    let heads : z ≡ w = cc in
    let tails : zs ++ x ∷ [] ≡ ws ++ y ∷ [] = cc in
    let k = ends_same zs ws x y tails in
    let f : zs ≡ ws = k.fronts in
    record { fronts = cc; lasts = k.lasts }

module _ (S : Family) (p : ℕ → ℤ) where
  -- all that waits fits
  abbrev TermsFit : List Expr → Type 0
  TermsFit [] = Unit {0}
  TermsFit (t ∷ ts) = Fits S p t × TermsFit ts

  abbrev RangesFit : List Range → Type 0
  RangesFit [] = Unit {0}
  RangesFit (r ∷ rs) = RangeFits S p r × RangesFit rs

  record Fit (rs : List Range) (ts : List Expr) : Type 0 where
    ranges : RangesFit rs
    terms : TermsFit ts

  -- where the whole range fits, all that waits does
  all_fit : (ns : List RangeNode) (rs : List Range) (ts : List Expr) (r : Range) → Some r ≡ built ns rs ts → RangeFits S p r → Fit rs ts
  all_fit [] [] [] r e h = absurd cc
  all_fit [] [] (t ∷ ts) r e h = absurd cc
  all_fit [] (q ∷ []) [] r e h = record { ranges = (subst (RangeFits S p) (same_Some r q e) h, tt); terms = tt }
  all_fit [] (q ∷ []) (t ∷ ts) r e h = absurd cc
  all_fit [] (q ∷ x ∷ rs) [] r e h = absurd cc
  all_fit [] (q ∷ x ∷ rs) (t ∷ ts) r e h = absurd cc
  all_fit (node.Int z ∷ ns) rs ts r e h = let k = all_fit ns rs (Number z ∷ ts) r e h in record { ranges = k.ranges; terms = k.terms.1 }
  all_fit (node.Infinity ∷ ns) rs ts r e h = let k = all_fit ns rs (Infinity ∷ ts) r e h in record { ranges = k.ranges; terms = k.terms.1 }
  all_fit (node.Param x ∷ ns) rs ts r e h = let k = all_fit ns rs (Param x ∷ ts) r e h in record { ranges = k.ranges; terms = k.terms.1 }
  all_fit (node.Min y ∷ ns) rs ts r e h = let k = all_fit ns rs (Min y ∷ ts) r e h in record { ranges = k.ranges; terms = k.terms.1 }
  all_fit (node.Max y ∷ ns) rs ts r e h = let k = all_fit ns rs (Max y ∷ ts) r e h in record { ranges = k.ranges; terms = k.terms.1 }
  all_fit (node.Val y ∷ ns) rs ts r e h = let k = all_fit ns rs (Val y ∷ ts) r e h in record { ranges = k.ranges; terms = k.terms.1 }
  all_fit (node.Add ∷ ns) rs [] r e h = absurd cc
  all_fit (node.Add ∷ ns) rs (b ∷ []) r e h = absurd cc
  all_fit (node.Add ∷ ns) rs (b ∷ a ∷ ts) r e h = let k = all_fit ns rs (Add a b ∷ ts) r e h in record { ranges = k.ranges; terms = (k.terms.0.1, (k.terms.0.0, k.terms.1)) }
  all_fit (node.Sub ∷ ns) rs [] r e h = absurd cc
  all_fit (node.Sub ∷ ns) rs (b ∷ []) r e h = absurd cc
  all_fit (node.Sub ∷ ns) rs (b ∷ a ∷ ts) r e h = let k = all_fit ns rs (Sub a b ∷ ts) r e h in record { ranges = k.ranges; terms = (k.terms.0.1, (k.terms.0.0, k.terms.1)) }
  all_fit (node.Mul ∷ ns) rs [] r e h = absurd cc
  all_fit (node.Mul ∷ ns) rs (b ∷ []) r e h = absurd cc
  all_fit (node.Mul ∷ ns) rs (b ∷ a ∷ ts) r e h = let k = all_fit ns rs (Mul a b ∷ ts) r e h in record { ranges = k.ranges; terms = (k.terms.0.1, (k.terms.0.0, k.terms.1)) }
  all_fit (node.DivDown ∷ ns) rs [] r e h = absurd cc
  all_fit (node.DivDown ∷ ns) rs (b ∷ []) r e h = absurd cc
  all_fit (node.DivDown ∷ ns) rs (b ∷ a ∷ ts) r e h = let k = all_fit ns rs (DivDown a b ∷ ts) r e h in record { ranges = k.ranges; terms = (k.terms.0.1, (k.terms.0.0, k.terms.1)) }
  all_fit (node.DivUp ∷ ns) rs [] r e h = absurd cc
  all_fit (node.DivUp ∷ ns) rs (b ∷ []) r e h = absurd cc
  all_fit (node.DivUp ∷ ns) rs (b ∷ a ∷ ts) r e h = let k = all_fit ns rs (DivUp a b ∷ ts) r e h in record { ranges = k.ranges; terms = (k.terms.0.1, (k.terms.0.0, k.terms.1)) }
  all_fit (node.Span ∷ ns) rs [] r e h = absurd cc
  all_fit (node.Span ∷ ns) rs (b ∷ []) r e h = absurd cc
  all_fit (node.Span ∷ ns) rs (b ∷ a ∷ c ∷ ts) r e h = absurd cc
  all_fit (node.Span ∷ ns) rs (b ∷ a ∷ []) r e h = let k = all_fit ns (Span a b ∷ rs) [] r e h in record { ranges = k.ranges.1; terms = (k.ranges.0.1, (k.ranges.0.0, tt)) }
  all_fit (node.One ∷ ns) rs [] r e h = absurd cc
  all_fit (node.One ∷ ns) rs (b ∷ a ∷ ts) r e h = absurd cc
  all_fit (node.One ∷ ns) rs (a ∷ []) r e h = let k = all_fit ns (One a ∷ rs) [] r e h in record { ranges = k.ranges.1; terms = (k.ranges.0, tt) }
  all_fit (node.Dom y ∷ ns) rs (a ∷ ts) r e h = absurd cc
  all_fit (node.Dom y ∷ ns) rs [] r e h = let k = all_fit ns (Dom y ∷ rs) [] r e h in record { ranges = k.ranges.1; terms = tt }
  all_fit (node.Union ∷ ns) [] [] r e h = absurd cc
  all_fit (node.Union ∷ ns) (q ∷ []) [] r e h = absurd cc
  all_fit (node.Union ∷ ns) [] (a ∷ ts) r e h = absurd cc
  all_fit (node.Union ∷ ns) (q ∷ []) (a ∷ ts) r e h = absurd cc
  all_fit (node.Union ∷ ns) (q ∷ x ∷ rs) (a ∷ ts) r e h = absurd cc
  all_fit (node.Union ∷ ns) (q ∷ x ∷ rs) [] r e h = let k = all_fit ns (Union x q ∷ rs) [] r e h in record { ranges = (k.ranges.0.1, (k.ranges.0.0, k.ranges.1)); terms = tt }
  all_fit (node.Inter ∷ ns) [] [] r e h = absurd cc
  all_fit (node.Inter ∷ ns) (q ∷ []) [] r e h = absurd cc
  all_fit (node.Inter ∷ ns) [] (a ∷ ts) r e h = absurd cc
  all_fit (node.Inter ∷ ns) (q ∷ []) (a ∷ ts) r e h = absurd cc
  all_fit (node.Inter ∷ ns) (q ∷ x ∷ rs) (a ∷ ts) r e h = absurd cc
  all_fit (node.Inter ∷ ns) (q ∷ x ∷ rs) [] r e h = let k = all_fit ns (Inter x q ∷ rs) [] r e h in record { ranges = (k.ranges.0.1, (k.ranges.0.0, k.ranges.1)); terms = tt }
  all_fit (node.Outside ∷ ns) [] [] r e h = absurd cc
  all_fit (node.Outside ∷ ns) [] (a ∷ ts) r e h = absurd cc
  all_fit (node.Outside ∷ ns) (q ∷ rs) (a ∷ ts) r e h = absurd cc
  all_fit (node.Outside ∷ ns) (q ∷ rs) [] r e h = let k = all_fit ns (Outside q ∷ rs) [] r e h in record { ranges = (k.ranges.0, k.ranges.1); terms = tt }
  all_fit (node.Plus ∷ ns) [] [] r e h = absurd cc
  all_fit (node.Plus ∷ ns) [] (a ∷ []) r e h = absurd cc
  all_fit (node.Plus ∷ ns) [] (b ∷ a ∷ ts) r e h = absurd cc
  all_fit (node.Plus ∷ ns) (q ∷ rs) [] r e h = absurd cc
  all_fit (node.Plus ∷ ns) (q ∷ rs) (b ∷ a ∷ ts) r e h = absurd cc
  all_fit (node.Plus ∷ ns) (q ∷ rs) (c ∷ []) r e h = let k = all_fit ns (Plus q c ∷ rs) [] r e h in record { ranges = (k.ranges.0.0, k.ranges.1); terms = (k.ranges.0.1, tt) }
  all_fit (node.Minus ∷ ns) [] [] r e h = absurd cc
  all_fit (node.Minus ∷ ns) [] (a ∷ []) r e h = absurd cc
  all_fit (node.Minus ∷ ns) [] (b ∷ a ∷ ts) r e h = absurd cc
  all_fit (node.Minus ∷ ns) (q ∷ rs) [] r e h = absurd cc
  all_fit (node.Minus ∷ ns) (q ∷ rs) (b ∷ a ∷ ts) r e h = absurd cc
  all_fit (node.Minus ∷ ns) (q ∷ rs) (c ∷ []) r e h = let k = all_fit ns (Minus q c ∷ rs) [] r e h in record { ranges = (k.ranges.0.0, k.ranges.1); terms = (k.ranges.0.1, tt) }
  all_fit (node.Times ∷ ns) [] [] r e h = absurd cc
  all_fit (node.Times ∷ ns) [] (a ∷ []) r e h = absurd cc
  all_fit (node.Times ∷ ns) [] (b ∷ a ∷ ts) r e h = absurd cc
  all_fit (node.Times ∷ ns) (q ∷ rs) [] r e h = absurd cc
  all_fit (node.Times ∷ ns) (q ∷ rs) (b ∷ a ∷ ts) r e h = absurd cc
  all_fit (node.Times ∷ ns) (q ∷ rs) (c ∷ []) r e h = let k = all_fit ns (Times q c ∷ rs) [] r e h in record { ranges = (k.ranges.0.0, k.ranges.1); terms = (k.ranges.0.1, tt) }
  all_fit (node.Over ∷ ns) [] [] r e h = absurd cc
  all_fit (node.Over ∷ ns) [] (a ∷ []) r e h = absurd cc
  all_fit (node.Over ∷ ns) [] (b ∷ a ∷ ts) r e h = absurd cc
  all_fit (node.Over ∷ ns) (q ∷ rs) [] r e h = absurd cc
  all_fit (node.Over ∷ ns) (q ∷ rs) (b ∷ a ∷ ts) r e h = absurd cc
  all_fit (node.Over ∷ ns) (q ∷ rs) (c ∷ []) r e h = let k = all_fit ns (Over q c ∷ rs) [] r e h in record { ranges = (k.ranges.0.0, k.ranges.1); terms = (k.ranges.0.1, tt) }

  two_on_top : (ts : List Expr) (a b : Expr) (items front : List ℤ) (x y : ℤ) (n : RangeNode) → items ≡ stacked_values S p (b ∷ a ∷ ts)
      → CanOperate n (filled_value S p a) (filled_value S p b) → items ≡ (front ++ x ∷ []) ++ y ∷ [] → CanOperate n x y
  two_on_top ts a b items front x y n e h g =
      let k = ends_same (front ++ x ∷ []) (stacked_values S p ts ++ filled_value S p a ∷ []) y (filled_value S p b) (sym g ∙ e) in
      let j = ends_same front (stacked_values S p ts) x (filled_value S p a) k.fronts in
      subst (λ z. CanOperate n z y) (sym j.lasts) (subst (CanOperate n (filled_value S p a)) (sym k.lasts) h)

  one_on_top : (ts : List Expr) (c : Expr) (items front : List ℤ) (x : ℤ) (n : RangeNode) → items ≡ stacked_values S p (c ∷ ts) → CanMove n (filled_value S p c) → items ≡ front ++ x ∷ [] → CanMove n x
  one_on_top ts c items front x n e h g = subst (CanMove n) (sym (ends_same front (stacked_values S p ts) x (filled_value S p c) (sym g ∙ e)).lasts) h

  -- so the operands of the next node may be taken
  pub can_take : (m : RangeNode) (ns : List RangeNode) (rs : List Range) (ts : List Expr) (r : Range) (w : Work) → Some r ≡ built (m ∷ ns) rs ts → RangeFits S p r → IsPending S p rs ts w → CanTake m w
  can_take (node.Int z) ns rs ts r w e h k = (λ front a b i. tt, λ front c i. tt)
  can_take node.Infinity ns rs ts r w e h k = (λ front a b i. tt, λ front c i. tt)
  can_take (node.Param x) ns rs ts r w e h k = (λ front a b i. tt, λ front c i. tt)
  can_take (node.Min y) ns rs ts r w e h k = (λ front a b i. tt, λ front c i. tt)
  can_take (node.Max y) ns rs ts r w e h k = (λ front a b i. tt, λ front c i. tt)
  can_take (node.Val y) ns rs ts r w e h k = (λ front a b i. tt, λ front c i. tt)
  can_take node.Span ns rs ts r w e h k = (λ front a b i. tt, λ front c i. tt)
  can_take node.One ns rs ts r w e h k = (λ front a b i. tt, λ front c i. tt)
  can_take (node.Dom y) ns rs ts r w e h k = (λ front a b i. tt, λ front c i. tt)
  can_take node.Union ns rs ts r w e h k = (λ front a b i. tt, λ front c i. tt)
  can_take node.Inter ns rs ts r w e h k = (λ front a b i. tt, λ front c i. tt)
  can_take node.Outside ns rs ts r w e h k = (λ front a b i. tt, λ front c i. tt)
  can_take node.Times ns rs ts r w e h k = (λ front a b i. tt, λ front c i. tt)
  can_take node.Add ns rs [] r w e h k = absurd cc
  can_take node.Add ns rs (b ∷ []) r w e h k = absurd cc
  can_take node.Add ns rs (b ∷ a ∷ ts) r w e h k =
      let f = all_fit ns rs (Add a b ∷ ts) r e h in (λ front x y i. two_on_top ts a b w.values.items front x y node.Add k.values f.terms.0.2 i, λ front c i. tt)
  can_take node.Sub ns rs [] r w e h k = absurd cc
  can_take node.Sub ns rs (b ∷ []) r w e h k = absurd cc
  can_take node.Sub ns rs (b ∷ a ∷ ts) r w e h k =
      let f = all_fit ns rs (Sub a b ∷ ts) r e h in (λ front x y i. two_on_top ts a b w.values.items front x y node.Sub k.values f.terms.0.2 i, λ front c i. tt)
  can_take node.Mul ns rs [] r w e h k = absurd cc
  can_take node.Mul ns rs (b ∷ []) r w e h k = absurd cc
  can_take node.Mul ns rs (b ∷ a ∷ ts) r w e h k =
      let f = all_fit ns rs (Mul a b ∷ ts) r e h in (λ front x y i. two_on_top ts a b w.values.items front x y node.Mul k.values f.terms.0.2 i, λ front c i. tt)
  can_take node.DivDown ns rs [] r w e h k = absurd cc
  can_take node.DivDown ns rs (b ∷ []) r w e h k = absurd cc
  can_take node.DivDown ns rs (b ∷ a ∷ ts) r w e h k =
      let f = all_fit ns rs (DivDown a b ∷ ts) r e h in (λ front x y i. two_on_top ts a b w.values.items front x y node.DivDown k.values f.terms.0.2 i, λ front c i. tt)
  can_take node.DivUp ns rs [] r w e h k = absurd cc
  can_take node.DivUp ns rs (b ∷ []) r w e h k = absurd cc
  can_take node.DivUp ns rs (b ∷ a ∷ ts) r w e h k =
      let f = all_fit ns rs (DivUp a b ∷ ts) r e h in (λ front x y i. two_on_top ts a b w.values.items front x y node.DivUp k.values f.terms.0.2 i, λ front c i. tt)
  can_take node.Plus ns [] [] r w e h k = absurd cc
  can_take node.Plus ns [] (a ∷ []) r w e h k = absurd cc
  can_take node.Plus ns [] (b ∷ a ∷ ts) r w e h k = absurd cc
  can_take node.Plus ns (q ∷ rs) [] r w e h k = absurd cc
  can_take node.Plus ns (q ∷ rs) (b ∷ a ∷ ts) r w e h k = absurd cc
  can_take node.Plus ns (q ∷ rs) (c ∷ []) r w e h k =
      let f = all_fit ns (Plus q c ∷ rs) [] r e h in (λ front a b i. tt, λ front x i. one_on_top [] c w.values.items front x node.Plus k.values f.ranges.0.2 i)
  can_take node.Minus ns [] [] r w e h k = absurd cc
  can_take node.Minus ns [] (a ∷ []) r w e h k = absurd cc
  can_take node.Minus ns [] (b ∷ a ∷ ts) r w e h k = absurd cc
  can_take node.Minus ns (q ∷ rs) [] r w e h k = absurd cc
  can_take node.Minus ns (q ∷ rs) (b ∷ a ∷ ts) r w e h k = absurd cc
  can_take node.Minus ns (q ∷ rs) (c ∷ []) r w e h k =
      let f = all_fit ns (Minus q c ∷ rs) [] r e h in (λ front a b i. tt, λ front x i. one_on_top [] c w.values.items front x node.Minus k.values f.ranges.0.2 i)
  can_take node.Over ns [] [] r w e h k = absurd cc
  can_take node.Over ns [] (a ∷ []) r w e h k = absurd cc
  can_take node.Over ns [] (b ∷ a ∷ ts) r w e h k = absurd cc
  can_take node.Over ns (q ∷ rs) [] r w e h k = absurd cc
  can_take node.Over ns (q ∷ rs) (b ∷ a ∷ ts) r w e h k = absurd cc
  can_take node.Over ns (q ∷ rs) (c ∷ []) r w e h k =
      let f = all_fit ns (Over q c ∷ rs) [] r e h in (λ front a b i. tt, λ front x i. one_on_top [] c w.values.items front x node.Over k.values f.ranges.0.2 i)

pub walk_start : (S : Family) (p : ℕ → ℤ) (s : Steps) (w : Work) → IsSpelled (all_steps s) → w.values.items ≡ [] → w.sets.sets ≡ [] → IsAt S p s s.tests w
walk_start S p s w h v i = ([], [], builds_all (all_steps s) h, record { values = v; sets = i })

-- the node at a place of the instructions
abbrev node_at : Steps → ℕ → RangeInstr → RangeNode
node_at s i d = node_of s.constants.items (get_or s.instrs.items i d)

next_is : (s : Steps) (i : ℕ) (d : RangeInstr) (rs : List Range) (ts : List Expr) (o : Option Range) → i < length s.instrs.items
    → o ≡ built (steps_from s i) rs ts → o ≡ built (node_at s i d ∷ steps_from s (i + 1)) rs ts
next_is s i d rs ts o l e = e ∙ at_drop_more (λ is. built (map (node_of s.constants.items) is) rs ts) s.instrs.items i d l

pub walk_takes : (S : Family) (p : ℕ → ℤ) (i : ℕ) (s : Steps) (d : RangeInstr) (w : Work) → i < length s.instrs.items
    → RangeFits S p (spelled_range (all_steps s)) → IsAt S p s i w → CanTake (node_of s.constants.items (get_or s.instrs.items i d)) w
walk_takes S p i s d w l h (rs, ts, e, k) = can_take S p (node_at s i d) (steps_from s (i + 1)) rs ts (spelled_range (all_steps s)) w (next_is s i d rs ts (Some (spelled_range (all_steps s))) l e) h k

from_follows : (S : Family) (p : ℕ → ℤ) (ns : List RangeNode) (r : Range) (o : Option Range) (w : Work) → Some r ≡ o → Follows S p ns o w
    → (rs : List Range) × (ts : List Expr) × (Some r ≡ built ns rs ts) × IsPending S p rs ts w
from_follows S p ns r o w e f = subst (λ q. Follows S p ns q w) (sym e) f

pub walk_step : (S : Family) (p : ℕ → ℤ) (i : ℕ) (s : Steps) (d : RangeInstr) (old new : Work) → i < length s.instrs.items → IsAt S p s i old
    → IsTaken S p (node_of s.constants.items (get_or s.instrs.items i d)) old new → IsAt S p s (i + 1) new
walk_step S p i s d old new l (rs, ts, e, k) f =
    from_follows S p (steps_from s (i + 1)) (spelled_range (all_steps s)) _ new (next_is s i d rs ts (Some (spelled_range (all_steps s))) l e) (f (steps_from s (i + 1)) rs ts k)

-- the last instruction
pub record IsLast (s : Steps) (i : ℕ) : Type 0 where
  pub there : i < length s.instrs.items
  pub last : length s.instrs.items ≤ i + 1

abbrev last_node : Steps → ℕ → RangeInstr → RangeNode
last_node s i d = node_of s.constants.items (get_or s.instrs.items i d)

at_last : (s : Steps) (i : ℕ) (d : RangeInstr) → IsLast s i → steps_from s i ≡ last_node s i d ∷ []
at_last s i d l = at_drop_more (map (node_of s.constants.items)) s.instrs.items i d l.there ∙ ap (λ is. last_node s i d ∷ map (node_of s.constants.items) is) (drop_all (i + 1) s.instrs.items l.last)

at_end : (s : Steps) (i : ℕ) → length s.instrs.items ≤ i → steps_from s i ≡ []
at_end s i l = ap (map (node_of s.constants.items)) (drop_all i s.instrs.items l)

alone : (S : Family) (p : ℕ → ℤ) (r : Range) (rs : List Range) (ts : List Expr) (w : Work) → Some r ≡ built [] rs ts → IsPending S p rs ts w → w.sets.sets ≡ filled_set S p r ∷ []
alone S p r [] [] w e h = absurd cc
alone S p r [] (t ∷ ts) w e h = absurd cc
alone S p r (q ∷ []) (t ∷ ts) w e h = absurd cc
alone S p r (q ∷ x ∷ rs) [] w e h = absurd cc
alone S p r (q ∷ x ∷ rs) (t ∷ ts) w e h = absurd cc
alone S p r (q ∷ []) [] w e h = h.sets ∙ ap (λ k. filled_set S p k ∷ []) (sym (same_Some r q e))

-- behind the last instruction there is the set of the range alone
pub set_alone : (S : Family) (p : ℕ → ℤ) (s : Steps) (i : ℕ) (w : Work) → length s.instrs.items ≤ i → IsAt S p s i w → w.sets.sets ≡ filled_set S p (spelled_range (all_steps s)) ∷ []
set_alone S p s i w l (rs, ts, e, k) = alone S p (spelled_range (all_steps s)) rs ts w (e ∙ ap (λ ns. built ns rs ts) (at_end s i l)) k

-- the two ends of an interval wait
pub record Ends (S : Family) (p : ℕ → ℤ) (s : Steps) (w : Work) : Type 0 where
  pub low : ℤ
  pub high : ℤ
  pub values : w.values.items ≡ ([] ++ low ∷ []) ++ high ∷ []
  pub set : filled_set S p (spelled_range (all_steps s)) ≡ between low high

ends_of : (S : Family) (p : ℕ → ℤ) (r : Range) (rs : List Range) (ts : List Expr) (items : List ℤ) → Some r ≡ built (node.Span ∷ []) rs ts
    → items ≡ stacked_values S p ts → (low : ℤ) × (high : ℤ) × (items ≡ ([] ++ low ∷ []) ++ high ∷ []) × (filled_set S p r ≡ between low high)
ends_of S p r rs [] items e h = absurd cc
ends_of S p r rs (b ∷ []) items e h = absurd cc
ends_of S p r rs (b ∷ a ∷ c ∷ ts) items e h = absurd cc
ends_of S p r (q ∷ rs) (b ∷ a ∷ []) items e h = absurd cc
ends_of S p r [] (b ∷ a ∷ []) items e h = (filled_value S p a, filled_value S p b, h, ap (filled_set S p) (same_Some r (Span a b) e))

pub last_ends : (S : Family) (p : ℕ → ℤ) (s : Steps) (i : ℕ) (d : RangeInstr) (w : Work) → IsLast s i → get_or s.instrs.items i d ≡ instr.Span → IsAt S p s i w → Ends S p s w
last_ends S p s i d w l is (rs, ts, e, k) =
    let g = ends_of S p (spelled_range (all_steps s)) rs ts w.values.items (e ∙ (ap (λ ns. built ns rs ts) (at_last s i d l) ∙ ap (λ m. built (node_of s.constants.items m ∷ []) rs ts) is)) k.values in
    record { low = g.0; high = g.1; values = g.2; set = g.3 }

-- the set of which the complement is taken waits
pub record Inner (S : Family) (p : ℕ → ℤ) (s : Steps) (w : Work) : Type 0 where
  pub inner : List ℕ
  pub rest : List (List ℕ)
  pub sets : w.sets.sets ≡ inner ∷ rest
  pub set : filled_set S p (spelled_range (all_steps s)) ≡ outside inner

inner_of : (S : Family) (p : ℕ → ℤ) (r : Range) (rs : List Range) (ts : List Expr) (sets : List (List ℕ)) → Some r ≡ built (node.Outside ∷ []) rs ts
    → sets ≡ stacked_sets S p rs → (q : Range) × (rest : List (List ℕ)) × (sets ≡ filled_set S p q ∷ rest) × (filled_set S p r ≡ outside (filled_set S p q))
inner_of S p r [] [] sets e h = absurd cc
inner_of S p r [] (t ∷ ts) sets e h = absurd cc
inner_of S p r (q ∷ x ∷ rs) [] sets e h = absurd cc
inner_of S p r (q ∷ rs) (t ∷ ts) sets e h = absurd cc
inner_of S p r (q ∷ []) [] sets e h = (q, [], h, ap (filled_set S p) (same_Some r (Outside q) e) ∙ sym (outside_is INFINITY (in_range INFINITY S (fill_range p q))))

pub last_inner : (S : Family) (p : ℕ → ℤ) (s : Steps) (i : ℕ) (d : RangeInstr) (w : Work) → IsLast s i → get_or s.instrs.items i d ≡ instr.Outside → IsAt S p s i w → Inner S p s w
last_inner S p s i d w l is (rs, ts, e, k) =
    let g = inner_of S p (spelled_range (all_steps s)) rs ts w.sets.sets (e ∙ (ap (λ ns. built ns rs ts) (at_last s i d l) ∙ ap (λ m. built (node_of s.constants.items m ∷ []) rs ts) is)) k.sets in
    record { inner = filled_set S p g.0; rest = g.1; sets = g.2; set = g.3 }

-- something is behind the tests
nothing_spelled : (ns : List RangeNode) → IsSpelled ns → ns ≡ [] → ⊥
nothing_spelled ns h e = let k : Some (spelled_range ns) ≡ built [] [] [] = builds_all ns h ∙ ap (λ l. built l [] []) e in absurd cc

pub some_step : (s : Steps) → IsSpelled (all_steps s) → s.tests < length s.instrs.items
some_step s h = elim (cases_lt s.tests (length s.instrs.items)) [
  | inl l ↦ l
  | inr l ↦ absurd (nothing_spelled (all_steps s) h (at_end s s.tests l))
]

pub readable_at : (count : ℕ) (args : List Arg) (s : Steps) (i : ℕ) (d : RangeInstr) → s.tests ≤ i → i < length s.instrs.items
    → All (IsReadable count args) (all_steps s) → IsReadable count args (node_of s.constants.items (get_or s.instrs.items i d))
readable_at count args s i d h l k = at_drop (λ j. IsReadable count args (node_of s.constants.items j)) s.instrs.items s.tests i d h l
    (all_back (IsReadable count args) (node_of s.constants.items) (drop s.tests s.instrs.items) k)
