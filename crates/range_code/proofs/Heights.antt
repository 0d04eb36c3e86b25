-- There is room for what waits, node by node.
use Rattle.std.proofs.Common.{◌≡◌, ℕ, suc, ◌+◌, ◌<◌, ◌≤◌, List, [], ◌∷◌, length, map, get_or, sym, ap, ◌∙◌, subst, arith, vec_len, vec_capacity}
use Rattle.std.proofs.lemmas.List.{at_drop_more}
use Rattle.fd_language.specs.declared.range_node.RangeNode.{RangeNode}
use Rattle.fd_language.specs.declared.range_node.RangeNode.TheVariants as node
use Rattle.range_code.specs.declared.work.Work.{Work}
use Rattle.range_code.specs.declared.evaluate.Steps.{Steps}
use Rattle.range_code.specs.declared.instr.RangeInstr.{RangeInstr}
use Rattle.range_code.specs.Instructions.{node_of}
use Rattle.range_code.specs.StepNodes.{steps_from}
use Rattle.fd_language.specs.Range.{Range, Span, One, Dom, Union, Inter, Outside, Plus, Minus, Times, Over, Expr, Number, Infinity, Param, Min, Max, Val, Add}
use Rattle.fd_language.specs.Range.{Sub, Mul, DivDown, DivUp}
use Rattle.fd_language.specs.PostfixRanges.{range_nodes, expr_nodes, IsSpelled}
use Rattle.range_code.specs.Heights.{values_after, sets_after, peak, tallest, HasRoom, IsCounted, KeepsRoom}
use Rattle.range_code.proofs.Peaks.{low_peak}

-- what is counted doesn't fall where more waits before
abbrev Grows : (RangeNode → ℕ → ℕ) → Type 0
Grows f = (m : RangeNode) (a b : ℕ) → a ≤ b → f m a ≤ f m b

values_grow : Grows values_after
values_grow m a b h = omega (arith, h)

sets_grow : Grows sets_after
sets_grow m a b h = omega (arith, h)

module _ (f : RangeNode → ℕ → ℕ) (grows : Grows f) where
  pub peak_low : (ms : List RangeNode) (n : ℕ) → n ≤ peak f ms n
  peak_low [] n = omega arith
  peak_low (m ∷ ms) n = omega arith

  peak_grows : (ms : List RangeNode) (a b : ℕ) → a ≤ b → peak f ms a ≤ peak f ms b
  peak_grows [] a b h = h
  peak_grows (m ∷ ms) a b h = let k = peak_grows ms (f m a) (f m b) (grows m a b h) in omega arith

  peak_more : (m : RangeNode) (ms : List RangeNode) (a b c : ℕ) → peak f (m ∷ ms) a ≤ c → b ≤ f m a → peak f ms b ≤ c
  peak_more m ms a b c h g = let k = peak_grows ms b (f m a) g in omega arith

  peak_first : (m : RangeNode) (ms : List RangeNode) (a c : ℕ) → peak f (m ∷ ms) a ≤ c → peak f (m ∷ []) a ≤ c
  peak_first m ms a c h = let k = peak_low ms (f m a) in omega arith

-- the first node may be taken, and then there is room for the others
pub room_first : (m : RangeNode) (ms : List RangeNode) (w : Work) → HasRoom (m ∷ ms) w → HasRoom (m ∷ []) w
room_first m ms w h = record {
  values = peak_first values_after values_grow m ms (vec_len w.values) (vec_capacity w.values) h.values;
  sets = peak_first sets_after sets_grow m ms (length w.sets.sets) w.sets.room h.sets;
}

pub room_more : (m : RangeNode) (ms : List RangeNode) (old new : Work) → HasRoom (m ∷ ms) old → IsCounted m old new → KeepsRoom old new → HasRoom ms new
room_more m ms old new h c k = record {
  values = subst (λ n. peak values_after ms (vec_len new.values) ≤ n) (sym k.values)
      (peak_more values_after values_grow m ms (vec_len old.values) (vec_len new.values) (vec_capacity old.values) h.values c.values);
  sets = subst (λ n. peak sets_after ms (length new.sets.sets) ≤ n) (sym k.sets) (peak_more sets_after sets_grow m ms (length old.sets.sets) (length new.sets.sets) old.sets.room h.sets c.sets);
}

-- the same at a place of the instructions
at_place : (s : Steps) (i : ℕ) (d : RangeInstr) (w : Work) → i < length s.instrs.items → HasRoom (steps_from s i) w
    → HasRoom (node_of s.constants.items (get_or s.instrs.items i d) ∷ steps_from s (i + 1)) w
at_place s i d w l h = subst (λ ms. HasRoom ms w) (at_drop_more (map (node_of s.constants.items)) s.instrs.items i d l) h

pub room_there : (s : Steps) (i : ℕ) (d : RangeInstr) (w : Work) → i < length s.instrs.items → HasRoom (steps_from s i) w → HasRoom (node_of s.constants.items (get_or s.instrs.items i d) ∷ []) w
room_there s i d w l h = room_first (node_of s.constants.items (get_or s.instrs.items i d)) (steps_from s (i + 1)) w (at_place s i d w l h)

pub room_next : (s : Steps) (i : ℕ) (d : RangeInstr) (old new : Work) → i < length s.instrs.items → HasRoom (steps_from s i) old
    → IsCounted (node_of s.constants.items (get_or s.instrs.items i d)) old new → KeepsRoom old new → HasRoom (steps_from s (i + 1)) new
room_next s i d old new l h c k = room_more (node_of s.constants.items (get_or s.instrs.items i d)) (steps_from s (i + 1)) old new (at_place s i d old l h) c k

pub keeps_on : (a b c : Work) → KeepsRoom a b → KeepsRoom b c → KeepsRoom a c
keeps_on a b c h g = record { values = g.values ∙ h.values; sets = g.sets ∙ h.sets }

-- some set waits while a range is evaluated
node_keeps : (m : RangeNode) (rest : List RangeNode) (n : ℕ) → sets_after m n ≡ n → peak sets_after rest n ≤ peak sets_after (m ∷ rest) n
node_keeps m rest n e = let h = ap (peak sets_after rest) e in omega (arith, h)

expr_keeps : (e : Expr) (rest : List RangeNode) (n : ℕ) → peak sets_after rest n ≤ peak sets_after (expr_nodes e rest) n
expr_keeps (Number z) rest n = node_keeps (node.Int z) rest n (omega arith)
expr_keeps Infinity rest n = node_keeps node.Infinity rest n (omega arith)
expr_keeps (Param x) rest n = node_keeps (node.Param x) rest n (omega arith)
expr_keeps (Min y) rest n = node_keeps (node.Min y) rest n (omega arith)
expr_keeps (Max y) rest n = node_keeps (node.Max y) rest n (omega arith)
expr_keeps (Val y) rest n = node_keeps (node.Val y) rest n (omega arith)
expr_keeps (Add a b) rest n = let h = expr_keeps a (expr_nodes b (node.Add ∷ rest)) n in let k = expr_keeps b (node.Add ∷ rest) n in
    let l = node_keeps node.Add rest n (omega arith) in omega (arith, h, k, l)
expr_keeps (Sub a b) rest n = let h = expr_keeps a (expr_nodes b (node.Sub ∷ rest)) n in let k = expr_keeps b (node.Sub ∷ rest) n in
    let l = node_keeps node.Sub rest n (omega arith) in omega (arith, h, k, l)
expr_keeps (Mul a b) rest n = let h = expr_keeps a (expr_nodes b (node.Mul ∷ rest)) n in let k = expr_keeps b (node.Mul ∷ rest) n in
    let l = node_keeps node.Mul rest n (omega arith) in omega (arith, h, k, l)
expr_keeps (DivDown a b) rest n = let h = expr_keeps a (expr_nodes b (node.DivDown ∷ rest)) n in let k = expr_keeps b (node.DivDown ∷ rest) n in
    let l = node_keeps node.DivDown rest n (omega arith) in omega (arith, h, k, l)
expr_keeps (DivUp a b) rest n = let h = expr_keeps a (expr_nodes b (node.DivUp ∷ rest)) n in let k = expr_keeps b (node.DivUp ∷ rest) n in
    let l = node_keeps node.DivUp rest n (omega arith) in omega (arith, h, k, l)

range_waits : (r : Range) (rest : List RangeNode) (n : ℕ) → suc n ≤ peak sets_after (range_nodes r rest) n
range_waits (Span a b) rest n = let h = expr_keeps a (expr_nodes b (node.Span ∷ rest)) n in let k = expr_keeps b (node.Span ∷ rest) n in
    let l = low_peak sets_after rest (sets_after node.Span n) in omega (arith, h, k, l)
range_waits (One t) rest n = let h = expr_keeps t (node.One ∷ rest) n in let l = low_peak sets_after rest (sets_after node.One n) in omega (arith, h, l)
range_waits (Dom y) rest n = let l = low_peak sets_after rest (sets_after (node.Dom y) n) in omega (arith, l)
range_waits (Union r q) rest n = range_waits r (range_nodes q (node.Union ∷ rest)) n
range_waits (Inter r q) rest n = range_waits r (range_nodes q (node.Inter ∷ rest)) n
range_waits (Outside r) rest n = range_waits r (node.Outside ∷ rest) n
range_waits (Plus r c) rest n = range_waits r (expr_nodes c (node.Plus ∷ rest)) n
range_waits (Minus r c) rest n = range_waits r (expr_nodes c (node.Minus ∷ rest)) n
range_waits (Times r c) rest n = range_waits r (expr_nodes c (node.Times ∷ rest)) n
range_waits (Over r c) rest n = range_waits r (expr_nodes c (node.Over ∷ rest)) n

pub some_height : (nodes : List RangeNode) → IsSpelled nodes → 1 ≤ tallest nodes
some_height nodes (r, e) = subst (λ ns. 1 ≤ tallest ns) e (let h = range_waits r [] 0 in omega (arith, h))
