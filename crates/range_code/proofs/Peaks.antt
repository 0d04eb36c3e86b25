-- The greatest number of values and of sets that wait, one more node at a time.
use Rattle.std.proofs.Common.{◌≡◌, ℕ, suc, ◌+◌, ◌<◌, ◌≤◌, Bool, true, false, cond, List, [], ◌∷◌, length, drop, get_or, max, map, sym, ◌∙◌, ap, arith, subst}
use Rattle.std.proofs.lemmas.List.{at_drop_more, get_or-map, length-map}
use Rattle.fd_language.specs.declared.range_node.RangeNode.{RangeNode}
use Rattle.fd_language.specs.declared.range_node.RangeNode.TheVariants as node
use Rattle.fd_language.specs.Counts.{takes}
use Rattle.range_code.specs.declared.fold.Piece.{Piece}
use Rattle.range_code.specs.Pieces.{piece_node}
use Rattle.range_code.specs.Heights.{values_after, sets_after, peak}

-- the greatest numbers so far and those of the nodes to come
pub record IsHigh (ms : List RangeNode) (i values sets height whole : ℕ) : Type 0 where
  pub value_count : values ≤ i
  pub set_count : sets ≤ i
  pub value_high : values ≤ height
  pub set_high : sets ≤ height
  pub all : max height (max (peak values_after (drop i ms) values) (peak sets_after (drop i ms) sets)) ≡ whole

pub low_peak : (f : RangeNode → ℕ → ℕ) (ms : List RangeNode) (n : ℕ) → n ≤ peak f ms n
low_peak f [] n = omega arith
low_peak f (m ∷ ms) n = omega arith

none_or_one : (b : Bool) → cond b 0 1 ≤ 1
none_or_one true = omega arith
none_or_one false = omega arith

one_or_none : (b : Bool) → cond b 1 0 ≤ 1
one_or_none true = omega arith
one_or_none false = omega arith

one_value : (m : RangeNode) (n : ℕ) → values_after m n ≤ suc n
one_value m n = omega (arith, none_or_one (takes m).gives_range)

one_set : (m : RangeNode) (n : ℕ) → sets_after m n ≤ suc n
one_set m n = omega (arith, one_or_none (takes m).gives_range)

pub high_more : (ms : List RangeNode) (i v s h w v' s' h' : ℕ) (d : RangeNode) → i < length ms → IsHigh ms i v s h w → v' ≡ values_after (get_or ms i d) v
    → s' ≡ sets_after (get_or ms i d) s → h' ≡ max (max h v') s' → IsHigh ms (i + 1) v' s' h' w
high_more ms i v s h w v' s' h' d l k a b e =
    let p = one_value (get_or ms i d) v in
    let q = one_set (get_or ms i d) s in
    let step = at_drop_more (λ ns. max h (max (peak values_after ns v) (peak sets_after ns s))) ms i d l in
    let low = low_peak values_after (drop (i + 1) ms) v' in
    let low' = low_peak sets_after (drop (i + 1) ms) s' in
    let x = ap (peak values_after (drop (i + 1) ms)) a in
    let y = ap (peak sets_after (drop (i + 1) ms)) b in
    record {
      value_count = omega (arith, k.value_count);
      set_count = omega (arith, k.set_count);
      value_high = omega arith;
      set_high = omega arith;
      all = omega (arith, k.all, k.value_high, k.set_high);
    }

-- the same of pieces
pub high_piece : (ps : List Piece) (i v s h w v' s' h' : ℕ) (d : Piece) → i < length ps → IsHigh (map piece_node ps) i v s h w
    → v' ≡ values_after (piece_node (get_or ps i d)) v → s' ≡ sets_after (piece_node (get_or ps i d)) s → h' ≡ max (max h v') s'
    → IsHigh (map piece_node ps) (i + 1) v' s' h' w
high_piece ps i v s h w v' s' h' d l k a b e =
    let same : get_or (map piece_node ps) i node.Infinity ≡ piece_node (get_or ps i d) = get_or-map piece_node ps i d node.Infinity l in
    high_more (map piece_node ps) i v s h w v' s' h' node.Infinity (subst (λ n. i < n) (sym (length-map ps piece_node)) l) k
    (a ∙ ap (λ m. values_after m v) (sym same)) (b ∙ ap (λ m. sets_after m s) (sym same)) e
