-- The nodes of a row spell the row.
use Rattle.std.proofs.Common.{◌≡◌, ℕ, suc, ◌+◌, ◌*◌, Bool, true, false, cond, ℤ, pos, negsuc, neg_ℤ, ◌*ℤ◌, List, [], ◌∷◌, ◌++◌, length, take, drop, get_or}
use Rattle.std.proofs.Common.{refl, sym, ap, subst, ◌∙◌, arith, append_assoc, length-append}
use Rattle.std.proofs.Math.Seq.{take-append_seam, drop-append_seam, get_or-append_seam}
use Rattle.fd_language.specs.declared.range_node.RangeNode.{RangeNode}
use Rattle.fd_language.specs.declared.range_node.RangeNode.TheVariants as node
use Rattle.fd_language.specs.Range.{Expr, Number, Min, Max, Val, Sub, Mul}
use Rattle.fd_language.specs.PostfixRanges.{expr_nodes, nodes_of}
use Rattle.fd_model.specs.Linear.{scaled}
use Rattle.fd_model.specs.LinearRows.{by_sign, minus_products, row, row_by_sign}
use Rattle.constraint_expand.specs.declared.rows.Comparison.{Comparison}
use Rattle.constraint_expand.specs.declared.rows.Comparison.TheVariants as comparison
use Rattle.constraint_expand.specs.declared.rows.BoundReading.{BoundReading}
use Rattle.constraint_expand.specs.declared.rows.BoundReading.TheVariants as reading
use Rattle.constraint_expand.specs.declared.rows.RowForm.{RowForm}
use Rattle.constraint_expand.specs.Nodes.{comparison_of, feature_of, product_nodes, divisor, bound_nodes, upper_nodes, last_nodes, row_list, IsRowForm}

-- the readings of a bound, by the sign of the coefficient
abbrev at_pos : BoundReading → ℕ → Expr
at_pos reading.Low = Max
at_pos reading.High = Min
at_pos reading.Exact = Val

abbrev at_neg : BoundReading → ℕ → Expr
at_neg reading.Low = Min
at_neg reading.High = Max
at_neg reading.Exact = Val

abbrev reads : BoundReading → ℤ → List (ℕ × ℤ) → Expr
reads r c ts = minus_products (at_pos r) (at_neg r) (Number c) ts

feature_nodes : (r : BoundReading) (x : ℕ) (z : ℤ) (rest : List RangeNode) → expr_nodes (by_sign (at_pos r) (at_neg r) x z) rest ≡ feature_of r x z ∷ rest
feature_nodes reading.Low x (pos n) rest = refl
feature_nodes reading.Low x (negsuc n) rest = refl
feature_nodes reading.High x (pos n) rest = refl
feature_nodes reading.High x (negsuc n) rest = refl
feature_nodes reading.Exact x (pos n) rest = refl
feature_nodes reading.Exact x (negsuc n) rest = refl

products_spelled : (r : BoundReading) (e : Expr) (ts : List (ℕ × ℤ)) (rest : List RangeNode) → expr_nodes (minus_products (at_pos r) (at_neg r) e ts) rest ≡ expr_nodes e (product_nodes r ts ++ rest)
products_spelled r e [] rest = refl
products_spelled r e (t ∷ ts) rest =
    products_spelled r (Sub e (Mul (Number t.1) (by_sign (at_pos r) (at_neg r) t.0 t.1))) ts rest
    ∙ ap (λ ns. expr_nodes e (node.Int t.1 ∷ ns)) (feature_nodes r t.0 t.1 (node.Mul ∷ node.Sub ∷ (product_nodes r ts ++ rest)))

pub products_append : (r : BoundReading) (ts us : List (ℕ × ℤ)) → product_nodes r (ts ++ us) ≡ product_nodes r ts ++ product_nodes r us
products_append r [] us = refl
products_append r (t ∷ ts) us = ap (λ (ns : List RangeNode). node.Int t.1 ∷ feature_of r t.0 t.1 ∷ node.Mul ∷ node.Sub ∷ ns) (products_append r ts us)

pub products_length : (r : BoundReading) (ts : List (ℕ × ℤ)) → length (product_nodes r ts) ≡ 4 * length ts
products_length r [] = refl
products_length r (t ∷ ts) = omega (arith, products_length r ts)

take_exact : {A : Type 0} (xs ys : List A) (n : ℕ) → n ≡ length xs → take n (xs ++ ys) ≡ xs
take_exact xs ys n h = ap (λ k. take k (xs ++ ys)) h ∙ take-append_seam xs ys

drop_exact : {A : Type 0} (xs ys : List A) (n : ℕ) → n ≡ length xs → drop n (xs ++ ys) ≡ ys
drop_exact xs ys n h = ap (λ k. drop k (xs ++ ys)) h ∙ drop-append_seam xs ys

products_before : (r : BoundReading) (before after : List (ℕ × ℤ)) (t : ℕ × ℤ) (i : ℕ) → i ≡ length before → take (4 * i) (product_nodes r (before ++ t ∷ after)) ≡ product_nodes r before
products_before r before after t i h =
    ap (take (4 * i)) (products_append r before (t ∷ after)) ∙ take_exact (product_nodes r before) (product_nodes r (t ∷ after)) (4 * i) (omega (arith, products_length r before))

products_behind : (r : BoundReading) (before after : List (ℕ × ℤ)) (t : ℕ × ℤ) (i : ℕ) → i ≡ length before → drop (4 * i + 4) (product_nodes r (before ++ t ∷ after)) ≡ product_nodes r after
products_behind r before after t i h =
    ap (drop (4 * i + 4)) (products_append r before (t ∷ after) ∙ sym (append_assoc (product_nodes r before) (product_nodes r (t ∷ [])) (product_nodes r after)))
    ∙ drop_exact (product_nodes r before ++ product_nodes r (t ∷ [])) (product_nodes r after) (4 * i + 4)
    (omega (arith, products_length r before, length-append (product_nodes r before) (product_nodes r (t ∷ []))))

-- a bound of a row
module _ (before after : List (ℕ × ℤ)) (x a : ℕ) (c : ℤ) (form : RowForm) (i : ℕ) (h : i ≡ length before) (e : form.terms.items ≡ before ++ (x, pos a) ∷ after) (k : form.constant ≡ c) where
  divisor_is : divisor form i ≡ pos a
  divisor_is = (λ j. (get_or (e j) (h j) (0, pos 0)).1) ∙ ap (λ (t : ℕ × ℤ). t.1) (get_or-append_seam before (x, pos a) after (0, pos 0))

  bound_spelled : (r : BoundReading) (products : List RangeNode) (d : RangeNode) (rest : List RangeNode) → products ≡ product_nodes r (before ++ (x, pos a) ∷ after)
      → bound_nodes form i products d ++ rest ≡ expr_nodes (reads r c (before ++ after)) (node.Int (pos a) ∷ d ∷ rest)
  bound_spelled r products d rest p =
      let front : take (4 * i) products ≡ product_nodes r before = ap (take (4 * i)) p ∙ products_before r before after (x, pos a) i h in
      let back : drop (4 * i + 4) products ≡ product_nodes r after = ap (drop (4 * i + 4)) p ∙ products_behind r before after (x, pos a) i h in
      let last : List RangeNode = node.Int (pos a) ∷ d ∷ [] in
      (λ j. (node.Int (k j) ∷ (front j ++ (back j ++ (node.Int (divisor_is j) ∷ d ∷ [])))) ++ rest)
      ∙ ap (λ (ns : List RangeNode). node.Int c ∷ ns)
      (append_assoc (product_nodes r before) (product_nodes r after ++ last) rest ∙ ap (λ ns. product_nodes r before ++ ns) (append_assoc (product_nodes r after) last rest)
      ∙ sym (append_assoc (product_nodes r before) (product_nodes r after) (node.Int (pos a) ∷ d ∷ rest)) ∙ ap (λ ns. ns ++ (node.Int (pos a) ∷ d ∷ rest)) (sym (products_append r before after)))
      ∙ sym (products_spelled r (Number c) (before ++ after) (node.Int (pos a) ∷ d ∷ rest))

  pub row_spelled : (k : Comparison) (turned : Bool) → IsRowForm k turned (before ++ (x, pos a) ∷ after) c form → row_list k form i ≡ nodes_of (row (comparison_of k) turned c (before ++ after) a)
  row_spelled comparison.Equal turned f =
      bound_spelled reading.Low form.lower.items node.DivUp (upper_nodes comparison.Equal form i ++ last_nodes comparison.Equal) f.lower
      ∙ ap (λ ns. expr_nodes (reads reading.Low c (before ++ after)) (node.Int (pos a) ∷ node.DivUp ∷ ns)) (bound_spelled reading.High form.upper.items node.DivDown (node.Span ∷ []) f.upper)
  row_spelled comparison.Other turned f =
      bound_spelled reading.Exact form.lower.items node.DivUp (upper_nodes comparison.Other form i ++ last_nodes comparison.Other) f.lower
      ∙ ap (λ ns. expr_nodes (reads reading.Exact c (before ++ after)) (node.Int (pos a) ∷ node.DivUp ∷ ns))
      (bound_spelled reading.Exact form.upper.items node.DivDown (node.Span ∷ node.Outside ∷ []) f.upper)
  row_spelled comparison.AtMost false f =
      (λ j. cond (f.side j) (bound_nodes form i form.lower.items node.DivUp) (node.Int (pos 0) ∷ [])
      ++ (cond (f.side j) (node.Infinity ∷ []) (bound_nodes form i form.upper.items node.DivDown) ++ (node.Span ∷ [])))
      ∙ ap (λ (ns : List RangeNode). node.Int (pos 0) ∷ ns) (bound_spelled reading.High form.upper.items node.DivDown (node.Span ∷ []) f.upper)
  row_spelled comparison.AtMost true f =
      (λ j. cond (f.side j) (bound_nodes form i form.lower.items node.DivUp) (node.Int (pos 0) ∷ [])
      ++ (cond (f.side j) (node.Infinity ∷ []) (bound_nodes form i form.upper.items node.DivDown) ++ (node.Span ∷ [])))
      ∙ bound_spelled reading.Low form.lower.items node.DivUp (node.Infinity ∷ node.Span ∷ []) f.lower

-- ---- the row of a product by the sign of its coefficient
scaled_append : (ts us : List (ℕ × ℤ)) → scaled (negsuc 0) (ts ++ us) ≡ scaled (negsuc 0) ts ++ scaled (negsuc 0) us
scaled_append [] us = refl
scaled_append (t ∷ ts) us = ap (λ (vs : List (ℕ × ℤ)). (t.0, negsuc 0 *ℤ t.1) ∷ vs) (scaled_append ts us)

pub scaled_length : (ts : List (ℕ × ℤ)) → length (scaled (negsuc 0) ts) ≡ length ts
scaled_length [] = refl
scaled_length (t ∷ ts) = ap suc (scaled_length ts)

turned_sign : (n : ℕ) → negsuc 0 *ℤ negsuc n ≡ pos (suc n)
turned_sign n = ap pos (omega arith)

scaled_parts : (before after : List (ℕ × ℤ)) (x n : ℕ) → scaled (negsuc 0) (before ++ (x, negsuc n) ∷ after) ≡ scaled (negsuc 0) before ++ (x, pos (suc n)) ∷ scaled (negsuc 0) after
scaled_parts before after x n = scaled_append before ((x, negsuc n) ∷ after) ∙ (λ j. scaled (negsuc 0) before ++ (x, turned_sign n j) ∷ scaled (negsuc 0) after)

-- the side that the row is solved on
pub straight_row : (k : Comparison) (before after : List (ℕ × ℤ)) (x a : ℕ) (c : ℤ) (form : RowForm) (i : ℕ) → i ≡ length before → IsRowForm k false (before ++ (x, pos a) ∷ after) c form
    → row_list k form i ≡ nodes_of (row_by_sign (comparison_of k) c (before ++ after) (pos a))
straight_row k before after x a c form i h f = row_spelled before after x a c form i h f.terms f.constant k false f

pub turned_row : (k : Comparison) (before after : List (ℕ × ℤ)) (x n : ℕ) (c : ℤ) (form : RowForm) (i : ℕ) → i ≡ length before
    → IsRowForm k true (scaled (negsuc 0) (before ++ (x, negsuc n) ∷ after)) (neg_ℤ c) form
    → row_list k form i ≡ nodes_of (row_by_sign (comparison_of k) c (before ++ after) (negsuc n))
turned_row k before after x n c form i h f =
    let g : IsRowForm k true (scaled (negsuc 0) before ++ (x, pos (suc n)) ∷ scaled (negsuc 0) after) (neg_ℤ c) form =
    subst (λ ts. IsRowForm k true ts (neg_ℤ c) form) (scaled_parts before after x n) f in
    row_spelled (scaled (negsuc 0) before) (scaled (negsuc 0) after) x (suc n) (neg_ℤ c) form i (h ∙ sym (scaled_length before)) g.terms g.constant k true g
    ∙ ap (λ ts. nodes_of (row (comparison_of k) true (neg_ℤ c) ts (suc n))) (sym (scaled_append before after))
