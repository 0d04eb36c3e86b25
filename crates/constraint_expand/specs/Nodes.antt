-- The nodes of rows.
use Rattle.std.specs.Prelude.{◌≡◌, ℕ, ◌+◌, ◌*◌, ◌<◌, ◌≤◌, Bool, true, false, ℤ, pos, negsuc, neg_ℤ, ◌<ℤ◌, if◌then◌else◌, List, [], ◌∷◌, ◌++◌, length, take}
use Rattle.std.specs.Prelude.{drop, slice_index_or}
use Rattle.fd_language.specs.declared.range_node.RangeNode.{RangeNode}
use Rattle.fd_language.specs.declared.range_node.RangeNode.TheVariants as node
use Rattle.fd_language.specs.Range.{Indexical}
use Rattle.fd_model.specs.LinearRows.{row_by_sign, rows_behind}
use Rattle.fd_model.specs.Linear as linear
use Rattle.fd_model.specs.Linear.{in_integers}
use Rattle.constraint_expand.specs.declared.rows.Comparison.{Comparison}
use Rattle.constraint_expand.specs.declared.rows.Comparison.TheVariants as comparison
use Rattle.constraint_expand.specs.declared.rows.BoundReading.{BoundReading}
use Rattle.constraint_expand.specs.declared.rows.BoundReading.TheVariants as reading
use Rattle.constraint_expand.specs.declared.rows.RowForm.{RowForm}

-- Where a coefficient is below 0, the constant is an integer of the language, so that it can be negated.
abbrev pub CanTurn : List (ℕ × ℤ) → ℤ → Type 0
CanTurn ts c = (i : ℕ) → (slice_index_or ts i (0, pos 0)).1 <ℤ pos 0 → in_integers c ≡ true

abbrev pub comparison_of : Comparison → linear.Comparison
comparison_of comparison.Equal = linear.IsEqual
comparison_of comparison.Other = linear.IsOther
comparison_of comparison.AtMost = linear.IsAtMost

-- how the ends of rows are read
abbrev pub lower_reading : Comparison → BoundReading
lower_reading comparison.Equal = reading.Low
lower_reading comparison.Other = reading.Exact
lower_reading comparison.AtMost = reading.Low

abbrev pub upper_reading : Comparison → BoundReading
upper_reading comparison.Equal = reading.High
upper_reading comparison.Other = reading.Exact
upper_reading comparison.AtMost = reading.High

-- what is read of a variable with a coefficient
abbrev pub feature_of : BoundReading → ℕ → ℤ → RangeNode
feature_of reading.Low x (pos n) = node.Max x
feature_of reading.Low x (negsuc n) = node.Min x
feature_of reading.High x (pos n) = node.Min x
feature_of reading.High x (negsuc n) = node.Max x
feature_of reading.Exact x z = node.Val x

-- products that are taken away from what is before them
abbrev pub product_nodes : BoundReading → List (ℕ × ℤ) → List RangeNode
product_nodes r [] = []
product_nodes r (t ∷ ts) = node.Int t.1 ∷ feature_of r t.0 t.1 ∷ node.Mul ∷ node.Sub ∷ product_nodes r ts

-- the form with the nodes of its products
pub record IsRowForm (k : Comparison) (turned : Bool) (ts : List (ℕ × ℤ)) (c : ℤ) (form : RowForm) : Type 0 where
  pub side : form.turned ≡ turned
  pub terms : form.terms.items ≡ ts
  pub constant : form.constant ≡ c
  pub lower : form.lower.items ≡ product_nodes (lower_reading k) ts
  pub upper : form.upper.items ≡ product_nodes (upper_reading k) ts

-- a product of the form, and its nodes
pub record HasProduct (form : RowForm) (i : ℕ) (products : List RangeNode) : Type 0 where
  pub term : i < length form.terms.items
  pub nodes : 4 * i + 4 ≤ length products

-- the coefficient of the product
abbrev pub divisor : RowForm → ℕ → ℤ
divisor form i = (slice_index_or form.terms.items i (0, pos 0)).1

-- the constant less all products but one, divided by the coefficient of that one
abbrev pub bound_nodes : RowForm → ℕ → List RangeNode → RangeNode → List RangeNode
bound_nodes form i products division = node.Int form.constant ∷ (take (4 * i) products ++ (drop (4 * i + 4) products ++ (node.Int (divisor form i) ∷ division ∷ [])))

abbrev pub lower_nodes : Comparison → RowForm → ℕ → List RangeNode
lower_nodes comparison.AtMost form i = if form.turned then bound_nodes form i form.lower.items node.DivUp else node.Int (pos 0) ∷ []
lower_nodes comparison.Equal form i = bound_nodes form i form.lower.items node.DivUp
lower_nodes comparison.Other form i = bound_nodes form i form.lower.items node.DivUp

abbrev pub upper_nodes : Comparison → RowForm → ℕ → List RangeNode
upper_nodes comparison.AtMost form i = if form.turned then node.Infinity ∷ [] else bound_nodes form i form.upper.items node.DivDown
upper_nodes comparison.Equal form i = bound_nodes form i form.upper.items node.DivDown
upper_nodes comparison.Other form i = bound_nodes form i form.upper.items node.DivDown

-- at another value the range is the complement
abbrev pub last_nodes : Comparison → List RangeNode
last_nodes comparison.Equal = node.Span ∷ []
last_nodes comparison.Other = node.Span ∷ node.Outside ∷ []
last_nodes comparison.AtMost = node.Span ∷ []

-- the row that the form is solved for at i
abbrev pub row_list : Comparison → RowForm → ℕ → List RangeNode
row_list k form i = lower_nodes k form i ++ (upper_nodes k form i ++ last_nodes k)

-- the product at i
abbrev pub product_at : RowForm → ℕ → ℕ × ℤ
product_at form i = slice_index_or form.terms.items i (0, pos 0)

-- a product of the form, and the form as it is and, where the coefficient is below 0, turned
pub record AreSides (k : Comparison) (straight turned : RowForm) (i : ℕ) : Type 0 where
  pub straight_form : IsRowForm k false straight.terms.items straight.constant straight
  pub turned_form : (product_at straight i).1 <ℤ pos 0 → IsRowForm k true (linear.scaled (negsuc 0) straight.terms.items) (neg_ℤ straight.constant) turned
  pub within : i < length straight.terms.items

-- the row of the variable at i
abbrev pub row_at : Comparison → RowForm → ℕ → Indexical
row_at k form i = record {
  target = (product_at form i).0;
  range = row_by_sign (comparison_of k) form.constant (take i form.terms.items ++ drop (i + 1) form.terms.items) (product_at form i).1;
}

-- all rows
abbrev pub form_rows : Comparison → RowForm → List Indexical
form_rows k form = rows_behind (comparison_of k) form.constant [] form.terms.items
