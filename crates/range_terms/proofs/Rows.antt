-- The names of operators against the rules of spelling.
use Rattle.std.proofs.Common.{◌≡◌, ℕ, Bool, true, false, cond, [], ◌∷◌, Option, Some, None, refl}
use Rattle.std.specs.Prelude.{codes}
use Rattle.std.specs.Str.{bytes_eq}
use Rattle.fd_language.specs.Term.{Name}
use Rattle.fd_language.specs.declared.range_node.RangeNode.{RangeNode}
use Rattle.fd_language.specs.declared.range_node.RangeNode.TheVariants as node
use Rattle.fd_language.specs.Range.{Range, Expr, Span, Union, Inter, Plus, Minus, Times, Over, Add, Sub, Mul, DivDown, DivUp, Min, Max, Val}
use Rattle.fd_language.specs.PostfixRanges.{expr_nodes, range_nodes, nodes_of}
use Rattle.fd_language.specs.Spelling.{RangeForm, of_terms, of_ranges, pointwise, no_form, range_form, expr_operator, expr_feature}
use Rattle.range_terms.specs.declared.names.RangeOperator.{RangeOperator}
use Rattle.range_terms.specs.declared.forms.Position.TheVariants as position
use Rattle.range_terms.specs.Names.{operator_with, range_operator_of, term_operator_of, feature_of}

-- the operator puts its node behind its operands, each in its position
abbrev pub IsRangeRow : RangeForm → Option RangeOperator → Type 0
IsRangeRow (of_terms make) (Some o) = (o.left ≡ position.Term) × (o.right ≡ position.Term) × ((a b : Expr) → nodes_of (make a b) ≡ expr_nodes a (expr_nodes b (o.node ∷ [])))
IsRangeRow (of_ranges make) (Some o) = (o.left ≡ position.Range) × (o.right ≡ position.Range) × ((r q : Range) → nodes_of (make r q) ≡ range_nodes r (range_nodes q (o.node ∷ [])))
IsRangeRow (pointwise make) (Some o) = (o.left ≡ position.Range) × (o.right ≡ position.Constant) × ((r : Range) (c : Expr) → nodes_of (make r c) ≡ range_nodes r (expr_nodes c (o.node ∷ [])))
IsRangeRow no_form None = Unit {0}
IsRangeRow f o = ⊥

range_rows : (a b c d e f g : Bool) →
    IsRangeRow (cond a (of_terms Span) (cond b (of_ranges Union)
    (cond c (of_ranges Inter) (cond d (pointwise Plus) (cond e (pointwise Minus) (cond f (pointwise Times) (cond g (pointwise Over) no_form)))))))
    (cond a (operator_with node.Span position.Term position.Term) (cond b (operator_with node.Union position.Range position.Range) (cond c (operator_with node.Inter position.Range position.Range)
    (cond d (operator_with node.Plus position.Range position.Constant)
    (cond e (operator_with node.Minus position.Range position.Constant)
    (cond f (operator_with node.Times position.Range position.Constant) (cond g (operator_with node.Over position.Range position.Constant) None)))))))
range_rows true b c d e f g = (refl, refl, λ a b. refl)
range_rows false true c d e f g = (refl, refl, λ r q. refl)
range_rows false false true d e f g = (refl, refl, λ r q. refl)
range_rows false false false true e f g = (refl, refl, λ r c. refl)
range_rows false false false false true f g = (refl, refl, λ r c. refl)
range_rows false false false false false true g = (refl, refl, λ r c. refl)
range_rows false false false false false false true = (refl, refl, λ r c. refl)
range_rows false false false false false false false = tt

pub range_row : (f : Name) → IsRangeRow (range_form f) (range_operator_of f)
range_row f = range_rows (bytes_eq f (codes "..")) (bytes_eq f (codes ":")) (bytes_eq f (codes "&")) (bytes_eq f (codes "+")) (bytes_eq f (codes "-")) (bytes_eq f (codes "*")) (bytes_eq f (codes "/"))

abbrev pub IsTermRow : Option (Expr → Expr → Expr) → Option RangeNode → Type 0
IsTermRow (Some make) (Some n) = (a b : Expr) → expr_nodes (make a b) [] ≡ expr_nodes a (expr_nodes b (n ∷ []))
IsTermRow None None = Unit {0}
IsTermRow m o = ⊥

term_rows : (a b c d e : Bool) → IsTermRow (cond a (Some Add) (cond b (Some Sub) (cond c (Some Mul) (cond d (Some DivDown) (cond e (Some DivUp) None)))))
    (cond a (Some node.Add) (cond b (Some node.Sub) (cond c (Some node.Mul) (cond d (Some node.DivDown) (cond e (Some node.DivUp) None)))))
term_rows true b c d e = λ x y. refl
term_rows false true c d e = λ x y. refl
term_rows false false true d e = λ x y. refl
term_rows false false false true e = λ x y. refl
term_rows false false false false true = λ x y. refl
term_rows false false false false false = tt

pub term_row : (f : Name) → IsTermRow (expr_operator f) (term_operator_of f)
term_row f = term_rows (bytes_eq f (codes "+")) (bytes_eq f (codes "-")) (bytes_eq f (codes "*")) (bytes_eq f (codes "/<")) (bytes_eq f (codes "/>"))

abbrev pub IsFeatureRow : Option (ℕ → Expr) → ℕ → Option RangeNode → Type 0
IsFeatureRow (Some make) y (Some n) = expr_nodes (make y) [] ≡ n ∷ []
IsFeatureRow None y None = Unit {0}
IsFeatureRow m y o = ⊥

feature_rows : (a b c : Bool) (y : ℕ) → IsFeatureRow (cond a (Some Min) (cond b (Some Max) (cond c (Some Val) None))) y
    (cond a (Some (node.Min y)) (cond b (Some (node.Max y)) (cond c (Some (node.Val y)) None)))
feature_rows true b c y = refl
feature_rows false true c y = refl
feature_rows false false true y = refl
feature_rows false false false y = tt

pub feature_row : (f : Name) (y : ℕ) → IsFeatureRow (expr_feature f) y (feature_of f y)
feature_row f y = feature_rows (bytes_eq f (codes "min")) (bytes_eq f (codes "max")) (bytes_eq f (codes "val")) y
