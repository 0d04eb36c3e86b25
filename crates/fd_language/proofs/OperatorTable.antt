-- The operator table by vectors.
use Rattle.std.specs.Prelude.{◌≡◌, refl, false, Some, codes, [], ◌∷◌}
use Rattle.fd_language.specs.Operators.{infix_of, prefix_of, is_operator, operator_row, right_limit, not_associative, right_associative, left_associative}
use Rattle.fd_language.specs.Operators.{prefix_associative}

infix_minus : infix_of (codes "-") ≡ Some (operator_row 500 left_associative (45 ∷ []))
unfolding infix_of
infix_minus = refl

prefix_minus : prefix_of (45 ∷ []) ≡ Some (operator_row 200 prefix_associative (codes "-"))
unfolding prefix_of
prefix_minus = refl

infix_comma : infix_of (44 ∷ []) ≡ Some (operator_row 1000 right_associative (codes ","))
unfolding infix_of
infix_comma = refl

infix_not_same : infix_of (92 ∷ 61 ∷ 61 ∷ []) ≡ Some (operator_row 700 not_associative (codes "\\=="))
unfolding infix_of
infix_not_same = refl

prefix_not : prefix_of (92 ∷ 43 ∷ []) ≡ Some (operator_row 900 prefix_associative (codes "\\+"))
unfolding prefix_of
prefix_not = refl

no_operator : is_operator (codes "append") ≡ false
unfolding is_operator infix_of prefix_of
no_operator = refl

limits_of_not : right_limit (operator_row 900 prefix_associative (codes "\\+")) ≡ 900
limits_of_not = refl
