-- Operators. The operator table, with the priorities and kinds of ISO/IEC 13211-1 and a few operators more.
use Rattle.std.specs.Prelude.{ℕ, ◌-◌, List, [], ◌∷◌, Bool, ◌||◌, Option, find, is_some, codes}
use Rattle.std.specs.Str.{bytes_eq}
use Rattle.fd_language.specs.Term.{Name}

-- xfx, xfy, yfx, fy and fx: on which side an operand may have the operator's own priority
pub data Fixity : Type 0 where
  not_associative : Fixity
  right_associative : Fixity
  left_associative : Fixity
  prefix_associative : Fixity
  prefix_not_associative : Fixity

pub record Operator : Type 0 where
  pub name : Name
  pub priority : ℕ
  pub fixity : Fixity

abbrev left_by : ℕ → Fixity → ℕ
left_by p not_associative = p - 1
left_by p right_associative = p - 1
left_by p left_associative = p
left_by p prefix_associative = 0
left_by p prefix_not_associative = 0

abbrev right_by : ℕ → Fixity → ℕ
right_by p not_associative = p - 1
right_by p right_associative = p
right_by p left_associative = p - 1
right_by p prefix_associative = p
right_by p prefix_not_associative = p - 1

-- the greatest priority that the left operand may have; 0 of a prefix operator
abbrev pub left_limit : Operator → ℕ
left_limit f = left_by f.priority f.fixity

-- the greatest priority that the right operand may have
abbrev pub right_limit : Operator → ℕ
right_limit f = right_by f.priority f.fixity

abbrev pub operator_row : ℕ → Fixity → Name → Operator
operator_row p k o = record { name = o; priority = p; fixity = k }

abbrev pub infix_operators : List Operator
infix_operators =
    operator_row 1200 not_associative (codes ":-")
    ∷ operator_row 1100 right_associative (codes ";")
    ∷ operator_row 1050 right_associative (codes "->")
    ∷ operator_row 1000 right_associative (codes ",")
    ∷ operator_row 750 not_associative (codes "#<=>")
    ∷ operator_row 700 not_associative (codes "=")
    ∷ operator_row 700 not_associative (codes "==")
    ∷ operator_row 700 not_associative (codes "\\==")
    ∷ operator_row 700 not_associative (codes "is")
    ∷ operator_row 700 not_associative (codes "=:=")
    ∷ operator_row 700 not_associative (codes "=\\=")
    ∷ operator_row 700 not_associative (codes "<")
    ∷ operator_row 700 not_associative (codes "=<")
    ∷ operator_row 700 not_associative (codes ">")
    ∷ operator_row 700 not_associative (codes ">=")
    ∷ operator_row 700 not_associative (codes "in")
    ∷ operator_row 700 not_associative (codes "#=")
    ∷ operator_row 700 not_associative (codes "#\\=")
    ∷ operator_row 700 not_associative (codes "#<")
    ∷ operator_row 700 not_associative (codes "#=<")
    ∷ operator_row 700 not_associative (codes "#>")
    ∷ operator_row 700 not_associative (codes "#>=")
    ∷ operator_row 530 left_associative (codes ":")
    ∷ operator_row 520 left_associative (codes "&")
    ∷ operator_row 510 not_associative (codes "..")
    ∷ operator_row 500 left_associative (codes "+")
    ∷ operator_row 500 left_associative (codes "-")
    ∷ operator_row 400 left_associative (codes "*")
    ∷ operator_row 400 left_associative (codes "/")
    ∷ operator_row 400 left_associative (codes "//")
    ∷ operator_row 400 left_associative (codes "mod")
    ∷ operator_row 400 left_associative (codes "/<")
    ∷ operator_row 400 left_associative (codes "/>")
    ∷ []

abbrev pub prefix_operators : List Operator
prefix_operators =
    operator_row 1200 prefix_not_associative (codes ":-")
    ∷ operator_row 1200 prefix_not_associative (codes "?-")
    ∷ operator_row 900 prefix_associative (codes "\\+")
    ∷ operator_row 200 prefix_associative (codes "-")
    ∷ []

-- the infix operator of this name, the comma among them
unfoldable pub infix_of : Name → Option Operator
infix_of o = find (λ f. bytes_eq f.name o) infix_operators

unfoldable pub prefix_of : Name → Option Operator
prefix_of o = find (λ f. bytes_eq f.name o) prefix_operators

-- whether the name is that of an operator
unfoldable pub is_operator : Name → Bool
is_operator o = is_some (infix_of o) || is_some (prefix_of o)
