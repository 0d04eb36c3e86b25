-- The value of a term in arithmetic, in the integers of the language.
use Rattle.std.specs.Prelude.{ℤ, pos, negsuc, ◌+ℤ◌, ◌-ℤ◌, ◌*ℤ◌, neg_ℤ, suc, int_div, if◌then◌else◌, codes, Result, Ok, Err}
use Rattle.std.specs.Int.{int_rem_euclid}
use Rattle.std.specs.Ordering.{int_eq}
use Rattle.std.specs.Str.{bytes_eq}
use Rattle.fd_model.specs.declared.kinds.QueryFault.{QueryFault}
use Rattle.fd_model.specs.declared.kinds.QueryFault.TheVariants.{Instantiation, BadType, Evaluation}
use Rattle.fd_model.specs.Linear.{in_integers, of_both, of_one}
pub use Rattle.fd_model.specs.Linear.{of_both as value_of_both, of_one as value_of_one}
use Rattle.fd_language.specs.Term.{Name, Term, Var, Int, Atom, Comp, no_terms, term}

-- why a term has no value
pub data ValueFault : Type 0 where
  unbound : ValueFault
  not_a_number : ValueFault
  overflow : ValueFault
  zero_divisor : ValueFault

-- the fault of a query whose goal evaluates the term
abbrev pub query_fault : ValueFault → QueryFault
query_fault unbound = Instantiation
query_fault not_a_number = BadType
query_fault overflow = Evaluation
query_fault zero_divisor = Evaluation

abbrev pub Value : Type 0
Value = Result ℤ ValueFault

-- an integer of the language
abbrev pub integer : ℤ → Value
integer z = if in_integers z then Ok z else Err overflow

-- the remainder with the divisor's sign
abbrev pub modulo : ℤ → ℤ → ℤ
modulo a (pos b) = int_rem_euclid a (pos b)
modulo a (negsuc b) = neg_ℤ (int_rem_euclid (neg_ℤ a) (pos (suc b)))

abbrev pub integer_sum : ℤ → ℤ → Value
integer_sum a b = integer (a +ℤ b)

abbrev pub integer_difference : ℤ → ℤ → Value
integer_difference a b = integer (a -ℤ b)

abbrev pub integer_product : ℤ → ℤ → Value
integer_product a b = integer (a *ℤ b)

-- toward zero
abbrev pub quotient_of : ℤ → ℤ → Value
quotient_of a b = if int_eq b (pos 0) then Err zero_divisor else integer (int_div a b)

abbrev pub modulo_of : ℤ → ℤ → Value
modulo_of a b = if int_eq b (pos 0) then Err zero_divisor else integer (modulo a b)

abbrev pub opposite_of : ℤ → Value
opposite_of a = integer (neg_ℤ a)

-- the value of a term with this name and two operands, each of them with its value
abbrev pub by_name : Name → Value → Value → Value
by_name f l r =
    if bytes_eq f (codes "+") then of_both integer_sum l r else
    if bytes_eq f (codes "-") then of_both integer_difference l r else
    if bytes_eq f (codes "*") then of_both integer_product l r else
    if bytes_eq f (codes "//") then of_both quotient_of l r else
    if bytes_eq f (codes "mod") then of_both modulo_of l r else Err not_a_number

-- the value of a term
abbrev pub value_of : Term → Value
value_of (Var x) = Err unbound
value_of (Int z) = integer z
value_of (Atom a) = Err not_a_number
value_of (Comp f no_terms) = Err not_a_number
value_of (Comp f (term a no_terms)) = if bytes_eq f (codes "-") then of_one opposite_of (value_of a) else Err not_a_number
value_of (Comp f (term a (term b no_terms))) = by_name f (value_of a) (value_of b)
value_of (Comp f (term a (term b (term c ts)))) = Err not_a_number
