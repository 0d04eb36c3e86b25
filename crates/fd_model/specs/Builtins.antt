-- What the built-in goals mean: the value of an expression, identical terms, kinds of terms, and what is asked of a domain.
use Rattle.std.specs.Prelude.{ℕ, Bool, true, false, ◌&&◌, not, ◌==◌, ℤ, pos, int_le, List, [], ◌∷◌, length, Option, Some, None, Result, Ok, Err, codes}
use Rattle.std.specs.Ordering.{int_eq}
use Rattle.std.specs.Str.{bytes_eq}
use Rattle.fd_language.specs.Term.{Term, Terms, Var, Int, Atom, Comp, no_terms, term, Substitution, apply}
use Rattle.fd_model.specs.declared.kinds.QueryFault.{QueryFault}
use Rattle.fd_model.specs.declared.kinds.QueryFault.TheVariants.{Instantiation, BadType}
use Rattle.fd_model.specs.declared.kinds.BuiltinKind.{BuiltinKind}
use Rattle.fd_model.specs.declared.kinds.BuiltinKind.TheVariants as kind
use Rattle.fd_model.specs.Arithmetic.{Value, query_fault, value_of}
pub use Rattle.fd_model.specs.Goal.{first_argument}
use Rattle.fd_model.specs.Lines.{Interval, intervals}

-- ---- expressions

abbrev pub checked_value : Value → Result ℤ QueryFault
checked_value (Ok z) = Ok z
checked_value (Err f) = Err (query_fault f)

-- the value of an expression, or its fault
abbrev pub evaluated : Term → Result ℤ QueryFault
evaluated t = checked_value (value_of t)

-- ---- terms

-- the terms are identical
abbrev mutual
  pub is_same : Term → Term → Bool
  is_same (Var x) (Var y) = x == y
  is_same (Int z) (Int w) = int_eq z w
  is_same (Atom a) (Atom b) = bytes_eq a b
  is_same (Comp f ts) (Comp g us) = bytes_eq f g && are_same ts us
  is_same _ _ = false

  pub are_same : Terms → Terms → Bool
  are_same no_terms no_terms = true
  are_same (term t ts) (term u us) = is_same t u && are_same ts us
  are_same no_terms (term u us) = false
  are_same (term t ts) no_terms = false

-- an open variable, constrained or not
abbrev pub is_open : Term → Bool
is_open (Var x) = true
is_open _ = false

abbrev pub is_integer : Term → Bool
is_integer (Int z) = true
is_integer _ = false

abbrev pub is_atom : Term → Bool
is_atom (Atom a) = true
is_atom _ = false

abbrev pub is_compound : Term → Bool
is_compound (Comp f ts) = true
is_compound _ = false

abbrev pub is_atomic : Term → Bool
is_atomic (Int z) = true
is_atomic (Atom a) = true
is_atomic _ = false

-- ---- domains

-- an integer has that one value, and a constrained variable those of its set
pub data Numbers : Type 0 where
  one : ℤ → Numbers
  those : List ℕ → Numbers

abbrev pub set_numbers : Option (List ℕ) → Result Numbers QueryFault
set_numbers None = Err Instantiation
set_numbers (Some ns) = Ok (those ns)

-- sets gives the set of each constrained variable
abbrev pub numbers_of : (ℕ → Option (List ℕ)) → Term → Result Numbers QueryFault
numbers_of sets (Var x) = set_numbers (sets x)
numbers_of sets (Int z) = Ok (one z)
numbers_of sets (Atom a) = Err BadType
numbers_of sets (Comp f ts) = Err BadType

abbrev pub last_of : ℕ → List ℕ → ℕ
last_of n [] = n
last_of n (m ∷ ms) = last_of m ms

abbrev pub least_number : Numbers → ℤ
least_number (one z) = z
least_number (those []) = pos 0
least_number (those (n ∷ ns)) = pos n

abbrev pub greatest_number : Numbers → ℤ
greatest_number (one z) = z
greatest_number (those ns) = pos (last_of 0 ns)

abbrev pub number_count : Numbers → ℤ
number_count (one z) = pos 1
number_count (those ns) = pos (length ns)

abbrev pub two_terms : Term → Term → Terms
two_terms a b = term a (term b no_terms)

abbrev pub interval_term : ℤ → ℤ → Term
interval_term low high = Comp (codes "..") (two_terms (Int low) (Int high))

abbrev pub interval_terms : List Interval → Term
interval_terms [] = Atom (codes "[]")
interval_terms (i ∷ is) = Comp (codes ".") (two_terms (interval_term (pos i.low) (pos i.high)) (interval_terms is))

-- the list of the intervals, rising
abbrev pub interval_list : Numbers → Term
interval_list (one z) = Comp (codes ".") (two_terms (interval_term z z) (Atom (codes "[]")))
interval_list (those ns) = interval_terms (intervals ns)

-- ---- goals

-- the second argument, and of a goal with one argument this one
abbrev pub second_argument : Term → Term
second_argument (Comp f (term t no_terms)) = t
second_argument (Comp f (term t (term u us))) = u
second_argument t = t

-- what a built-in goal comes to: a fault, whether it holds, or two terms that are to be equal
pub data Finding : Type 0 where
  faulted : QueryFault → Finding
  decided : Bool → Finding
  equated : Term → Term → Finding

-- the term is to be what was computed
abbrev pub equals_value : Term → Result ℤ QueryFault → Finding
equals_value t (Err f) = faulted f
equals_value t (Ok z) = equated t (Int z)

abbrev pub equals_number : (Numbers → Term) → Term → Result Numbers QueryFault → Finding
equals_number tell t (Err f) = faulted f
equals_number tell t (Ok ns) = equated t (tell ns)

-- both values, the left one first, are compared
abbrev pub compared : (ℤ → ℤ → Bool) → Result ℤ QueryFault → Result ℤ QueryFault → Finding
compared holds (Err f) right = faulted f
compared holds (Ok a) (Err f) = faulted f
compared holds (Ok a) (Ok b) = decided (holds a b)

-- What a goal with the arguments a and b comes to, where u and v are these as they are seen, and sets gives the set of each constrained variable.
abbrev pub found : BuiltinKind → (ℕ → Option (List ℕ)) → Term → Term → Term → Term → Finding
found kind.True sets a b u v = decided true
found kind.Fail sets a b u v = decided false
found kind.False sets a b u v = decided false
found kind.Unify sets a b u v = equated a b
found kind.Same sets a b u v = decided (is_same u v)
found kind.NotSame sets a b u v = decided (not (is_same u v))
found kind.Is sets a b u v = equals_value a (evaluated v)
found kind.NumEqual sets a b u v = compared int_eq (evaluated u) (evaluated v)
found kind.NumDiffer sets a b u v = compared (λ a b. not (int_eq a b)) (evaluated u) (evaluated v)
found kind.NumLess sets a b u v = compared (λ a b. not (int_le b a)) (evaluated u) (evaluated v)
found kind.NumAtMost sets a b u v = compared int_le (evaluated u) (evaluated v)
found kind.NumGreater sets a b u v = compared (λ a b. not (int_le a b)) (evaluated u) (evaluated v)
found kind.NumAtLeast sets a b u v = compared (λ a b. int_le b a) (evaluated u) (evaluated v)
found kind.Var sets a b u v = decided (is_open u)
found kind.Nonvar sets a b u v = decided (not (is_open u))
found kind.Integer sets a b u v = decided (is_integer u)
found kind.Atom sets a b u v = decided (is_atom u)
found kind.Atomic sets a b u v = decided (is_atomic u)
found kind.Compound sets a b u v = decided (is_compound u)
found kind.Write sets a b u v = decided true
found kind.Nl sets a b u v = decided true
found kind.FdMin sets a b u v = equals_number (λ ns. Int (least_number ns)) b (numbers_of sets u)
found kind.FdMax sets a b u v = equals_number (λ ns. Int (greatest_number ns)) b (numbers_of sets u)
found kind.FdSize sets a b u v = equals_number (λ ns. Int (number_count ns)) b (numbers_of sets u)
found kind.FdDom sets a b u v = equals_number interval_list b (numbers_of sets u)

-- What the goal t comes to, where look gives each variable as it is seen.
abbrev pub finding : BuiltinKind → Substitution → (ℕ → Option (List ℕ)) → Term → Finding
finding k look sets t = found k sets (first_argument t) (second_argument t) (apply look (first_argument t)) (apply look (second_argument t))
