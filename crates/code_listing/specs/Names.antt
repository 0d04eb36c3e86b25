-- The names of goals, and how a listing tells which goal it is.
use Rattle.std.specs.Prelude.{ℕ, Bool, true, false, List, ◌++◌, codes, decimal}
use Rattle.fd_language.specs.Term.{Name}
use Rattle.fd_language.specs.TermTexts.{Quoted, atom_text}
use Rattle.fd_model.specs.declared.kinds.Order.{Order}
use Rattle.fd_model.specs.declared.kinds.Order.TheVariants.{Leftmost, FirstFail}
use Rattle.fd_model.specs.declared.kinds.Relation.{Relation}
use Rattle.fd_model.specs.declared.kinds.Relation.TheVariants.{Equal, Differ, Less, AtMost, Greater, AtLeast}
use Rattle.fd_model.specs.declared.kinds.ConstraintKind.{ConstraintKind}
use Rattle.fd_model.specs.declared.kinds.ConstraintKind.TheVariants.{Compare, AllDifferent, Element, Atmost, And, Or, Not, Reified}
use Rattle.fd_model.specs.declared.kinds.BuiltinKind.{BuiltinKind}
use Rattle.fd_model.specs.declared.kinds.BuiltinKind.TheVariants.{True, Fail, False, Unify, Same, NotSame, Is, NumEqual, NumDiffer, NumLess, NumAtMost}
use Rattle.fd_model.specs.declared.kinds.BuiltinKind.TheVariants.{NumGreater, NumAtLeast, Var, Nonvar, Integer, Atom, Atomic, Compound, Write, Nl, FdMin, FdMax}
use Rattle.fd_model.specs.declared.kinds.BuiltinKind.TheVariants.{FdSize, FdDom}
use Rattle.fd_model.specs.Arities.{constraint_arity, builtin_arity}

abbrev pub relation_name : Relation → Name
relation_name Equal = codes "#="
relation_name Differ = codes "#\\="
relation_name Less = codes "#<"
relation_name AtMost = codes "#=<"
relation_name Greater = codes "#>"
relation_name AtLeast = codes "#>="

abbrev pub constraint_name : ConstraintKind → Name
constraint_name (Compare r) = relation_name r
constraint_name AllDifferent = codes "fd_all_different"
constraint_name Element = codes "fd_element"
constraint_name Atmost = codes "fd_atmost"
constraint_name And = codes "fd_and"
constraint_name Or = codes "fd_or"
constraint_name Not = codes "fd_not"
constraint_name Reified = codes "#<=>"

abbrev pub builtin_name : BuiltinKind → Name
builtin_name True = codes "true"
builtin_name Fail = codes "fail"
builtin_name False = codes "false"
builtin_name Unify = codes "="
builtin_name Same = codes "=="
builtin_name NotSame = codes "\\=="
builtin_name Is = codes "is"
builtin_name NumEqual = codes "=:="
builtin_name NumDiffer = codes "=\\="
builtin_name NumLess = codes "<"
builtin_name NumAtMost = codes "=<"
builtin_name NumGreater = codes ">"
builtin_name NumAtLeast = codes ">="
builtin_name Var = codes "var"
builtin_name Nonvar = codes "nonvar"
builtin_name Integer = codes "integer"
builtin_name Atom = codes "atom"
builtin_name Atomic = codes "atomic"
builtin_name Compound = codes "compound"
builtin_name Write = codes "write"
builtin_name Nl = codes "nl"
builtin_name FdMin = codes "fd_min"
builtin_name FdMax = codes "fd_max"
builtin_name FdSize = codes "fd_size"
builtin_name FdDom = codes "fd_dom"

-- a name as an atom is written, and a number of arguments
abbrev pub functor_word : Name → ℕ → List ℕ
functor_word f n = atom_text Quoted f ++ (codes "/" ++ decimal n)

abbrev pub constraint_word : ConstraintKind → List ℕ
constraint_word k = functor_word (constraint_name k) (constraint_arity k)

abbrev pub builtin_word : BuiltinKind → List ℕ
builtin_word k = functor_word (builtin_name k) (builtin_arity k)

abbrev pub order_word : Order → List ℕ
order_word Leftmost = codes "leftmost"
order_word FirstFail = codes "firstfail"

-- whether the least cost is wanted, or the greatest
abbrev pub aim_word : Bool → List ℕ
aim_word true = codes "least"
aim_word false = codes "greatest"
