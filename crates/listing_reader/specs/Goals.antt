-- The words of goals, spelled out.
use Rattle.std.specs.Prelude.{ℕ, Bool, List, codes}
use Rattle.fd_model.specs.declared.kinds.Order.{Order}
use Rattle.fd_model.specs.declared.kinds.Relation.TheVariants.{Equal, Differ, Less, AtMost, Greater, AtLeast}
use Rattle.fd_model.specs.declared.kinds.ConstraintKind.{ConstraintKind}
use Rattle.fd_model.specs.declared.kinds.ConstraintKind.TheVariants.{Compare, AllDifferent, Element, Atmost, And, Or, Not, Reified}
use Rattle.fd_model.specs.declared.kinds.BuiltinKind.{BuiltinKind}
use Rattle.fd_model.specs.declared.kinds.BuiltinKind.TheVariants.{True, Fail, False, Unify, Same, NotSame, Is, NumEqual, NumDiffer, NumLess, NumAtMost}
use Rattle.fd_model.specs.declared.kinds.BuiltinKind.TheVariants.{NumGreater, NumAtLeast, Var, Nonvar, Integer, Atom, Atomic, Compound, Write, Nl, FdMin, FdMax}
use Rattle.fd_model.specs.declared.kinds.BuiltinKind.TheVariants.{FdSize, FdDom}

abbrev pub constraint_spelled : ConstraintKind → List ℕ
constraint_spelled (Compare Equal) = codes "'#='/2"
constraint_spelled (Compare Differ) = codes "'#\\\\='/2"
constraint_spelled (Compare Less) = codes "'#<'/2"
constraint_spelled (Compare AtMost) = codes "'#=<'/2"
constraint_spelled (Compare Greater) = codes "'#>'/2"
constraint_spelled (Compare AtLeast) = codes "'#>='/2"
constraint_spelled AllDifferent = codes "fd_all_different/1"
constraint_spelled Element = codes "fd_element/3"
constraint_spelled Atmost = codes "fd_atmost/3"
constraint_spelled And = codes "fd_and/3"
constraint_spelled Or = codes "fd_or/3"
constraint_spelled Not = codes "fd_not/2"
constraint_spelled Reified = codes "'#<=>'/2"

abbrev pub builtin_spelled : BuiltinKind → List ℕ
builtin_spelled True = codes "true/0"
builtin_spelled Fail = codes "fail/0"
builtin_spelled False = codes "false/0"
builtin_spelled Unify = codes "'='/2"
builtin_spelled Same = codes "'=='/2"
builtin_spelled NotSame = codes "'\\\\=='/2"
builtin_spelled Is = codes "'is'/2"
builtin_spelled NumEqual = codes "'=:='/2"
builtin_spelled NumDiffer = codes "'=\\\\='/2"
builtin_spelled NumLess = codes "'<'/2"
builtin_spelled NumAtMost = codes "'=<'/2"
builtin_spelled NumGreater = codes "'>'/2"
builtin_spelled NumAtLeast = codes "'>='/2"
builtin_spelled Var = codes "var/1"
builtin_spelled Nonvar = codes "nonvar/1"
builtin_spelled Integer = codes "integer/1"
builtin_spelled Atom = codes "atom/1"
builtin_spelled Atomic = codes "atomic/1"
builtin_spelled Compound = codes "compound/1"
builtin_spelled Write = codes "write/1"
builtin_spelled Nl = codes "nl/0"
builtin_spelled FdMin = codes "fd_min/2"
builtin_spelled FdMax = codes "fd_max/2"
builtin_spelled FdSize = codes "fd_size/2"
builtin_spelled FdDom = codes "fd_dom/2"

-- no number stands in these
abbrev pub IsBuiltin : BuiltinKind → Type 0
IsBuiltin k = Unit {0}

abbrev pub IsConstraint : ConstraintKind → Type 0
IsConstraint k = Unit {0}

abbrev pub IsOrder : Order → Type 0
IsOrder o = Unit {0}

abbrev pub IsAim : Bool → Type 0
IsAim b = Unit {0}
