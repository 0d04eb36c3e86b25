-- How many arguments the goals of the language take.
use Rattle.std.specs.Prelude.{ℕ}
use Rattle.fd_model.specs.declared.kinds.ConstraintKind.{ConstraintKind}
use Rattle.fd_model.specs.declared.kinds.ConstraintKind.TheVariants.{Compare, AllDifferent, Element, Atmost, And, Or, Not, Reified}
use Rattle.fd_model.specs.declared.kinds.BuiltinKind.{BuiltinKind}
use Rattle.fd_model.specs.declared.kinds.BuiltinKind.TheVariants.{True, Fail, False, Var, Nonvar, Integer, Atom, Atomic, Compound, Write, Nl}

-- of a constraint
abbrev pub constraint_arity : ConstraintKind → ℕ
constraint_arity (Compare r) = 2
constraint_arity AllDifferent = 1
constraint_arity Element = 3
constraint_arity Atmost = 3
constraint_arity And = 3
constraint_arity Or = 3
constraint_arity Not = 2
constraint_arity Reified = 2

-- of a built-in goal
abbrev pub builtin_arity : BuiltinKind → ℕ
builtin_arity True = 0
builtin_arity Fail = 0
builtin_arity False = 0
builtin_arity Nl = 0
builtin_arity Var = 1
builtin_arity Nonvar = 1
builtin_arity Integer = 1
builtin_arity Atom = 1
builtin_arity Atomic = 1
builtin_arity Compound = 1
builtin_arity Write = 1
builtin_arity _ = 2
