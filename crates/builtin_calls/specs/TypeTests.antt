-- The terms that a test of types passes.
use Rattle.std.specs.Prelude.{Bool, not, ◌||◌}
use Rattle.fd_language.specs.Term.{Term}
use Rattle.builtin_calls.specs.declared.type_tests.TypeTest.{TypeTest}
use Rattle.builtin_calls.specs.declared.type_tests.TypeTest.TheVariants.{Var, Nonvar, Integer, Atom, Atomic, Compound}
use Rattle.fd_model.specs.Builtins.{is_open, is_integer, is_atom, is_compound}

abbrev pub passes : TypeTest → Term → Bool
passes Var t = is_open t
passes Nonvar t = not (is_open t)
passes Integer t = is_integer t
passes Atom t = is_atom t
passes Atomic t = is_integer t || is_atom t
passes Compound t = is_compound t
