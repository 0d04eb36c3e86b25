-- How many arguments the goals of the language take.
pub use Rattle.fd_model.specs.Arities.{constraint_arity, builtin_arity}
