-- The forms of goals, as the code names them.
use Rattle.std.specs.Prelude.{ℕ, Option, Some, None, drop}
use Rattle.fd_language.specs.Term.{Name, Term}
use Rattle.fd_model.specs.Forms.{forms, form_in, GoalForm, truth, failure, unification, posting, cutting, constraint, labelling, optimum, builtin}
use Rattle.clause_check.specs.declared.forms.GoalKind.{GoalKind}
use Rattle.clause_check.specs.declared.forms.GoalKind.TheVariants.{Truth, Failure, Cut, Unification, Posting, Constraint, Labelling, Optimum, Builtin}
use Rattle.fd_model.specs.declared.kinds.Order.{Order}
use Rattle.fd_model.specs.Arities.{constraint_arity, builtin_arity}
use Rattle.clause_check.specs.Programs.{HasArguments}

abbrev pub form_seen : GoalKind → GoalForm
form_seen Truth = truth
form_seen Failure = failure
form_seen Cut = cutting
form_seen Unification = unification
form_seen Posting = posting
form_seen (Constraint k) = constraint k
form_seen (Labelling o) = labelling o
form_seen (Optimum least) = optimum least
form_seen (Builtin k) = builtin k

-- the order of a labelling
abbrev pub order_in : Option GoalForm → Option Order
order_in (Some (labelling o)) = Some o
order_in _ = None

-- the form of a name with two arguments, by the rows of the table behind the first n
abbrev pub binary_from : ℕ → Name → Option GoalForm
binary_from n a = form_in (drop n (forms 2)) a

-- a constraint or a built-in predicate has as many arguments as its kind
abbrev pub HasFormArity : GoalKind → Term → Type 0
HasFormArity (Constraint k) t = HasArguments (constraint_arity k) t
HasFormArity (Builtin k) t = HasArguments (builtin_arity k) t
HasFormArity _ t = Unit {0}
