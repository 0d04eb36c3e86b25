-- The forms of goals that a flat query may have.
use Rattle.std.specs.Prelude.{Option, Some, None}
use Rattle.fd_model.specs.declared.kinds.ConstraintKind.{ConstraintKind}
use Rattle.fd_model.specs.declared.kinds.ConstraintKind.TheVariants as kind
use Rattle.fd_model.specs.Forms.{GoalForm, truth, failure, unification, posting, cutting, constraint, labelling, optimum, builtin}
use Rattle.answer_check.specs.declared.forms.GoalKind.{GoalKind}
use Rattle.answer_check.specs.declared.forms.GoalKind.TheVariants.{Posting, Constraint, Labelling}

-- the kinds that are checked: truth values are left out
abbrev pub kind_form : ConstraintKind → Option GoalKind
kind_form (kind.Compare r) = Some (Constraint (kind.Compare r))
kind_form kind.AllDifferent = Some (Constraint kind.AllDifferent)
kind_form kind.Element = Some (Constraint kind.Element)
kind_form kind.Atmost = Some (Constraint kind.Atmost)
kind_form kind.And = None
kind_form kind.Or = None
kind_form kind.Not = None
kind_form kind.Reified = None

abbrev pub flat_form : Option GoalForm → Option GoalKind
flat_form None = None
flat_form (Some truth) = None
flat_form (Some failure) = None
flat_form (Some unification) = None
flat_form (Some posting) = Some Posting
flat_form (Some cutting) = None
flat_form (Some (constraint k)) = kind_form k
flat_form (Some (labelling o)) = Some (Labelling o)
flat_form (Some (optimum least)) = None
flat_form (Some (builtin k)) = None
