use Rattle.std.proofs.Common.{sym, subst}
use Rattle.linear_forms.specs.LinearForm.{form_of}
use Rattle.linear_forms.specs.IntegerSums.{IsInside}
use Rattle.linear_forms.proofs.NegatedSums.{turned_inside}
use Rattle.linear_forms.proofs.normal_forms.normal_form.Goals as goal

pub lessen-requires-in-Greater : goal.lessen-requires-in-Greater
lessen-requires-in-Greater c = subst IsInside (sym c.in_ok-side-in-Greater.ensures) (turned_inside (form_of c.args.linear) c.requires)
