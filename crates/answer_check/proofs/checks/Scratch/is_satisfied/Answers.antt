use Rattle.std.proofs.Common.{sym, subst}
use Rattle.std.specs.Prelude.{◌↔◌, IfOk, IsTrue}
use Rattle.answer_check.specs.declared.goals.Constraint.{Constraint}
use Rattle.answer_check.specs.AnswerLines.{assigned}
use Rattle.answer_check.specs.Checks.{Meets}
use Rattle.answer_check.proofs.CheckSteps.{range_safe, ends_safe}
use Rattle.answer_check.proofs.Safety.{bounded_values_of}
use Rattle.answer_check.proofs.checks.Scratch.is_satisfied.Goals as goal

pub is_in_range-requires : goal.is_in_range-requires
is_in_range-requires c = range_safe (assigned c.args.values.now) c.args.constraint.now c.in-Post.target c.in-Post.range c.in-Post.is
    (bounded_values_of c.args.values.now c.requires.values) c.requires.safe

pub compares-requires : goal.compares-requires
compares-requires c = ends_safe (assigned c.args.values.now) c.args.constraint.now c.in-Compare.relation c.in-Compare.sides c.in-Compare.is
    (bounded_values_of c.args.values.now c.requires.values) c.requires.safe

pub returns-in-Post : goal.returns-in-Post
returns-in-Post c = subst (λ (k : Constraint). IfOk c.is_in_range.result (λ b. IsTrue b ↔ Meets (assigned c.args.values.now) k)) (sym c.in-Post.is) c.is_in_range.ensures
