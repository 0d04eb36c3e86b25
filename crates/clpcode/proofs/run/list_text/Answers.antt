use Rattle.std.proofs.Common.{inl, inr, refl, subst}
use Rattle.fd_language.specs.declared.TheConstants.{INFINITY}
use Rattle.fd_model.specs.Verdict.{accepted, refused}
use Rattle.answer_text.specs.Reasons.{reason_text}
use Rattle.clause_check.specs.Programs.{program_in}
use Rattle.text_verdict.specs.Verdicts.{IsVerdictOn}
use Rattle.clpcode.proofs.run.list_text.Goals as goal

pub returns-in-Ok-Accepted : goal.returns-in-Ok-Accepted
returns-in-Ok-Accepted g c =
    let v = subst (IsVerdictOn INFINITY c.args.text.now) c.in-Ok-Accepted.field-0-is c.in-Ok-Accepted.ensures in
    elim c.list_program.ensures [ inl s ↦ inl s | inr h ↦ inr (accepted (program_in c.in-Ok-Accepted.program), v.verdict, h) ]

pub refuse_text-requires : goal.refuse_text-requires
refuse_text-requires g c =
    let v = subst (IsVerdictOn INFINITY c.args.text.now) c.in-Ok-Refused.field-0-is c.in-Ok-Refused.ensures in
    v.names

pub returns-in-Ok-Refused : goal.returns-in-Ok-Refused
returns-in-Ok-Refused g c =
    let a = c.in-Ok-Refused in
    let v = subst (IsVerdictOn INFINITY c.args.text.now) a.field-0-is a.ensures in
    inr (refused a.place (reason_text a.pool a.reason), v.verdict, c.refuse_text.ensures)

pub returns-in-Err : goal.returns-in-Err
returns-in-Err g c = inl (refl, refl)
