use Rattle.std.proofs.Common.{rules, refl, length}
use Rattle.std.proofs.lemmas.Option.{slice_get_read}
use Rattle.wam_code.specs.declared.instruction.Code.TheVariants.{AnswerNow}
use Rattle.wam_code.specs.Area.{Holds, area_of}
use Rattle.code_text.proofs.PlaceConditions.{not_so, answers_is, answers_past}
use Rattle.code_text.proofs.verification.answers.Goals as goal

pub returns-then-at-len : goal.returns-then-at-len
returns-then-at-len c = not_so (Holds (area_of c.args.parts.now) c.args.at AnswerNow) (answers_past (area_of c.args.parts.now) c.args.at (search rules))

pub returns : goal.returns
returns c =
    let a = area_of c.args.parts.now in
    let at = c.args.at in
    let i = c.index.result.now in
    let h : Holds a at i = slice_get_read a.code (length a.code) at i refl (search rules) c.index.ensures in
    answers_is a at i c.is_answer.result h c.is_answer.ensures
