use Rattle.std.proofs.Common.{◌≡◌, refl, length}
use Rattle.std.proofs.lemmas.Option.{slice_get_read}
use Rattle.wam_code.specs.declared.instruction.Code.TheVariants.{AnswerNow}
use Rattle.wam_code.specs.Area.{Holds, area_of}
use Rattle.code_flow.specs.PlaceConditions.{IsLast}
use Rattle.code_text.proofs.PlaceConditions.{answer_last, answer_not, failed}
use Rattle.code_text.proofs.places.fits_answer.Goals as goal

pub returns-then-is_answer : goal.returns-then-is_answer
returns-then-is_answer c =
    let a = area_of c.args.parts.now in
    let at = c.args.at in
    let i = c.index.result.now in
    let h : Holds a at i = slice_get_read a.code (length a.code) at i refl c.requires.within c.index.ensures in
    answer_last a at i h c.is_last.result (IsLast a at) (c.is_answer.ensures.0 c.if-is_answer.true) c.is_last.ensures

pub returns-else-is_answer : goal.returns-else-is_answer
returns-else-is_answer c =
    let a = area_of c.args.parts.now in
    let at = c.args.at in
    let i = c.index.result.now in
    let h : Holds a at i = slice_get_read a.code (length a.code) at i refl c.requires.within c.index.ensures in
    answer_not a at i h (IsLast a at) (failed c.is_answer.result (i ≡ AnswerNow) c.is_answer.ensures c.if-is_answer.false)
