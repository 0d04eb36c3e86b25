use Rattle.std.proofs.Common.{rules, ◌≡◌, false, true}
use Rattle.wam_code.specs.declared.instruction.Code.TheVariants.{AnswerNow}
use Rattle.wam_code.specs.Area.{Holds, area_of}
use Rattle.code_listing.specs.States.{states_of}
use Rattle.code_flow.specs.PlaceConditions.{FitsBefore, IsLast}
use Rattle.code_text.specs.Places.{FitsPlace}
use Rattle.code_text.proofs.PlaceConditions.{not_so, failed}
use Rattle.code_text.proofs.places.fits_place.Goals as goal

pub returns-then-not-fits_before : goal.returns-then-not-fits_before
returns-then-not-fits_before c =
    let a = area_of c.args.parts.now in
    let f : c.fits_before.result ≡ false = search rules in
    not_so (FitsPlace a (states_of c.args.states.now) c.args.at) (λ x. failed c.fits_before.result (FitsBefore a c.args.at) c.fits_before.ensures f x.before)

pub returns-then-not-fits_answer : goal.returns-then-not-fits_answer
returns-then-not-fits_answer c =
    let a = area_of c.args.parts.now in
    let f : c.fits_answer.result ≡ false = search rules in
    not_so (FitsPlace a (states_of c.args.states.now) c.args.at) (λ x. failed c.fits_answer.result (Holds a c.args.at AnswerNow → IsLast a c.args.at) c.fits_answer.ensures f x.answers)

pub returns : goal.returns
returns c =
    let before : c.fits_before.result ≡ true = search rules in
    let answers : c.fits_answer.result ≡ true = search rules in
    (λ b. record { instruction = c.in_ok-is_right.ensures.0 b; before = c.fits_before.ensures.0 before; answers = c.fits_answer.ensures.0 answers }, λ f. c.in_ok-is_right.ensures.1 f.instruction)
