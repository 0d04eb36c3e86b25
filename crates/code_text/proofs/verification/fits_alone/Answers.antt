use Rattle.std.proofs.Common.{subst, rules, List, IsTrue, ◌↔◌, ◌≡◌, ◌≤◌, ◌<◌, ◌-◌, All, false, true, length, arith}
use Rattle.wam_code.specs.declared.instruction.Code.TheVariants.{AnswerNow}
use Rattle.term_pool.specs.declared.AtomId.{AtomId}
use Rattle.wam_code.specs.Area.{Holds, area_of, span_of}
use Rattle.wam_code.specs.VerifiedCode.{BeginsWith, IsAtom}
use Rattle.code_listing.specs.States.{states_of}
use Rattle.code_text.specs.LocalConditions.{FitsAlone}
use Rattle.code_text.proofs.PlaceConditions.{not_so, failed, alone_is, alone_answers}
use Rattle.code_text.proofs.verification.fits_alone.Goals as goal

pub returns-then-query : goal.returns-then-query
returns-then-query c = not_so (FitsAlone (area_of c.args.parts.now) (states_of c.args.states.now) (span_of c.args.query.now)) (λ x. omega (arith, x.some))

pub returns-then-query-len : goal.returns-then-query-len
returns-then-query-len c = not_so (FitsAlone (area_of c.args.parts.now) (states_of c.args.states.now) (span_of c.args.query.now)) (λ x. omega (arith, x.within))

pub returns-then-not-answers : goal.returns-then-not-answers
returns-then-not-answers c =
    let a = area_of c.args.parts.now in
    let ss = states_of c.args.states.now in
    let q = span_of c.args.query.now in
    let some : q.at < q.end = search rules in
    let f : c.answers.result ≡ false = search rules in
    not_so (FitsAlone a ss q) (λ x. failed c.answers.result (Holds a (q.end - 1) AnswerNow) c.answers.ensures f (alone_answers a ss q some x))

pub returns-then-not-begins : goal.returns-then-not-begins
returns-then-not-begins c =
    let a = area_of c.args.parts.now in
    let ss = states_of c.args.states.now in
    let q = span_of c.args.query.now in
    let f : c.begins.result ≡ false = search rules in
    not_so (FitsAlone a ss q) (λ x. failed c.begins.result (BeginsWith ss q.at 0) c.begins.ensures f x.begins)

pub returns : goal.returns
returns c =
    let a = area_of c.args.parts.now in
    let ss = states_of c.args.states.now in
    let q = span_of c.args.query.now in
    let some : q.at < q.end = search rules in
    let within : q.end ≤ length a.code = search rules in
    let answering : c.answers.result ≡ true = search rules in
    let beginning : c.begins.result ≡ true = search rules in
    let named : IsTrue c.has_atoms.result ↔ All (λ x. IsAtom a x) q.names = subst (λ (l : List AtomId). IsTrue c.has_atoms.result ↔ All (λ x. IsAtom a x) l)
    c.deref.ensures.value c.has_atoms.ensures in
    (λ b. alone_is a ss q some within (c.answers.ensures.0 answering) (c.begins.ensures.0 beginning) (named.0 b), λ x. named.1 x.names)
