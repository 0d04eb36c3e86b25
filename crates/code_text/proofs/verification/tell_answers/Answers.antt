use Rattle.std.proofs.Common.{below_more, arith}
use Rattle.std.proofs.lemmas.List.{length-map}
use Rattle.wam_code.specs.Area.{Span, HasQuery, area_of, span_of}
use Rattle.code_text.specs.LocalConditions.{IsAnswerTold}
use Rattle.code_listing.specs.States.{states_of}
use Rattle.code_text.proofs.Faults.{answer_kept}
use Rattle.code_text.proofs.PlaceOwners.{query_within}
use Rattle.code_text.proofs.FaultPlaces.{faults_same, faults_then}
use Rattle.code_text.proofs.verification.tell_answers.Goals as goal

pub loop-number-init : goal.loop-number-init
loop-number-init c = record { found = λ n q l. absurd (omega (arith, l)); tells = faults_same (area_of c.args.parts.now) (states_of c.args.states.now) c.args.first.now.place }

pub loop-number-preserved : goal.loop-number-preserved
loop-number-preserved c =
    let a = area_of c.args.parts.now in
    let ss = states_of c.args.states.now in
    let first = c.args.first.now.place in
    let old = c.loop-number.first.place in
    let new = c.tell_answer.new.first.place in
    let inv = c.loop-number.invariant in
    let step = below_more (λ k. (q : Span) → HasQuery a k q → IsAnswerTold a ss new q) c.loop-number.number
    (λ k l q h. answer_kept a ss old new q c.tell_answer.ensures.tells.kept (inv.found k q l h)) c.tell_answer.ensures.found in
    record { found = λ n q l h. step n l q h; tells = faults_then a ss first old new inv.tells c.tell_answer.ensures.tells }

pub returns : goal.returns
returns c =
    let a = area_of c.args.parts.now in
    let inv = c.loop-number.invariant in
    record { found = λ n q h. inv.found n q (omega (arith, query_within a n q h, c.loop-number-test.false, length-map c.args.parts.now.queries.items span_of)) h; tells = inv.tells }
