use Rattle.std.proofs.Common.{rules, ◌≡◌, ◌<◌, ◌-◌, true, false, length, subst, IsTrue, ◌↔◌}
use Rattle.wam_code.specs.declared.instruction.Code.TheVariants.{AnswerNow}
use Rattle.wam_code.specs.Area.{Holds, area_of, span_of}
use Rattle.code_listing.specs.States.{states_of}
use Rattle.code_flow.specs.PlaceConditions.{ShowsAt}
use Rattle.code_text.proofs.Faults.{answer_fault}
use Rattle.code_text.proofs.PlaceConditions.{failed, answer_nowhere, answer_missing, answer_shown, answer_told}
use Rattle.code_text.proofs.FaultPlaces.{faults_same}
use Rattle.code_text.proofs.verification.tell_shown.Goals as goal

pub returns-then-query : goal.returns-then-query
returns-then-query c =
    let a = area_of c.args.parts.now in
    let ss = states_of c.args.states.now in
    let o = c.args.first.now.place in
    record { found = answer_nowhere a ss (span_of c.args.query.now) o (search rules); tells = λ n h. faults_same a ss o }

pub returns-then-not-answers : goal.returns-then-not-answers
returns-then-not-answers c =
    let a = area_of c.args.parts.now in
    let ss = states_of c.args.states.now in
    let o = c.args.first.now.place in
    let q = span_of c.args.query.now in
    let some : q.at < q.end = search rules in
    let f : c.answers.result ≡ false = search rules in
    record { found = answer_missing a ss q some o (failed c.answers.result (Holds a (q.end - 1) AnswerNow) c.answers.ensures f); tells = λ n h. faults_same a ss o }

pub returns-then-not-shows_at : goal.returns-then-not-shows_at
returns-then-not-shows_at c =
    let a = area_of c.args.parts.now in
    let ss = states_of c.args.states.now in
    let new = c.tell.new.self.place in
    let q = span_of c.args.query.now in
    let some : q.at < q.end = search rules in
    let t : c.answers.result ≡ true = search rules in
    let f : c.shows_at.result ≡ false = search rules in
    let count : c.len.result ≡ length q.names = search rules in
    let shows : IsTrue c.shows_at.result ↔ ShowsAt ss (q.end - 1) (length q.names) = subst (λ k. IsTrue c.shows_at.result ↔ ShowsAt ss (q.end - 1) k) count c.shows_at.ensures in
    record {
      found = answer_told a ss q some new c.tell.ensures.told;
      tells = λ n h. answer_fault a ss n q h c.args.first.now.place new some (c.answers.ensures.0 t) (failed c.shows_at.result (ShowsAt ss (q.end - 1) (length q.names)) shows f) c.tell.ensures.tells;
    }

pub returns-else-not-shows_at : goal.returns-else-not-shows_at
returns-else-not-shows_at c =
    let a = area_of c.args.parts.now in
    let ss = states_of c.args.states.now in
    let o = c.args.first.now.place in
    let q = span_of c.args.query.now in
    let some : q.at < q.end = search rules in
    let t : c.shows_at.result ≡ true = search rules in
    let count : c.len.result ≡ length q.names = search rules in
    let shows : IsTrue c.shows_at.result ↔ ShowsAt ss (q.end - 1) (length q.names) = subst (λ k. IsTrue c.shows_at.result ↔ ShowsAt ss (q.end - 1) k) count c.shows_at.ensures in
    record { found = answer_shown a ss q some o (shows.0 t); tells = λ n h. faults_same a ss o }
