use Rattle.std.proofs.Common.{rules, ◌≡◌, ◌<◌, ◌∙◌, sym, subst, length}
use Rattle.clause_check.specs.Programs.{program_in, query_at, query_in}
use Rattle.wam_code.specs.Area.{Area}
use Rattle.code_machine.specs.States.{MayRun}
use Rattle.text_output.proofs.Lemmas.{has_query, may_run}
use Rattle.run_summary.proofs.summary.count_query.Goals as goal

pub new-requires-2-clause-query : goal.new-requires-2-clause-query
new-requires-2-clause-query g c =
    let area : Area = c.in_ok-code.code in
    let shared : c.in_ok-new.field-0.value ≡ area = search rules in
    subst (λ (a : Area). 0 < length a.queries) (sym shared) (has_query area c.args.program c.in_ok-code.ensures.stands 0 c.requires.query)

pub returns-clause-whole : goal.returns-clause-whole
returns-clause-whole g c = λ es r h.
    let p = c.args.program in
    let area : Area = c.in_ok-code.code in
    let shared : c.in_ok-new.field-0.value ≡ area = search rules in
    let made = c.in_ok-machine.ensures in
    let may = subst (λ (a : Area). MayRun a 0 (program_in p) (query_in p (query_at p 0))) (sym (made.code.0 ∙ shared))
    (may_run area p c.known.ensures c.in_ok-code.ensures.stands 0 c.requires.query) in
    c.count_events.ensures.whole es r (made.stands (program_in p) (query_in p (query_at p 0)) may es r h)
