use Rattle.byte_ports.specs.Lines.{lines_of}
use Rattle.std.proofs.Common.{rules, ◌≡◌, drop, sym, subst, Err}
use Rattle.std.specs.Prelude.{Result, MatchResult}
use Rattle.answer_check.specs.declared.listed_answers.Listed.{Listed}
use Rattle.answer_check.specs.declared.outcome.Stop.{Stop}
use Rattle.answer_check.specs.Inputs.{JudgesText, Lists, Stops}
use Rattle.answer_check.proofs.WholeInputs.{query_names, rows_stop, parts_listed}
use Rattle.answer_check.proofs.read_parts.Goals as goal

pub read_answers-requires-clause-names : goal.read_answers-requires-clause-names
read_answers-requires-clause-names c = query_names c.args.text.now c.args.from (lines_of (drop c.args.from c.args.input.now)) c.in_ok-query.query c.in_ok-query.ensures

pub returns-in_err-answers : goal.returns-in_err-answers
returns-in_err-answers c =
    let ls = lines_of (drop c.args.from c.args.input.now) in
    let e : c.from_residual-in_err-answers.result ≡ Err c.in_err-answers.field-0.0 = search rules in
    let judges = JudgesText c.args.text.now c.args.from ls in
    subst (λ (r : Result Listed Stop). MatchResult r (Lists judges) (Stops judges)) (sym e)
    (rows_stop c.args.text.now c.args.from ls c.in_ok-query.query c.in_err-answers.field-0.0 c.in_ok-query.ensures c.in_err-answers.ensures)

pub returns : goal.returns
returns c =
    let l : Listed = record { query = c.in_ok-query.query; answers = c.in_ok-answers.answers } in
    parts_listed c.args.text.now c.args.from (lines_of (drop c.args.from c.args.input.now)) l c.in_ok-query.ensures c.in_ok-answers.ensures
