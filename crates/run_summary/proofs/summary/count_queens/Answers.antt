use Rattle.std.proofs.Common.{rules, ◌≡◌, ◌≤◌, ℕ, List, sym, subst, length}
use Rattle.fd_language.specs.declared.TheConstants.{INFINITY}
use Rattle.fd_model.specs.Generator.{queens_text}
use Rattle.fd_model.specs.Verdict.{IsVerdict, accepted, refused, max_text}
use Rattle.answer_text.specs.Reasons.{reason_text}
use Rattle.clause_check.specs.Programs.{program_in}
use Rattle.text_verdict.specs.declared.judgement.Verdict.{Verdict}
use Rattle.text_verdict.specs.Verdicts.{verdict_of}
use Rattle.run_summary.proofs.GeneratedTexts.{queens_short, queens_program}
use Rattle.run_summary.proofs.Tallies.{run_of_first, verdict_program, found_one, found_refused}
use Rattle.run_summary.proofs.summary.count_queens.Goals as goal

pub judge_text-requires-clause-size : goal.judge_text-requires-clause-size
judge_text-requires-clause-size c =
    let same : c.as_bytes.result.now ≡ queens_text c.args.size = search rules in
    subst (λ (t : List ℕ). length t ≤ max_text) (sym same) (queens_short c.args.size c.requires.least c.requires.most)

pub count_program-requires-clause-query : goal.count_program-requires-clause-query
count_program-requires-clause-query c =
    let top = c.args.options.infinity in
    let same : c.as_bytes.result.now ≡ queens_text c.args.size = search rules in
    let found : IsVerdict INFINITY top c.as_bytes.result.now (accepted (program_in c.in-Accepted.program)) =
    subst (λ (w : Verdict). IsVerdict INFINITY top c.as_bytes.result.now (verdict_of w)) c.in-Accepted.is c.in_ok-program.ensures.verdict in
    found_one top (queens_text c.args.size) c.in-Accepted.program (queens_program INFINITY top c.args.size c.requires.least c.requires.most)
    (subst (λ (t : List ℕ). IsVerdict INFINITY top t (accepted (program_in c.in-Accepted.program))) same found)

pub returns-clause-whole : goal.returns-clause-whole
returns-clause-whole c = λ program query es r v one run.
    let top = c.args.options.infinity in
    let same : c.as_bytes.result.now ≡ queens_text c.args.size = search rules in
    let p = c.in-Accepted.program in
    let found : IsVerdict INFINITY top c.as_bytes.result.now (accepted (program_in p)) =
    subst (λ (w : Verdict). IsVerdict INFINITY top c.as_bytes.result.now (verdict_of w)) c.in-Accepted.is c.in_ok-program.ensures.verdict in
    let own = subst (λ (t : List ℕ). IsVerdict INFINITY top t (accepted (program_in p))) same found in
    c.count_program.ensures.whole es r
    (run_of_first top p program query c.args.options.steps c.args.options.answers es r (verdict_program top (queens_text c.args.size) program p v own) one run)

pub unreachable-requires : goal.unreachable-requires
unreachable-requires c =
    let top = c.args.options.infinity in
    let same : c.as_bytes.result.now ≡ queens_text c.args.size = search rules in
    let place = c.in-Refused.place in
    let reason = reason_text c.in-Refused.pool c.in-Refused.reason in
    let found : IsVerdict INFINITY top c.as_bytes.result.now (refused place reason) =
    subst (λ (w : Verdict). IsVerdict INFINITY top c.as_bytes.result.now (verdict_of w)) c.in-Refused.is c.in_ok-program.ensures.verdict in
    found_refused top (queens_text c.args.size) place reason (queens_program INFINITY top c.args.size c.requires.least c.requires.most)
    (subst (λ (t : List ℕ). IsVerdict INFINITY top t (refused place reason)) same found)
