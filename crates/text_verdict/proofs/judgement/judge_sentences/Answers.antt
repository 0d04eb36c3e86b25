use Rattle.std.proofs.Common.{sym, ap, ◌∙◌, subst}
use Rattle.fd_language.specs.declared.TheConstants.{INFINITY}
use Rattle.fd_model.specs.Refusals.{first_refusal}
use Rattle.fd_model.specs.Verdict as model
use Rattle.term_pool.specs.Contents.{Contents}
use Rattle.clause_check.specs.Causes.{cause_text, IsCauseAt, Refuses}
use Rattle.clause_check.specs.Programs.{program_in}
use Rattle.clause_check.specs.Terms.{terms_of}
use Rattle.text_verdict.proofs.Verdicts.{accepted_verdict, refused_verdict}
use Rattle.text_verdict.proofs.judgement.judge_sentences.Goals as goal

pub returns-in-Ok : goal.returns-in-Ok
returns-in-Ok c = record { names = tt; verdict = accepted_verdict c.args.infinity c.args.sentences (program_in c.in-Ok.program) c.in-Ok.ensures.accepted c.in-Ok.ensures.program }

pub returns-in-Err-At : goal.returns-in-Err-At
returns-in-Err-At c =
    let s = c.args.sentences in
    let place = c.in-Err-At.place in
    let cause = c.in-Err-At.cause in
    let pool = c.in-Err-At.pool in
    let refused = subst (Refuses s.pool (first_refusal INFINITY c.args.infinity (terms_of s) (terms_of s))) c.in-Err-At.field-0-is c.in-Err-At.ensures.refused in
    let told = c.sentence_reason.ensures pool place (subst (λ (k : Contents). IsCauseAt k place cause) (sym refused.0) refused.1) in
    record {
      names = told.0;
      verdict = refused_verdict c.args.infinity s place (cause_text s.pool cause) refused.2
          ∙ ap (λ (k : Contents). model.refused place (cause_text k cause)) (sym refused.0) ∙ ap (model.refused place) (sym told.1);
    }
