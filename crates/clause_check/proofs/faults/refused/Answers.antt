use Rattle.std.proofs.Common.{ℕ, ap, Some, subst}
use Rattle.fd_model.specs.Refusals.{refused_at}
use Rattle.term_reader.proofs.Lemmas.{place_placed}
use Rattle.clause_check.specs.Causes.{cause_text, IsCauseAt}
use Rattle.clause_check.proofs.faults.refused.Goals as goal

pub returns-clause-fault : goal.returns-clause-fault
returns-clause-fault c =
    let pool = c.args.pool.now in
    let same = place_placed pool c.args.t c.place.result c.place.ensures.place in
    (subst (λ (p : ℕ). IsCauseAt pool p c.args.cause) same c.requires.cause, ap (λ (p : ℕ). Some (refused_at p (cause_text pool c.args.cause))) same)
