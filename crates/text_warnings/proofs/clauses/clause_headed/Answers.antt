use Rattle.std.proofs.Common.{ℕ, Option, ap₂}
use Rattle.fd_model.specs.Refusals as refusals
use Rattle.term_reader.proofs.Lemmas.{place_placed}
use Rattle.text_warnings.specs.Clauses.{clause_headed}
use Rattle.text_warnings.specs.WarningViews.{body_calls}
use Rattle.text_warnings.proofs.clauses.clause_headed.Goals as goal

pub returns-clause-kept : goal.returns-clause-kept
returns-clause-kept c =
    let pool = c.args.pool.now in
    ap₂ (λ (o : Option refusals.Functor) (p : ℕ). clause_headed o p (body_calls pool c.args.body)) c.in_ok-functor.ensures.functor.1
    (place_placed pool c.args.head c.place-place.result c.place-place.ensures.place)
