use Rattle.std.proofs.Common.{sym, ap}
use Rattle.term_reader.proofs.Lemmas.{place_placed}
use Rattle.answer_check.specs.declared.outcome.Reason.TheVariants as reason
use Rattle.answer_check.specs.declared.outcome.Stop.TheVariants as stop
use Rattle.answer_check.proofs.goals.not_flat.Goals as goal

pub returns : goal.returns
returns c = ap (λ p. stop.Refused p reason.NotFlat) (sym (place_placed c.args.pool.now c.args.t c.place.result c.place.ensures.place))
