use Rattle.std.proofs.Common.{rules}
use Rattle.code_text.proofs.PlaceConditions.{shows_from, shows_past}
use Rattle.code_text.proofs.verification.shows_at.Goals as goal

pub returns-then-at-states : goal.returns-then-at-states
returns-then-at-states c = shows_past c.args.states.now c.args.at c.args.count (search rules)

pub returns : goal.returns
returns c = shows_from c.args.states.now c.args.at c.args.count c.index-states-at.result (search rules) c.index-states-at.is c.are_shown.result c.are_shown.ensures
