use Rattle.wam_code.specs.Area.{area_of}
use Rattle.wam_code.specs.VerifiedCode.{goes_on}
use Rattle.code_text.proofs.PlaceConditions.{before_is, falls_is, falls_none}
use Rattle.code_text.proofs.places.falls_from_before.Goals as goal

pub returns-then-at-gt0 : goal.returns-then-at-gt0
returns-then-at-gt0 c =
    let a = area_of c.args.parts.now in
    falls_is a c.args.at c.holds_going_on.result (before_is a c.args.at goes_on c.holds_going_on.result c.if-at-gt0.true c.holds_going_on.ensures)

pub returns-else-at-gt0 : goal.returns-else-at-gt0
returns-else-at-gt0 c = falls_none (area_of c.args.parts.now) c.args.at c.if-at-gt0.false
