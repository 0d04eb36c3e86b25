use Rattle.wam_code.specs.Area.{area_of}
use Rattle.wam_code.specs.VerifiedCode.{is_before}
use Rattle.code_text.proofs.PlaceConditions.{before_is, before_first}
use Rattle.code_text.proofs.places.stands_behind.Goals as goal

pub returns-then-at-gt0 : goal.returns-then-at-gt0
returns-then-at-gt0 c = before_is (area_of c.args.parts.now) c.args.at is_before c.holds_before.result c.if-at-gt0.true c.holds_before.ensures

pub returns-else-at-gt0 : goal.returns-else-at-gt0
returns-else-at-gt0 c = before_first (area_of c.args.parts.now) c.args.at is_before c.if-at-gt0.false
