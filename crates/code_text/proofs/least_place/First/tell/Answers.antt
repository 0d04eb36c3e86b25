use Rattle.std.proofs.Common.{◌≡◌}
use Rattle.code_text.proofs.FaultPlaces.{tell_none, tell_lower, tell_same, told_already}
use Rattle.code_text.proofs.least_place.First.tell.Goals as goal

pub returns-in-None-clause-tells : goal.returns-in-None-clause-tells
returns-in-None-clause-tells c = tell_none c.args.self.now.place c.args.place c.in-None.is

pub returns-then-place-first-clause-tells : goal.returns-then-place-first-clause-tells
returns-then-place-first-clause-tells c = tell_lower c.args.self.now.place c.in-Some.first c.args.place c.in-Some.is c.if-place-first.true

pub returns-else-place-first-clause-told : goal.returns-else-place-first-clause-told
returns-else-place-first-clause-told c = told_already c.args.self.now.place c.in-Some.first c.args.place c.in-Some.is c.if-place-first.false

pub returns-else-place-first-clause-tells : goal.returns-else-place-first-clause-tells
returns-else-place-first-clause-tells c = tell_same (λ p. p ≡ c.args.place) c.args.self.now.place
