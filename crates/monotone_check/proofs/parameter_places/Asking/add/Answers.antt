use Rattle.std.proofs.Common.{◌+◌, ap}
use Rattle.monotone_check.proofs.PlaceNeeds.{add_tells}
use Rattle.monotone_check.proofs.parameter_places.Asking.add.Goals as goal

pub returns : goal.returns
returns c = add_tells c.args.self.now.places.items c.push.new.self.items _ c.in_ok-push.ensures.items (ap (λ n. n + 1) c.len-floor.ensures)
