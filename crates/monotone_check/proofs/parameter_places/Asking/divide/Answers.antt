use Rattle.monotone_check.proofs.PlaceNeeds.{divide_at}
use Rattle.monotone_check.proofs.parameter_places.Asking.divide.Goals as goal

pub returns-then-count-gt0 : goal.returns-then-count-gt0
returns-then-count-gt0 c = divide_at c.args.self.now.places.items _ c.index_mut-last.result.now c.len-count.result c.len-count.ensures c.if-count-gt0.true c.index_mut-last.ensures.value
