use Rattle.std.proofs.Common.{◌≤◌, subst}
use Rattle.monotone_check.proofs.PlaceNeeds.{raise_at, raise_none}
use Rattle.monotone_check.proofs.parameter_places.Asking.raise_from.Goals as goal

pub returns-then-from-count : goal.returns-then-from-count
returns-then-from-count c = raise_at c.args.self.now.places.items _ c.index_mut-last.result.now c.len-count.result c.args.from c.min-last.result
    c.len-count.ensures c.if-from-count.true c.index_mut-last.ensures.value c.min-last.ensures

pub returns-else-from-count : goal.returns-else-from-count
returns-else-from-count c = raise_none c.args.self.now.places.items c.args.from (subst (λ n. n ≤ c.args.from) c.len-count.ensures c.if-from-count.false)
