use Rattle.monotone_check.proofs.JoinedNeeds.{needs_ok}
use Rattle.monotone_check.proofs.needs.Goals as goal

pub returns : goal.returns
returns c = needs_ok c.gather.result (λ v. v.items) c.args.checked.now c.range.result.now c.deref.result.now c.in_ok-asking.asking.places.items
    c.nodes.result.now c.deref.ensures.value c.in_ok-asking.ensures c.nodes.ensures c.range.ensures.range c.gather.ensures
