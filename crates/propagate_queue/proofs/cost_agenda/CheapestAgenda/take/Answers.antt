use Rattle.std.specs.BinaryHeap.{heap_items}
use Rattle.propagate_queue.proofs.Costs.{heaped_less, cheapest, times_of}
use Rattle.propagate_queue.proofs.cost_agenda.CheapestAgenda.take.Goals as goal

pub invariant_of-self-2 : goal.invariant_of-self-2
invariant_of-self-2 c =
    let t = c.self.inside in
    heaped_less (heap_items t.heap) (heap_items c.pop.new.self) c.in_ok-agent.field-0 t.puts c.self.invariant c.in_ok-agent.ensures.permutation c.in_ok-agent.ensures.heap_order

pub returns-clause-cheapest : goal.returns-clause-cheapest
returns-clause-cheapest c =
    let t = c.self.inside in
    rw (← c.self.view_is) (cheapest (heap_items t.heap) (heap_items c.pop.new.self) c.in_ok-agent.field-0 t.puts c.self.invariant c.in_ok-agent.ensures.permutation c.in_ok-agent.ensures.heap_order)

pub returns-clause-taken : goal.returns-clause-taken
returns-clause-taken c k =
    let t = c.self.inside in
    rw (← c.self.view_is) (times_of k (heap_items t.heap) (heap_items c.pop.new.self) c.in_ok-agent.field-0 c.in_ok-agent.ensures.permutation)
