use Rattle.propagate_queue.proofs.StoreFields.{new_store}
use Rattle.propagate_queue.proofs.marked.MarkedStore.new.Goals as goal

pub invariant_of-result : goal.invariant_of-result
invariant_of-result g c = new_store c.new-3.result c.new-4.result.items (g.A.Agenda.agents c.empty.new.agenda) (g.A.Agenda.spare c.empty.new.agenda)
    c.new-2.result c.new.result c.new-5.result.items c.new-3.ensures c.new-4.ensures.items c.empty.ensures c.new-2.ensures c.new.ensures c.new-5.ensures.items
