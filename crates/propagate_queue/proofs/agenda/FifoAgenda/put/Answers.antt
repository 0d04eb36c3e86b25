use Rattle.std.proofs.Common.{◌≡◌, ◌≤◌, ◌++◌, ◌∷◌, [], length, drop, ap, ◌∙◌, arith}
use Rattle.std.proofs.lemmas.List.{drop-append-le}
use Rattle.propagate_queue.specs.Queues.{times}
use Rattle.propagate_queue.proofs.Queues.{times_last}
use Rattle.propagate_queue.proofs.agenda.FifoAgenda.put.Goals as goal

pub returns-clause-added : goal.returns-clause-added
returns-clause-added c k =
    let t = c.self.inside in
    let begun : t.first ≤ length t.list.items = omega (arith, c.self.invariant.begun, t.list.ok.0) in
    let all : drop t.first c.push_reserved.new.self.items ≡ drop t.first t.list.items ++ c.args.agent ∷ [] = rw (c.push_reserved.ensures.items, drop-append-le) in
    rw (← c.self.view_is) (ap (times k) all ∙ times_last k c.args.agent (drop t.first t.list.items))
