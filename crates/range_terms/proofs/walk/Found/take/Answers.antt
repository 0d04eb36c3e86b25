use Rattle.std.proofs.Common.{refl, sym, subst, arith}
use Rattle.std.specs.Prelude.{OnOk}
use Rattle.std.proofs.lemmas.Result.{on_ok_weaker}
use Rattle.range_terms.specs.declared.walk.Task.{Task}
use Rattle.range_terms.specs.TermNodes.{one_node}
use Rattle.range_terms.specs.Walk.{of_task, task_weight, Replaces}
use Rattle.range_terms.proofs.Walks.{step_put}
use Rattle.range_terms.proofs.walk.Found.take.Goals as goal

pub returns-in-Put : goal.returns-in-Put
returns-in-Put c =
    subst (λ (t : Task). OnOk c.put.result (Replaces c.args.infinity c.args.pool.now (of_task c.args.infinity c.args.pool.now t) (task_weight c.args.pool.now t)
    c.args.self.now c.args.ahead.now.items c.put.new.self c.args.ahead.now.items)) (sym c.in-Put.is)
    (on_ok_weaker c.put.result (λ s. step_put c.args.infinity c.args.pool.now (one_node c.in-Put.node c.in-Put.place) 1 c.in-Put.node c.in-Put.place
    c.args.self.now c.put.new.self c.args.ahead.now.items refl (omega arith) s) c.put.ensures)
