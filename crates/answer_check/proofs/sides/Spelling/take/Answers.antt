use Rattle.std.proofs.Common.{sym, subst, refl}
use Rattle.std.specs.Prelude.{IfOk}
use Rattle.answer_check.specs.declared.sides.Task.{Task}
use Rattle.answer_check.specs.declared.sides.Task.TheVariants as task
use Rattle.answer_check.specs.Sides.{joined, Applies, IsDone}
use Rattle.answer_check.proofs.SideTerms.{done_at_once, weaker}
use Rattle.answer_check.proofs.sides.Spelling.take.Goals as goal

pub returns-in-Put : goal.returns-in-Put
returns-in-Put c =
    let pool = c.args.pool.now in
    let old = c.args.self.now in
    let new = c.put_operator.new.self in
    let ahead = c.args.ahead.now.items in
    let n = c.in-Put.node in
    subst (λ (k : Task). IfOk c.put_operator.result (IsDone pool k old ahead new ahead)) (sym c.in-Put.is)
    (weaker (Applies (joined n) old new) (IsDone pool (task.Put n) old ahead new ahead) c.put_operator.result
    (λ b h. done_at_once pool (task.Put n) old new ahead (joined n) b (λ es. refl) h) c.put_operator.ensures)
