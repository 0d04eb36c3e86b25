use Rattle.std.proofs.Common.{◌<◌, List, sym, subst}
use Rattle.std.specs.Prelude.{Some}
use Rattle.std.proofs.lemmas.List.Elements.{All-pop}
use Rattle.range_terms.specs.declared.walk.Task.{Task}
use Rattle.range_terms.specs.declared.forms.Position.TheVariants as place_in
use Rattle.term_pool.specs.PlacedTerms.{placed_of}
use Rattle.range_terms.specs.TermNodes.{wanted}
use Rattle.range_terms.specs.Walk.{load, IsOf, IsLeft}
use Rattle.range_terms.proofs.Walks.{still_left, smaller_load}
use Rattle.range_terms.proofs.walk.read_term.Goals as goal

pub loop-task-smaller : goal.loop-task-smaller
loop-task-smaller c =
    let pool = c.args.pool.now in
    subst (λ (ts : List Task). load pool c.take.new.ahead.items < load pool ts) (sym c.in-Some.ensures.items)
    (smaller_load c.args.infinity pool c.in-Some.task c.loop-task.found c.take.new.self c.pop.new.self.items c.take.new.ahead.items c.in_ok-take.ensures)

pub loop-task-preserved : goal.loop-task-preserved
loop-task-preserved c =
    let pool = c.args.pool.now in
    let wanted_here = wanted c.args.infinity place_in.Range (placed_of pool c.args.t) in
    let popped = All-pop (IsOf pool) c.loop-task.ahead.items c.pop.new.self.items (Some c.in-Some.task) c.in-Some.ensures.items c.loop-task.invariant.within in
    still_left c.args.infinity pool wanted_here c.in-Some.task c.loop-task.found c.take.new.self c.pop.new.self.items c.take.new.ahead.items c.in_ok-take.ensures
    (subst (λ (ts : List Task). IsLeft c.args.infinity pool wanted_here c.loop-task.found ts) c.in-Some.ensures.items c.loop-task.invariant) popped.0
