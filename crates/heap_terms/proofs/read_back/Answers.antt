use Rattle.std.proofs.Common.{◌≡◌, ◌∙◌, ap, [], ◌∷◌, ◌++◌}
use Rattle.heap_terms.specs.declared.ReadTask.{ReadTask}
use Rattle.heap_terms.specs.declared.ReadTask.TheVariants.{Visit, Make}
use Rattle.heap_terms.proofs.Pools.{places_both}
use Rattle.heap_terms.proofs.CellWalk.{visited_on, visited_smaller, made_on}
use Rattle.heap_terms.proofs.read_back.Given as given
use Rattle.heap_terms.proofs.read_back.Goals as goal

-- a cell
next : (g : given.Over) (c : goal.In_ok-visit_cell-in-Visit g) → c.loop-task.tasks.items ≡ c.pop.new.self.items ++ Visit c.in-Visit.next ∷ []
next g c = c.in-Some.ensures.items ∙ ap (λ (k : ReadTask). c.pop.new.self.items ++ k ∷ []) c.in-Visit.is

pub loop-task-smaller-in-Continue-branch-2 : goal.loop-task-smaller-in-Continue-branch-2
loop-task-smaller-in-Continue-branch-2 g c =
    visited_smaller c.args.from.now.names c.args.heap.now.now (g.V.View.sets c.args.view.now) c.args.c c.args.pool.now c.loop-task.pool c.visit_cell.new.pool
    c.loop-task.tasks.items c.pop.new.self.items c.visit_cell.new.tasks.items c.loop-task.done.items c.visit_cell.new.done.items c.in-Visit.next (next g c)
    c.in_ok-visit_cell-in-Visit.ensures.extends c.in_ok-visit_cell-in-Visit.ensures.kept c.in_ok-visit_cell-in-Visit.ensures.places c.loop-task.invariant c.in_ok-visit_cell-in-Visit.ensures.read

pub loop-task-preserved-in-Continue-branch-2 : goal.loop-task-preserved-in-Continue-branch-2
loop-task-preserved-in-Continue-branch-2 g c =
    visited_on c.args.from.now.names c.args.heap.now.now (g.V.View.sets c.args.view.now) c.args.c c.args.pool.now c.loop-task.pool c.visit_cell.new.pool
    c.loop-task.tasks.items c.pop.new.self.items c.visit_cell.new.tasks.items c.loop-task.done.items c.visit_cell.new.done.items c.in-Visit.next (next g c)
    c.in_ok-visit_cell-in-Visit.ensures.extends c.in_ok-visit_cell-in-Visit.ensures.kept c.in_ok-visit_cell-in-Visit.ensures.places c.loop-task.invariant c.in_ok-visit_cell-in-Visit.ensures.read

pub returns-in_err-visit_cell-in-Visit-clause-places : goal.returns-in_err-visit_cell-in-Visit-clause-places
returns-in_err-visit_cell-in-Visit-clause-places g c =
    places_both c.args.pool.now c.loop-task.pool c.visit_cell.new.pool c.loop-task.invariant.places c.in_err-visit_cell-in-Visit.ensures.places c.in_err-visit_cell-in-Visit.ensures.extends

-- a compound term
last : (g : given.Over) (c : goal.In_ok-make_term-in-Make g) → c.loop-task.tasks.items ≡ c.pop.new.self.items ++ Make c.in-Make.f c.in-Make.count ∷ []
last g c = c.in-Some.ensures.items ∙ ap (λ (k : ReadTask). c.pop.new.self.items ++ k ∷ []) c.in-Make.is

pub loop-task-preserved : goal.loop-task-preserved
loop-task-preserved g c =
    made_on c.args.from.now.names c.args.heap.now.now (g.V.View.sets c.args.view.now) c.args.c c.args.pool.now c.loop-task.pool c.make_term.new.pool
    c.loop-task.tasks.items c.pop.new.self.items c.loop-task.done.items c.make_term.new.done.items c.in-Make.f c.in-Make.count (last g c)
    c.loop-task.invariant
    c.in_ok-make_term-in-Make.ensures.extends c.in_ok-make_term-in-Make.ensures.kept c.in_ok-make_term-in-Make.ensures.places c.in_ok-make_term-in-Make.ensures.made

pub returns-in_err-make_term-in-Make-clause-places : goal.returns-in_err-make_term-in-Make-clause-places
returns-in_err-make_term-in-Make-clause-places g c =
    places_both c.args.pool.now c.loop-task.pool c.make_term.new.pool c.loop-task.invariant.places c.in_err-make_term-in-Make.ensures.places c.in_err-make_term-in-Make.ensures.extends
