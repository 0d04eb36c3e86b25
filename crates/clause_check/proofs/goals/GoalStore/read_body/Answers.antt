use Rattle.std.proofs.Common.{◌≡◌, List, [], ◌∷◌, length, refl, arith, rules}
use Rattle.std.proofs.lemmas.Result.{err_from_is_err_and}
use Rattle.term_pool.specs.PlacedTerms.{placed_of}
use Rattle.clause_check.specs.declared.goals.Task.{Task}
use Rattle.clause_check.specs.declared.goals.GoalStore.{GoalStore}
use Rattle.clause_check.proofs.BodyWalk.{pop_start, pop_refused, step, step_smaller, read_whole}
use Rattle.clause_check.proofs.goals.GoalStore.read_body.Goals as goal

empty : (ts : List Task) → length ts ≡ 0 → ts ≡ []
empty [] e = refl
empty (t ∷ ts) e = absurd (omega (arith, e))

pub take-requires-clause-start : goal.take-requires-clause-start
take-requires-clause-start c =
    let s = c.args.sentences.now in
    let g = c.loop-task.self in
    let mid : GoalStore = record { ranges = g.ranges; goals = g.goals; pending = g.pending; tasks = c.pop.new.self } in
    pop_start c.args.infinity s c.args.self.now (placed_of s.pool c.args.body) g mid c.in-Some.task c.loop-task.invariant
    (record { same = record { ranges = refl; goals = refl; pending = refl }; tasks = c.in-Some.ensures.items })

pub loop-task-smaller : goal.loop-task-smaller
loop-task-smaller c =
    let s = c.args.sentences.now in
    let g = c.loop-task.self in
    let mid : GoalStore = record { ranges = g.ranges; goals = g.goals; pending = g.pending; tasks = c.pop.new.self } in
    step_smaller c.args.infinity s c.args.self.now (placed_of s.pool c.args.body) g mid c.in-Some.task c.loop-task.invariant
    (record { same = record { ranges = refl; goals = refl; pending = refl }; tasks = c.in-Some.ensures.items })
    c.take.new.self c.in_ok-take.ensures.taken

pub loop-task-preserved : goal.loop-task-preserved
loop-task-preserved c =
    let s = c.args.sentences.now in
    let g = c.loop-task.self in
    let mid : GoalStore = record { ranges = g.ranges; goals = g.goals; pending = g.pending; tasks = c.pop.new.self } in
    step c.args.infinity s c.args.self.now (placed_of s.pool c.args.body) g mid c.in-Some.task c.loop-task.invariant
    (record { same = record { ranges = refl; goals = refl; pending = refl }; tasks = c.in-Some.ensures.items })
    c.take.new.self c.in_ok-take.ensures.taken

pub returns-in_err-take-clause-fault : goal.returns-in_err-take-clause-fault
returns-in_err-take-clause-fault c =
    let s = c.args.sentences.now in
    let g = c.loop-task.self in
    let mid : GoalStore = record { ranges = g.ranges; goals = g.goals; pending = g.pending; tasks = c.pop.new.self } in
    let p = err_from_is_err_and c.from_residual-in_err-take.result c.from_residual-in_err-take.ensures.1 in
    rw (p.1, p.2)
    (pop_refused c.args.infinity s c.args.self.now (placed_of s.pool c.args.body) g mid c.in-Some.task c.loop-task.invariant
    (record { same = record { ranges = refl; goals = refl; pending = refl }; tasks = c.in-Some.ensures.items })
    c.in_err-take.field-0.0 c.in_err-take.ensures.fault)

pub returns-clause-read : goal.returns-clause-read
returns-clause-read c =
    let s = c.args.sentences.now in
    let g = c.loop-task.self in
    let mid : GoalStore = record { ranges = g.ranges; goals = g.goals; pending = g.pending; tasks = c.pop.new.self } in
    let none : g.tasks.items ≡ [] = empty g.tasks.items (search (rules, c.in_default.ensures.cases.0)) in
    read_whole c.args.infinity s c.args.self.now g mid c.close.new.self (placed_of s.pool c.args.body) c.in_ok-close.field-0 c.loop-task.invariant none
    (record { ranges = refl; goals = refl; pending = refl }) c.in_ok-close.ensures
