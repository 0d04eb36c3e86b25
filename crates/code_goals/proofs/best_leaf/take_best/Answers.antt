use Rattle.std.proofs.Common.{ap, sym, subst, ◌∙◌, arith}
use Rattle.branch_goals.specs.Searches.{Seeks}
use Rattle.branch_state.specs.States.{State}
use Rattle.wam_code.specs.declared.instruction.Code.TheVariants as step
use Rattle.code_goals.specs.declared.goal_outcomes.Next.TheVariants.{Back}
use Rattle.code_goals.specs.BestLeaf.{LeadsTo}
use Rattle.code_goals.specs.GoalOutcomes.{Takes}
use Rattle.code_goals.specs.Tasks.{names_of}
use Rattle.code_goals.proofs.BuiltinGoals.{ok_then}
use Rattle.code_goals.proofs.Labelling.{list_naming}
use Rattle.code_goals.proofs.BestLeaf.{best_faults, best_none, best_leads}
use Rattle.code_goals.proofs.best_leaf.take_best.Goals as goal

pub seek-requires-clause-list : goal.seek-requires-clause-list
seek-requires-clause-list g c = c.requires.safe.here.registers_own 1 c.register-list.result c.register-list.ensures

pub seek-requires-clause-cost : goal.seek-requires-clause-cost
seek-requires-clause-cost g c = c.requires.safe.here.registers_own 2 c.register-cost.result c.register-cost.ensures

pub returns-in-Fault-clause-takes : goal.returns-in-Fault-clause-takes
returns-in-Fault-clause-takes g c =
    let told = subst (Seeks (names_of c.args.code.now) c.args.branch.now c.args.order c.args.least c.register-list.result c.register-cost.result) c.in-Fault.is
    (c.in_ok-fault.ensures.found (names_of c.args.code.now) (list_naming c.args.code.now c.pool_of.ensures.valid)) in
    best_faults c.args.code.now c.args.branch.now c.args.at c.args.areas.now c.requires.safe c.args.order c.args.least c.requires.holds c.register-list.result
    c.register-cost.result c.register-list.ensures c.register-cost.ensures c.in-Fault.fault told

pub returns-in-Nothing-clause-takes : goal.returns-in-Nothing-clause-takes
returns-in-Nothing-clause-takes g c =
    let told = subst (Seeks (names_of c.args.code.now) c.args.branch.now c.args.order c.args.least c.register-list.result c.register-cost.result)
    c.in-Nothing.is (c.in_ok-fault.ensures.found (names_of c.args.code.now) (list_naming c.args.code.now c.pool_of.ensures.valid)) in
    subst (λ (s : State). Takes c.args.code.now c.args.branch.now c.args.at c.args.areas.now s Back) (sym c.in_ok-fault.ensures.same)
    (best_none c.args.code.now c.args.branch.now c.args.at c.args.areas.now c.requires.safe c.args.order c.args.least c.requires.holds c.register-list.result
    c.register-cost.result c.register-list.ensures c.register-cost.ensures told.0 told.1)

pub returns-in-Leaf-clause-takes : goal.returns-in-Leaf-clause-takes
returns-in-Leaf-clause-takes g c =
    let told = subst (Seeks (names_of c.args.code.now) c.args.branch.now c.args.order c.args.least c.register-list.result c.register-cost.result) c.in-Leaf.is
    (c.in_ok-fault.ensures.found (names_of c.args.code.now) (list_naming c.args.code.now c.pool_of.ensures.valid)) in
    ok_then (LeadsTo c.args.code.now c.seek.new.branch c.args.at c.args.areas.now c.args.order c.args.least c.deref.result.now c.lead.new.branch)
    (Takes c.args.code.now c.args.branch.now c.args.at c.args.areas.now c.lead.new.branch) c.lead.result
    (λ x led.
    best_leads c.args.code.now c.args.branch.now c.args.at c.args.areas.now c.requires.safe c.args.order c.args.least c.requires.holds c.register-list.result
    c.register-cost.result c.register-list.ensures c.register-cost.ensures told.0 c.in-Leaf.values.items told.1 told.2 c.lead.new.branch x
    (subst (λ ps. LeadsTo c.args.code.now c.args.branch.now c.args.at c.args.areas.now c.args.order c.args.least ps c.lead.new.branch x) c.deref.ensures.value
    (subst (λ (s : State). LeadsTo c.args.code.now s c.args.at c.args.areas.now c.args.order c.args.least c.deref.result.now c.lead.new.branch x) c.in_ok-fault.ensures.same led)))
    c.lead.ensures.leads
