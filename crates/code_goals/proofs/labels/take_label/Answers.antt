use Rattle.std.proofs.Common.{subst, sym, refl, arith}
use Rattle.branch_goals.specs.Labels as list
use Rattle.wam_code.specs.declared.instruction.Code.TheVariants as step
use Rattle.code_safety.proofs.Lemmas.{within_code}
use Rattle.code_goals.specs.declared.goal_outcomes.Next.TheVariants.{On}
use Rattle.code_goals.specs.declared.labels.Labelled.TheVariants.{Took}
use Rattle.code_goals.specs.Tasks.{names_of}
use Rattle.code_goals.specs.Values.{IsSafeLabelled, Labels}
use Rattle.code_goals.proofs.Labelling.{list_naming, label_done, label_faults, label_tries, tried_most}
use Rattle.code_goals.proofs.GoalSafety.{arguments_there, on_same}
use Rattle.code_goals.proofs.labels.take_label.Goals as goal

pub register-list-requires : goal.register-list-requires
register-list-requires g c = arguments_there c.args.code.now c.args.branch.now c.args.at c.args.areas.now (step.Label c.args.order) 1 c.requires.safe
    c.requires.holds (λ t. refl) 1 (omega arith) (omega arith)

pub label-requires-clause-sound : goal.label-requires-clause-sound
label-requires-clause-sound g c = c.requires.safe.sound

pub label-requires-clause-list : goal.label-requires-clause-list
label-requires-clause-list g c = c.requires.safe.here.registers_own 1 c.register-list.result c.register-list.ensures

pub behind-requires : goal.behind-requires
behind-requires g c = within_code c.args.code.now c.args.at (step.Label c.args.order) c.requires.holds

pub returns-in-Done-clause-safe : goal.returns-in-Done-clause-safe
returns-in-Done-clause-safe g c =
    subst (λ n. IsSafeLabelled c.args.code.now c.args.branch.now c.args.areas.now (Took (On n))) (sym c.behind.ensures)
    (on_same c.args.code.now c.args.branch.now c.args.at c.args.areas.now (step.Label c.args.order) 1 c.requires.safe c.requires.holds (λ t. refl) refl)

pub returns-in-Done-clause-labels : goal.returns-in-Done-clause-labels
returns-in-Done-clause-labels g c =
    let s = c.args.branch.now in
    let told = subst (list.Labels (names_of c.args.code.now) s c.args.order c.register-list.result) c.in-Done.is
    (c.label.ensures (names_of c.args.code.now) (list_naming c.args.code.now c.pool_of.ensures.valid)) in
    subst (λ n. Labels c.args.code.now s c.args.at c.args.areas.now s c.args.areas.now (Took (On n))) (sym c.behind.ensures)
    (label_done c.args.code.now s c.args.at c.args.areas.now c.requires.safe c.args.order c.requires.holds c.register-list.result c.register-list.ensures told)

pub returns-in-Fault-clause-labels : goal.returns-in-Fault-clause-labels
returns-in-Fault-clause-labels g c =
    let s = c.args.branch.now in
    let told = subst (list.Labels (names_of c.args.code.now) s c.args.order c.register-list.result) c.in-Fault.is
    (c.label.ensures (names_of c.args.code.now) (list_naming c.args.code.now c.pool_of.ensures.valid)) in
    label_faults c.args.code.now s c.args.at c.args.areas.now c.requires.safe c.args.order c.requires.holds c.register-list.result c.register-list.ensures c.in-Fault.fault told

pub values-requires-clause-sound : goal.values-requires-clause-sound
values-requires-clause-sound g c = c.requires.safe.sound

pub values-requires-clause-own : goal.values-requires-clause-own
values-requires-clause-own g c =
    let told = subst (list.Labels (names_of c.args.code.now) c.args.branch.now c.args.order c.register-list.result) c.in-Takes.is
    (c.label.ensures (names_of c.args.code.now) (list_naming c.args.code.now c.pool_of.ensures.valid)) in
    told.1

pub values-requires-clause-variable : goal.values-requires-clause-variable
values-requires-clause-variable g c =
    let told = subst (list.Labels (names_of c.args.code.now) c.args.branch.now c.args.order c.register-list.result) c.in-Takes.is
    (c.label.ensures (names_of c.args.code.now) (list_naming c.args.code.now c.pool_of.ensures.valid)) in
    (names_of c.args.code.now, told.2)

pub try_value-requires-clause-safe : goal.try_value-requires-clause-safe
try_value-requires-clause-safe g c = c.requires.safe

pub try_value-requires-clause-opened : goal.try_value-requires-clause-opened
try_value-requires-clause-opened g c =
    let told = subst (list.Labels (names_of c.args.code.now) c.args.branch.now c.args.order c.register-list.result) c.in-Takes.is
    (c.label.ensures (names_of c.args.code.now) (list_naming c.args.code.now c.pool_of.ensures.valid)) in
    record { own = told.1; term = told.2 }

pub returns-in_ok-tried-in-Takes-clause-safe : goal.returns-in_ok-tried-in-Takes-clause-safe
returns-in_ok-tried-in-Takes-clause-safe g c = c.in_ok-tried-in-Takes.ensures.safe

pub returns-in_ok-tried-in-Takes-clause-labels : goal.returns-in_ok-tried-in-Takes-clause-labels
returns-in_ok-tried-in-Takes-clause-labels g c =
    let s = c.args.branch.now in
    let told = subst (list.Labels (names_of c.args.code.now) s c.args.order c.register-list.result) c.in-Takes.is
    (c.label.ensures (names_of c.args.code.now) (list_naming c.args.code.now c.pool_of.ensures.valid)) in
    label_tries c.args.code.now s c.args.at c.args.areas.now c.requires.safe c.args.order c.requires.holds c.register-list.result c.register-list.ensures
    c.in-Takes.variable told.0 c.in_ok-values-in-Takes.values c.in_ok-values-in-Takes.ensures.values c.in_ok-values-in-Takes.ensures.rising
    (record { variable = c.in-Takes.variable; values = c.in_ok-values-in-Takes.values; from = 0 }) refl refl c.try_value.new.branch c.try_value.new.areas
    c.in_ok-tried-in-Takes.tried c.in_ok-tried-in-Takes.ensures

pub returns-in_ok-tried-in-Takes-clause-most : goal.returns-in_ok-tried-in-Takes-clause-most
returns-in_ok-tried-in-Takes-clause-most g c =
    tried_most c.args.code.now c.args.branch.now c.args.at c.args.areas.now
    (record { variable = c.in-Takes.variable; values = c.in_ok-values-in-Takes.values; from = 0 }) c.in_ok-values-in-Takes.values
    c.in_ok-values-in-Takes.ensures.rising refl
    c.try_value.new.branch c.try_value.new.areas c.in_ok-tried-in-Takes.tried c.in_ok-tried-in-Takes.ensures

pub returns-in_ok-tried-in-Takes-clause-leads : goal.returns-in_ok-tried-in-Takes-clause-leads
returns-in_ok-tried-in-Takes-clause-leads g c = c.in_ok-tried-in-Takes.ensures.leads
