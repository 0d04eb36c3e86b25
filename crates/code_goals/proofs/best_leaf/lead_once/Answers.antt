use Rattle.std.proofs.Common.{◌≡◌, ℕ, pos, false, true, refl, ap, sym, ◌∙◌, subst, rules, w64, to_z, of_z}
use Rattle.fd_language.specs.Term.{Var}
use Rattle.heap_cells.specs.declared.Cell.TheVariants as cell
use Rattle.heap_cells.specs.Terms.{term_of}
use Rattle.branch_goals.specs.Labels as list
use Rattle.wam_code.specs.declared.instruction.Code.TheVariants as step
use Rattle.code_safety.specs.CellEquations.{Equates}
use Rattle.code_safety.proofs.Lemmas.{within_code, same_cells}
use Rattle.code_goals.specs.declared.goal_outcomes.Next.TheVariants.{On}
use Rattle.code_goals.specs.BestLeaf.{value_for, IsThere}
use Rattle.code_goals.specs.GoalOutcomes.{IsSafeNext, LeadsNext}
use Rattle.code_goals.specs.Tasks.{names_of}
use Rattle.code_goals.proofs.Labelling.{list_naming}
use Rattle.code_goals.proofs.BestLeaf.{there_done, there_fault, value_led, value_fits}
use Rattle.code_goals.proofs.GoalSafety.{on_same, moved_safe, goes_back}
use Rattle.code_goals.proofs.best_leaf.lead_once.Goals as goal

pub label-requires-clause-list : goal.label-requires-clause-list
label-requires-clause-list g c = c.requires.safe.here.registers_own 1 c.args.list c.requires.list

pub behind-requires : goal.behind-requires
behind-requires g c = within_code c.args.code.now c.args.at (step.Best c.args.order c.args.least) c.requires.holds

pub equate-requires-clause-own_a : goal.equate-requires-clause-own_a
equate-requires-clause-own_a g c =
    let told = subst (list.Labels (names_of c.args.code.now) c.args.branch.now c.args.order c.args.list) c.in-Takes.is
    (c.label.ensures (names_of c.args.code.now) (list_naming c.args.code.now c.pool_of.ensures.valid)) in
    (told.1, tt)

pub returns-in-Done-clause-safe : goal.returns-in-Done-clause-safe
returns-in-Done-clause-safe g c =
    subst (λ n. IsSafeNext c.args.code.now c.args.branch.now c.args.areas.now (On n)) (sym c.behind.ensures)
    (on_same c.args.code.now c.args.branch.now c.args.at c.args.areas.now (step.Best c.args.order c.args.least) 2 c.requires.safe c.requires.holds (λ t. refl) refl)

pub returns-in-Done-clause-leads : goal.returns-in-Done-clause-leads
returns-in-Done-clause-leads g c =
    let told = subst (list.Labels (names_of c.args.code.now) c.args.branch.now c.args.order c.args.list) c.in-Done.is
    (c.label.ensures (names_of c.args.code.now) (list_naming c.args.code.now c.pool_of.ensures.valid)) in
    subst (λ n. ((most : ℕ) → IsThere c.args.code.now c.args.branch.now c.args.at c.args.areas.now c.args.order c.args.least c.args.values.now c.args.branch.now
    most (On n)) × LeadsNext c.args.at (On n)) (sym c.behind.ensures)
    (there_done c.args.code.now c.pool_of.ensures.valid c.args.branch.now c.args.at c.args.areas.now c.requires.safe c.args.order c.args.least c.args.list c.requires.list c.args.values.now told, refl)

pub returns-in-Fault-clause-leads : goal.returns-in-Fault-clause-leads
returns-in-Fault-clause-leads g c =
    let told = subst (list.Labels (names_of c.args.code.now) c.args.branch.now c.args.order c.args.list) c.in-Fault.is
    (c.label.ensures (names_of c.args.code.now) (list_naming c.args.code.now c.pool_of.ensures.valid)) in (
      there_fault c.args.code.now c.pool_of.ensures.valid c.args.branch.now c.args.at c.args.areas.now c.requires.safe c.args.order c.args.least c.args.list
          c.requires.list c.args.values.now c.in-Fault.fault told,
      tt,
    )

pub returns-then-branch-clause-safe : goal.returns-then-branch-clause-safe
returns-then-branch-clause-safe g c =
    let below = c.in_ok-equate-in-Takes.ensures.same in
    let e = subst (Equates c.args.branch.now (cell.Ref c.in-Takes.variable) (cell.Int (to_z w64 (of_z w64 c.from.result))) c.equate.new.branch) c.if-branch.true
    c.in_ok-equate-in-Takes.ensures.equates in
    moved_safe c.args.code.now c.args.branch.now c.args.at c.args.areas.now c.requires.safe c.equate.new.branch below e.sound (same_cells c.args.branch.now c.equate.new.branch below.atoms e.size)

pub returns-then-branch-clause-leads : goal.returns-then-branch-clause-leads
returns-then-branch-clause-leads g c =
    let told = subst (list.Labels (names_of c.args.code.now) c.args.branch.now c.args.order c.args.list) c.in-Takes.is
    (c.label.ensures (names_of c.args.code.now) (list_naming c.args.code.now c.pool_of.ensures.valid)) in
    let fits : to_z w64 (of_z w64 c.from.result) ≡ pos c.value_for.result = search rules in
    let number : to_z w64 (of_z w64 c.from.result) ≡ pos (value_for c.args.values.now c.in-Takes.variable) = fits ∙ ap pos c.value_for.ensures in
    let e = subst (λ z. Equates c.args.branch.now (cell.Ref c.in-Takes.variable) (cell.Int z) c.equate.new.branch true) number
    (subst (Equates c.args.branch.now (cell.Ref c.in-Takes.variable) (cell.Int (to_z w64 (of_z w64 c.from.result))) c.equate.new.branch) c.if-branch.true c.in_ok-equate-in-Takes.ensures.equates) in
    value_led c.args.code.now c.pool_of.ensures.valid c.args.branch.now c.args.at c.args.areas.now c.requires.safe c.args.order c.args.least c.args.list
    c.requires.list c.args.values.now c.in-Takes.variable told.0 told.2 c.equate.new.branch c.in_ok-equate-in-Takes.ensures.same e

pub returns-else-branch-clause-safe : goal.returns-else-branch-clause-safe
returns-else-branch-clause-safe g c =
    let e = subst (Equates c.args.branch.now (cell.Ref c.in-Takes.variable) (cell.Int (to_z w64 (of_z w64 c.from.result))) c.equate.new.branch)
    c.if-branch.false c.in_ok-equate-in-Takes.ensures.equates in
    goes_back c.args.code.now c.args.branch.now c.args.at c.args.areas.now c.requires.safe c.equate.new.branch c.in_ok-equate-in-Takes.ensures.same e.1

pub returns-else-branch-clause-leads : goal.returns-else-branch-clause-leads
returns-else-branch-clause-leads g c =
    let told = subst (list.Labels (names_of c.args.code.now) c.args.branch.now c.args.order c.args.list) c.in-Takes.is
    (c.label.ensures (names_of c.args.code.now) (list_naming c.args.code.now c.pool_of.ensures.valid)) in
    let fits : to_z w64 (of_z w64 c.from.result) ≡ pos c.value_for.result = search rules in
    let number : to_z w64 (of_z w64 c.from.result) ≡ pos (value_for c.args.values.now c.in-Takes.variable) = fits ∙ ap pos c.value_for.ensures in
    let e = subst (λ z. Equates c.args.branch.now (cell.Ref c.in-Takes.variable) (cell.Int z) c.equate.new.branch false) number
    (subst (Equates c.args.branch.now (cell.Ref c.in-Takes.variable) (cell.Int (to_z w64 (of_z w64 c.from.result))) c.equate.new.branch) c.if-branch.false c.in_ok-equate-in-Takes.ensures.equates) in (
      value_fits c.args.code.now c.pool_of.ensures.valid c.args.branch.now c.args.at c.args.areas.now c.requires.safe c.args.order c.args.least c.args.list
          c.requires.list c.args.values.now c.in-Takes.variable told.0 told.2 c.equate.new.branch e.0,
      tt,
    )
