use Rattle.std.proofs.Common.{ap, subst, sym, ◌∙◌, refl}
use Rattle.branch_state.specs.States as branch
use Rattle.branch_state.specs.States.{with_heap}
use Rattle.wam_code.specs.declared.instruction.Code.TheVariants.{PutVariable}
use Rattle.code_safety.specs.Safety.{IsSafeThen}
use Rattle.code_safety.specs.RepresentedBranch.{KeepsStanding}
use Rattle.code_safety.specs.declared.instruction_outcomes.Went.TheVariants.{On}
use Rattle.code_safety.proofs.Lemmas.{within_code, put_variable_stands, behind_both, below_heap}
use Rattle.term_instructions.proofs.Steps.{led_on, put_variable_needs, put_variable_safe}
use Rattle.term_instructions.proofs.puts.put_variable.Goals as goal

pub new_var-requires : goal.new_var-requires
new_var-requires g c = record { sound = c.requires.safe.sound }

pub write-requires : goal.write-requires
write-requires g c = put_variable_needs c.args.code.now c.args.branch.now c.args.at c.args.areas.now c.requires.safe c.args.r c.args.a c.requires.holds

pub behind-requires : goal.behind-requires
behind-requires g c = within_code c.args.code.now c.args.at (PutVariable c.args.r c.args.a) c.requires.holds

pub returns-clause-safe : goal.returns-clause-safe
returns-clause-safe g c =
    let v = c.in_ok-cell.ensures in
    let w = c.in_ok-write.ensures in
    let w' = c.in_ok-write-2.ensures in
    subst (λ to. IsSafeThen c.args.code.now c.new_var.new.self c.write-2.new.areas (On to)) (sym c.behind.ensures)
    (put_variable_safe c.args.code.now c.args.branch.now c.args.at c.args.areas.now c.requires.safe c.args.r c.args.a c.requires.holds c.new_var.new.self
    v.added v.sound c.in_ok-cell.cell v.id c.write.new.areas c.write-2.new.areas w.written w.same w.slots w'.written w'.same w'.slots)

pub returns-clause-stands : goal.returns-clause-stands
returns-clause-stands g c =
    let v = c.in_ok-cell.ensures in
    let w = c.in_ok-write.ensures in
    let w' = c.in_ok-write-2.ensures in
    subst (λ to. KeepsStanding c.args.code.now c.args.branch.now c.args.at c.args.areas.now c.new_var.new.self c.write-2.new.areas (On to)) (sym c.behind.ensures)
    (put_variable_stands c.args.code.now c.args.branch.now c.args.at c.args.areas.now c.requires.safe c.args.r c.args.a c.requires.holds c.new_var.new.self
    v.added c.in_ok-cell.cell v.id c.write.new.areas c.write-2.new.areas w.written w.same w'.written w'.same)

pub returns-clause-behind : goal.returns-clause-behind
returns-clause-behind g c = behind_both c.args.areas.now c.write.new.areas c.write-2.new.areas c.in_ok-write.ensures.same c.in_ok-write-2.ensures.same

pub returns-clause-below : goal.returns-clause-below
returns-clause-below g c =
    let e = c.in_ok-cell.ensures.added in
    below_heap c.args.branch.now c.new_var.new.self (e ∙ ap (with_heap c.args.branch.now) (sym (ap (λ (t : branch.State). t.heaps.now) e)))

pub returns-clause-leads : goal.returns-clause-leads
returns-clause-leads g c = led_on c.args.code.now c.args.branch.now c.args.at c.args.areas.now c.requires.safe (PutVariable c.args.r c.args.a) c.requires.holds refl c.behind.result c.behind.ensures
