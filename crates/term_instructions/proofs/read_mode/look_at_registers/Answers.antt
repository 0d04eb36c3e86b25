use Rattle.std.proofs.Common.{◌≡◌, ◌-◌, length, [], refl, subst, arith}
use Rattle.std.proofs.lemmas.List.Elements.{All-nil}
use Rattle.branch_state.specs.Steps.{IsTouchBelow}
use Rattle.code_safety.specs.Safety.{IsSafe}
use Rattle.term_instructions.specs.declared.read_mode.ReadPosition.{ReadPosition}
use Rattle.term_instructions.proofs.ReadSteps.{read_start, read_both, read_all, one_taken, none_taken}
use Rattle.term_instructions.proofs.UnifyInstructions.{place_within}
use Rattle.term_instructions.proofs.read_mode.look_at_registers.Goals as goal

pub returns-then-cells-ne2 : goal.returns-then-cells-ne2
returns-then-cells-ne2 g c =
    let whole : length c.args.cells.now ≡ length c.args.cells.now - 0 = omega arith in
    read_start c.args.code.now c.args.cells.now c.args.branch.now [] (record { at = c.args.at; next = 0 }) c.args.areas.now
    (subst (λ k. IsSafe c.args.code.now c.args.branch.now c.args.at k c.args.areas.now) whole c.requires.safe) (omega arith) c.requires.own
    (All-nil (IsTouchBelow _))

pub look_at_register-requires : goal.look_at_register-requires
look_at_register-requires g c =
    let whole : length c.args.cells.now ≡ length c.args.cells.now - 0 = omega arith in
    record { safe = subst (λ k. IsSafe c.args.code.now c.args.branch.now c.args.at k c.args.areas.now) whole c.requires.safe; more = omega arith; own = c.requires.own }

pub returns-then-not-branch : goal.returns-then-not-branch
returns-then-not-branch g c =
    let whole : length c.args.cells.now ≡ length c.args.cells.now - 0 = omega arith in
    let first : ReadPosition = record { at = c.args.at; next = 0 } in
    none_taken c.args.code.now c.args.cells.now c.args.branch.now first first c.args.areas.now c.args.areas.now c.look_at_register.new.areas
    c.in_ok-look_at_register.field-0 c.if-not-branch.true c.in_ok-look_at_register.ensures
    (read_start c.args.code.now c.args.cells.now c.args.branch.now [] first c.args.areas.now
    (subst (λ k. IsSafe c.args.code.now c.args.branch.now c.args.at k c.args.areas.now) whole c.requires.safe) (omega arith) c.requires.own
    (All-nil (IsTouchBelow _)))

pub behind-middle-requires : goal.behind-middle-requires
behind-middle-requires g c = place_within c.args.code.now c.args.branch.now c.args.at _ c.args.areas.now c.requires.safe

pub look_at_register-requires-2 : goal.look_at_register-requires-2
look_at_register-requires-2 g c =
    let first : ReadPosition = record { at = c.args.at; next = 0 } in
    let second : ReadPosition = record { at = c.behind-middle.result; next = 1 } in
    let one = one_taken c.args.code.now c.args.cells.now c.args.branch.now first c.args.areas.now c.look_at_register.new.areas c.in_ok-look_at_register.field-0
    c.if-not-branch.false c.in_ok-look_at_register.ensures second c.behind-middle.ensures refl in
    record { safe = one.safe; more = omega arith; own = one.own }

pub returns-then-not-branch-2 : goal.returns-then-not-branch-2
returns-then-not-branch-2 g c =
    let first : ReadPosition = record { at = c.args.at; next = 0 } in
    let second : ReadPosition = record { at = c.behind-middle.result; next = 1 } in
    let one = one_taken c.args.code.now c.args.cells.now c.args.branch.now first c.args.areas.now c.look_at_register.new.areas c.in_ok-look_at_register.field-0
    c.if-not-branch.false c.in_ok-look_at_register.ensures second c.behind-middle.ensures refl in
    none_taken c.args.code.now c.args.cells.now c.args.branch.now first second c.args.areas.now c.look_at_register.new.areas c.look_at_register-2.new.areas
    c.in_ok-look_at_register-2.field-0 c.if-not-branch-2.true c.in_ok-look_at_register-2.ensures one

pub behind-requires : goal.behind-requires
behind-requires g c =
    let first : ReadPosition = record { at = c.args.at; next = 0 } in
    let second : ReadPosition = record { at = c.behind-middle.result; next = 1 } in
    let one = one_taken c.args.code.now c.args.cells.now c.args.branch.now first c.args.areas.now c.look_at_register.new.areas c.in_ok-look_at_register.field-0
    c.if-not-branch.false c.in_ok-look_at_register.ensures second c.behind-middle.ensures refl in
    place_within c.args.code.now c.args.branch.now c.behind-middle.result _ c.look_at_register.new.areas one.safe

pub returns : goal.returns
returns g c =
    let first : ReadPosition = record { at = c.args.at; next = 0 } in
    let second : ReadPosition = record { at = c.behind-middle.result; next = 1 } in
    let third : ReadPosition = record { at = c.behind.result; next = 2 } in
    let one = one_taken c.args.code.now c.args.cells.now c.args.branch.now first c.args.areas.now c.look_at_register.new.areas c.in_ok-look_at_register.field-0
    c.if-not-branch.false c.in_ok-look_at_register.ensures second c.behind-middle.ensures refl in
    let two = one_taken c.args.code.now c.args.cells.now c.args.branch.now second c.look_at_register.new.areas c.look_at_register-2.new.areas
    c.in_ok-look_at_register-2.field-0 c.if-not-branch-2.false c.in_ok-look_at_register-2.ensures third c.behind.ensures refl in
    read_all c.args.code.now c.args.cells.now c.args.branch.now [] first c.args.areas.now c.args.branch.now [] third c.look_at_register-2.new.areas
    (read_both c.args.code.now c.args.cells.now c.args.branch.now [] first c.args.areas.now c.args.branch.now [] second c.look_at_register.new.areas one
    c.args.branch.now [] third c.look_at_register-2.new.areas two) (omega arith)
