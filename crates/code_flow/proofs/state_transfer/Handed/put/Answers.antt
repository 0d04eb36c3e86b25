use Rattle.std.proofs.Common.{◌≡◌, ◌∙◌, ◌-◌, suc, map, set, Some, option_map, refl, sym, ap, subst, arith}
use Rattle.std.proofs.lemmas.List.{map-set}
use Rattle.wam_code.specs.declared.instruction.Register.{Register}
use Rattle.wam_code.specs.declared.instruction.Register.TheVariants.{X, Y}
use Rattle.wam_code.specs.Area.{State}
use Rattle.wam_code.specs.Effect.{with_set, with_cell}
use Rattle.code_listing.specs.declared.states.Slot.TheVariants.{Cell}
use Rattle.code_flow.specs.StateTransfer.{IsSame}
use Rattle.code_listing.specs.States.{slot_of}
use Rattle.code_flow.proofs.StateEquivalence.{inserted}
use Rattle.code_flow.proofs.state_transfer.Handed.put.Goals as goal

pub returns-in_ok-insert_full-in-X : goal.returns-in_ok-insert_full-in-X
returns-in_ok-insert_full-in-X c =
    let frame = option_map (λ v. map slot_of v.items) c.self.inside.frame in
    let old : State = record { regs = c.self.inside.regs.keys; frame = frame; owed = c.self.inside.owed } in
    let new : State = record { regs = c.insert_full.new.self.keys; frame = frame; owed = c.self.inside.owed } in
    let here : IsSame new (with_set old (X c.in-X.number)) = record {
      frame = refl;
      owed = refl;
      regs = inserted c.self.inside.regs.keys c.insert_full.new.self.keys c.in-X.number c.in_ok-insert_full-in-X.ensures.updates.0;
    } in
    subst (λ (s : State). IsSame new (with_set s c.args.register)) c.self.view_is (subst (λ (r : Register). IsSame new (with_set old r)) (sym c.in-X.is) here)

pub returns-then-number-len : goal.returns-then-number-len
returns-then-number-len c =
    let n = c.in-Y.number in
    let xs = c.in-Some.slots.items in
    let old : State = record { regs = c.self.inside.regs.keys; frame = option_map (λ v. map slot_of v.items) c.self.inside.frame; owed = c.self.inside.owed } in
    let new : State = record { regs = c.self.inside.regs.keys; frame = Some (map slot_of (set xs (n - 1) Cell)); owed = c.self.inside.owed } in
    let is : suc (n - 1) ≡ n = omega arith in
    let changed : Some (map slot_of (set xs (n - 1) Cell)) ≡ option_map (with_cell n) old.frame =
    ap (λ l. Some l) (map-set slot_of xs (n - 1) Cell) ∙ ap (λ k. Some (with_cell k (map slot_of xs))) is
    ∙ ap (λ f. option_map (with_cell n) (option_map (λ v. map slot_of v.items) f)) (sym c.in-Some.is) in
    let here : IsSame new (with_set old (Y n)) = record { frame = changed; owed = refl; regs = λ m. refl } in
    subst (λ (s : State). IsSame new (with_set s c.args.register)) c.self.view_is (subst (λ (r : Register). IsSame new (with_set old r)) (sym c.in-Y.is) here)
