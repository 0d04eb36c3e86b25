use Rattle.std.proofs.Common.{◌≡◌, ◌∙◌, ◌-◌, suc, map, set, Some, option_map, sym, ap, subst, arith}
use Rattle.std.proofs.lemmas.List.{map-set}
use Rattle.wam_code.specs.Area.{State}
use Rattle.wam_code.specs.Effect.{with_level, with_mark}
use Rattle.code_listing.specs.declared.states.Slot.TheVariants.{Level}
use Rattle.code_listing.specs.States.{slot_of}
use Rattle.code_flow.proofs.StateEquivalence.{with_frame}
use Rattle.code_flow.proofs.state_transfer.Handed.mark.Goals as goal

pub returns : goal.returns
returns c =
    let n = c.args.number in
    let xs = c.in-Some.slots.items in
    let old : State = record { regs = c.self.inside.regs.keys; frame = option_map (λ v. map slot_of v.items) c.self.inside.frame; owed = c.self.inside.owed } in
    let new : State = record { regs = c.self.inside.regs.keys; frame = Some (map slot_of (set xs (n - 1) Level)); owed = c.self.inside.owed } in
    let is : suc (n - 1) ≡ n = omega arith in
    let changed : Some (map slot_of (set xs (n - 1) Level)) ≡ option_map (with_mark n) old.frame =
    ap (λ l. Some l) (map-set slot_of xs (n - 1) Level) ∙ ap (λ k. Some (with_mark k (map slot_of xs))) is
    ∙ ap (λ f. option_map (with_mark n) (option_map (λ v. map slot_of v.items) f)) (sym c.in-Some.is) in
    let here : new ≡ with_level old n = ap (with_frame old) changed in
    subst (λ (s : State). new ≡ with_level s n) c.self.view_is here
