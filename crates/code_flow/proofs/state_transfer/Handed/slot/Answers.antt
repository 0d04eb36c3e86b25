use Rattle.std.proofs.Common.{rules, ◌≡◌, ◌∙◌, ◌-◌, ◌<◌, suc, map, length, Some, option_map, sym, ap, arith}
use Rattle.wam_code.specs.Area.{State}
use Rattle.wam_code.specs.Effect.{slot_at}
use Rattle.code_listing.specs.States.{slot_of}
use Rattle.code_flow.proofs.Registers.{slot_there, slot_past}
use Rattle.code_flow.proofs.state_transfer.Handed.slot.Goals as goal

pub returns-then-number-len : goal.returns-then-number-len
returns-then-number-len c =
    let n = c.args.number in
    let xs = c.in-Some.slots.items in
    let is : suc (n - 1) ≡ n = omega arith in
    let low : n - 1 < length xs = search rules in
    ap (λ s. Some (slot_of s)) c.index.ensures ∙ slot_there xs (n - 1) c.index.result.now low ∙ ap (slot_at (Some (map slot_of xs))) is
    ∙ ap (λ f. slot_at (option_map (λ v. map slot_of v.items) f) n) (sym c.in-Some.is) ∙ ap (λ (s : State). slot_at s.frame n) c.self.view_is

pub returns-else-number-len : goal.returns-else-number-len
returns-else-number-len c =
    let n = c.args.number in
    let xs = c.in-Some.slots.items in
    let high : length xs < n = search rules in
    slot_past xs n high ∙ ap (λ f. slot_at (option_map (λ v. map slot_of v.items) f) n) (sym c.in-Some.is) ∙ ap (λ (s : State). slot_at s.frame n) c.self.view_is
