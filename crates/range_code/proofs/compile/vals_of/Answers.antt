use Rattle.std.proofs.Common.{nat_eq, ◌∙◌, ap, sym}
use Rattle.std.specs.List.{list_any}
use Rattle.range_code.proofs.KeptSlots.{kept_put, kept_left}
use Rattle.range_code.proofs.compile.vals_of.Goals.{then-contains+in_ok-push, else-contains}
use Rattle.range_code.proofs.compile.vals_of.Goals as goal

pub loop-slot-preserved : goal.loop-slot-preserved
loop-slot-preserved c = elim c.if-contains.branch [
  | then-contains+in_ok-push w ↦ kept_put (λ s. list_any (nat_eq s) c.args.val.now.keys) c.loop-slot.slot-counter c.loop-slot.vals.items
      c.if-contains.vals.items c.loop-slot.invariant (sym c.contains.ensures ∙ w.if-contains.true) (ap (λ v. v.items) w.vals-is ∙ w.in_ok-push.ensures.items)
  | else-contains w ↦ ap (λ v. v.items) w.vals-is ∙ kept_left (λ s. list_any (nat_eq s) c.args.val.now.keys) c.loop-slot.slot-counter c.loop-slot.vals.items
      c.loop-slot.invariant (sym c.contains.ensures ∙ w.if-contains.false)
]
