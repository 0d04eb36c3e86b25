use Rattle.std.proofs.Common.{◌≡◌, drop}
use Rattle.std.specs.List.{list_any}
use Rattle.fd_language.specs.Range.{is_several}
use Rattle.range_code.specs.Frames.{slot_set}
use Rattle.range_code.proofs.frame.is_some_open.Given as goal

abbrev pub invariant-loop-slot : goal.invariant-loop-slot
invariant-loop-slot g l = list_any (λ s. is_several (slot_set (g.V.View.sets l.view) l.args s)) l.slots ≡ list_any
    (λ s. is_several (slot_set (g.V.View.sets l.view) l.args s)) (drop l.slot-index l.slots)
