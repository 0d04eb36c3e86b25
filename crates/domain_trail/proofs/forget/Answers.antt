use Rattle.std.proofs.Common.{arith}
use Rattle.domain_trail.proofs.ForgottenCells.{sifting_out, sifting_in}
use Rattle.domain_trail.proofs.forget.Goals.{then-index-stamp, else-index-stamp}
use Rattle.domain_trail.proofs.forget.Goals as goal

pub sifting-preserved : goal.sifting-preserved
sifting-preserved c = elim c.if-index-stamp.branch [
  | then-index-stamp w ↦ rw (w.saved-is, w.kept-is) (sifting_in c.args.from c.args.stamp c.args.saved.now.items c.sifting.saved.items w.swap.new.self.items
      c.sifting.kept c.sifting.place c.index.result.now c.sifting.invariant (omega (arith, c.sifting-test.true, c.len.ensures)) c.index.ensures
      w.if-index-stamp.true w.swap.ensures.by_index)
  | else-index-stamp w ↦ rw (w.saved-is, w.kept-is) (sifting_out c.args.from c.args.stamp c.args.saved.now.items c.sifting.saved.items c.sifting.kept
      c.sifting.place c.index.result.now c.sifting.invariant (omega (arith, c.sifting-test.true, c.len.ensures)) c.index.ensures w.if-index-stamp.false)
]
