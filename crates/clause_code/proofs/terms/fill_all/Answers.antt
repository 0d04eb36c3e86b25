use Rattle.std.proofs.Common.{◌∙◌, ap, length}
use Rattle.clause_code.proofs.UnmadeVariables.{marked_long}
use Rattle.clause_code.proofs.Rests.{fills_next, filled_next}
use Rattle.clause_code.proofs.terms.fill_all.Goals as goal

pub loop-x-preserved : goal.loop-x-preserved
loop-x-preserved c =
    let k = c.loop-x.invariant in
    let w = c.in_ok-fill_one.ensures in record {
      codes = fills_next c.args.homes.now c.args.scratch c.args.code.now.items c.loop-x.code.items c.fill_one.new.code.items c.args.made.now.items
          c.loop-x.made.items c.loop-x.x k.codes k.marks w.codes;
      marks = filled_next c.args.made.now.items c.loop-x.made.items c.fill_one.new.made.items c.loop-x.x k.marks w.marks;
      long = ap length w.marks ∙ marked_long c.loop-x.made.items c.loop-x.x ∙ k.long;
    }
