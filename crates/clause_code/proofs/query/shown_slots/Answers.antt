use Rattle.std.proofs.Common.{get_or, set, ap, arith, refl}
use Rattle.clause_code.proofs.QueryCode.{given_next, shown_next}
use Rattle.clause_code.proofs.query.shown_slots.Goals as goal

pub loop-x-preserved : goal.loop-x-preserved
loop-x-preserved c =
    let k = c.loop-x.invariant in
    let x = get_or c.args.shown.now c.loop-x.x-index 0 in
    let below = c.requires.below c.loop-x.x-index 0 c.loop-x-test.true in
    let e = k.next in
    record {
      given = given_next c.args.variables c.loop-x.next x c.loop-x.slots.items _ k.given below refl;
      shown = shown_next c.args.variables c.loop-x.x-index c.args.shown.now c.loop-x.slots.items _ c.requires.once c.loop-x-test.true (let g = k.given in
          g.long) below k.shown (ap (λ n. set c.loop-x.slots.items x n) e);
      next = omega (arith, e);
    }
