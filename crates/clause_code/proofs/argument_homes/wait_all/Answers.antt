use Rattle.std.proofs.Common.{get_or, length, sym, subst, arith, add-one}
use Rattle.clause_code.specs.SimpleGoals.{IsOwn}
use Rattle.clause_code.proofs.ArgumentHomes.{all_own, head_next}
use Rattle.clause_code.proofs.argument_homes.wait_all.Goals as goal

pub wait_argument-requires-clause-own : goal.wait_argument-requires-clause-own
wait_argument-requires-clause-own c =
    let w = c.loop-id.invariant.waiting in
    let m = w.back in
    let own = all_own c.args.pool.now (length c.args.homes.now.items) c.args.ids.now c.requires.own c.requires.suits c.loop-id.id-index (record { number = 0 }) c.loop-id-test.true in
    subst (λ v. IsOwn c.args.pool.now v (get_or c.args.ids.now c.loop-id.id-index (record { number = 0 }))) (sym m.long) own

pub loop-id-preserved : goal.loop-id-preserved
loop-id-preserved c =
    let w = c.in_ok-wait_argument.ensures in
    let e = c.loop-id.invariant.register in record {
      waiting =
          head_next c.args.pool.now (length c.args.ids.now) c.args.first c.args.ids.now c.args.homes.now.items c.loop-id.homes.items
          c.wait_argument.new.homes.items c.loop-id.register _ c.loop-id.id-index (record { number = 0 }) c.requires.behind c.loop-id-test.true
          (add-one c.loop-id.register) w.back w.waits
          c.loop-id.invariant.waiting;
      register = omega (arith, e);
      terms = w.done;
    }
