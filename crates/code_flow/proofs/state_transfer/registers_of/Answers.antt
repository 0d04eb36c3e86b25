use Rattle.std.proofs.Common.{rules, ◌<◌, ◌∷◌, [], length, refl, ap, arith, length-append}
use Rattle.std.proofs.lemmas.Option.{slice_get_read}
use Rattle.code_flow.proofs.DistinctRegisters.{none_same, one_more}
use Rattle.code_flow.proofs.state_transfer.registers_of.Goals as goal

pub loop-at-init : goal.loop-at-init
loop-at-init c = record {
  size = search rules;
  same = none_same c.args.states.now _ (search rules);
}

pub loop-at-preserved : goal.loop-at-preserved
loop-at-preserved c =
    let ss = c.args.states.now in
    let at = c.loop-at.at in
    let s = c.index-states-at.result in
    let low : at < length ss = search rules in
    let here = slice_get_read ss (length ss) at s refl low c.index-states-at.is in
    record {
      size = omega (arith, ap length c.in_ok-push.ensures.items, length-append c.loop-at.registers.items (c.in_ok-once.once ∷ []));
      same = one_more ss c.loop-at.registers.items c.push.new.self.items at s c.in_ok-once.once c.loop-at.invariant.size here c.in_ok-once.ensures c.in_ok-push.ensures.items c.loop-at.invariant.same;
    }

pub returns : goal.returns
returns c = record { size = omega (arith, c.loop-at.invariant.size, c.loop-at-test.false); same = c.loop-at.invariant.same }
