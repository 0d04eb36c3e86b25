use Rattle.std.proofs.Common.{◌≡◌, ap, nat_eq, ◌∙◌, arith}
use Rattle.std.specs.List.{position_or_len}
use Rattle.monotone_check.specs.PlaceNeeds.{told}
use Rattle.monotone_check.specs.JoinedNeeds.{put}
use Rattle.monotone_check.proofs.NeedLoops.{gather_start, gather_step, gathered_keys, one_less}
use Rattle.monotone_check.proofs.strongest_needs.gather.Goals as goal

pub loop-left-init : goal.loop-left-init
loop-left-init c = gather_start c.in_ok-asked.asked.items c.len-left.result (told 0 c.args.places.now) c.new-variables.result.keys c.new-needs.result.items
    (omega (arith, c.len-left.ensures)) c.new-variables.ensures.empty c.new-needs.ensures.items c.in_ok-asked.ensures

pub loop-left-preserved : goal.loop-left-preserved
loop-left-preserved c =
    let put_here : c.join.new.needs.items ≡ put c.loop-left.needs.items c.index.result.now.0 c.index.result.now.1 =
    c.in_ok-join.ensures (c.in_ok-number.ensures.index ∙ ap (position_or_len (nat_eq c.index.result.now.0)) c.loop-left.invariant.1) in (
      one_less c.loop-left.left _ c.loop-left.invariant.0,
      gathered_keys c.loop-left.variables.keys c.insert_full.new.self.keys c.loop-left.needs.items c.join.new.needs.items c.index.result.now.0
          c.index.result.now.1 c.loop-left.invariant.1 c.in_ok-number.ensures.keys put_here,
      gather_step c.in_ok-asked.asked.items c.index.result.now c.index.result.now c.loop-left.left c.loop-left.needs.items c.join.new.needs.items _
          c.loop-left-test.true c.loop-left.invariant.0 c.index.ensures put_here c.loop-left.invariant.2,
    )
