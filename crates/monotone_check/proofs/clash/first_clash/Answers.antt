use Rattle.std.proofs.Common.{get_or, refl, ap, nat_eq, []}
use Rattle.std.specs.List.{list_any}
use Rattle.monotone_check.proofs.Clashes.{loop_step, loop_end}
use Rattle.monotone_check.proofs.clash.first_clash.Goals as goal

pub returns : goal.returns
returns c =
    loop_end (λ n. get_or c.args.places.now n 0) c.loop-number.number c.args.nodes.now c.loop-number.clash _
    c.loop-number.uses.parameters.keys c.loop-number.uses.named.keys c.loop-number-test.false c.loop-number.invariant

pub loop-number-preserved : goal.loop-number-preserved
loop-number-preserved c =
    loop_step (λ n. get_or c.args.places.now n 0) c.loop-number.number c.args.nodes.now _ _ c.loop-number.clash c.in_ok-meet_node.field-0 c.earlier-clash.result _
    c.loop-number.uses.parameters.keys c.loop-number.uses.named.keys c.meet_node.new.self.parameters.keys c.meet_node.new.self.named.keys
    c.loop-number-test.true refl c.loop-number.invariant c.in_ok-meet_node.ensures c.earlier-clash.ensures

pub loop-number-init : goal.loop-number-init
loop-number-init c = ([], [], λ z. ap (list_any (nat_eq z)) c.new.ensures.empty, λ z. ap (list_any (nat_eq z)) c.new-2.ensures.empty, refl)
