use Rattle.std.proofs.Common.{◌∙◌, ap, map, refl}
use Rattle.fd_language.specs.PostfixRanges.{nodes_of}
use Rattle.fd_language.specs.Needs.{needs}
use Rattle.range_code.specs.ParameterNeeds.{need_in}
use Rattle.range_code.proofs.CompiledRanges.{shaped}
use Rattle.range_code.proofs.Shape.new.Goals as goal

pub returns : goal.returns
returns c =
    let slots = c.in_ok-put.put.slots.items in
    let k = shaped c.args.c.now c.nodes.result.now slots slots (needs c.args.c.now) c.in_ok-put.put.nodes.items c.in_ok-needs.needs.items
    (c.nodes.ensures ∙ ap nodes_of c.range.ensures.range) c.in_ok-put.ensures.slots c.in_ok-put.ensures.slots c.in_ok-put.ensures.nodes refl
    (c.in_ok-needs.ensures ∙ ap (map (need_in (needs c.args.c.now))) c.deref.ensures.value) in
    record { slots = k.0; needs = k.1; nodes = k.2 }
