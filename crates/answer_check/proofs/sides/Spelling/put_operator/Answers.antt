use Rattle.std.proofs.Common.{◌∙◌, sym}
use Rattle.answer_check.proofs.Spellings.{put_operator_is}
use Rattle.answer_check.proofs.sides.Spelling.put_operator.Goals as goal

pub returns : goal.returns
returns c = λ es h.
    let r = put_operator_is c.args.node es c.in-Some-pop.left c.in-Some.right c.in-Some-joined.width c.args.self.now.nodes.items c.push.new.self.items
    c.args.self.now.widths.items c.pop.new.self.items c.pop-2.new.self.items c.push-2.new.self.items c.requires
    c.in-Some.ensures.items c.in-Some-pop.ensures.items (sym c.joined.ensures ∙ c.in-Some-joined.is) c.in_ok-push.ensures.items c.in_ok-push-2.ensures.items h.nodes h.widths in
    (r.terms, r.is, record { nodes = r.nodes_are; widths = r.widths_are })
