use Rattle.std.proofs.Common.{◌∙◌, sym}
use Rattle.answer_check.proofs.Spellings.{put_alone_is}
use Rattle.answer_check.proofs.sides.Spelling.put_alone.Goals as goal

pub returns : goal.returns
returns c = λ e spelled width es h.
    let r = put_alone_is e es c.args.node c.args.most c.args.is_ground c.in-Some.width c.args.self.now.nodes.items c.push.new.self.items
    c.args.self.now.widths.items c.push-2.new.self.items spelled width
    (sym c.narrow.ensures ∙ c.in-Some.is) c.in_ok-push.ensures.items c.in_ok-push-2.ensures.items h.nodes h.widths in
    (r.terms, r.is, record { nodes = r.nodes_are; widths = r.widths_are })
