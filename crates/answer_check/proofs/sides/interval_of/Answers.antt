use Rattle.std.proofs.Common.{rules, ◌≡◌, ◌∙◌, sym, ap, is_none, false}
use Rattle.fd_language.specs.declared.range_node.RangeNode.TheVariants as node
use Rattle.answer_check.specs.Sides.{joined_width}
use Rattle.answer_check.proofs.Spellings.{interval_made}
use Rattle.answer_check.proofs.sides.interval_of.Goals as goal

pub returns : goal.returns
returns c = λ d e h.
    let none : c.is_none.result ≡ is_none c.joined.result = search rules in
    let some : is_none (joined_width node.Sub c.in-Some-pop.left c.in-Some.right) ≡ false = ap is_none (sym c.joined.ensures) ∙ sym none ∙ c.if-is_none.false in
    interval_made d e c.in-Some-pop.left c.in-Some.right c.args.made.nodes.items c.push.new.self.items c.args.made.widths.items c.pop.new.self.items c.pop-2.new.self.items c.from_nodes.result
    c.in-Some.ensures.items c.in-Some-pop.ensures.items some c.in_ok-push.ensures.items h.nodes h.widths c.from_nodes.ensures
