use Rattle.std.proofs.Common.{◌∙◌, ◌-◌, refl, ap, take, ℕ}
use Rattle.term_reader.specs.declared.parser.Item.TheVariants as its
use Rattle.term_reader.proofs.OpenBrackets.{on_top, moves_curly}
use Rattle.term_reader.proofs.parser.Parser.end_curly.Goals as goal

pub returns : goal.returns
returns c =
    let o = on_top c.args.self.now (its.Curly c.args.place) c.requires.whole c.requires.top in
    moves_curly c.args.self.now _ c.args.inner c.in_ok-term.term c.args.place c.requires.whole o c.in_ok-term.ensures refl
    (c.pop.ensures.rest ∙ ap (λ (n : ℕ). take (n - 1) c.args.self.now.items.items) c.args.self.now.items.ok.0)
    refl
