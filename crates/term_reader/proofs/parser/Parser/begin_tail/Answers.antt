use Rattle.std.proofs.Common.{◌∙◌, ◌-◌, ◌++◌, ◌∷◌, [], refl, ap, take, ℕ, List}
use Rattle.term_reader.specs.declared.parser.Item.{Item}
use Rattle.term_reader.specs.declared.parser.Item.TheVariants as its
use Rattle.term_reader.proofs.OpenBrackets.{on_top, moves_bar}
use Rattle.term_reader.proofs.parser.Parser.begin_tail.Goals as goal

pub returns : goal.returns
returns c =
    let o = on_top c.args.self.now (its.List c.args.place c.args.from) c.requires.whole c.requires.top in
    moves_bar c.args.self.now _ c.args.last c.args.place c.args.from c.requires.whole c.requires.last o refl c.in_ok-push.ensures.items
    (c.in_ok-push-2.ensures.items ∙ ap (λ (xs : List Item). xs ++ its.Tail c.args.place c.args.from ∷ [])
    (c.pop.ensures.rest ∙ ap (λ (n : ℕ). take (n - 1) c.args.self.now.items.items) c.args.self.now.items.ok.0))
    refl
