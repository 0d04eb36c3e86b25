use Rattle.std.proofs.Common.{rules, ◌∷◌, [], ◌++◌, sym, ◌∙◌, ap, SFits, to_z-of_z}
use mir.Syntax.{w128}
use Rattle.range_code.specs.Pieces.{top_literal, under_literal}
use Rattle.range_code.proofs.FoldedRanges.{last_first}
use Rattle.range_code.proofs.fold.pop_literal.Goals as goal

pub returns-in-Some-Literal-clause-value : goal.returns-in-Some-Literal-clause-value
returns-in-Some-Literal-clause-value c =
    let f : SFits w128 c.in-Some-Literal.value = search rules in
    simp to_z-of_z (sym (ap top_literal (last_first c.args.pieces.now.items c.pop.new.self.items _
    (c.in-Some-Literal.ensures.items ∙ ap (λ p. c.pop.new.self.items ++ p ∷ []) c.in-Some-Literal.field-0-is))))

pub returns-in-Some-Literal-clause-left : goal.returns-in-Some-Literal-clause-left
returns-in-Some-Literal-clause-left c =
    sym (ap under_literal (last_first c.args.pieces.now.items c.pop.new.self.items _ (c.in-Some-Literal.ensures.items ∙ ap (λ p. c.pop.new.self.items ++ p ∷ []) c.in-Some-Literal.field-0-is)))

pub returns-in_ok-push-in-Some-Other-clause-value : goal.returns-in_ok-push-in-Some-Other-clause-value
returns-in_ok-push-in-Some-Other-clause-value c =
    sym (ap top_literal (last_first c.args.pieces.now.items c.pop.new.self.items _ (c.in-Some-Other.ensures.items ∙ ap (λ p. c.pop.new.self.items ++ p ∷ []) c.in-Some-Other.field-0-is)))

pub returns-in_ok-push-in-Some-Other-clause-left : goal.returns-in_ok-push-in-Some-Other-clause-left
returns-in_ok-push-in-Some-Other-clause-left c =
    last_first c.push.new.self.items c.pop.new.self.items _ c.in_ok-push-in-Some-Other.ensures.items
    ∙ sym (ap under_literal (last_first c.args.pieces.now.items c.pop.new.self.items _ (c.in-Some-Other.ensures.items ∙ ap (λ p. c.pop.new.self.items ++ p ∷ []) c.in-Some-Other.field-0-is)))
