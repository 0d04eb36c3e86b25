use Rattle.std.proofs.Common.{rules}
use Rattle.std.proofs.lemmas.List.Sorted.{answers_always}
use Rattle.linear_forms.proofs.SumArithmetic.{constant_inside}
use Rattle.linear_forms.proofs.ShareOrder.{occurs, linear_is}
use Rattle.linear_forms.proofs.Words.{passed_negation}
use Rattle.linear_forms.proofs.sums.linear_of.Goals as goal

pub returns : goal.returns
returns c = λ s lo hi i.
    linear_is c.args.sum s lo hi i c.sort_by_key.new.self.entries (c.in_ok-sort_by_key.ensures.sorted occurs (answers_always _ _ _ (λ f a r g k. search rules)))
    c.in_ok-sort_by_key.ensures.unique c.in_ok-sort_by_key.ensures.reordered.2
    c.in_ok-terms.terms.items c.in_ok-terms.ensures _ (passed_negation c.args.sum.constant (constant_inside c.args.sum s lo hi i))
