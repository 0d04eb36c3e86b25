use Rattle.std.proofs.lemmas.List.{take_rest}
use Rattle.std.proofs.Common.{ap, ◌+◌, ◌++◌, ◌∙◌, sym}
use Rattle.std.specs.Int.{w64}
use Rattle.std.proofs.lemmas.Int.{to_z-of_z}
use Rattle.fd_model.specs.Linear.{in_integers}
use Rattle.linear_forms.proofs.Lemmas.{passed}
use Rattle.product_bool.proofs.SumSizes.{same_at, same_sum}
use Rattle.product_bool.proofs.TellingSums.{adds_last, adds_here, exceeds_here, before_end}
use Rattle.product_bool.proofs.sums.with_product.Goals as goal

pub returns-then-index-terms : goal.returns-then-index-terms
returns-then-index-terms c =
    adds_last c.args.terms.now c.args.variable c.find_product-index.result c.args.coefficient _ c.in_ok-more.more.items c.extend_from_slice.new.self.items c.push.new.self.items
    c.requires.inside c.requires.coefficient c.find_product-index.ensures c.if-index-terms.true (to_z-of_z w64 c.args.coefficient c.ranges.coefficient)
    c.in_ok-more.ensures.items c.in_ok-extend_from_slice.ensures.items c.in_ok-push.ensures.items

pub returns-in-None : goal.returns-in-None
returns-in-None c =
    let l = before_end c.args.terms.now c.args.variable c.find_product-index.result c.find_product-index.ensures c.if-index-terms.false in
    exceeds_here c.args.terms.now c.args.variable c.find_product-index.result c.args.coefficient c.find_product-index.ensures l
    (ap in_integers (sym (same_sum (same_at c.args.terms.now c.find_product-index.result c.requires.inside l) (to_z-of_z w64 c.args.coefficient c.ranges.coefficient))) ∙ c.in-None.ensures)

pub returns : goal.returns
returns c =
    let l = before_end c.args.terms.now c.args.variable c.find_product-index.result c.find_product-index.ensures c.if-index-terms.false in
    let same = same_sum (same_at c.args.terms.now c.find_product-index.result c.requires.inside l) (to_z-of_z w64 c.args.coefficient c.ranges.coefficient) in
    let inside = ap in_integers (sym same) ∙ c.in-Some.ensures.1 in
    adds_here c.args.terms.now c.args.variable c.find_product-index.result c.args.coefficient _ c.in_ok-more.more.items c.extend_from_slice.new.self.items
    c.push-2.new.self.items c.extend_from_slice-2.new.self.items
    c.requires.inside c.find_product-index.ensures l (passed _ c.in-Some.whole (c.in-Some.ensures.0 ∙ same, inside)) inside c.in_ok-more.ensures.items
    c.in_ok-extend_from_slice.ensures.items c.in_ok-push-2.ensures.items
    (c.in_ok-extend_from_slice-2.ensures.items ∙ ap (λ us. c.push-2.new.self.items ++ us) (take_rest c.args.terms.now (c.find_product-index.result + 1)))
