use Rattle.std.proofs.Common.{ap, subst, ◌∙◌, sym, negsuc, to_z, of_z}
use Rattle.std.specs.Int.{w64}
use Rattle.std.proofs.lemmas.Int.{to_z-of_z}
use Rattle.fd_model.specs.Linear.{in_integers, scaled}
use Rattle.linear_forms.specs.LinearForm.{form_of}
use Rattle.linear_forms.specs.Shares.{IsWithin}
use Rattle.linear_forms.proofs.Lemmas.{integer_fits, passed, passed_negation}
use Rattle.product_bool.specs.Sums.{Adds}
use Rattle.product_bool.proofs.SumSizes.{same_sum, one_less, sums_told}
use Rattle.product_bool.proofs.sums.tell.Goals as goal

pub returns : goal.returns
returns c =
    let l = form_of c.args.linear.now in
    let far = to_z-of_z w64 c.args.far c.ranges.far in
    let most = same_sum (to_z-of_z w64 l.constant (integer_fits l.constant c.requires.normal.inside.1)) far in
    let least = one_less (passed_negation l.constant c.requires.normal.inside.1) in
    let first = subst (IsWithin _) c.in_ok-most.ensures c.sum.ensures in
    let second = subst (IsWithin _) c.in_ok-least.ensures c.sum-2.ensures in
    let m = ap in_integers (sym most) ∙ first.1 in
    let n = ap in_integers (sym least) ∙ second.1 in
    sums_told c.args.teller c.args.far _ l c.args.sums.now.items c.push.new.self.items c.push-2.new.self.items
    (record { terms = c.in_ok-terms.terms; constant = to_z w64 (of_z w64 c.in_ok-most.most) })
    (record { terms = c.in_ok-turned.turned; constant = to_z w64 (of_z w64 c.in_ok-least.least) })
    c.requires.normal c.requires.far far (subst (λ us. Adds us c.args.teller (to_z w64 (of_z w64 c.args.far)) c.in_ok-terms.terms.items) c.deref.ensures.value
    (rw c.in_ok-terms.ensures at c.in_ok-with_product.ensures)) (passed _ c.in_ok-most.most (first.0 ∙ most, m)) m
    (c.in_ok-turned.ensures ∙ ap (scaled (negsuc 0)) c.deref-2.ensures.value) (passed _ c.in_ok-least.least (second.0 ∙ least, n)) n
    c.in_ok-push.ensures.items c.in_ok-push-2.ensures.items
