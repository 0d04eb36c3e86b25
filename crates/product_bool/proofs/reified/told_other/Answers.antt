use Rattle.std.proofs.Common.{map, ◌+◌, refl, sym, ◌∙◌, to_z, of_z}
use Rattle.std.specs.Int.{w64}
use Rattle.std.proofs.lemmas.Int.{to_z-of_z}
use Rattle.std.proofs.lemmas.Result.{err_from_is_err_and}
use Rattle.linear_forms.specs.LinearForm.{form_of}
use Rattle.fd_model.specs.Linear.{IsOther}
use Rattle.product_bool.specs.Reified.{told_parts}
use Rattle.product_bool.proofs.ReifiedParts.{fault_told, fault_passed, other_code, other_sums, other_told}
use Rattle.product_bool.proofs.reified.told_other.Goals as goal

pub returns-in_err-sums : goal.returns-in_err-sums
returns-in_err-sums c =
    let p = err_from_is_err_and c.from_residual.result c.from_residual.ensures.1 in
    rw (p.1, p.2) (fault_passed (other_code c.args.placed.fresh (to_z w64 (of_z w64 c.args.far)) (form_of c.args.linear.now))
    (told_parts IsOther c.args.told c.args.placed c.args.far (form_of c.args.linear.now)) _
    (λ q h. fault_told IsOther c.args.told c.args.placed c.args.far (form_of c.args.linear.now) q
    (sym (other_sums c.args.told c.args.placed.fresh c.args.far (to_z w64 (of_z w64 c.args.far)) (form_of c.args.linear.now)
    (to_z-of_z w64 c.args.far c.ranges.far)) ∙ h)) c.in_err-sums.ensures)

pub returns : goal.returns
returns c =
    other_told c.args.told c.args.placed.fresh c.args.placed c.args.far (form_of c.args.linear.now)
    (record { equated = c.args.placed.equated; added = c.args.placed.fresh + 1 + 1 + 1; list = c.post_not.new.list; sums = c.in_ok-sums.sums })
    (map form_of c.in_ok-sums.sums.items) c.new-list.result.items c.post_equal.new.list.items c.post_not.new.list.items
    (sym (other_sums c.args.told c.args.placed.fresh c.args.far (to_z w64 (of_z w64 c.args.far)) (form_of c.args.linear.now)
    (to_z-of_z w64 c.args.far c.ranges.far)) ∙ c.in_ok-sums.ensures) refl refl refl refl c.new-list.ensures.items c.in_ok-post_equal.ensures
    c.in_ok-post_not.ensures refl
