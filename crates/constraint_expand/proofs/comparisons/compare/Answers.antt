use Rattle.std.proofs.Common.{◌≡◌, Ok, rules, ap, sym, subst, ◌∙◌, to_z, of_z, FitsSigned}
use Rattle.std.specs.Int.{w64}
use Rattle.std.proofs.lemmas.Int.{to_z-of_z}
use Rattle.fd_model.specs.Linear.{comparison}
use Rattle.fd_model.specs.LinearRows as rows
use Rattle.fd_model.specs.ConstraintExpansion.{compare}
use Rattle.linear_forms.specs.LinearForm.{form_of}
use Rattle.linear_forms.specs.IntegerSums.{AreIntegers}
use Rattle.linear_forms.proofs.Lemmas.{collected_inside, normal_inside}
use Rattle.term_pool.specs.Terms.{term_of}
use Rattle.constraint_expand.specs.Nodes.{comparison_of}
use Rattle.constraint_expand.specs.Posts.{Accepted}
use Rattle.constraint_expand.proofs.ComparisonRows.{compared_is, compared_expands, equated_none}
use Rattle.constraint_expand.proofs.Widths.{compared_accepted}
use Rattle.constraint_expand.proofs.comparisons.compare.Goals as goal

pub normal_form-requires : goal.normal_form-requires
normal_form-requires c = collected_inside (term_of c.args.pool.now c.args.left) (term_of c.args.pool.now c.args.right) (form_of c.in_ok-difference.difference) c.in_ok-difference.ensures

pub linear_rows-requires-clause-integers : goal.linear_rows-requires-clause-integers
linear_rows-requires-clause-integers c =
    let i = collected_inside (term_of c.args.pool.now c.args.left) (term_of c.args.pool.now c.args.right) (form_of c.in_ok-difference.difference) c.in_ok-difference.ensures in
    let m = normal_inside c.args.relation (form_of c.in_ok-difference.difference) (form_of c.in_ok-form.form) i c.in_ok-form.ensures in
    subst AreIntegers (sym c.deref.ensures.value) m.0

pub linear_rows-requires-clause-accepted : goal.linear_rows-requires-clause-accepted
linear_rows-requires-clause-accepted c =
    let s = term_of c.args.pool.now c.args.left in
    let t = term_of c.args.pool.now c.args.right in
    let n = c.args.fresh in
    let m = form_of c.in_ok-form.form in
    let e = compared_is c.args.relation s t n (form_of c.in_ok-difference.difference) m c.in_ok-difference.ensures c.in_ok-form.ensures in
    let fits : FitsSigned w64 c.in_ok-form.form.constant = search rules in
    let same : rows.linear_rows (comparison c.args.relation) m.products m.constant n ≡ rows.linear_rows (comparison_of c.comparison_for.result)
    c.deref.result.now (to_z w64 (of_z w64 c.in_ok-form.form.constant)) n =
    λ i. rows.linear_rows (sym c.comparison_for.ensures i) (sym c.deref.ensures.value i) (sym (to_z-of_z w64 c.in_ok-form.form.constant fits) i) n in
    subst (λ (x : rows.Expansion). Accepted x.ranges) same (compared_accepted c.args.relation s t n (rows.linear_rows (comparison c.args.relation) m.products m.constant n) e)

pub returns : goal.returns
returns c =
    let s = term_of c.args.pool.now c.args.left in
    let t = term_of c.args.pool.now c.args.right in
    let n = c.args.fresh in
    let m = form_of c.in_ok-form.form in
    let e = compared_is c.args.relation s t n (form_of c.in_ok-difference.difference) m c.in_ok-difference.ensures c.in_ok-form.ensures in
    let fits : FitsSigned w64 c.in_ok-form.form.constant = search rules in
    let same : rows.linear_rows (comparison c.args.relation) m.products m.constant n ≡ rows.linear_rows (comparison_of c.comparison_for.result)
    c.deref.result.now (to_z w64 (of_z w64 c.in_ok-form.form.constant)) n =
    λ i. rows.linear_rows (sym c.comparison_for.ensures i) (sym c.deref.ensures.value i) (sym (to_z-of_z w64 c.in_ok-form.form.constant fits) i) n in
    let y = rows.linear_rows (comparison_of c.comparison_for.result) c.deref.result.now (to_z w64 (of_z w64 c.in_ok-form.form.constant)) n in
    compared_expands (compare c.args.relation s t n) y c.comparing.result (e ∙ ap (λ (y : rows.Expansion). Ok y) same)
    (equated_none (comparison_of c.comparison_for.result) c.deref.result.now (to_z w64 (of_z w64 c.in_ok-form.form.constant)) n)
    c.comparing.ensures.equated (c.comparing.ensures.ranges ∙ c.in_ok-linear.ensures.ranges) (c.comparing.ensures.fresh ∙ c.in_ok-linear.ensures.fresh)
