use Rattle.std.proofs.Common.{List, ℕ, ℤ, subst, sym, ◌∙◌, to_z, of_z}
use Rattle.std.specs.Int.{w64}
use Rattle.std.proofs.lemmas.Int.{to_z-of_z}
use Rattle.std.proofs.lemmas.Result.{err_from_is_err_and}
use Rattle.std.specs.Map.Iter.{deref_pair}
use Rattle.std.proofs.lemmas.Map.Iter.{rest_more, rest_all}
use Rattle.linear_forms.specs.declared.sums.Share.{Share}
use Rattle.linear_forms.specs.Shares.{IsShare, scaled_share}
use Rattle.linear_forms.specs.Loops.{Scaling}
use Rattle.linear_forms.specs.Sums.{Scales, ScalesOver}
use Rattle.linear_forms.proofs.Loops.{scaling_starts, scaling_ends, scaling_turn, scaled_over}
use Rattle.linear_forms.proofs.sums.scaled_terms.Goals as goal

-- the factor as it is passed on
abbrev factor_of : ℤ → ℤ
factor_of k = to_z w64 (of_z w64 k)

pub loop-variable-init : goal.loop-variable-init
loop-variable-init c =
    subst (λ (es : List (ℕ × Share)). Scaling (factor_of c.args.factor) c.args.terms.now.entries c.in_ok-scaled.scaled.entries es)
    (sym (c.into_iter-variable-iterator.ensures.into_iter_gives ∙ c.iter-variable-items.ensures.rest))
    (scaling_starts (factor_of c.args.factor) c.args.terms.now.entries c.in_ok-scaled.scaled.entries c.iter-variable-items.ensures.unique c.in_ok-scaled.ensures.empty c.in_ok-scaled.ensures.unique)

pub returns-in_err-product : goal.returns-in_err-product
returns-in_err-product c =
    let p = err_from_is_err_and c.from_residual-in_err-product.result c.from_residual-in_err-product.ensures.1 in
    let e : ℕ × Share = (c.in-Some.variable.now, c.in-Some.share.now) in
    let left = rest_more deref_pair c.loop-variable.variable-iterator c.next.new.self c.next.result (c.in-Some.variable, c.in-Some.share) c.in-Some.is c.next.ensures.steps in
    let over = subst (IsShare (scaled_share (factor_of c.args.factor) e.1)) c.in_err-product.ensures.1 c.times.ensures in
    rw (p.1, p.2, c.in_err-product.ensures.0) (subst (λ (k : ℤ). ScalesOver k c.args.terms.now.entries) (to_z-of_z w64 c.args.factor c.ranges.factor)
    (scaled_over (factor_of c.args.factor) c.args.terms.now.entries c.loop-variable.scaled.entries c.next.new.self e
    (subst (λ (es : List (ℕ × Share)). Scaling (factor_of c.args.factor) c.args.terms.now.entries c.loop-variable.scaled.entries es) left c.loop-variable.invariant) over))

pub loop-variable-preserved : goal.loop-variable-preserved
loop-variable-preserved c =
    let e : ℕ × Share = (c.in-Some.variable.now, c.in-Some.share.now) in
    let left = rest_more deref_pair c.loop-variable.variable-iterator c.next.new.self c.next.result (c.in-Some.variable, c.in-Some.share) c.in-Some.is c.next.ensures.steps in
    let whole = subst (IsShare (scaled_share (factor_of c.args.factor) e.1)) c.in_ok-product.ensures c.times.ensures in
    scaling_turn (factor_of c.args.factor) c.args.terms.now.entries c.loop-variable.scaled.entries c.next.new.self e
    (subst (λ (es : List (ℕ × Share)). Scaling (factor_of c.args.factor) c.args.terms.now.entries c.loop-variable.scaled.entries es) left c.loop-variable.invariant)
    c.in_ok-product.product c.insert.new.self.entries whole c.in_ok-insert.ensures.updates.0 c.in_ok-insert.ensures.unique

pub returns : goal.returns
returns c =
    let left = rest_all deref_pair c.loop-variable.variable-iterator c.next.new.self c.next.result c.in-None.is c.next.ensures.steps in
    subst (λ (k : ℤ). Scales k c.args.terms.now.entries c.loop-variable.scaled.entries) (to_z-of_z w64 c.args.factor c.ranges.factor)
    (scaling_ends (factor_of c.args.factor) c.args.terms.now.entries c.loop-variable.scaled.entries
    (subst (λ (es : List (ℕ × Share)). Scaling (factor_of c.args.factor) c.args.terms.now.entries c.loop-variable.scaled.entries es) left c.loop-variable.invariant))
