use Rattle.std.proofs.Common.{List, ℕ, subst, sym, ◌∙◌}
use Rattle.std.specs.Map.Iter.{deref_pair}
use Rattle.std.proofs.lemmas.Map.Iter.{rest_more, rest_all}
use Rattle.linear_forms.specs.declared.sums.Share.{Share}
use Rattle.linear_forms.specs.Loops.{Adding}
use Rattle.linear_forms.proofs.Loops.{adding_starts, adding_ends, adding_turn, whole_over, one_fits}
use Rattle.linear_forms.proofs.sums.add_terms.Goals as goal

pub loop-variable-init : goal.loop-variable-init
loop-variable-init c = subst (λ (es : List (ℕ × Share)). Adding c.args.terms.now.entries c.args.other.now.entries c.args.terms.now.entries es)
    (sym (c.into_iter-variable-iterator.ensures.into_iter_gives ∙ c.iter-variable-items.ensures.rest))
    (adding_starts c.args.terms.now.entries c.args.other.now.entries c.iter-variable-items.ensures.unique)

pub returns-in_default-clause-added : goal.returns-in_default-clause-added
returns-in_default-clause-added c =
    let e : ℕ × Share = (c.in-Some.variable.now, c.in-Some.share.now) in
    let left = rest_more deref_pair c.loop-variable.variable-iterator c.next.new.self c.next.result (c.in-Some.variable, c.in-Some.share) c.in-Some.is c.next.ensures.steps in
    whole_over c.args.terms.now.entries c.args.other.now.entries c.loop-variable.terms.entries c.next.new.self e
    (subst (λ (es : List (ℕ × Share)). Adding c.args.terms.now.entries c.args.other.now.entries c.loop-variable.terms.entries es) left c.loop-variable.invariant) c.in_default.ensures

pub loop-variable-preserved : goal.loop-variable-preserved
loop-variable-preserved c =
    let e : ℕ × Share = (c.in-Some.variable.now, c.in-Some.share.now) in
    let left = rest_more deref_pair c.loop-variable.variable-iterator c.next.new.self c.next.result (c.in-Some.variable, c.in-Some.share) c.in-Some.is c.next.ensures.steps in
    adding_turn c.args.terms.now.entries c.args.other.now.entries c.loop-variable.terms.entries c.next.new.self e
    (subst (λ (es : List (ℕ × Share)). Adding c.args.terms.now.entries c.args.other.now.entries c.loop-variable.terms.entries es) left c.loop-variable.invariant)
    c.in-Some-whole_share.whole c.insert.new.self.entries c.in-Some-whole_share.ensures c.in_ok-insert.ensures.updates.0 c.in_ok-insert.ensures.unique

pub returns-clause-added : goal.returns-clause-added
returns-clause-added c =
    let left = rest_all deref_pair c.loop-variable.variable-iterator c.next.new.self c.next.result c.in-None.is c.next.ensures.steps in
    adding_ends c.args.terms.now.entries c.args.other.now.entries c.loop-variable.terms.entries
    (subst (λ (es : List (ℕ × Share)). Adding c.args.terms.now.entries c.args.other.now.entries c.loop-variable.terms.entries es) left c.loop-variable.invariant)
