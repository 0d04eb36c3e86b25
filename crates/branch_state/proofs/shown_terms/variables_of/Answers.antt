use Rattle.std.proofs.Common.{◌∙◌, ◌++◌, ap, sym, subst, reverse, rules, List, ℕ}
use Rattle.term_pool.specs.declared.TermId.{TermId}
use Rattle.branch_state.specs.ShownTerms.{variables_at}
use Rattle.branch_state.proofs.ShownTerms.{IsFinding, finding_first, finding_var, finding_parts, finding_leaf, finding_last, rest_less, parts_less}
use Rattle.branch_state.proofs.shown_terms.variables_of.Goals as goal

pub loop-next-init : goal.loop-next-init
loop-next-init c =
    subst (λ (l : List ℕ). IsFinding c.args.pool.now (variables_at c.args.pool.now c.args.terms.now) l c.look_into.new.ahead.items) (sym c.new-found.ensures.items)
    (finding_first c.args.pool.now c.args.terms.now c.look_into.new.ahead.items c.requires
    (c.in_ok-look_into.ensures ∙ ap (λ (l : List TermId). l ++ reverse c.args.terms.now) c.new-ahead.ensures.items))

-- a variable
pub loop-next-smaller-in-Continue-branch-2 : goal.loop-next-smaller-in-Continue-branch-2
loop-next-smaller-in-Continue-branch-2 c = rest_less c.args.pool.now c.loop-next.ahead.items c.pop.new.self.items c.in-Some.next c.in-Some.ensures.items

pub loop-next-preserved-in-Continue-branch-2 : goal.loop-next-preserved-in-Continue-branch-2
loop-next-preserved-in-Continue-branch-2 c =
    finding_var c.args.pool.now (variables_at c.args.pool.now c.args.terms.now) c.loop-next.found.items c.loop-next.ahead.items c.pop.new.self.items
    c.in-Some.next c.in-Some.ensures.items c.loop-next.invariant c.in-Var.x c.push.new.self.items c.in-Var.ensures.term c.in_ok-push-in-Var.ensures.items

-- a compound term
pub loop-next-smaller-in-Continue-branch-3 : goal.loop-next-smaller-in-Continue-branch-3
loop-next-smaller-in-Continue-branch-3 c =
    parts_less c.args.pool.now c.loop-next.ahead.items c.pop.new.self.items c.in-Comp.parts.now c.look_into-in-Comp.new.ahead.items c.in-Some.next
    c.in-Comp.field-0 c.in-Some.ensures.items c.in_ok-look_into-in-Comp.ensures c.in-Comp.ensures.term

pub loop-next-preserved-in-Continue-branch-3 : goal.loop-next-preserved-in-Continue-branch-3
loop-next-preserved-in-Continue-branch-3 c =
    finding_parts c.args.pool.now (variables_at c.args.pool.now c.args.terms.now) c.loop-next.found.items c.loop-next.ahead.items c.pop.new.self.items
    c.in-Some.next c.in-Some.ensures.items c.loop-next.invariant c.in-Comp.field-0 c.in-Comp.parts.now c.look_into-in-Comp.new.ahead.items
    c.in-Comp.ensures.term c.in-Comp.ensures.within.1 c.in_ok-look_into-in-Comp.ensures

-- another term
pub loop-next-smaller : goal.loop-next-smaller
loop-next-smaller c = rest_less c.args.pool.now c.loop-next.ahead.items c.pop.new.self.items c.in-Some.next c.in-Some.ensures.items

pub loop-next-preserved : goal.loop-next-preserved
loop-next-preserved c =
    finding_leaf c.args.pool.now (variables_at c.args.pool.now c.args.terms.now) c.loop-next.found.items c.loop-next.ahead.items c.pop.new.self.items
    c.in-Some.next c.in-Some.ensures.items c.loop-next.invariant c.view.result c.view.ensures.term (λ x. c.in_default-view.not-Var x)
    (λ f ts. c.in_default-view.not-Comp f ts)

pub returns : goal.returns
returns c = finding_last c.args.pool.now (variables_at c.args.pool.now c.args.terms.now) c.loop-next.found.items c.loop-next.ahead.items (search rules) c.loop-next.invariant
