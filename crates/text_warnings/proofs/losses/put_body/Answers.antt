use Rattle.std.proofs.Common.{◌≡◌, ◌<◌, List, [], ◌∷◌, ◌++◌, sym, ap, ◌∙◌, subst}
use Rattle.text_warnings.specs.TermParts.{parts_of}
use Rattle.text_warnings.specs.SilentLosses.{body_losses, goal_losses}
use Rattle.text_warnings.proofs.LossSteps.{body_split, body_same, body_goal}
use Rattle.term_pool.specs.declared.TermId.{TermId}
use Rattle.term_pool.specs.Terms.{total_size}
use Rattle.term_pool.specs.PlacedTerms.{placed_of}
use Rattle.term_pool.proofs.Lemmas.{rest_is_smaller}
use Rattle.text_warnings.proofs.BodyCalls.{both_smaller, inner_smaller}
use Rattle.text_warnings.proofs.Walks.{walk_both, walk_inner, walk_leaf}
use Rattle.text_warnings.proofs.losses.put_body.Goals as goal

-- two parts
pub loop-next-smaller-in-Continue-branch-3 : goal.loop-next-smaller-in-Continue-branch-3
loop-next-smaller-in-Continue-branch-3 c =
    let pool = c.args.pool.now in
    let rest = c.pop.new.self.items in
    let t = c.in-Some.next in
    let a = c.in-Both.left in
    let b = c.in-Both.right in
    let new = c.push-in-Both-2.new.self.items in
    let items : new ≡ (rest ++ b ∷ []) ++ a ∷ [] = c.in_ok-push-in-Both-2.ensures.items ∙ ap (λ (l : List TermId). l ++ a ∷ []) c.in_ok-push-in-Both.ensures.items in
    subst (λ (ts : List TermId). total_size pool new < total_size pool ts) (sym c.in-Some.ensures.items)
    (subst (λ (ts : List TermId). total_size pool ts < total_size pool (rest ++ t ∷ [])) (sym items) (both_smaller pool rest t a b c.in-Both.ensures.3))

pub loop-next-preserved-in-Continue-branch-3 : goal.loop-next-preserved-in-Continue-branch-3
loop-next-preserved-in-Continue-branch-3 c =
    let rest = c.pop.new.self.items in
    let a = c.in-Both.left in
    let b = c.in-Both.right in
    let new = c.push-in-Both-2.new.self.items in
    let items : new ≡ (rest ++ b ∷ []) ++ a ∷ [] = c.in_ok-push-in-Both-2.ensures.items ∙ ap (λ (l : List TermId). l ++ a ∷ []) c.in_ok-push-in-Both.ensures.items in
    walk_both c.args.pool.now body_losses c.args.body c.args.warnings.now.items c.loop-next.warnings.items c.loop-next.ahead.items rest new c.in-Some.next a b
    c.in-Some.ensures.items c.in-Both.ensures.0 c.in-Both.ensures.1 (body_split c.args.pool.now c.in-Some.next a b c.in-Both.ensures.2) items c.loop-next.invariant

-- one part
pub loop-next-smaller-in-Continue-branch-4 : goal.loop-next-smaller-in-Continue-branch-4
loop-next-smaller-in-Continue-branch-4 c =
    let pool = c.args.pool.now in
    let rest = c.pop.new.self.items in
    let t = c.in-Some.next in
    let a = c.in-Inner.inner in
    let new = c.push-in-Inner.new.self.items in
    subst (λ (ts : List TermId). total_size pool new < total_size pool ts) (sym c.in-Some.ensures.items)
    (subst (λ (ts : List TermId). total_size pool ts < total_size pool (rest ++ t ∷ [])) (sym c.in_ok-push-in-Inner.ensures.items) (inner_smaller pool rest t a c.in-Inner.ensures.2))

pub loop-next-preserved-in-Continue-branch-4 : goal.loop-next-preserved-in-Continue-branch-4
loop-next-preserved-in-Continue-branch-4 c =
    walk_inner c.args.pool.now body_losses c.args.body c.args.warnings.now.items c.loop-next.warnings.items c.loop-next.ahead.items c.pop.new.self.items c.push-in-Inner.new.self.items
    c.in-Some.next c.in-Inner.inner c.in-Some.ensures.items c.in-Inner.ensures.0 (body_same c.args.pool.now c.in-Some.next c.in-Inner.inner c.in-Inner.ensures.1) c.in_ok-push-in-Inner.ensures.items c.loop-next.invariant

-- none
pub loop-next-smaller : goal.loop-next-smaller
loop-next-smaller c =
    let pool = c.args.pool.now in
    let rest = c.pop.new.self.items in
    subst (λ (ts : List TermId). total_size pool rest < total_size pool ts) (sym c.in-Some.ensures.items) (rest_is_smaller pool rest c.in-Some.next)

pub loop-next-preserved : goal.loop-next-preserved
loop-next-preserved c =
    let pool = c.args.pool.now in
    let x = placed_of pool c.in-Some.next in
    walk_leaf pool body_losses c.args.body c.args.warnings.now.items c.loop-next.warnings.items c.put_goal.new.warnings.items c.loop-next.ahead.items c.pop.new.self.items
    c.in-Some.next (goal_losses (parts_of x)) c.in-Some.ensures.items (body_goal pool c.in-Some.next c.in-Goal.ensures) c.in_ok-put_goal-in-Goal.ensures c.loop-next.invariant
