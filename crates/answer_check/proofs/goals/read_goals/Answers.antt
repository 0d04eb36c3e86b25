use Rattle.std.proofs.Common.{rules, ◌≡◌, ◌∙◌, ◌<◌, ◌++◌, [], ◌∷◌, List, length, refl, sym, ap, subst, vec_len}
use Rattle.std.specs.Prelude.{◌==◌}
use Rattle.fd_language.specs.declared.TheConstants.{INFINITY}
use Rattle.fd_language.specs.PlacedTerm.{place}
use Rattle.fd_model.specs.FlatQueries.{IsSatisfied}
use Rattle.fd_model.specs.Queries.{goal_of}
use Rattle.term_pool.specs.declared.TermId.{TermId}
use Rattle.term_pool.specs.PlacedTerms.{placed_of}
use Rattle.term_pool.specs.Terms.{total_size}
use Rattle.term_pool.proofs.Lemmas.{rest_is_smaller}
use Rattle.answer_check.specs.declared.goals.Constraint.{Constraint}
use Rattle.answer_check.specs.declared.outcome.Reason.TheVariants as reason
use Rattle.answer_check.specs.FlatForm.{conjuncts, flat_goals, is_flat_goal}
use Rattle.answer_check.specs.Goals.{FindsLabelling, Keeps}
use Rattle.answer_check.proofs.Bodies.{IsGoingOn, goals_broken, goals_end, goals_labelled, goals_more, goals_split, goals_unlabelled, sides_smaller, some_ahead}
use Rattle.answer_check.proofs.Bodies.{stops_here}
use Rattle.answer_check.proofs.Lists.{some_items}
use Rattle.answer_check.proofs.goals.read_goals.Goals as goal

pub loop-t-smaller-in-Continue-branch-3 : goal.loop-t-smaller-in-Continue-branch-3
loop-t-smaller-in-Continue-branch-3 c =
    let pool = c.args.pool.now in
    let rest = c.pop.new.self.items in
    let s = c.in-Some-sides_of_comma in
    let new = c.in_ok-push-2.ensures.items ∙ ap (λ (ts : List TermId). ts ++ s.left ∷ []) c.in_ok-push.ensures.items in
    subst (λ (ts : List TermId). total_size pool ts < total_size pool c.loop-t.ahead.items) (sym new)
    (subst (λ (ts : List TermId). total_size pool ((rest ++ s.right ∷ []) ++ s.left ∷ []) < total_size pool ts) (sym c.in-Some.ensures.items)
    (sides_smaller pool rest c.in-Some.t s.left s.right s.ensures))

pub loop-t-preserved-in-Continue-branch-3 : goal.loop-t-preserved-in-Continue-branch-3
loop-t-preserved-in-Continue-branch-3 c =
    let pool = c.args.pool.now in
    let s = c.in-Some-sides_of_comma in
    let new = c.in_ok-push-2.ensures.items ∙ ap (λ (ts : List TermId). ts ++ s.left ∷ []) c.in_ok-push.ensures.items in
    goals_split pool c.args.count (flat_goals INFINITY c.args.count (conjuncts (placed_of pool c.args.body))) c.loop-t.constraints.items c.loop-t.ahead.items
    c.pop.new.self.items c.in-Some.t c.in-Some.ensures.items c.loop-t.invariant
    s.left s.right c.push-in-Some-sides_of_comma.new.self.items s.ensures new

pub returns-in_default-2 : goal.returns-in_default-2
returns-in_default-2 c =
    let pool = c.args.pool.now in
    let t = c.in-Some.t in
    let x = placed_of pool t in
    let found = flat_goals INFINITY c.args.count (conjuncts (placed_of pool c.args.body)) in
    let none : c.pop.new.self.items ≡ [] = search rules in
    let missing = subst (FindsLabelling c.args.count (place x) (goal_of INFINITY x)) c.in_default-2.is c.in_ok-order.ensures in
    stops_here found (place x) reason.NotFlat c.not_flat.result
    (goals_unlabelled pool c.args.count found c.loop-t.constraints.items c.loop-t.ahead.items c.pop.new.self.items t c.in-Some.ensures.items c.loop-t.invariant
    c.in_default-sides_of_comma.ensures none missing) c.not_flat.ensures

pub returns-then-is_empty : goal.returns-then-is_empty
returns-then-is_empty c =
    let pool = c.args.pool.now in
    let t = c.in-Some.t in
    let x = placed_of pool t in
    let found = flat_goals INFINITY c.args.count (conjuncts (placed_of pool c.args.body)) in
    let none : c.pop.new.self.items ≡ [] = search rules in
    let labels = subst (FindsLabelling c.args.count (place x) (goal_of INFINITY x)) c.in-Some-2.is c.in_ok-order.ensures in
    goals_labelled pool c.args.count found c.loop-t.constraints.items c.loop-t.ahead.items c.pop.new.self.items t c.in-Some.ensures.items c.loop-t.invariant
    c.in-Some-2.field-0 _ c.in_default-sides_of_comma.ensures none labels refl refl refl

pub returns-in_default-3 : goal.returns-in_default-3
returns-in_default-3 c =
    let pool = c.args.pool.now in
    let t = c.in-Some.t in
    let x = placed_of pool t in
    let rest = c.pop.new.self.items in
    let found = flat_goals INFINITY c.args.count (conjuncts (placed_of pool c.args.body)) in
    let size : vec_len c.pop.new.self ≡ length rest = search rules in
    let some = some_ahead pool rest (some_items rest c.is_empty.result (c.is_empty.ensures ∙ ap (λ n. n == 0) size) c.if-is_empty.false) in
    let broken = subst (Keeps (is_flat_goal INFINITY x (goal_of INFINITY x)) (λ a. IsSatisfied INFINITY INFINITY a (goal_of INFINITY x))) c.in_default-3.is c.in_ok-constraint.ensures in
    stops_here found (place x) reason.NotFlat c.not_flat-in_default-3.result
    (goals_broken pool c.args.count found c.loop-t.constraints.items c.loop-t.ahead.items rest t c.in-Some.ensures.items c.loop-t.invariant
    c.in_default-sides_of_comma.ensures some broken) c.not_flat-in_default-3.ensures

pub loop-t-smaller : goal.loop-t-smaller
loop-t-smaller c =
    let pool = c.args.pool.now in
    let rest = c.pop.new.self.items in
    subst (λ (ts : List TermId). total_size pool rest < total_size pool ts) (sym c.in-Some.ensures.items) (rest_is_smaller pool rest c.in-Some.t)

pub loop-t-preserved : goal.loop-t-preserved
loop-t-preserved c =
    let pool = c.args.pool.now in
    let t = c.in-Some.t in
    let x = placed_of pool t in
    let rest = c.pop.new.self.items in
    let k = c.in-Some-3.constraint in
    let found = flat_goals INFINITY c.args.count (conjuncts (placed_of pool c.args.body)) in
    let size : vec_len c.pop.new.self ≡ length rest = search rules in
    let some = some_ahead pool rest (some_items rest c.is_empty.result (c.is_empty.ensures ∙ ap (λ n. n == 0) size) c.if-is_empty.false) in
    let says = subst (Keeps (is_flat_goal INFINITY x (goal_of INFINITY x)) (λ a. IsSatisfied INFINITY INFINITY a (goal_of INFINITY x))) c.in-Some-3.is c.in_ok-constraint.ensures in
    subst (λ (ks : List Constraint). IsGoingOn pool c.args.count found ks rest) (sym c.in_ok-push-3.ensures.items)
    (goals_more pool c.args.count found c.loop-t.constraints.items c.loop-t.ahead.items rest t c.in-Some.ensures.items c.loop-t.invariant k c.in_default-sides_of_comma.ensures some says.0 says.1)

pub returns : goal.returns
returns c =
    let pool = c.args.pool.now in
    let found = flat_goals INFINITY c.args.count (conjuncts (placed_of pool c.args.body)) in
    let none : c.loop-t.ahead.items ≡ [] = search rules in
    stops_here found 0 reason.NotFlat c.not_flat_text.result (goals_end pool c.args.count found c.loop-t.constraints.items c.loop-t.ahead.items none c.loop-t.invariant) c.not_flat_text.ensures
