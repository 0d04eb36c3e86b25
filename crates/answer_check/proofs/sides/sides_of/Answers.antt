use Rattle.std.proofs.Common.{◌≡◌, rules, ◌<◌, List, [], ◌∷◌, Some, ap, sym, subst, ◌∙◌}
use Rattle.std.specs.Prelude.{IfOk, Option}
use Rattle.std.proofs.lemmas.List.Elements.{All-pop}
use Rattle.fd_language.specs.Range.{Range}
use Rattle.term_pool.specs.Terms.{term_of}
use Rattle.answer_check.specs.declared.sides.Task.{Task}
use Rattle.answer_check.specs.declared.sides.Task.TheVariants as task
use Rattle.answer_check.specs.Sides.{expr_of, load, run, Holds, IsOf, IsDone, IsLeft}
use Rattle.answer_check.proofs.SideTerms.{smaller_load, still_left, none_left, sides_made, sides_unmade, sides_between}
use Rattle.answer_check.proofs.sides.sides_of.Goals as goal

pub returns-then-not-branch : goal.returns-then-not-branch
returns-then-not-branch c =
    let pool = c.args.pool.now in
    let aim = run pool (task.Spell c.args.right ∷ task.Spell c.args.left ∷ []) [] in
    let none = subst (IsDone pool c.in-Some.task c.loop-task.made c.pop.new.self.items c.take.new.self c.take.new.ahead.items) c.if-not-branch.true c.in_ok-take.ensures in
    sides_unmade pool c.args.left c.args.right (none_left pool aim c.in-Some.task c.loop-task.made c.pop.new.self.items none
    (subst (λ (ts : List Task). IsLeft pool aim c.loop-task.made ts) c.in-Some.ensures.items c.loop-task.invariant))

pub loop-task-smaller : goal.loop-task-smaller
loop-task-smaller c =
    let pool = c.args.pool.now in
    let does = subst (IsDone pool c.in-Some.task c.loop-task.made c.pop.new.self.items c.take.new.self c.take.new.ahead.items) c.if-not-branch.false c.in_ok-take.ensures in
    subst (λ (ts : List Task). load pool c.take.new.ahead.items < load pool ts) (sym c.in-Some.ensures.items)
    (smaller_load pool c.in-Some.task c.loop-task.made c.take.new.self c.pop.new.self.items c.take.new.ahead.items does)

pub loop-task-preserved : goal.loop-task-preserved
loop-task-preserved c =
    let pool = c.args.pool.now in
    let aim = run pool (task.Spell c.args.right ∷ task.Spell c.args.left ∷ []) [] in
    let does = subst (IsDone pool c.in-Some.task c.loop-task.made c.pop.new.self.items c.take.new.self c.take.new.ahead.items) c.if-not-branch.false c.in_ok-take.ensures in
    let popped = All-pop (IsOf pool) c.loop-task.ahead.items c.pop.new.self.items (Some c.in-Some.task) c.in-Some.ensures.items c.loop-task.invariant.within in
    still_left pool aim c.in-Some.task c.loop-task.made c.take.new.self c.pop.new.self.items c.take.new.ahead.items does
    (subst (λ (ts : List Task). IsLeft pool aim c.loop-task.made ts) c.in-Some.ensures.items c.loop-task.invariant) popped.0

pub returns : goal.returns
returns c =
    let pool = c.args.pool.now in
    let s = term_of pool c.args.left in
    let t = term_of pool c.args.right in
    let none : c.loop-task.ahead.items ≡ [] = search rules in
    let i = c.loop-task.invariant in
    let m = sides_made pool c.args.left c.args.right i.terms (sym i.is ∙ ap (λ ks. run pool ks i.terms) none) in
    subst (λ (q : Option Range). IfOk c.interval_of.result (λ o. o ≡ q)) (sides_between s t m.1 m.2) (c.interval_of.ensures (expr_of s) (expr_of t) (subst (Holds c.loop-task.made) m.0 i.holds))
