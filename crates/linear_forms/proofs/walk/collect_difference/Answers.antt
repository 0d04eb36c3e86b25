use Rattle.std.proofs.Common.{◌≡◌, rules, Result, Err, ◌<◌, List, [], ◌∷◌, ◌++◌, true, false, ap, refl, sym, subst, ◌∙◌}
use Rattle.std.specs.Prelude.{Some}
use Rattle.std.proofs.lemmas.List.Elements.{All-pop}
use Rattle.fd_model.specs.Linear.{of_both, difference_of, collect_term}
use Rattle.term_pool.specs.Terms.{term_of}
use Rattle.linear_forms.specs.declared.walk.Task.{Task}
use Rattle.linear_forms.specs.declared.walk.Task.TheVariants as task
use Rattle.linear_forms.specs.Tasks.{before, load, IsOf, IsLeft}
use Rattle.linear_forms.proofs.Steps.{starts, made_all, still_left, smaller_load, refused, fault_is}
use Rattle.std.proofs.lemmas.Result.{err_from_is_err_and}
use Rattle.linear_forms.specs.declared.LinearFault.{LinearFault}
use Rattle.linear_forms.specs.declared.sums.Sum.{Sum}
use Rattle.linear_forms.specs.Sums.{Gives}
use Rattle.linear_forms.proofs.Stacks.{only_sum, no_sum}
use Rattle.linear_forms.proofs.walk.collect_difference.Goals as goal

pub loop-task-init : goal.loop-task-init
loop-task-init c = starts c.args.pool.now c.args.left c.args.right (record { sums = c.new.result; met = 0 }) c.extend_from_slice.new.self.items
    (c.in_ok-extend_from_slice.ensures.items ∙ ap (λ (ts : List Task). ts ++ task.Add ∷ task.Collect c.args.right true ∷ task.Collect c.args.left false ∷ [])
    c.new-ahead.ensures.items) c.new.ensures.items refl c.requires.left c.requires.right

pub loop-task-smaller : goal.loop-task-smaller
loop-task-smaller c =
    let pool = c.args.pool.now in
    subst (λ (ts : List Task). load pool c.take.new.ahead.items < load pool ts) (sym c.in-Some.ensures.items)
    (smaller_load pool c.in-Some.task c.loop-task.made c.take.new.self c.pop.new.self.items c.take.new.ahead.items c.in_ok-take.ensures)

pub loop-task-preserved : goal.loop-task-preserved
loop-task-preserved c =
    let pool = c.args.pool.now in
    let aim = before [] (of_both difference_of (collect_term (term_of pool c.args.left)) (collect_term (term_of pool c.args.right))) in
    let popped = All-pop (IsOf pool) c.loop-task.ahead.items c.pop.new.self.items (Some c.in-Some.task) c.in-Some.ensures.items c.loop-task.invariant.within in
    still_left pool aim c.in-Some.task c.loop-task.made c.take.new.self c.pop.new.self.items c.take.new.ahead.items c.in_ok-take.ensures
    (subst (λ (ts : List Task). IsLeft pool aim c.loop-task.made ts) c.in-Some.ensures.items c.loop-task.invariant) popped.0

pub returns-in_err-take : goal.returns-in_err-take
returns-in_err-take c =
    let pool = c.args.pool.now in
    let d = of_both difference_of (collect_term (term_of pool c.args.left)) (collect_term (term_of pool c.args.right)) in
    let p = err_from_is_err_and c.from_residual-in_err-take.result c.from_residual-in_err-take.ensures.1 in
    let h = fault_is d c.in_err-take.field-0.0 (refused pool (before [] d) c.in-Some.task c.loop-task.made c.pop.new.self.items c.in_err-take.field-0.0 c.in_err-take.ensures
    (subst (λ (ts : List Task). IsLeft pool (before [] d) c.loop-task.made ts) c.in-Some.ensures.items c.loop-task.invariant)) in
    (0, 0, subst (λ (r : Result Sum LinearFault). Gives d 0 0 r) (sym (p.1 ∙ ap (λ (f : LinearFault). Err f) p.2)) h)

pub returns-in-Some-pop : goal.returns-in-Some-pop
returns-in-Some-pop c =
    let pool = c.args.pool.now in
    let d = of_both difference_of (collect_term (term_of pool c.args.left)) (collect_term (term_of pool c.args.right)) in
    let none : c.loop-task.ahead.items ≡ [] = search rules in
    let m = made_all pool d c.loop-task.made c.loop-task.ahead.items c.loop-task.invariant none in
    let o = only_sum c.loop-task.made m.0 c.pop-2.new.self.items c.in-Some-pop.whole m.2 c.in-Some-pop.ensures.items in
    (o.0, o.1, (m.0, m.1, o.2))

pub returns : goal.returns
returns c =
    let pool = c.args.pool.now in
    let d = of_both difference_of (collect_term (term_of pool c.args.left)) (collect_term (term_of pool c.args.right)) in
    let none : c.loop-task.ahead.items ≡ [] = search rules in
    let m = made_all pool d c.loop-task.made c.loop-task.ahead.items c.loop-task.invariant none in
    let empty : c.loop-task.made.sums.items ≡ [] = search rules in
    absurd (no_sum c.loop-task.made m.0 m.2 empty)
