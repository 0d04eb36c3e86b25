use Rattle.std.proofs.Common.{◌∙◌, sym}
use Rattle.branch_goals.proofs.VariableSelection.{leftmost_taken, known_taken, better_taken, before_taken, none_of}
use Rattle.branch_goals.proofs.variable_selection.take_member.Goals as goal

pub returns-in-Leftmost-Some : goal.returns-in-Leftmost-Some
returns-in-Leftmost-Some g c = λ name h ss s own at t.
    leftmost_taken c.args.infinity name h (g.V.View.sets c.args.view.now) ss c.args.cell c.args.member s own at c.args.order c.args.before
    c.in-Leftmost-Some.field-0-1 c.in-Leftmost-Some.is-0 c.in-Leftmost-Some.is-1 t

pub returns-in_default-count_of : goal.returns-in_default-count_of
returns-in_default-count_of g c = λ name h ss s own at t.
    known_taken c.args.infinity name h (g.V.View.sets c.args.view.now) ss c.args.cell c.args.member s own at c.args.order c.args.before
    (sym c.count_of.ensures ∙ none_of c.count_of.result c.in_default-count_of.not-Some) t

pub returns-then-is_better : goal.returns-then-is_better
returns-then-is_better g c = λ name h ss s own at t.
    better_taken c.args.infinity name h (g.V.View.sets c.args.view.now) ss c.args.cell c.args.member s own at c.in-Some.count (sym c.in-Some.ensures)
    c.args.order c.args.before (sym c.is_better.ensures ∙ c.if-is_better.true) t

pub returns : goal.returns
returns g c = λ name h ss s own at t.
    before_taken c.args.infinity name h (g.V.View.sets c.args.view.now) ss c.args.cell c.args.member s own at c.in-Some.count (sym c.in-Some.ensures)
    c.args.order c.args.before (sym c.is_better.ensures ∙ c.if-is_better.false) t
