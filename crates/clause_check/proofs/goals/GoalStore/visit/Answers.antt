use Rattle.std.proofs.Common.{refl, rules, ◌∙◌, ap, List, ◌++◌, ◌∷◌, []}
use Rattle.clause_check.specs.declared.goals.Task.{Task}
use Rattle.clause_check.specs.declared.goals.Task.TheVariants as task
use Rattle.clause_check.proofs.BodyTasks.{visit_both, visit_joined, visit_denied, visit_goal}
use Rattle.clause_check.proofs.goals.GoalStore.visit.Goals as goal

pub returns-in_ok-push-in-Both-2-clause-taken : goal.returns-in_ok-push-in-Both-2-clause-taken
returns-in_ok-push-in-Both-2-clause-taken c =
    visit_both c.args.infinity c.args.sentences.now c.args.self.now _ c.requires.store c.args.t c.in-Both.left c.in-Both.right c.in-Both.ensures
    (record { ranges = refl; goals = refl; pending = refl })
    (c.in_ok-push-in-Both-2.ensures.items ∙ ap (λ (ts : List Task). ts ++ task.Visit c.in-Both.left ∷ []) c.in_ok-push-in-Both.ensures.items)

pub returns-in_ok-push-in-Joined-2-clause-taken : goal.returns-in_ok-push-in-Joined-2-clause-taken
returns-in_ok-push-in-Joined-2-clause-taken c =
    visit_joined c.args.infinity c.args.sentences.now c.args.self.now _ c.requires.store c.args.t c.in-Joined.left c.in-Joined.right c.in-Joined.joint c.len-start.result c.in-Joined.ensures
    (record { ranges = refl; goals = refl; pending = refl }) (search rules)
    (c.in_ok-push-in-Joined-2.ensures.items ∙ ap (λ (ts : List Task). ts ++ task.Visit c.in-Joined.left ∷ []) c.in_ok-push-in-Joined.ensures.items)

pub returns-in_ok-push-in-Denied-2-clause-taken : goal.returns-in_ok-push-in-Denied-2-clause-taken
returns-in_ok-push-in-Denied-2-clause-taken c =
    visit_denied c.args.infinity c.args.sentences.now c.args.self.now _ c.requires.store c.args.t c.in-Denied.inner c.len-start-in-Denied.result
    c.in-Denied.ensures (record { ranges = refl; goals = refl; pending = refl }) (search rules)
    (c.in_ok-push-in-Denied-2.ensures.items ∙ ap (λ (ts : List Task). ts ++ task.Visit c.in-Denied.inner ∷ []) c.in_ok-push-in-Denied.ensures.items)

pub returns-in_ok-push-in-Goal-clause-taken : goal.returns-in_ok-push-in-Goal-clause-taken
returns-in_ok-push-in-Goal-clause-taken c =
    visit_goal c.args.infinity c.args.sentences.now c.args.self.now _ c.requires.store c.args.t c.in_ok-goal-in-Goal.goal c.in-Goal.ensures
    c.in_ok-goal-in-Goal.ensures.accepted c.in_ok-goal-in-Goal.ensures.kept refl
    c.in_ok-push-in-Goal.ensures.items refl
