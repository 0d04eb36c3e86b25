use Rattle.std.proofs.Common.{◌≡◌, ℕ, ◌+◌, ◌-◌, ◌≤◌, List, length, take, drop, sym, ap, ◌∙◌, subst, arith}
use Rattle.std.proofs.lemmas.List.{drop-take}
use Rattle.clause_check.specs.declared.program.FlatGoal.{FlatGoal}
use Rattle.clause_check.specs.declared.program.FlatGoal.TheVariants as flat
use Rattle.clause_check.specs.declared.terms.Joint.{Joint}
use Rattle.clause_check.specs.GoalStores.{flat_part, joined_by}
use Rattle.clause_check.proofs.JoinedGoals.{several_ways}
use Rattle.clause_check.proofs.goals.joined_goal.Goals as goal

pub returns-in_default-4 : goal.returns-in_default-4
returns-in_default-4 c =
    let gs = c.args.goals.now in
    let a = c.args.left in
    let b = c.args.right in
    let size : a.from + (a.to - a.from) ≡ a.to = omega (arith, c.requires.ordered) in
    let same : take (a.to - a.from) (drop a.from gs) ≡ flat_part gs a = sym (drop-take a.from (a.to - a.from) gs) ∙ ap (λ (n : ℕ). drop a.from (take n gs)) size in
    let long : 2 ≤ length (flat_part gs a) = subst (λ (xs : List FlatGoal). 2 ≤ length xs) same c.in_default.len_at_least in
    subst (λ (j : Joint). flat.Either a b ≡ joined_by j (flat_part gs a) a b) (sym c.in-Semicolon.is) (sym (several_ways (flat_part gs a) a b long))
