use Rattle.std.proofs.Common.{rules, ◌≡◌, ◌<◌, ◌≤◌, ◌∙◌, ap, arith, length}
use Rattle.term_pool.specs.Terms.{term_of}
use Rattle.answer_check.proofs.GoalForms.{arity, other_parts}
use Rattle.answer_check.proofs.goals.constraint_by.Goals as goal
use Rattle.answer_check.proofs.goals.constraint_by.Goals.{in_default-via-then-parts-lt2, in_default-via-else-parts-lt2+else-parts-lt3}
use Rattle.answer_check.proofs.goals.constraint_by.Goals.{in_default-parts-via-then-parts-lt1, in_default-parts-via-else-parts-lt1+else-parts-lt2-2}
use Rattle.answer_check.proofs.goals.constraint_by.Goals.{in_default-parts-2-via-then-parts-lt3-2, in_default-parts-2-via-else-parts-lt3-2+else-parts-lt4}
use Rattle.answer_check.proofs.goals.constraint_by.Goals.{in_default-parts-3-via-then-parts-lt3-3, in_default-parts-3-via-else-parts-lt3-3+else-parts-lt4-2}

pub returns-in_default : goal.returns-in_default
returns-in_default c = other_parts c.args.kind (term_of c.args.pool.now) c.args.parts.now (λ e.
    let n : length c.args.parts.now ≡ 2 = e ∙ ap arity c.in-Compare.is in
    elim c.in_default.branch [
      | in_default-via-then-parts-lt2 w ↦ (let l : length c.args.parts.now < 2 = search rules in omega (arith, l, n))
      | in_default-via-else-parts-lt2+else-parts-lt3 w ↦ (let l : 3 ≤ length c.args.parts.now = search rules in omega (arith, l, n))
    ])

pub returns-in_default-parts : goal.returns-in_default-parts
returns-in_default-parts c = other_parts c.args.kind (term_of c.args.pool.now) c.args.parts.now (λ e.
    let n : length c.args.parts.now ≡ 1 = e ∙ ap arity c.in-AllDifferent.is in
    elim c.in_default-parts.branch [
      | in_default-parts-via-then-parts-lt1 w ↦ (let l : length c.args.parts.now < 1 = search rules in omega (arith, l, n))
      | in_default-parts-via-else-parts-lt1+else-parts-lt2-2 w ↦ (let l : 2 ≤ length c.args.parts.now = search rules in omega (arith, l, n))
    ])

pub returns-in_default-parts-2 : goal.returns-in_default-parts-2
returns-in_default-parts-2 c = other_parts c.args.kind (term_of c.args.pool.now) c.args.parts.now (λ e.
    let n : length c.args.parts.now ≡ 3 = e ∙ ap arity c.in-Element.is in
    elim c.in_default-parts-2.branch [
      | in_default-parts-2-via-then-parts-lt3-2 w ↦ (let l : length c.args.parts.now < 3 = search rules in omega (arith, l, n))
      | in_default-parts-2-via-else-parts-lt3-2+else-parts-lt4 w ↦ (let l : 4 ≤ length c.args.parts.now = search rules in omega (arith, l, n))
    ])

pub returns-in_default-parts-3 : goal.returns-in_default-parts-3
returns-in_default-parts-3 c = other_parts c.args.kind (term_of c.args.pool.now) c.args.parts.now (λ e.
    let n : length c.args.parts.now ≡ 3 = e ∙ ap arity c.in-Atmost.is in
    elim c.in_default-parts-3.branch [
      | in_default-parts-3-via-then-parts-lt3-3 w ↦ (let l : length c.args.parts.now < 3 = search rules in omega (arith, l, n))
      | in_default-parts-3-via-else-parts-lt3-3+else-parts-lt4-2 w ↦ (let l : 4 ≤ length c.args.parts.now = search rules in omega (arith, l, n))
    ])
