use Rattle.std.proofs.Common.{◌≡◌, ◌∙◌, sym, Some}
use Rattle.term_pool.specs.Terms.{term_of}
use Rattle.answer_check.specs.Sides.{sides_in}
use Rattle.answer_check.proofs.Constraints.{no_sides, sides_there, sides_say}
use Rattle.answer_check.proofs.goals.comparison.Goals as goal

pub returns-in-Some : goal.returns-in-Some
returns-in-Some c =
    let s = term_of c.args.pool.now c.args.left in
    let t = term_of c.args.pool.now c.args.right in
    let e : Some c.in-Some.sides ≡ sides_in s t = sym c.in-Some.is ∙ c.in_ok-sides.ensures in
    ((sides_there s t c.in-Some.sides e).0, sides_say c.args.relation s t c.in-Some.sides e)

pub returns-in-None : goal.returns-in-None
returns-in-None c =
    let s = term_of c.args.pool.now c.args.left in
    let t = term_of c.args.pool.now c.args.right in
    no_sides s t (sym c.in-None.is ∙ c.in_ok-sides.ensures)
