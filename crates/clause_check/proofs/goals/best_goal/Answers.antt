use Rattle.term_pool.specs.PlacedTerms.{placed_of}
use Rattle.clause_check.proofs.KeptGoals.{ordered, keeps_best}
use Rattle.clause_check.proofs.goals.best_goal.Goals as goal

pub returns-in-Some-clause-kept : goal.returns-in-Some-clause-kept
returns-in-Some-clause-kept c = λ N ranges.
    let pool = c.args.pool.now in
    let g = c.first_part-labelling.result in
    let o = c.in-Some.order in
    keeps_best N pool ranges (placed_of pool c.args.t) o c.args.least g c.first_part-list.result c.second_part.result c.first_part-labelling.ensures
    c.first_part-list.ensures c.second_part.ensures (ordered _ o c.in-Some.ensures)
