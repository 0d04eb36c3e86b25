use Rattle.term_pool.specs.Terms.{term_of, terms_by}
use Rattle.clause_code.specs.ArgumentHomes.{Stayed}
use Rattle.clause_code.proofs.argument_homes.stay_all.Given as goal

abbrev pub invariant-loop-i : goal.invariant-loop-i
invariant-loop-i l = Stayed l.fn.homes.items l.homes.items (terms_by (term_of l.pool) l.ids) l.from
