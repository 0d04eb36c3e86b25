use Rattle.std.proofs.Common.{rules, ap, sym, subst}
use Rattle.term_pool.specs.Contents.{Contents}
use Rattle.term_pool.specs.PoolInvariant.{IsPool}
use Rattle.term_pool.proofs.Growth.{first_pool, first_stored}
use Rattle.term_pool.proofs.Pool.new.Goals as goal

pub returns-clause-empty : goal.returns-clause-empty
returns-clause-empty c = search rules

pub invariant_of-result : goal.invariant_of-result
invariant_of-result c = first_stored _ c.new-2.result.items c.new.result.items (ap (λ (p : Contents). p.names) (returns-clause-empty c)) c.new.ensures.items

pub returns-clause-valid : goal.returns-clause-valid
returns-clause-valid c = subst IsPool (sym (returns-clause-empty c)) first_pool
