use Rattle.std.proofs.Common.{subst}
use Rattle.term_pool.specs.PoolInvariant.{IsPool}
use Rattle.code_goals.proofs.goal_outcomes.pool_of.Goals as goal

pub returns-clause-valid : goal.returns-clause-valid
returns-clause-valid c = subst IsPool c.pool-pool.ensures c.atoms.ensures.valid
