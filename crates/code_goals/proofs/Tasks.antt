-- The names of the code's atoms.
use Rattle.term_pool.specs.PoolInvariant.{IsPool}
use Rattle.branch_lemmas.proofs.Lemmas.{full_one, full_own}
use Rattle.wam_code.specs.Area.{Area}
use Rattle.code_safety.specs.RepresentedBranch.{IsNaming}
use Rattle.code_goals.specs.Tasks.{names_of}

-- They tell atoms apart, and the code's atoms have their own.
pub own_naming : (area : Area) → IsPool area.pool → IsNaming area (names_of area)
own_naming area pool = record { apart = full_one area.pool.names pool.distinct; same = λ a own. full_own area.pool.names a own }
