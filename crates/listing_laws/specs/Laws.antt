-- The statement of the law.
use Rattle.fd_model.specs.Goal.{Program}
use Rattle.term_pool.specs.PoolInvariant.{IsPool}
use Rattle.wam_code.specs.Area.{Area}
use Rattle.wam_code.specs.Tries.{StandsForProgram}
use Rattle.code_listing.specs.Listing.{IsSameCode}

-- Areas that differ only in what a listing leaves out stand for the same programs. The first three atoms, which no listing shows, are those of every pool.
pub record SameListingStands : Type 0 where
  pub stands : (a b : Area) (p : Program) → IsSameCode a b → IsPool a.pool → IsPool b.pool → StandsForProgram a p → StandsForProgram b p
