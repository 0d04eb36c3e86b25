-- The placed terms of several ids, and pools that grow by one.
use Rattle.std.specs.Prelude.{◌≡◌, ◌<◌, List, length}
use Rattle.fd_language.specs.PlacedTerm.{PlacedTerm, PlacedTerms}
use Rattle.term_pool.specs.declared.TermId.{TermId}
use Rattle.term_pool.specs.Contents.{Contents}
use Rattle.term_pool.specs.PlacedTerms.{parts_by, placed_of}
use Rattle.term_pool.specs.Terms.{Extends}
use Rattle.term_pool.specs.PoolInvariant.{IsPool}

-- the terms of several ids
unfoldable pub parts_of : Contents → List TermId → PlacedTerms
parts_of c ts = parts_by (placed_of c) ts

-- new has all of old and the term x, under the number t
pub record Adds (old new : Contents) (x : PlacedTerm) (t : TermId) : Type 0 where
  pub grows : Extends old new
  pub valid : IsPool new
  pub within : t.number < length new.entries
  pub is : placed_of new t ≡ x
