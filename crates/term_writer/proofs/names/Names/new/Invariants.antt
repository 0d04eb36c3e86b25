use Rattle.std.proofs.Common.{ℕ}
use Rattle.std.specs.Prelude.{nat_eq}
use Rattle.indexmap.specs.IndexMap.{get}
use Rattle.term_writer.proofs.Index.{IsIndexed}
use Rattle.term_writer.proofs.names.Names.new.Given as goal

abbrev pub invariant-loop-place : goal.invariant-loop-place
invariant-loop-place l = (x : ℕ) → IsIndexed l.vars l.place x (get nat_eq l.places x)
