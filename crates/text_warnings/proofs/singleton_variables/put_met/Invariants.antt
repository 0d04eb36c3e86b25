use Rattle.std.proofs.Common.{take, map}
use Rattle.fd_language.specs.PlacedTerm.{PlacedTerm}
use Rattle.term_pool.specs.Contents.{atom_name}
use Rattle.text_warnings.specs.Warnings.{singles_from}
use Rattle.text_warnings.specs.OccurrenceCounts.{AreMetIn}
use Rattle.text_warnings.specs.WarningViews.{Adds}
use Rattle.text_warnings.proofs.singleton_variables.put_met.Given as goal

abbrev pub invariant-loop-n : goal.invariant-loop-n
invariant-loop-n l = (t : PlacedTerm) → AreMetIn t l.met → Adds l.pool (singles_from 0 (map (atom_name l.pool) (take l.n l.names)) t) l.initial.warnings.items l.warnings.items
