use Rattle.std.proofs.Common.{◌≡◌, take, []}
use Rattle.std.specs.Ordering.{int_eq}
use Rattle.indexmap.specs.IndexSet.{insert_all}
use Rattle.range_code.specs.Pieces.{literals}
use Rattle.range_code.proofs.instr.number_constants.Given as goal

abbrev pub invariant-loop-piece : goal.invariant-loop-piece
invariant-loop-piece l = record {
  places : l.table.places.keys ≡ insert_all int_eq [] (literals (take l.piece-index l.pieces));
  values : l.table.values.items ≡ l.table.places.keys;
}
