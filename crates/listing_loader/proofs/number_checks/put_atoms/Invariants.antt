use Rattle.std.proofs.Common.{◌≡◌, ◌<◌, ◌++◌, ℕ, true, map, take, get_or, string_bytes}
use Rattle.listing_loader.specs.Marks.{atom_marks}
use Rattle.listing_loader.proofs.number_checks.put_atoms.Given as goal

abbrev pub invariant-loop-index : goal.invariant-loop-index
invariant-loop-index l = record {
  pool : l.pool ≡ record l.fn.pool { names = l.fn.pool.names ++ take l.index (map string_bytes l.atoms) };
  new : (k : ℕ) → k < l.index → get_or (atom_marks l.fn.pool.names (map string_bytes l.atoms)) k true ≡ true;
}
