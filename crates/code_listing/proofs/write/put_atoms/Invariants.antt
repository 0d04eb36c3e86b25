use Rattle.std.proofs.Common.{◌≡◌, ◌++◌, ◌-◌, take, drop, map}
use Rattle.fd_language.specs.TermTexts.{Quoted, atom_text}
use Rattle.code_listing.specs.Words.{line_bytes}
use Rattle.code_listing.proofs.write.put_atoms.Given as goal

abbrev pub invariant-loop-number : goal.invariant-loop-number
invariant-loop-number l = l.text.items ≡ l.initial.text.items ++ line_bytes (map (atom_text Quoted) (take (l.number - 3) (drop 3 l.pool.names)))
