use Rattle.std.proofs.Common.{◌≡◌, drop}
use Rattle.std.specs.List.{list_all}
use Rattle.fd_language.specs.Characters.{is_symbol}
use Rattle.term_writer.proofs.atoms.are_symbols.Given as goal

abbrev pub invariant-loop-byte : goal.invariant-loop-byte
invariant-loop-byte l = list_all is_symbol (drop l.byte-index l.name) ≡ list_all is_symbol l.name
