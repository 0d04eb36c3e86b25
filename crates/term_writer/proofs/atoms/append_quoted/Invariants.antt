use Rattle.std.proofs.Common.{◌≡◌, ◌++◌, ◌∷◌, [], drop}
use Rattle.fd_language.specs.TermTexts.{quoted_bytes}
use Rattle.term_writer.proofs.atoms.append_quoted.Given as goal

abbrev pub invariant-loop-byte : goal.invariant-loop-byte
invariant-loop-byte l = l.text.items ++ quoted_bytes (drop l.byte-index l.name) ≡ (l.fn.text.items ++ 39 ∷ []) ++ quoted_bytes l.name
