use Rattle.std.proofs.Common.{◌≡◌, ◌++◌, take, map}
use Rattle.code_listing.specs.Words.{line_bytes}
use Rattle.code_listing.specs.Texts.{entry_text}
use Rattle.code_listing.proofs.write.put_entries.Given as goal

abbrev pub invariant-loop-index : goal.invariant-loop-index
invariant-loop-index l = l.text.items ≡ l.initial.text.items ++ line_bytes (map entry_text (take l.index l.entries))
