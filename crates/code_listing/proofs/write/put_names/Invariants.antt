use Rattle.std.proofs.Common.{◌≡◌, ◌++◌, take, map}
use Rattle.code_listing.specs.Words.{more_words}
use Rattle.code_listing.specs.Texts.{atom_number}
use Rattle.code_listing.proofs.write.put_names.Given as goal

abbrev pub invariant-loop-index : goal.invariant-loop-index
invariant-loop-index l = l.text.items ≡ l.initial.text.items ++ more_words (map atom_number (take l.index l.names))
