use Rattle.std.proofs.Common.{◌≡◌, ◌++◌, take, map, codes}
use Rattle.code_listing.specs.Words.{between}
use Rattle.code_listing.specs.Texts.{argument_word}
use Rattle.code_listing.proofs.words.put_registers.Given as goal

abbrev pub invariant-loop-index : goal.invariant-loop-index
invariant-loop-index l = l.text.items ≡ l.initial.text.items ++ between (codes ",") (map argument_word (take l.index l.registers))
