use Rattle.std.proofs.Common.{◌≡◌, ◌++◌, take, map}
use Rattle.code_listing.specs.Words.{more_words}
use Rattle.code_listing.specs.Texts.{row_word}
use Rattle.code_listing.proofs.words.put_rows.Given as goal

abbrev pub invariant-loop-index : goal.invariant-loop-index
invariant-loop-index l = l.text.items ≡ l.initial.text.items ++ more_words (map row_word (take l.index l.rows))
