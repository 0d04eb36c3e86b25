use Rattle.std.proofs.Common.{◌≡◌, All, map, take}
use Rattle.code_listing.specs.Texts.{row_word}
use Rattle.listing_reader.specs.Lists.{FitsRow}
use Rattle.listing_reader.proofs.read_rows.read_rows.Given as goal

abbrev pub invariant-loop-word : goal.invariant-loop-word
invariant-loop-word l = All (FitsRow l.kind) l.rows.items × (map row_word l.rows.items ≡ map (λ w. w.now) (take l.word-index l.words))
