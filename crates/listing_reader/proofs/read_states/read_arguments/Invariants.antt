use Rattle.std.proofs.Common.{◌≡◌, All, map, take}
use Rattle.code_listing.specs.Texts.{argument_word}
use Rattle.listing_reader.specs.NumberBounds.{IsNumber}
use Rattle.listing_reader.proofs.read_states.read_arguments.Given as goal

abbrev pub invariant-loop-word : goal.invariant-loop-word
invariant-loop-word l = All (IsNumber) l.arguments.items × (map argument_word l.arguments.items ≡ map (λ w. w.now) (take l.word-index l.words))
