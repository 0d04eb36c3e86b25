use Rattle.std.proofs.Common.{◌≡◌, All, map, take}
use Rattle.code_listing.specs.Texts.{atom_number}
use Rattle.listing_reader.specs.Operands.{IsSmallAtom}
use Rattle.listing_reader.proofs.read_rows.read_names.Given as goal

abbrev pub invariant-loop-word : goal.invariant-loop-word
invariant-loop-word l = All (IsSmallAtom) l.names.items × (map atom_number l.names.items ≡ map (λ w. w.now) (take l.word-index l.words))
