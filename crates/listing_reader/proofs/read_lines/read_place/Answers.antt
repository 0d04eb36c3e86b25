use Rattle.std.proofs.Common.{◌≡◌, ◌∙◌, Bor, List, ℕ, ap, map, refl, subst}
use Rattle.listing_reader.specs.Lists.{FitsPlace, place_words, placed_text}
use Rattle.listing_reader.specs.Places.{place_in}
use Rattle.listing_reader.proofs.LineTexts.{split_place}
use Rattle.listing_reader.specs.Reading.{ReadsAs}
use Rattle.listing_reader.proofs.LineWords.{worded}
use Rattle.listing_reader.proofs.read_lines.read_place.Goals as goal

pub returns : goal.returns
returns c =
    worded FitsPlace placed_text place_words (λ x. refl) split_place place_in c.args.line.now c.in_ok-place.place
    (subst (λ (ws : List (List ℕ)). ReadsAs place_in FitsPlace place_words ws c.in_ok-place.place)
    (ap (λ (l : List (Bor (List ℕ))). map (λ (w : Bor (List ℕ)). w.now) l) c.deref.ensures.value ∙ c.in_ok-words.ensures) c.in_ok-place.ensures)
