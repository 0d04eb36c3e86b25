use Rattle.std.proofs.Common.{◌≡◌, ◌∙◌, Bor, List, ℕ, ap, map, refl, subst}
use Rattle.code_listing.specs.Texts.{entry_text}
use Rattle.listing_reader.specs.NumberBounds.{IsSmallEntry}
use Rattle.listing_reader.specs.Lists.{entry_words}
use Rattle.listing_reader.specs.Reading.{Reads}
use Rattle.listing_reader.proofs.LineTexts.{split_entry}
use Rattle.listing_reader.proofs.LineWords.{worded}
use Rattle.listing_reader.proofs.read_lines.read_entry.Goals as goal

pub returns : goal.returns
returns c =
    worded IsSmallEntry entry_text entry_words (λ e. refl) split_entry (λ e. e) c.args.line.now c.read_entry_words.result
    (subst (λ (ws : List (List ℕ)). Reads IsSmallEntry entry_words ws c.read_entry_words.result)
    (ap (λ (l : List (Bor (List ℕ))). map (λ (w : Bor (List ℕ)). w.now) l) c.deref.ensures.value ∙ c.in_ok-words.ensures) c.read_entry_words.ensures)
