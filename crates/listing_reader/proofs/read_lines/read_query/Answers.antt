use Rattle.std.proofs.Common.{◌≡◌, ◌∙◌, Bor, List, ℕ, ap, map, refl, subst}
use Rattle.wam_code.specs.Area.{span_of}
use Rattle.code_listing.specs.Texts.{span_text}
use Rattle.listing_reader.specs.NumberBounds.{IsSmallSpan}
use Rattle.listing_reader.specs.Lists.{span_words}
use Rattle.listing_reader.proofs.LineTexts.{split_span}
use Rattle.listing_reader.specs.Reading.{ReadsAs}
use Rattle.listing_reader.proofs.LineWords.{worded}
use Rattle.listing_reader.proofs.read_lines.read_query.Goals as goal

pub returns : goal.returns
returns c =
    worded IsSmallSpan span_text span_words (λ x. refl) split_span span_of c.args.line.now c.in_ok-query.query
    (subst (λ (ws : List (List ℕ)). ReadsAs span_of IsSmallSpan span_words ws c.in_ok-query.query)
    (ap (λ (l : List (Bor (List ℕ))). map (λ (w : Bor (List ℕ)). w.now) l) c.deref.ensures.value ∙ c.in_ok-words.ensures) c.in_ok-query.ensures)
