use Rattle.std.proofs.Common.{rules, ◌≡◌, ◌∙◌, All, Bor, List, ℕ, ap, codes, map, subst}
use Rattle.code_listing.specs.Texts.{argument_word}
use Rattle.listing_reader.specs.NumberBounds.{IsNumber}
use Rattle.listing_reader.specs.Reading.{ReadsAs}
use Rattle.listing_reader.proofs.StateWords.{registers_reads}
use Rattle.listing_reader.proofs.read_states.read_registers.Goals as goal

pub returns : goal.returns
returns c =
    let other : ¬ (c.args.word.now ≡ codes "-") = search rules in
    registers_reads c.args.word.now other (λ v. v.items) c.in_ok-arguments.arguments
    (subst (λ (ws : List (List ℕ)). ReadsAs (λ v. v.items) (All IsNumber) (map argument_word) ws c.in_ok-arguments.arguments)
    (ap (λ (l : List (Bor (List ℕ))). map (λ (w : Bor (List ℕ)). w.now) l) c.deref.ensures.value ∙ c.in_ok-parts.ensures) c.in_ok-arguments.ensures)
