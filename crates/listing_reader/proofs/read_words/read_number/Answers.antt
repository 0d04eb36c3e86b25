use Rattle.std.proofs.Common.{rules, ◌≡◌, false, decimal}
use Rattle.std.specs.Str.{bytes_eq}
use Rattle.listing_reader.proofs.NumberWords.{no_text, no_number, no_spelling}
use Rattle.listing_reader.proofs.read_words.read_number.Goals as goal

pub returns-in_default : goal.returns-in_default
returns-in_default c = no_text c.args.word.now c.in_default.ensures.cases.0

pub returns-in_default-parse : goal.returns-in_default-parse
returns-in_default-parse c = no_number c.args.word.now c.in-Ok.text.now c.parse.result c.in-Ok.ensures.cases.0 c.parse.ensures.value.0 (search rules)

pub returns-else-eq : goal.returns-else-eq
returns-else-eq c =
    let differs : bytes_eq (decimal c.in-Ok-parse.number) c.args.word.now ≡ false = search rules in
    no_spelling c.args.word.now c.in-Ok.text.now c.parse.result c.in-Ok.ensures.cases.0 c.parse.ensures.value.0 c.in-Ok-parse.number (search rules) differs
