use Rattle.std.proofs.Common.{rules, ◌≡◌, true, false}
use Rattle.std.specs.Str.{bytes_eq}
use Rattle.listing_reader.proofs.Headers.{no_digits, no_space, other_word, whole_header}
use Rattle.listing_reader.proofs.sections.read_count.Goals as goal

pub returns-in_default : goal.returns-in_default
returns-in_default c = no_space c.args.name.now c.args.line.now c.in_default.ensures

pub returns-in_default-read_number : goal.returns-in_default-read_number
returns-in_default-read_number c = no_digits c.args.name.now c.args.line.now c.requires c.in-Some.word.now c.in-Some.digits.now c.in-Some.ensures c.in_default-read_number.ensures

pub returns : goal.returns
returns c =
    let same : bytes_eq c.in-Some.word.now c.args.name.now ≡ true = search rules in
    let t = c.in-Some-read_number.ensures in
    (t.0, whole_header c.args.name.now c.args.line.now c.requires c.in-Some.word.now c.in-Some.digits.now c.in-Some.ensures same c.in-Some-read_number.number t.1)

pub returns-then-ne : goal.returns-then-ne
returns-then-ne c =
    let differs : bytes_eq c.in-Some.word.now c.args.name.now ≡ false = search rules in
    other_word c.args.name.now c.args.line.now c.requires c.in-Some.word.now c.in-Some.digits.now c.in-Some.ensures differs
