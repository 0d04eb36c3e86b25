use Rattle.std.proofs.Common.{◌≡◌, ◌<◌, ◌^◌, ◌∙◌, sym, arith, decimal}
use Rattle.std.proofs.lemmas.Fmt.{decimal_injective}
use Rattle.listing_reader.proofs.read_words.read_arity.Goals as goal

pub returns-else-number-lt256 : goal.returns-else-number-lt256
returns-else-number-lt256 c = λ n small e.
    let m = c.in-Some.number in
    let is : decimal m ≡ c.args.word.now = c.in-Some.ensures.1 in
    let low : m < 2 ^ 64 = c.in-Some.ensures.0 in
    let same : m ≡ n = decimal_injective m n low (omega (arith, small)) (is ∙ sym e) in
    let high = c.if-number-lt256.false in
    absurd (omega (arith, same, small, high))
