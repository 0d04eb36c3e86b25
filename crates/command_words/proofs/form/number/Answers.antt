use Rattle.std.proofs.Common.{◌≡◌, ◌≤◌, ◌<◌, ◌^◌, ◌∙◌, ◌&&◌, arith, get_or, nat_le}
use Rattle.std.proofs.lemmas.Bool.Decides.{nat_tests}
use Rattle.command_words.proofs.Numbers.{no_number, number_kept}
use Rattle.command_words.proofs.form.number.Goals as goal

pub returns-in_err-n : goal.returns-in_err-n
returns-in_err-n c =
    let least : 49 ≤ get_or c.as_bytes.result.now 0 0 = omega arith in
    let most : get_or c.as_bytes.result.now 0 0 ≤ 57 = omega arith in
    let fits : c.args.high < 2 ^ 64 = omega arith in
    c.from_residual.ensures ∙ no_number c.args.low c.args.high c.args.text.now c.parse.result fits (rw c.as_bytes.ensures.value at least) (rw c.as_bytes.ensures.value at most)
    c.parse.ensures.value.0 c.in_err-n.ensures.value

pub returns : goal.returns
returns c =
    let least : 49 ≤ get_or c.as_bytes.result.now 0 0 = omega arith in
    let most : get_or c.as_bytes.result.now 0 0 ≤ 57 = omega arith in
    let fits : c.args.high < 2 ^ 64 = omega arith in
    let inside : c.contains.result ≡ (nat_le c.args.low c.in_ok-n.n && nat_le c.in_ok-n.n c.args.high) = grind (arith, nat_tests) in
    c.then_some.ensures ∙ number_kept c.args.low c.args.high c.args.text.now c.parse.result fits (rw c.as_bytes.ensures.value at least) (rw c.as_bytes.ensures.value at most)
    c.parse.ensures.value.0 c.in_ok-n.n c.contains.result c.in_ok-n.ensures.value inside
