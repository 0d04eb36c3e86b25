use Rattle.std.proofs.Common.{rules, ◌≡◌, ◌<◌, ◌^◌, ◌∙◌, sym, ap, Bool, Some, decimal}
use Rattle.std.specs.Prelude.{◌&&◌, nat_le}
use Rattle.std.specs.Bool.{then_some}
use Rattle.std.specs.Result.{result_ok}
use Rattle.std.specs.Str.{bytes_eq}
use Rattle.clpwhere.specs.Numbers.{last_place}
use Rattle.clpwhere.proofs.PlaceWords.{no_text, no_number, number_place}
use Rattle.clpwhere.proofs.refusal.place_in.Goals as goal
use Rattle.clpwhere.proofs.refusal.place_in.Goals.{then-is_spelled_so, else-is_spelled_so}

pub returns-in_default : goal.returns-in_default
returns-in_default c = no_text c.args.bytes.now c.in_default.ensures.cases.0

pub returns-in_default-parse : goal.returns-in_default-parse
returns-in_default-parse c = no_number c.args.bytes.now c.in-Ok.text.now c.parse.result c.in-Ok.ensures.cases.0 c.parse.ensures.value.0 (search rules)

pub returns : goal.returns
returns c =
    let m = c.in-Ok-parse.place in
    let spelled : c.eq-is_spelled_so.result ≡ bytes_eq (decimal m) c.args.bytes.now = search rules in
    let test : c.if-is_spelled_so.then_some ≡ (bytes_eq (decimal m) c.args.bytes.now && nat_le m last_place) = elim c.if-is_spelled_so.branch [
      | then-is_spelled_so w ↦ w.then_some-is ∙ ap (λ (b : Bool). b && nat_le m last_place) (sym w.if-is_spelled_so.true ∙ spelled)
      | else-is_spelled_so w ↦ w.then_some-is ∙ w.if-is_spelled_so.false ∙ ap (λ (b : Bool). b && nat_le m last_place) (sym w.if-is_spelled_so.false ∙ spelled)
    ] in
    let some : Some m ≡ result_ok c.parse.result = search rules in
    let low : m < 2 ^ 64 = search rules in
    c.then_some.ensures ∙ ap (λ (b : Bool). then_some b m) test ∙ number_place c.args.bytes.now c.in-Ok.text.now c.parse.result m c.in-Ok.ensures.cases.0 c.parse.ensures.value.0 some low
