use Rattle.std.proofs.Common.{◌∙◌, ◌≤◌, ◌-◌, ℕ, List, length, take, drop, sym, ap, subst}
use Rattle.std.proofs.lemmas.Str.{IsUtf8-from_is_utf8}
use Rattle.clpwhere.proofs.LineParts.{none_among}
use Rattle.clpwhere.proofs.placed_line.PlacedLine.part.Goals as goal

pub returns : goal.returns
returns c =
    let bytes = c.bytes-bytes.result.now in
    let part = take (c.args.place - c.args.from) (drop c.args.from bytes) in
    record {
      text = c.if-not-self.false;
      within = subst (λ (b : List ℕ). c.args.place ≤ length b) c.bytes-bytes.ensures c.if-bytes-place.false;
      is = ap (λ (b : List ℕ). take (c.args.place - c.args.from) (drop c.args.from b)) c.bytes-bytes.ensures;
      whole = none_among part (sym c.newlines.ensures.value ∙ c.if-newlines-ne0.false);
      utf8 = IsUtf8-from_is_utf8 part (sym c.is_text.ensures ∙ c.if-not-is_text.false);
    }
