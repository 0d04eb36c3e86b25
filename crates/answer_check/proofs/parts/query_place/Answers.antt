use Rattle.std.proofs.Common.{◌≡◌, ◌≤◌, ◌+◌, ◌∙◌, sym, ap, subst, drop, length, arith, true, false}
use Rattle.std.specs.Str.{bytes_eq}
use Rattle.byte_ports.specs.Lines.{first_line}
use Rattle.answer_check.specs.Parts.{query_line}
use Rattle.answer_check.proofs.Lines.{split_here, split_goes_on, behind_line, slice_end, parts_from}
use Rattle.answer_check.proofs.parts.query_place.Goals as goal

pub returns-then-eq : goal.returns-then-eq
returns-then-eq c =
    let input = c.args.input.now in
    let at = c.loop-at.at in
    let line : c.first_line-line.result.now ≡ first_line (drop at input) = c.first_line-line.ensures.line ∙ ap first_line (slice_end input at) in
    let same : bytes_eq (first_line (drop at input)) query_line ≡ true = ap (λ l. bytes_eq l query_line) (sym line) ∙ (sym c.eq.ensures ∙ c.if-eq.true) in
    split_here input at c.loop-at-test.true same c.loop-at.invariant.parts

pub loop-at-preserved : goal.loop-at-preserved
loop-at-preserved c =
    let input = c.args.input.now in
    let at = c.loop-at.at in
    let line : c.first_line-line.result.now ≡ first_line (drop at input) = c.first_line-line.ensures.line ∙ ap first_line (slice_end input at) in
    let same : bytes_eq (first_line (drop at input)) query_line ≡ false = ap (λ l. bytes_eq l query_line) (sym line) ∙ (sym c.eq.ensures ∙ c.if-eq.false) in
    record {
      within = subst (λ l. at + length l ≤ length input) (sym line) (behind_line input at (let t = c.loop-at-test.true in omega (arith, t)));
      parts = c.loop-at.invariant.parts ∙ split_goes_on input at c.loop-at-test.true same ∙ ap (λ l. parts_from input (at + length l)) (sym line);
    }
