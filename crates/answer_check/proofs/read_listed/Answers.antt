use Rattle.std.proofs.Common.{rules, ◌≡◌, ◌+◌, ℕ, List, take, drop, length, subst}
use Rattle.std.specs.Prelude.{MatchResult}
use Rattle.answer_check.specs.Inputs.{JudgesInput, JudgesText, Lists, Stops}
use Rattle.byte_ports.specs.Lines.{lines_of}
use Rattle.answer_check.specs.Parts.{query_line}
use Rattle.answer_check.specs.InputSplit.{IsSplitAt}
use Rattle.answer_check.proofs.WholeInputs.{parts_judged, reads_so}
use Rattle.answer_check.proofs.read_listed.Goals as goal

pub returns-in-Some : goal.returns-in-Some
returns-in-Some c =
    let input = c.args.input.now in
    let at = c.in-Some.at in
    let from = at + length query_line in
    let text : c.range.result.now ≡ take at input = search rules in
    let same : c.as_bytes-bytes.result.now ≡ input = search rules in
    let read = subst (λ (bs : List ℕ). MatchResult c.read_parts.result (Lists (JudgesText c.range.result.now from (lines_of (drop from bs))))
    (Stops (JudgesText c.range.result.now from (lines_of (drop from bs))))) same c.read_parts.ensures in
    reads_so (JudgesText (take at input) from (lines_of (drop from input))) (JudgesInput input)
    (parts_judged input at (subst (λ (bs : List ℕ). IsSplitAt bs at) same c.in-Some.ensures)) c.read_parts.result
    (subst (λ (t : List ℕ). MatchResult c.read_parts.result (Lists (JudgesText t from (lines_of (drop from input)))) (Stops (JudgesText t from (lines_of (drop from input))))) text read)
