use Rattle.std.proofs.Common.{◌≡◌, ◌++◌, take}
use Rattle.answer_text.specs.Pieces.{spans_text}
use Rattle.answer_text.proofs.domains.put_spans.Given as goal

abbrev pub invariant-loop-index : goal.invariant-loop-index
invariant-loop-index l = l.text.items ≡ l.initial.text.items ++ spans_text (take l.index l.spans)
