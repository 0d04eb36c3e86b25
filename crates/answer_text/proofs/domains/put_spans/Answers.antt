use Rattle.std.proofs.Common.{rules}
use Rattle.answer_text.proofs.JoinedTexts.{spans_step}
use Rattle.answer_text.proofs.domains.put_spans.Goals as goal

pub loop-index-preserved : goal.loop-index-preserved
loop-index-preserved c =
    spans_step c.args.text.now.items c.loop-index.text.items c.put_separator.new.text.items c.put_interval.new.text.items c.args.spans.now c.loop-index.index
    (0, 0) (search rules) c.loop-index.invariant
    c.in_ok-put_separator.ensures c.in_ok-put_interval.ensures
