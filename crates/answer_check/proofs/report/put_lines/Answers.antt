use Rattle.std.proofs.Common.{rules, ◌≡◌, ◌<◌, ◌≤◌, ◌+◌, ◌∙◌, ◌&&◌, Bool, List, [], Err, is_none, length, get_or, sym, ap, subst, refl, arith}
use Rattle.byte_ports.specs.Ends.{SinkState, sink_at}
use Rattle.answer_check.specs.declared.goals.Constraint.{Constraint}
use Rattle.answer_check.specs.declared.outcome.Fault.TheVariants as fault
use Rattle.answer_check.specs.declared.report.Lines.{Lines}
use Rattle.answer_check.specs.AnswerLines.{assigned}
use Rattle.answer_check.specs.Checks.{AreFirstBroken}
use Rattle.answer_check.proofs.AnswerOrder.{row_is}
use Rattle.answer_check.proofs.Streams.{IsStreamed, lines_cut, lines_end, lines_short, streamed_flushed, streamed_more}
use Rattle.answer_check.proofs.report.put_lines.Goals as goal
use Rattle.answer_check.proofs.report.put_lines.Goals.{then-are_good, else-are_good}

pub returns-in_err-broken : goal.returns-in_err-broken
returns-in_err-broken g c = λ f nss i k.
    let old : SinkState = sink_at (g.K.Sink.written c.args.sink.now) (g.K.Sink.faults c.args.sink.now) in
    let now : SinkState = sink_at (g.K.Sink.written c.loop-number.sink) (g.K.Sink.faults c.loop-number.sink) in
    let e : c.from_residual.result ≡ Err fault.NoMemory = search rules in
    lines_short f.constraints c.args.query.now.goals.constraints.items nss i.goals.constraints k.1.within old now c.loop-number.number c.loop-number.text.items
    c.loop-number.are_good (c.loop-number.invariant f nss i k) c.from_residual.result e

pub returns-in_err-put_answer : goal.returns-in_err-put_answer
returns-in_err-put_answer g c = λ f nss i k.
    let old : SinkState = sink_at (g.K.Sink.written c.args.sink.now) (g.K.Sink.faults c.args.sink.now) in
    let now : SinkState = sink_at (g.K.Sink.written c.loop-number.sink) (g.K.Sink.faults c.loop-number.sink) in
    let e : c.from_residual-in_err-put_answer.result ≡ Err fault.NoMemory = search rules in
    lines_short f.constraints c.args.query.now.goals.constraints.items nss i.goals.constraints k.1.within old now c.loop-number.number c.loop-number.text.items
    c.loop-number.are_good (c.loop-number.invariant f nss i k) c.from_residual-in_err-put_answer.result e

pub returns-in_err-flush : goal.returns-in_err-flush
returns-in_err-flush g c = λ f nss i k.
    let old : SinkState = sink_at (g.K.Sink.written c.args.sink.now) (g.K.Sink.faults c.args.sink.now) in
    let now : SinkState = sink_at (g.K.Sink.written c.loop-number.sink) (g.K.Sink.faults c.loop-number.sink) in
    let new : SinkState = sink_at (g.K.Sink.written c.flush.new.sink) (g.K.Sink.faults c.flush.new.sink) in
    let gs = f.constraints in
    let ks = c.args.query.now.goals.constraints.items in
    let a = c.args.answers.now in
    let n = c.loop-number.number in
    let good = c.loop-number.are_good in
    let broken = c.in_ok-broken.broken in
    let below : n < a.count = (let t = c.loop-number-test.true in let e = c.count-number-end.ensures in omega (arith, t, e)) in
    let l : n < length nss = (let e = k.1.count_is in omega (arith, below, e)) in
    let row : c.row.result.now ≡ get_or nss n [] = row_is f.query.variables nss a.values.items a.count k.1 a.variables n c.row.result.now k.0 below c.row.ensures in
    let first = subst (λ (cs : List Constraint). AreFirstBroken (assigned c.row.result.now) 1 cs broken) c.deref.ensures.value c.in_ok-broken.ensures in
    let more = streamed_more gs ks nss i.goals.constraints k.1.within old now n c.loop-number.text.items good (c.loop-number.invariant f nss i k)
    c.put_answer.new.text.items c.row.result.now broken l row first c.in_ok-put_answer.ensures in
    let e : c.from_residual-in_err-flush.result ≡ Err fault.WriteFault = search rules in
    lines_cut gs ks nss i.goals.constraints k.1.within old now (n + 1) c.put_answer.new.text.items (good && is_none broken) more new c.from_residual-in_err-flush.result c.in_err-flush.ensures e

pub loop-number-preserved : goal.loop-number-preserved
loop-number-preserved g c = λ f nss i k.
    let old : SinkState = sink_at (g.K.Sink.written c.args.sink.now) (g.K.Sink.faults c.args.sink.now) in
    let now : SinkState = sink_at (g.K.Sink.written c.loop-number.sink) (g.K.Sink.faults c.loop-number.sink) in
    let new : SinkState = sink_at (g.K.Sink.written c.flush.new.sink) (g.K.Sink.faults c.flush.new.sink) in
    let gs = f.constraints in
    let ks = c.args.query.now.goals.constraints.items in
    let a = c.args.answers.now in
    let n = c.loop-number.number in
    let good = c.loop-number.are_good in
    let broken = c.in_ok-broken.broken in
    let below : n < a.count = (let t = c.loop-number-test.true in let e = c.count-number-end.ensures in omega (arith, t, e)) in
    let l : n < length nss = (let e = k.1.count_is in omega (arith, below, e)) in
    let row : c.row.result.now ≡ get_or nss n [] = row_is f.query.variables nss a.values.items a.count k.1 a.variables n c.row.result.now k.0 below c.row.ensures in
    let first = subst (λ (cs : List Constraint). AreFirstBroken (assigned c.row.result.now) 1 cs broken) c.deref.ensures.value c.in_ok-broken.ensures in
    let more = streamed_more gs ks nss i.goals.constraints k.1.within old now n c.loop-number.text.items good (c.loop-number.invariant f nss i k)
    c.put_answer.new.text.items c.row.result.now broken l row first c.in_ok-put_answer.ensures in
    let both : c.if-are_good.are_good ≡ (good && is_none broken) = elim c.if-are_good.branch [
      | then-are_good w ↦ (let none : w.is_none-are_good.result ≡ is_none broken = search rules in w.are_good-is ∙ none ∙ ap (λ (b : Bool). b && is_none broken) (sym w.if-are_good.true))
      | else-are_good w ↦ w.are_good-is ∙ w.if-are_good.false ∙ ap (λ (b : Bool). b && is_none broken) (sym w.if-are_good.false)
    ] in
    subst (IsStreamed gs nss old new (n + 1) c.flush.new.text.items) (sym both)
    (streamed_flushed gs ks nss i.goals.constraints k.1.within old now (n + 1) c.put_answer.new.text.items (good && is_none broken) more new c.flush.new.text.items c.in_ok-flush.ensures)

pub returns : goal.returns
returns g c = λ f nss i k.
    let old : SinkState = sink_at (g.K.Sink.written c.args.sink.now) (g.K.Sink.faults c.args.sink.now) in
    let now : SinkState = sink_at (g.K.Sink.written c.loop-number.sink) (g.K.Sink.faults c.loop-number.sink) in
    let n = c.loop-number.number in
    let all : length nss ≤ n = (let t = c.loop-number-test.false in let e = c.count-number-end.ensures in let m = k.1.count_is in omega (arith, t, e, m)) in
    let l : Lines = record { text = c.loop-number.text; are_good = c.loop-number.are_good } in
    lines_end f.constraints c.args.query.now.goals.constraints.items nss i.goals.constraints k.1.within old now n c.loop-number.text.items
    c.loop-number.are_good (c.loop-number.invariant f nss i k) all l refl refl
