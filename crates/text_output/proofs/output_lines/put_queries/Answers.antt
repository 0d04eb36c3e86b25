use Rattle.std.proofs.Common.{rules, ◌≡◌, ◌+◌, ◌<◌, ◌++◌, ◌∙◌, refl, sym, ap, subst, length, ℕ, List, [], ◌∷◌, codes, decimal, drop}
use Rattle.fd_model.specs.Lines.{line}
use Rattle.fd_model.specs.Output.{or_stop}
use Rattle.wam_code.specs.Area.{Area}
use Rattle.text_output.specs.Endings.{IsRunBy, limits_of}
use Rattle.text_output.specs.Pieces.{Gave, GaveAll, PieceSink, sink_seen}
use Rattle.text_output.proofs.ProgramCode.{may_run_query, same_queries}
use Rattle.text_output.proofs.PieceWrites.{gave_nothing, gave_short, some_cut, some_short, some_more}
use Rattle.text_output.proofs.LastEvents.{none_yet, next_last, all_last}
use Rattle.text_output.proofs.Events.{program_next, program_given, line_cut, events_cut, query_given, or_true, or_false}
use Rattle.text_output.proofs.output_lines.put_queries.Goals as goal
use Rattle.text_output.proofs.output_lines.put_queries.Goals.{then-branch, else-branch}

pub returns-in_err-shared-clause-gave : goal.returns-in_err-shared-clause-gave
returns-in_err-shared-clause-gave g c = λ prog out stop runs h.
    let s : PieceSink = sink_seen (g.K.Sink.written c.args.sink.now) (g.K.Sink.faults c.args.sink.now) (g.K.Sink.handed c.args.sink.now) in
    gave_short s s c.from_residual.result [] out (search rules) (gave_nothing s)

pub returns-in_err-shared-clause-front : goal.returns-in_err-shared-clause-front
returns-in_err-shared-clause-front g c =
    let s : PieceSink = sink_seen (g.K.Sink.written c.args.sink.now) (g.K.Sink.faults c.args.sink.now) (g.K.Sink.handed c.args.sink.now) in
    some_short s s c.from_residual.result (search rules) ([], gave_nothing s)

pub loop-query-init : goal.loop-query-init
loop-query-init g c =
    let s : PieceSink = sink_seen (g.K.Sink.written c.args.sink.now) (g.K.Sink.faults c.args.sink.now) (g.K.Sink.handed c.args.sink.now) in
    record {
      front = ([], gave_nothing s);
      last = none_yet c.args.code (limits_of c.args.options);
      behind = λ prog out stop runs h. record { done = []; rest = out; later = stop; is = refl; gave = gave_nothing s; queries = h; stops = refl };
    }

pub put_query-requires-clause-query : goal.put_query-requires-clause-query
put_query-requires-clause-query g c =
    let i = c.loop-query.query in
    let area : Area = c.args.code in
    let size : i < length area.queries = search rules in
    let shared : c.in_ok-shared.shared.value ≡ area = search rules in
    subst (λ (a : Area). i < length a.queries) (sym shared) size

pub returns-in_err-put_line-clause-gave : goal.returns-in_err-put_line-clause-gave
returns-in_err-put_line-clause-gave g c = λ prog out stop runs h.
    let i = c.loop-query.query in
    let old : PieceSink = sink_seen (g.K.Sink.written c.args.sink.now) (g.K.Sink.faults c.args.sink.now) (g.K.Sink.handed c.args.sink.now) in
    let now : PieceSink = sink_seen (g.K.Sink.written c.loop-query.sink) (g.K.Sink.faults c.loop-query.sink) (g.K.Sink.handed c.loop-query.sink) in
    let new : PieceSink = sink_seen (g.K.Sink.written c.put_line.new.sink) (g.K.Sink.faults c.put_line.new.sink) (g.K.Sink.handed c.put_line.new.sink) in
    let area : Area = c.args.code in
    let size : i < length area.queries = search rules in
    let first : c.deref.result.now ≡ line (codes "query " ++ decimal (i + 1)) = c.deref.ensures.value ∙ c.in_ok-query_text.ensures in
    let m = may_run_query area prog runs i size in
    let k = program_next c.args.options.infinity c.args.options.steps c.args.options.answers prog i m.0 old now c.loop-query.stopped out stop m.1
    (c.loop-query.invariant.behind prog out stop runs h) in
    line_cut c.args.options.infinity c.args.options.steps c.args.options.answers prog (i + 1) m.0 (drop (i + 1) prog.queries) old now new c.loop-query.stopped
    out stop c.deref.result.now c.in_err-put_line.field-0.0 c.from_residual-in_err-put_line.result
    k first c.in_err-put_line.ensures.gave (search rules)

pub returns-in_err-put_line-clause-front : goal.returns-in_err-put_line-clause-front
returns-in_err-put_line-clause-front g c =
    let old : PieceSink = sink_seen (g.K.Sink.written c.args.sink.now) (g.K.Sink.faults c.args.sink.now) (g.K.Sink.handed c.args.sink.now) in
    let now : PieceSink = sink_seen (g.K.Sink.written c.loop-query.sink) (g.K.Sink.faults c.loop-query.sink) (g.K.Sink.handed c.loop-query.sink) in
    let new : PieceSink = sink_seen (g.K.Sink.written c.put_line.new.sink) (g.K.Sink.faults c.put_line.new.sink) (g.K.Sink.handed c.put_line.new.sink) in
    some_cut old now new c.from_residual-in_err-put_line.result c.in_err-put_line.field-0.0 (c.deref.result.now ∷ []) (search rules) c.loop-query.invariant.front c.in_err-put_line.ensures.gave

pub returns-in_err-query_text-clause-front : goal.returns-in_err-query_text-clause-front
returns-in_err-query_text-clause-front g c =
    let old : PieceSink = sink_seen (g.K.Sink.written c.args.sink.now) (g.K.Sink.faults c.args.sink.now) (g.K.Sink.handed c.args.sink.now) in
    let now : PieceSink = sink_seen (g.K.Sink.written c.loop-query.sink) (g.K.Sink.faults c.loop-query.sink) (g.K.Sink.handed c.loop-query.sink) in
    some_short old now c.from_residual-in_err-query_text.result (search rules) c.loop-query.invariant.front

pub returns-in_err-query_text-clause-gave : goal.returns-in_err-query_text-clause-gave
returns-in_err-query_text-clause-gave g c = λ prog out stop runs h.
    let old : PieceSink = sink_seen (g.K.Sink.written c.args.sink.now) (g.K.Sink.faults c.args.sink.now) (g.K.Sink.handed c.args.sink.now) in
    let now : PieceSink = sink_seen (g.K.Sink.written c.loop-query.sink) (g.K.Sink.faults c.loop-query.sink) (g.K.Sink.handed c.loop-query.sink) in
    let k = c.loop-query.invariant.behind prog out stop runs h in
    subst (Gave old now c.from_residual-in_err-query_text.result) (sym k.is) (gave_short old now c.from_residual-in_err-query_text.result k.done k.rest (search rules) k.gave)

pub returns-in_err-put_query-clause-gave : goal.returns-in_err-put_query-clause-gave
returns-in_err-put_query-clause-gave g c = λ prog out stop runs h.
    let i = c.loop-query.query in
    let old : PieceSink = sink_seen (g.K.Sink.written c.args.sink.now) (g.K.Sink.faults c.args.sink.now) (g.K.Sink.handed c.args.sink.now) in
    let now : PieceSink = sink_seen (g.K.Sink.written c.loop-query.sink) (g.K.Sink.faults c.loop-query.sink) (g.K.Sink.handed c.loop-query.sink) in
    let mid : PieceSink = sink_seen (g.K.Sink.written c.put_line.new.sink) (g.K.Sink.faults c.put_line.new.sink) (g.K.Sink.handed c.put_line.new.sink) in
    let new : PieceSink = sink_seen (g.K.Sink.written c.put_query.new.sink) (g.K.Sink.faults c.put_query.new.sink) (g.K.Sink.handed c.put_query.new.sink) in
    let area : Area = c.args.code in
    let size : i < length area.queries = search rules in
    let first : c.deref.result.now ≡ line (codes "query " ++ decimal (i + 1)) = c.deref.ensures.value ∙ c.in_ok-query_text.ensures in
    let shared : c.in_ok-shared.shared.value ≡ area = search rules in
    let m = may_run_query area prog runs i size in
    let k = program_next c.args.options.infinity c.args.options.steps c.args.options.answers prog i m.0 old now c.loop-query.stopped out stop m.1
    (c.loop-query.invariant.behind prog out stop runs h) in
    let run = subst (λ (a : Area). IsRunBy c.args.options.infinity a i c.args.options.steps c.args.options.answers k.events k.spent) (sym shared) (prog, m.0, m.2, k.run) in
    events_cut c.args.options.infinity c.args.options.steps c.args.options.answers prog (i + 1) m.0 (drop (i + 1) prog.queries) old now mid new
    c.loop-query.stopped out stop c.deref.result.now c.in_err-put_query.field-0.0 c.from_residual-in_err-put_query.result
    k first c.in_ok-put_line.ensures.gave (c.in_err-put_query.ensures.gave k.events k.spent run) (search rules)

pub returns-in_err-put_query-clause-front : goal.returns-in_err-put_query-clause-front
returns-in_err-put_query-clause-front g c =
    let old : PieceSink = sink_seen (g.K.Sink.written c.args.sink.now) (g.K.Sink.faults c.args.sink.now) (g.K.Sink.handed c.args.sink.now) in
    let now : PieceSink = sink_seen (g.K.Sink.written c.loop-query.sink) (g.K.Sink.faults c.loop-query.sink) (g.K.Sink.handed c.loop-query.sink) in
    let mid : PieceSink = sink_seen (g.K.Sink.written c.put_line.new.sink) (g.K.Sink.faults c.put_line.new.sink) (g.K.Sink.handed c.put_line.new.sink) in
    let new : PieceSink = sink_seen (g.K.Sink.written c.put_query.new.sink) (g.K.Sink.faults c.put_query.new.sink) (g.K.Sink.handed c.put_query.new.sink) in
    some_cut old mid new c.from_residual-in_err-put_query.result c.in_err-put_query.field-0.0 c.in_err-put_query.ensures.front.0 (search rules)
    (some_more old now mid (c.deref.result.now ∷ []) c.loop-query.invariant.front c.in_ok-put_line.ensures.gave) c.in_err-put_query.ensures.front.1

pub loop-query-preserved : goal.loop-query-preserved
loop-query-preserved g c =
    let i = c.loop-query.query in
    let old : PieceSink = sink_seen (g.K.Sink.written c.args.sink.now) (g.K.Sink.faults c.args.sink.now) (g.K.Sink.handed c.args.sink.now) in
    let now : PieceSink = sink_seen (g.K.Sink.written c.loop-query.sink) (g.K.Sink.faults c.loop-query.sink) (g.K.Sink.handed c.loop-query.sink) in
    let mid : PieceSink = sink_seen (g.K.Sink.written c.put_line.new.sink) (g.K.Sink.faults c.put_line.new.sink) (g.K.Sink.handed c.put_line.new.sink) in
    let new : PieceSink = sink_seen (g.K.Sink.written c.put_query.new.sink) (g.K.Sink.faults c.put_query.new.sink) (g.K.Sink.handed c.put_query.new.sink) in
    let area : Area = c.args.code in
    let size : i < length area.queries = search rules in
    let first : c.deref.result.now ≡ line (codes "query " ++ decimal (i + 1)) = c.deref.ensures.value ∙ c.in_ok-query_text.ensures in
    let shared : c.in_ok-shared.shared.value ≡ area = search rules in
    let before = c.loop-query.stopped in
    let here = c.in_ok-put_query.field-0 in
    let stops : c.if-branch.stopped ≡ or_stop before here =
    elim c.if-branch.branch [
      | then-branch w ↦ w.stopped-is ∙ sym (ap (or_stop before) w.if-branch.true ∙ or_true before)
      | else-branch w ↦ w.stopped-is ∙ sym (ap (or_stop before) w.if-branch.false ∙ or_false before)
    ] in
    record {
      front = some_more old mid new c.in_ok-put_query.ensures.front.0
          (some_more old now mid (c.deref.result.now ∷ []) c.loop-query.invariant.front c.in_ok-put_line.ensures.gave) c.in_ok-put_query.ensures.front.1;
      last = next_last area c.in_ok-shared.shared.value shared (limits_of c.args.options) i before here c.if-branch.stopped c.loop-query.invariant.last c.in_ok-put_query.ensures.last stops;
      behind = λ prog out stop runs h.
          let m = may_run_query area prog runs i size in
          let k = program_next c.args.options.infinity c.args.options.steps c.args.options.answers prog i m.0 old now before out stop m.1 (c.loop-query.invariant.behind prog out stop runs h) in
          let run = subst (λ (a : Area). IsRunBy c.args.options.infinity a i c.args.options.steps c.args.options.answers k.events k.spent) (sym shared) (prog, m.0, m.2, k.run) in
          query_given c.args.options.infinity c.args.options.steps c.args.options.answers prog (i + 1) m.0 (drop (i + 1) prog.queries) old now mid new before here c.if-branch.stopped out stop
          k (subst (λ (l : List ℕ). GaveAll now mid (l ∷ [])) first c.in_ok-put_line.ensures.gave)
          (c.in_ok-put_query.ensures.gave k.events k.spent run) (c.in_ok-put_query.ensures.stopped k.events k.spent run) stops;
    }

pub returns-clause-gave : goal.returns-clause-gave
returns-clause-gave g c = λ prog out stop runs h.
    let i = c.loop-query.query in
    let old : PieceSink = sink_seen (g.K.Sink.written c.args.sink.now) (g.K.Sink.faults c.args.sink.now) (g.K.Sink.handed c.args.sink.now) in
    let now : PieceSink = sink_seen (g.K.Sink.written c.loop-query.sink) (g.K.Sink.faults c.loop-query.sink) (g.K.Sink.handed c.loop-query.sink) in
    let area : Area = c.args.code in
    let size : i ≡ length area.queries = search rules in
    let all = size ∙ sym (same_queries area prog runs) in
    (program_given c.args.options.infinity c.args.options.steps c.args.options.answers prog i old now c.loop-query.stopped out stop all (c.loop-query.invariant.behind prog out stop runs h)).0

pub returns-clause-stopped : goal.returns-clause-stopped
returns-clause-stopped g c = λ prog out stop runs h.
    let i = c.loop-query.query in
    let old : PieceSink = sink_seen (g.K.Sink.written c.args.sink.now) (g.K.Sink.faults c.args.sink.now) (g.K.Sink.handed c.args.sink.now) in
    let now : PieceSink = sink_seen (g.K.Sink.written c.loop-query.sink) (g.K.Sink.faults c.loop-query.sink) (g.K.Sink.handed c.loop-query.sink) in
    let area : Area = c.args.code in
    let size : i ≡ length area.queries = search rules in
    let all = size ∙ sym (same_queries area prog runs) in
    (program_given c.args.options.infinity c.args.options.steps c.args.options.answers prog i old now c.loop-query.stopped out stop all (c.loop-query.invariant.behind prog out stop runs h)).1

pub returns-clause-last : goal.returns-clause-last
returns-clause-last g c =
    let area : Area = c.args.code in
    let size : c.loop-query.query ≡ length area.queries = search rules in
    all_last area (limits_of c.args.options) c.loop-query.query c.loop-query.stopped size c.loop-query.invariant.last
