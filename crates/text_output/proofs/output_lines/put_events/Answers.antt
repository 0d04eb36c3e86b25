use Rattle.std.proofs.Common.{rules, ◌≡◌, ◌∙◌, refl, sym, ap, subst, map, List, ℕ, [], ◌∷◌, ◌++◌, true}
use Rattle.fd_language.specs.Term.{Name}
use Rattle.fd_model.specs.Goal.{Event}
use Rattle.fd_model.specs.Lines.{event_bytes}
use Rattle.fd_model.specs.Output.{is_stop}
use Rattle.branch_meaning.specs.NextEvent.{is_final}
use Rattle.term_pool.specs.Contents.{atom_name}
use Rattle.machine_events.specs.declared.Limits.{Limits}
use Rattle.machine_events.specs.Events.{event_of}
use Rattle.code_machine.specs.Instructions.{HasGoal}
use Rattle.code_machine.specs.States.{names_of, StandsFor}
use Rattle.text_output.specs.Endings.{EndsFrom, GivesEvent, IsEnding}
use Rattle.text_output.specs.Pieces.{GaveAll, PieceSink, sink_seen}
use Rattle.text_output.proofs.PieceWrites.{gave_nothing, some_cut, some_short, some_more}
use Rattle.text_output.proofs.LastEvents.{reach_more}
use Rattle.text_output.proofs.Events.{same_names, remain_all, remain_short, remain_cut, remain_more, remain_none, no_ending}
use Rattle.text_output.proofs.output_lines.put_events.Given.{Over}
use Rattle.text_output.proofs.output_lines.put_events.Goals.{After-put_event}
use Rattle.text_output.proofs.output_lines.put_events.Goals as goal

-- the line is that of the event
line_is : (g : Over) (c : After-put_event g) → event_bytes (event_of (map (atom_name c.args.pool.now) c.args.names.now) c.in_ok-event.event) ≡ event_bytes
    (event_of (names_of c.events.machine) c.in_ok-event.event)
line_is g c =
    let names : List Name = map (atom_name c.args.pool.now) c.args.names.now in
    let named : names ≡ names_of c.events.machine = c.requires.own ∙ sym (same_names c.events.machine c.args.machine.now c.events.invariant.area c.events.invariant.query) in
    ap (λ (ns : List Name). event_bytes (event_of ns c.in_ok-event.event)) named

-- the sink at first, before the event and behind it
abbrev sink_old : (g : Over) (c : After-put_event g) → PieceSink
sink_old g c = sink_seen (g.K.Sink.written c.args.sink.now) (g.K.Sink.faults c.args.sink.now) (g.K.Sink.handed c.args.sink.now)

abbrev sink_now : (g : Over) (c : After-put_event g) → PieceSink
sink_now g c = sink_seen (g.K.Sink.written c.events.sink) (g.K.Sink.faults c.events.sink) (g.K.Sink.handed c.events.sink)

abbrev sink_new : (g : Over) (c : After-put_event g) → PieceSink
sink_new g c = sink_seen (g.K.Sink.written c.put_event.new.sink) (g.K.Sink.faults c.put_event.new.sink) (g.K.Sink.handed c.put_event.new.sink)

-- with the piece of a final event all is given
all_written : (g : Over) (c : After-put_event g) (es : List Event) (r : ℕ) → StandsFor c.args.machine.now es r → is_final (event_of [] c.in_ok-event.event) ≡ true
    → GaveAll (sink_now g c) (sink_new g c) (event_bytes (event_of (map (atom_name c.args.pool.now) c.args.names.now) c.in_ok-event.event) ∷ [])
    → GaveAll (sink_old g c) (sink_new g c) (map event_bytes es) × (is_stop es ≡ is_stop (event_of [] c.in_ok-event.event ∷ []))
all_written g c es r h final w =
    remain_none c.events.machine (sink_old g c) (sink_now g c) (sink_new g c) es r (names_of c.events.machine) c.in_ok-event.event
    (event_bytes (event_of (map (atom_name c.args.pool.now) c.args.names.now) c.in_ok-event.event))
    final (c.events.invariant.remain es r h) c.in_ok-event.ensures.last (line_is g c) w

-- the machine gave the event
given : (g : Over) (c : After-put_event g) → GivesEvent c.events.machine c.in_ok-event.event c.next.new.self
given g c =
    let next = c.in_ok-event.ensures in
    record { same = next.same; next = next.next; shown = next.shown; falls = next.falls; answers = next.counted; whole = next.whole }

pub events-init : goal.events-init
events-init g c = record {
  area = refl;
  query = refl;
  limits = refl;
  reached = ([], refl);
  front = ([], gave_nothing _);
  remain = λ es r h. remain_all c.args.machine.now (sink_seen (g.K.Sink.written c.args.sink.now) (g.K.Sink.faults c.args.sink.now) (g.K.Sink.handed c.args.sink.now)) es r h;
}

pub returns-in_err-event-clause-gave : goal.returns-in_err-event-clause-gave
returns-in_err-event-clause-gave g c = λ es r h.
    let old : PieceSink = sink_seen (g.K.Sink.written c.args.sink.now) (g.K.Sink.faults c.args.sink.now) (g.K.Sink.handed c.args.sink.now) in
    let now : PieceSink = sink_seen (g.K.Sink.written c.events.sink) (g.K.Sink.faults c.events.sink) (g.K.Sink.handed c.events.sink) in
    remain_short c.events.machine old now es r c.from_residual.result (c.events.invariant.remain es r h) (search rules)

pub returns-in_err-stopped-clause-gave : goal.returns-in_err-stopped-clause-gave
returns-in_err-stopped-clause-gave g c = λ es r h.
    let old : PieceSink = sink_seen (g.K.Sink.written c.args.sink.now) (g.K.Sink.faults c.args.sink.now) (g.K.Sink.handed c.args.sink.now) in
    let now : PieceSink = sink_seen (g.K.Sink.written c.events.sink) (g.K.Sink.faults c.events.sink) (g.K.Sink.handed c.events.sink) in
    let new : PieceSink = sink_seen (g.K.Sink.written c.put_event.new.sink) (g.K.Sink.faults c.put_event.new.sink) (g.K.Sink.handed c.put_event.new.sink) in
    remain_cut c.events.machine c.next.new.self old now new es r (event_of (names_of c.events.machine) c.in_ok-event.event)
    (event_bytes (event_of (map (atom_name c.args.pool.now) c.args.names.now) c.in_ok-event.event)) c.in_err-stopped.field-0.0
    c.from_residual-in_err-stopped.result
    (c.events.invariant.remain es r h) c.in_ok-event.ensures.next (line_is g (goal.at.returns-in_err-stopped-clause-gave g c).After-put_event)
    c.in_err-stopped.ensures.gave (search (c.from_residual-in_err-stopped.ensures, rules))

pub events-preserved : goal.events-preserved
events-preserved g c =
    let old : PieceSink = sink_seen (g.K.Sink.written c.args.sink.now) (g.K.Sink.faults c.args.sink.now) (g.K.Sink.handed c.args.sink.now) in
    let now : PieceSink = sink_seen (g.K.Sink.written c.events.sink) (g.K.Sink.faults c.events.sink) (g.K.Sink.handed c.events.sink) in
    let new : PieceSink = sink_seen (g.K.Sink.written c.put_event.new.sink) (g.K.Sink.faults c.put_event.new.sink) (g.K.Sink.handed c.put_event.new.sink) in
    let more = no_ending c.in_ok-event.event c.in_ok-stopped.field-0 c.in_ok-stopped.ensures.ending c.in_default.not-Some in
    record {
      area = c.in_ok-event.ensures.same.0 ∙ c.events.invariant.area;
      query = c.in_ok-event.ensures.same.1 ∙ c.events.invariant.query;
      limits = c.in_ok-event.ensures.same.2 ∙ c.events.invariant.limits;
      reached = (
        c.events.invariant.reached.0 ++ c.in_ok-event.event ∷ [],
        reach_more c.args.machine.now c.events.machine c.next.new.self c.events.invariant.reached.0 c.in_ok-event.event
            c.events.invariant.reached.1 (given g (goal.at.events-preserved g c).After-put_event) more,
      );
      front = some_more old now new (event_bytes (event_of (map (atom_name c.args.pool.now) c.args.names.now) c.in_ok-event.event) ∷ []) c.events.invariant.front c.in_ok-stopped.ensures.gave;
      remain = λ es r h. remain_more c.events.machine c.next.new.self old now new es r (names_of c.events.machine) c.in_ok-event.event
          (event_bytes (event_of (map (atom_name c.args.pool.now) c.args.names.now) c.in_ok-event.event)) more
          (c.events.invariant.remain es r h) c.in_ok-event.ensures.next (line_is g (goal.at.events-preserved g c).After-put_event) c.in_ok-stopped.ensures.gave;
    }

pub events-smaller : goal.events-smaller
events-smaller g c = c.in_ok-event.ensures.falls (no_ending c.in_ok-event.event c.in_ok-stopped.field-0 c.in_ok-stopped.ensures.ending c.in_default.not-Some)

pub returns-in-Some-clause-gave : goal.returns-in-Some-clause-gave
returns-in-Some-clause-gave g c = λ es r h.
    let ending = subst (IsEnding c.in_ok-event.event) c.in-Some.is c.in_ok-stopped.ensures.ending in
    (all_written g (goal.at.returns-in-Some-clause-gave g c).After-put_event es r h ending.0 c.in_ok-stopped.ensures.gave).0

pub returns-in-Some-clause-stopped : goal.returns-in-Some-clause-stopped
returns-in-Some-clause-stopped g c = λ es r h.
    let ending = subst (IsEnding c.in_ok-event.event) c.in-Some.is c.in_ok-stopped.ensures.ending in
    ending.1 ∙ sym (all_written g (goal.at.returns-in-Some-clause-stopped g c).After-put_event es r h ending.0 c.in_ok-stopped.ensures.gave).1

-- whatever the machine stands for

pub returns-in_err-event-clause-front : goal.returns-in_err-event-clause-front
returns-in_err-event-clause-front g c =
    let old : PieceSink = sink_seen (g.K.Sink.written c.args.sink.now) (g.K.Sink.faults c.args.sink.now) (g.K.Sink.handed c.args.sink.now) in
    let now : PieceSink = sink_seen (g.K.Sink.written c.events.sink) (g.K.Sink.faults c.events.sink) (g.K.Sink.handed c.events.sink) in
    some_short old now c.from_residual.result (search rules) c.events.invariant.front

pub returns-in_err-stopped-clause-front : goal.returns-in_err-stopped-clause-front
returns-in_err-stopped-clause-front g c =
    let old : PieceSink = sink_seen (g.K.Sink.written c.args.sink.now) (g.K.Sink.faults c.args.sink.now) (g.K.Sink.handed c.args.sink.now) in
    let now : PieceSink = sink_seen (g.K.Sink.written c.events.sink) (g.K.Sink.faults c.events.sink) (g.K.Sink.handed c.events.sink) in
    let new : PieceSink = sink_seen (g.K.Sink.written c.put_event.new.sink) (g.K.Sink.faults c.put_event.new.sink) (g.K.Sink.handed c.put_event.new.sink) in
    some_cut old now new c.from_residual-in_err-stopped.result c.in_err-stopped.field-0.0
    (event_bytes (event_of (map (atom_name c.args.pool.now) c.args.names.now) c.in_ok-event.event) ∷ []) (search (c.from_residual-in_err-stopped.ensures, rules))
    c.events.invariant.front c.in_err-stopped.ensures.gave

pub returns-in-Some-clause-front : goal.returns-in-Some-clause-front
returns-in-Some-clause-front g c =
    let old : PieceSink = sink_seen (g.K.Sink.written c.args.sink.now) (g.K.Sink.faults c.args.sink.now) (g.K.Sink.handed c.args.sink.now) in
    let now : PieceSink = sink_seen (g.K.Sink.written c.events.sink) (g.K.Sink.faults c.events.sink) (g.K.Sink.handed c.events.sink) in
    let new : PieceSink = sink_seen (g.K.Sink.written c.put_event.new.sink) (g.K.Sink.faults c.put_event.new.sink) (g.K.Sink.handed c.put_event.new.sink) in
    some_more old now new (event_bytes (event_of (map (atom_name c.args.pool.now) c.args.names.now) c.in_ok-event.event) ∷ []) c.events.invariant.front c.in_ok-stopped.ensures.gave

pub returns-in-Some-clause-last : goal.returns-in-Some-clause-last
returns-in-Some-clause-last g c =
    let ending = subst (IsEnding c.in_ok-event.event) c.in-Some.is c.in_ok-stopped.ensures.ending in
    let next = c.in_ok-event.ensures in
    let area = next.same.0 ∙ c.events.invariant.area in
    let limits = next.same.2 ∙ c.events.invariant.limits in
    let ends : EndsFrom c.args.machine.now c.in_ok-event.event =
    record {
      told = c.events.invariant.reached.0;
      before = c.events.machine;
      reached = c.events.invariant.reached.1;
      machine = c.next.new.self;
      gives = given g (goal.at.returns-in-Some-clause-last g c).After-put_event;
      stage = next.stage ending.0;
      budget = λ e. next.budget e ∙ ap (λ (l : Limits). l.steps) limits;
      limit = λ e. sym (ap (λ (l : Limits). l.answers) limits) ∙ next.limit e;
      goals = λ h. subst HasGoal area (next.goals h);
    } in (c.in_ok-event.event, ends, ending.1)
