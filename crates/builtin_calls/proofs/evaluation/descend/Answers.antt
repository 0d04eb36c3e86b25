use Rattle.std.proofs.lemmas.Result.{err_from_is_err_and}
use Rattle.domain_ranges.specs.Views.{family_of}
use Rattle.heap_cells.specs.declared.Seen.TheVariants as seen
use Rattle.builtin_calls.specs.declared.evaluation.Step.TheVariants.{Enter}
use Rattle.builtin_calls.specs.Evaluations.{GoesOn}
use Rattle.builtin_calls.proofs.CellTops.{shown_else, simple_seen, held_seen}
use Rattle.builtin_calls.proofs.Evaluations.{entered, enter_fails, descended, descent_fails, leads_further, held_own, held_name}
use Rattle.builtin_calls.proofs.evaluation.descend.Given as given
use Rattle.builtin_calls.proofs.evaluation.descend.Goals as goal

pub value_of_simple-requires : goal.value_of_simple-requires
value_of_simple-requires g c =
    record {
      own = (c.down.invariant.leads.own c.requires.own c.requires.waiting).0.0;
      simple = λ name. simple_seen name c.args.heap.now.now (family_of (g.V.View.sets c.args.view.now)) c.deref.ensures.valid c.down.at c.deref.result c.deref.ensures.seen c.in_default.not-Struct;
      links = c.requires.links;
    }

pub returns-in_default : goal.returns-in_default
returns-in_default g c = descended c.args.pool.now.names c.args.heap.now.now (family_of (g.V.View.sets c.args.view.now)) c.args.waiting.now c.down.waiting
    c.args.c c.down.at c.value_of_simple.result c.down.invariant.leads c.value_of_simple.ensures.tells

-- one compound term further
further : (g : given.Over) (c : goal.In_ok-at g) → GoesOn c.args.pool.now.names c.args.heap.now.now (family_of (g.V.View.sets c.args.view.now)) c.down.waiting
    (Enter c.down.at) c.enter_compound.new.waiting (Enter c.in_ok-at.at)
further g c =
    let h = c.args.heap.now.now in
    let G = family_of (g.V.View.sets c.args.view.now) in
    let held = held_seen h c.down.at (seen.Struct c.in-Struct.f c.in-Struct.args) c.in-Struct.ensures.seen in
    entered c.args.pool.now.names h G c.down.at c.in-Struct.f c.in-Struct.args.now
    (held_name _ h c.requires.atoms c.in-Struct.f c.in-Struct.args held)
    (held_own _ h c.in-Struct.ensures.valid c.requires.atoms c.in-Struct.f c.in-Struct.args held)
    (λ name. shown_else name h G c.in-Struct.ensures.valid c.down.at (seen.Struct c.in-Struct.f c.in-Struct.args) c.in-Struct.ensures.seen (λ i k e. cc))
    c.down.waiting c.in_ok-at.at c.enter_compound.new.waiting (c.in_ok-at.ensures.entered G)

pub returns-in_err-at : goal.returns-in_err-at
returns-in_err-at g c =
    let p = err_from_is_err_and c.from_residual.result c.from_residual.ensures.1 in
    let h = c.args.heap.now.now in
    let G = family_of (g.V.View.sets c.args.view.now) in
    let held = held_seen h c.down.at (seen.Struct c.in-Struct.f c.in-Struct.args) c.in-Struct.ensures.seen in
    rw (p.1, p.2) (descent_fails c.args.pool.now.names h G c.args.waiting.now c.down.waiting c.args.c c.down.at c.in_err-at.field-0.0 c.down.invariant.leads
    (enter_fails c.args.pool.now.names h G c.down.at c.in-Struct.f c.in-Struct.args.now
    (held_name _ h c.requires.atoms c.in-Struct.f c.in-Struct.args held)
    (held_own _ h c.in-Struct.ensures.valid c.requires.atoms c.in-Struct.f c.in-Struct.args held)
    (λ name. shown_else name h G c.in-Struct.ensures.valid c.down.at (seen.Struct c.in-Struct.f c.in-Struct.args) c.in-Struct.ensures.seen (λ i k e. cc))
    c.down.waiting c.in_err-at.field-0.0 c.enter_compound.new.waiting (c.in_err-at.ensures.entered G)))

pub down-smaller : goal.down-smaller
down-smaller g c = (further g c).falls

pub down-preserved : goal.down-preserved
down-preserved g c = record {
  leads = leads_further c.args.pool.now.names c.args.heap.now.now (family_of (g.V.View.sets c.args.view.now)) c.args.waiting.now c.down.waiting
      c.enter_compound.new.waiting (Enter c.args.c) (Enter c.down.at) (Enter c.in_ok-at.at) c.down.invariant.leads (further g c);
  latest = c.enter_compound.ensures.latest;
}
