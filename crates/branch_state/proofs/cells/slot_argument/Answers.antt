use Rattle.std.specs.Ordering.{int_eq}
use Rattle.std.proofs.Common.{◌≡◌, ◌∙◌, ap, sym, rules, w64, of_z, to_z}
use Rattle.indexmap.specs.IndexMap.{get}
use Rattle.range_code.specs.declared.frame.Arg.TheVariants as arg
use Rattle.unify_core.specs.TerminationMeasure.{unnamed}
use Rattle.heap_cells.specs.SeenTerms.{seen_term}
use Rattle.range_code.specs.Frames.{family_of}
use Rattle.branch_state.proofs.GoalCells.{slot_number, slot_named}
use Rattle.branch_state.proofs.CellLooks.{can_name}
use Rattle.branch_state.proofs.cells.slot_argument.Goals as goal

pub returns-then-is_some-clause-step : goal.returns-then-is_some-clause-step
returns-then-is_some-clause-step g c = λ name.
    let fits : to_z w64 (of_z w64 c.integer_of.result) ≡ c.integer_of.result = search rules in
    slot_number (seen_term name c.args.heap.now.now (family_of c.args.store.now.current.sets) c.args.cell) c.args.need c.args.heap.now.now
    c.args.store.now.current.sets c.args.numbers.now.told.items (get int_eq c.args.numbers.now.variables)
    c.look_cell-look.result c.integer_of.result c.number_arg.result (sym c.is_some.ensures ∙ c.if-is_some.true) (c.look_cell-look.ensures name)
    c.integer_of.ensures (c.number_arg.ensures ∙ ap arg.Int fits)

pub name_term-requires : goal.name_term-requires
name_term-requires g c =
    can_name c.args.heap.now.now (seen_term unnamed c.args.heap.now.now (family_of c.args.store.now.current.sets) c.args.cell) c.look_cell-look.result
    c.args.need (c.look_cell-look.ensures unnamed) (c.requires.fine unnamed)

pub returns-clause-step : goal.returns-clause-step
returns-clause-step g c = λ name.
    slot_named (seen_term name c.args.heap.now.now (family_of c.args.store.now.current.sets) c.args.cell) c.args.need c.args.heap.now.now
    c.args.store.now.current.sets c.args.numbers.now.told.items (get int_eq c.args.numbers.now.variables)
    c.name_term.new.heap.now c.name_term.new.store.current.sets c.name_term.new.numbers.told.items (get int_eq c.name_term.new.numbers.variables)
    c.look_cell-look.result c.in_ok-name_term.field-0 (sym c.is_some.ensures ∙ c.if-is_some.false) (c.look_cell-look.ensures name)
    c.in_ok-name_term.ensures.named
