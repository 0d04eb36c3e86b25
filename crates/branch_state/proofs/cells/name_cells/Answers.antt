use Rattle.std.specs.Ordering.{int_eq}
use Rattle.std.proofs.Common.{◌≡◌, ◌∙◌, ◌<◌, ℕ, List, Option, None, [], length, take, get_or, ap, sym, subst, arith}
use Rattle.std.proofs.lemmas.List.{length-map, take_all}
use Rattle.std.proofs.lemmas.List.Elements.{All-get_or}
use Rattle.branch_state.proofs.Arguments.{none_both}
use Rattle.fd_language.specs.declared.range_node.Need.{Need}
use Rattle.heap_cells.specs.declared.Cell.TheVariants.{Ref}
use Rattle.heap_cells.specs.Cells.{IsOf}
use Rattle.indexmap.specs.IndexMap.{get}
use Rattle.range_code.specs.declared.frame.Arg.{Arg}
use Rattle.range_code.specs.Slots.{slots_of, slot_needs, need_at}
use Rattle.unify_core.specs.declared.Touch.{Touch}
use Rattle.unify_core.specs.TerminationMeasure.{unnamed}
use Rattle.heap_cells.specs.SeenTerms.{seen_term}
use Rattle.range_code.specs.Frames.{family_of}
use Rattle.branch_state.specs.CellVariables.{shown_slots, slots_open, NamedBy, TermStep, SlotStep, AreCellsReady}
use Rattle.branch_state.specs.StoreVariables.{offence, first_in, with_level_sets}
use Rattle.branch_state.proofs.GoalCells.{cell_shown, cells_start, cells_more}
use Rattle.branch_state.proofs.CellLooks.{can_name}
use Rattle.branch_state.proofs.RangeSlots.{fine_at}
use Rattle.branch_state.proofs.CellVariables.{still_of, still_shown}
use Rattle.branch_state.proofs.cells.name_cells.Goals as goal

pub name_term-requires : goal.name_term-requires
name_term-requires g c =
    let t = c.requires.looks.0 in
    let see = shown_slots unnamed c.args.heap.now.now c.args.store.now.current.sets c.args.code.now c.args.cells.now in
    let fine = none_both (offence None t) (first_in see (slots_of c.args.code.now) (slot_needs c.args.code.now)) (c.requires.fine unnamed t c.requires.looks.1) in
    can_name c.args.heap.now.now t c.args.target None c.requires.looks.1 fine.0

pub loop-index-init : goal.loop-index-init
loop-index-init g c = record {
  store = c.in_ok-target.ensures.store;
  below = c.in_ok-target.ensures.below;
  ready = λ name t looks.
      let h = c.args.heap.now.now in
      let S = c.args.store.now.current.sets in
      let see = shown_slots name h S c.args.code.now c.args.cells.now in
      let of = get int_eq c.args.numbers.now.variables in
      let step = subst (λ (fs : List Touch). TermStep c.args.target h S fs of c.name_term.new.heap.now
      c.name_term.new.store.current.sets c.name_term.new.numbers.told.items (get int_eq c.name_term.new.numbers.variables) c.in_ok-target.target)
      c.requires.told c.in_ok-target.ensures.named in
      subst (λ (as' : List Arg). AreCellsReady t see h S [] [] c.name_term.new.heap.now c.name_term.new.store.current.sets c.name_term.new.numbers.told.items
      (get int_eq c.name_term.new.numbers.variables) c.in_ok-target.target as') (sym c.in_ok-args.ensures.items)
      (cells_start h S of c.requires.none c.requires.links t see c.args.target looks c.name_term.new.heap.now c.name_term.new.store.current.sets
      c.name_term.new.numbers.told.items (get int_eq c.name_term.new.numbers.variables) c.in_ok-target.target step);
}

pub slot_argument-requires-clause-linked : goal.slot_argument-requires-clause-linked
slot_argument-requires-clause-linked g c = (c.loop-index.invariant.ready unnamed c.requires.looks.0 c.requires.looks.1).naming.below

pub slot_argument-requires-clause-own : goal.slot_argument-requires-clause-own
slot_argument-requires-clause-own g c =
    let i = c.loop-index.index in
    let slots = slots_of c.args.code.now in
    let needs = slot_needs c.args.code.now in
    let h = c.args.heap.now.now in
    let S = c.args.store.now.current.sets in
    let l : i < length needs = subst (λ (xs : List (Option Need)). i < length xs) c.needs-needs.ensures c.loop-index-test.true in
    let k : i < length slots = subst (λ n. i < n) (length-map slots (need_at c.args.code.now)) l in
    let cell = get_or c.args.cells.now i (Ref 0) in
    let there : IsOf h cell = All-get_or (IsOf h) c.args.cells.now i (Ref 0) (let e = c.requires.counted in omega (arith, e, k)) c.requires.cells in
    let t = c.requires.looks.0 in
    let r = c.loop-index.invariant.ready unnamed t c.requires.looks.1 in
    still_of h S (NamedBy t (shown_slots unnamed h S c.args.code.now c.args.cells.now) (slots_open (take i slots) (take i needs))) c.loop-index.heap.now
    c.loop-index.store.current.sets c.loop-index.numbers.told.items (get int_eq c.loop-index.numbers.variables) r.naming cell there

pub slot_argument-requires-clause-fine : goal.slot_argument-requires-clause-fine
slot_argument-requires-clause-fine g c = λ name.
    let i = c.loop-index.index in
    let slots = slots_of c.args.code.now in
    let needs = slot_needs c.args.code.now in
    let h = c.args.heap.now.now in
    let S = c.args.store.now.current.sets in
    let l : i < length needs = subst (λ (xs : List (Option Need)). i < length xs) c.needs-needs.ensures c.loop-index-test.true in
    let k : i < length slots = subst (λ n. i < n) (length-map slots (need_at c.args.code.now)) l in
    let cell = get_or c.args.cells.now i (Ref 0) in
    let there : IsOf h cell = All-get_or (IsOf h) c.args.cells.now i (Ref 0) (let e = c.requires.counted in omega (arith, e, k)) c.requires.cells in
    let t = c.requires.looks.0 in
    let see = shown_slots name h S c.args.code.now c.args.cells.now in
    let r = c.loop-index.invariant.ready name t c.requires.looks.1 in
    let fine = none_both (offence None t) (first_in see slots needs) (c.requires.fine name t c.requires.looks.1) in
    let shown = still_shown h S (NamedBy t (shown_slots name h S c.args.code.now c.args.cells.now) (slots_open (take i slots) (take i needs)))
    c.loop-index.heap.now c.loop-index.store.current.sets c.loop-index.numbers.told.items (get int_eq c.loop-index.numbers.variables) r.naming cell there
    name ∙ sym (cell_shown name h S c.args.code.now c.args.cells.now (Ref 0) c.requires.counted i k) in
    subst (λ (xs : List (Option Need)). offence (get_or xs i None) (seen_term name c.loop-index.heap.now (family_of c.loop-index.store.current.sets) cell) ≡ None) (sym c.needs-needs.ensures)
    (ap (offence (get_or needs i None)) shown ∙ fine_at see slots needs i 0 None k l fine.1)

pub loop-index-preserved : goal.loop-index-preserved
loop-index-preserved g c = record {
  store = c.in_ok-arg.ensures.store ∙ ap (λ ls. with_level_sets ls c.slot_argument.new.store.current.sets) c.loop-index.invariant.store;
  below = c.in_ok-arg.ensures.below ∙ c.loop-index.invariant.below;
  ready = λ name t looks.
      let i = c.loop-index.index in
      let slots = slots_of c.args.code.now in
      let needs = slot_needs c.args.code.now in
      let h = c.args.heap.now.now in
      let S = c.args.store.now.current.sets in
      let l : i < length needs = subst (λ (xs : List (Option Need)). i < length xs) c.needs-needs.ensures c.loop-index-test.true in
      let k : i < length slots = subst (λ n. i < n) (length-map slots (need_at c.args.code.now)) l in
      let cell = get_or c.args.cells.now i (Ref 0) in
      let there : IsOf h cell = All-get_or (IsOf h) c.args.cells.now i (Ref 0) (let e = c.requires.counted in omega (arith, e, k)) c.requires.cells in
      let see = shown_slots name h S c.args.code.now c.args.cells.now in
      let r = c.loop-index.invariant.ready name t looks in
      let fine = none_both (offence None t) (first_in see slots needs) (c.requires.fine name t looks) in
      let shown = still_shown h S (NamedBy t (shown_slots name h S c.args.code.now c.args.cells.now) (slots_open (take i slots) (take i needs)))
      c.loop-index.heap.now c.loop-index.store.current.sets c.loop-index.numbers.told.items (get int_eq c.loop-index.numbers.variables) r.naming cell there
      name ∙ sym (cell_shown name h S c.args.code.now c.args.cells.now (Ref 0) c.requires.counted i k) in
      let first = subst (λ (xs : List (Option Need)). SlotStep (seen_term name c.loop-index.heap.now (family_of c.loop-index.store.current.sets) cell)
      (get_or xs i None) c.loop-index.heap.now c.loop-index.store.current.sets c.loop-index.numbers.told.items (get int_eq c.loop-index.numbers.variables)
      c.slot_argument.new.heap.now c.slot_argument.new.store.current.sets c.slot_argument.new.numbers.told.items
      (get int_eq c.slot_argument.new.numbers.variables) c.in_ok-arg.arg) c.needs-needs.ensures (c.in_ok-arg.ensures.step name) in
      let step = subst (λ u. SlotStep u (get_or needs i None) c.loop-index.heap.now c.loop-index.store.current.sets c.loop-index.numbers.told.items
      (get int_eq c.loop-index.numbers.variables) c.slot_argument.new.heap.now c.slot_argument.new.store.current.sets c.slot_argument.new.numbers.told.items
      (get int_eq c.slot_argument.new.numbers.variables) c.in_ok-arg.arg) shown first in
      cells_more t see h S slots (need_at c.args.code.now) fine.1 i k c.loop-index.heap.now c.loop-index.store.current.sets c.loop-index.numbers.told.items
      (get int_eq c.loop-index.numbers.variables) c.in_ok-target.target c.loop-index.args.items r
      c.slot_argument.new.heap.now c.slot_argument.new.store.current.sets c.slot_argument.new.numbers.told.items
      (get int_eq c.slot_argument.new.numbers.variables) c.in_ok-arg.arg step c.push.new.self.items c.in_ok-push.ensures.items;
}

pub returns-clause-ready : goal.returns-clause-ready
returns-clause-ready g c = λ name t looks.
    let i = c.loop-index.index in
    let slots = slots_of c.args.code.now in
    let needs = slot_needs c.args.code.now in
    let past = c.loop-index-test.false in
    let len = ap (λ (xs : List (Option Need)). length xs) c.needs-needs.ensures in
    let same = length-map slots (need_at c.args.code.now) in
    let see = shown_slots name c.args.heap.now.now c.args.store.now.current.sets c.args.code.now c.args.cells.now in
    let of = get int_eq c.loop-index.numbers.variables in
    subst (λ (ns : List (Option Need)). AreCellsReady t see c.args.heap.now.now c.args.store.now.current.sets slots ns c.loop-index.heap.now
    c.loop-index.store.current.sets c.loop-index.numbers.told.items of c.in_ok-target.target c.loop-index.args.items)
    (take_all i needs (omega (arith, past, len)))
    (subst (λ (ys : List ℕ). AreCellsReady t see c.args.heap.now.now c.args.store.now.current.sets ys (take i needs) c.loop-index.heap.now
    c.loop-index.store.current.sets c.loop-index.numbers.told.items of c.in_ok-target.target c.loop-index.args.items)
    (take_all i slots (omega (arith, past, len, same)))
    (c.loop-index.invariant.ready name t looks))
