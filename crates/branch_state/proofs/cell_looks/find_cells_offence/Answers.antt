use Rattle.std.proofs.Common.{◌≡◌, ◌∙◌, ◌+◌, ◌<◌, suc, ℕ, List, Option, None, length, take, get_or, ap, sym, subst, arith}
use Rattle.std.proofs.lemmas.List.{length-map, take_all}
use Rattle.fd_language.specs.declared.range_node.Need.{Need}
use Rattle.fd_language.specs.Term.{Term}
use Rattle.fd_model.specs.declared.kinds.QueryFault.{QueryFault}
use Rattle.fd_model.specs.Posting.{or_later}
use Rattle.range_code.specs.Slots.{slots_of, slot_needs, need_at}
use Rattle.branch_state.specs.CellVariables.{shown_slots}
use Rattle.branch_state.specs.StoreVariables.{IsKind, offence, first_in}
use Rattle.branch_state.proofs.GoalCells.{cell_offence}
use Rattle.branch_state.proofs.CellLooks.{first_there, first_none_yet, some_offence, no_offence}
use Rattle.branch_state.proofs.cell_looks.find_cells_offence.Goals as goal

pub returns-then-is_some-2 : goal.returns-then-is_some-2
returns-then-is_some-2 g c = λ name t kind.
    let i = c.loop-index.index in
    let h = c.args.heap.now.now in
    let S = c.args.store.now.current.sets in
    let r = c.args.code.now in
    let slots = slots_of r in
    let needs = slot_needs r in
    let see = shown_slots name h S r c.args.cells.now in
    let l : i < length needs = subst (λ (xs : List (Option Need)). i < length xs) c.needs-needs.ensures c.loop-index-test.true in
    let k : i < length slots = subst (λ n. i < n) (length-map slots (need_at r)) l in
    let kinds = subst (λ (xs : List (Option Need)). (u : Term) → IsKind u c.look_cell.result
    → c.offence_of-offence-in-loop-index.result ≡ offence (get_or xs i None) u) c.needs-needs.ensures c.offence_of-offence-in-loop-index.ensures in
    let is = cell_offence name h S r c.args.cells.now _ c.requires.counted i k c.look_cell.result (c.look_cell.ensures name) (get_or needs i None) c.offence_of-offence-in-loop-index.result kinds in
    let inv = c.loop-index.invariant name t kind in
    sym (ap (λ (o : Option QueryFault). or_later o (first_in see slots needs)) inv.0
    ∙ first_there see slots needs i 0 None c.offence_of-offence-in-loop-index.result k l inv.1 (sym is)
    (some_offence c.offence_of-offence-in-loop-index.result (sym c.is_some-in-loop-index.ensures ∙ c.if-is_some-2.true)))

pub loop-index-preserved : goal.loop-index-preserved
loop-index-preserved g c = λ name t kind.
    let i = c.loop-index.index in
    let h = c.args.heap.now.now in
    let S = c.args.store.now.current.sets in
    let r = c.args.code.now in
    let slots = slots_of r in
    let needs = slot_needs r in
    let see = shown_slots name h S r c.args.cells.now in
    let l : i < length needs = subst (λ (xs : List (Option Need)). i < length xs) c.needs-needs.ensures c.loop-index-test.true in
    let k : i < length slots = subst (λ n. i < n) (length-map slots (need_at r)) l in
    let kinds = subst (λ (xs : List (Option Need)). (u : Term) → IsKind u c.look_cell.result
    → c.offence_of-offence-in-loop-index.result ≡ offence (get_or xs i None) u) c.needs-needs.ensures c.offence_of-offence-in-loop-index.ensures in
    let is = cell_offence name h S r c.args.cells.now _ c.requires.counted i k c.look_cell.result (c.look_cell.ensures name) (get_or needs i None) c.offence_of-offence-in-loop-index.result kinds in
    let inv = c.loop-index.invariant name t kind in
    let next : suc i ≡ i + 1 = omega arith in (
      inv.0,
      subst (λ n. first_in see (take n slots) (take n needs) ≡ None) next
          (first_none_yet see slots needs i 0 None k l inv.1
          (sym is ∙ no_offence c.offence_of-offence-in-loop-index.result (sym c.is_some-in-loop-index.ensures ∙ c.if-is_some-2.false))),
    )

pub returns : goal.returns
returns g c = λ name t kind.
    let i = c.loop-index.index in
    let r = c.args.code.now in
    let slots = slots_of r in
    let needs = slot_needs r in
    let see = shown_slots name c.args.heap.now.now c.args.store.now.current.sets r c.args.cells.now in
    let past = c.loop-index-test.false in
    let len = ap (λ (xs : List (Option Need)). length xs) c.needs-needs.ensures in
    let same = length-map slots (need_at r) in
    let inv = c.loop-index.invariant name t kind in
    let all = subst (λ (ns : List (Option Need)). first_in see slots ns ≡ None) (take_all i needs (omega (arith, past, len)))
    (subst (λ (ys : List ℕ). first_in see ys (take i needs) ≡ None) (take_all i slots (omega (arith, past, len, same))) inv.1) in
    sym (ap (λ (o : Option QueryFault). or_later o (first_in see slots needs)) inv.0 ∙ all)
