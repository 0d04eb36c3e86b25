use Rattle.std.proofs.Common.{◌≡◌, ◌≤◌, Ok, Err, Some, None, sym, subst}
use Rattle.fd_language.specs.declared.TheConstants.{INFINITY}
use Rattle.heap_cells.specs.Cells.{Heaps, IsOf}
use Rattle.branch_goals.specs.Labels.{IsVariableOf}
use Rattle.branch_goals.proofs.Labels.{label_done, label_fault, label_takes, taken_own, found_by}
use Rattle.branch_goals.proofs.ListNodes.{is_list_naming, list_naming}
use Rattle.branch_goals.proofs.labelling.label.Goals as goal

pub find_member-requires-clause-most : goal.find_member-requires-clause-most
find_member-requires-clause-most g c = subst (λ n. n ≤ INFINITY) (sym c.infinity.ensures) c.requires.sound.greatest.1

pub returns-in-Err : goal.returns-in-Err
returns-in-Err g c = λ name names.
    label_fault name c.args.branch.now c.args.order c.args.list c.in-Err.fault
    (found_by c.args.branch.now c.infinity.result c.infinity.ensures c.heap-heap.result.now c.store-store.result.now c.heap-heap.ensures c.store-store.ensures
    c.args.order c.args.list c.find_member.result c.find_member.ensures (Err c.in-Err.fault) c.in-Err.is name names)

pub variable_of-requires : goal.variable_of-requires
variable_of-requires g c =
    let is : c.find_member.result ≡ Ok (Some c.in-Ok-Some.taken) = cc in
    subst (λ (h : Heaps). IsOf h.now c.in-Ok-Some.taken.cell) (sym c.heap-heap.ensures)
    (taken_own list_naming c.args.branch.now c.args.order c.args.list c.in-Ok-Some.taken
    (found_by c.args.branch.now c.infinity.result c.infinity.ensures c.heap-heap.result.now c.store-store.result.now c.heap-heap.ensures c.store-store.ensures
    c.args.order c.args.list c.find_member.result c.find_member.ensures (Ok (Some c.in-Ok-Some.taken)) is list_naming is_list_naming))

pub returns-in-Ok-Some : goal.returns-in-Ok-Some
returns-in-Ok-Some g c = λ name names.
    let is : c.find_member.result ≡ Ok (Some c.in-Ok-Some.taken) = cc in
    label_takes name c.args.branch.now c.args.order c.args.list c.in-Ok-Some.taken
    (found_by c.args.branch.now c.infinity.result c.infinity.ensures c.heap-heap.result.now c.store-store.result.now c.heap-heap.ensures c.store-store.ensures
    c.args.order c.args.list c.find_member.result c.find_member.ensures (Ok (Some c.in-Ok-Some.taken)) is name names)
    c.variable_of.result
    (subst (λ (h : Heaps). IsVariableOf name h.now c.in-Ok-Some.taken.cell c.variable_of.result) c.heap-heap.ensures (c.variable_of.ensures name))

pub returns-in-Ok-None : goal.returns-in-Ok-None
returns-in-Ok-None g c = λ name names.
    let is : c.find_member.result ≡ Ok None = cc in
    label_done name c.args.branch.now c.args.order c.args.list
    (found_by c.args.branch.now c.infinity.result c.infinity.ensures c.heap-heap.result.now c.store-store.result.now c.heap-heap.ensures c.store-store.ensures
    c.args.order c.args.list c.find_member.result c.find_member.ensures (Ok None) is name names)
