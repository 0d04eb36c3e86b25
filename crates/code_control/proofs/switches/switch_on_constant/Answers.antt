use Rattle.std.proofs.Common.{refl, sym, subst}
use Rattle.heap_cells.specs.Cells.{Heaps, IsOf}
use Rattle.heap_cells.specs.SeenCells.{IsSeen}
use Rattle.heap_cells.specs.HeapInvariant.{IsHeap}
use Rattle.wam_code.specs.declared.instruction.Code.TheVariants as step
use Rattle.wam_code.specs.Area.{table_at}
use Rattle.code_control.specs.Rows.{Finds}
use Rattle.code_control.proofs.TableRows.{first_there, first_own, first_shows, constant_switched}
use Rattle.code_control.proofs.switches.switch_on_constant.Goals as goal

pub register-requires : goal.register-requires
register-requires g c =
    first_there c.args.code.now c.args.branch.now c.args.at c.args.areas.now c.requires.safe (step.SwitchOnConstant c.args.table) c.requires.holds refl

pub deref-requires : goal.deref-requires
deref-requires g c =
    subst (λ (hs : Heaps). IsOf hs.now c.register.result) (sym c.heap.ensures)
    (first_own c.args.code.now c.args.branch.now c.args.at c.args.areas.now c.requires.safe c.register.result c.register.ensures)

pub find_row-requires : goal.find_row-requires
find_row-requires g c = (c.requires.safe.verified.there c.args.at (step.SwitchOnConstant c.args.table) c.requires.holds).0

pub returns-clause-safe : goal.returns-clause-safe
returns-clause-safe g c =
    (constant_switched c.args.code.now c.args.branch.now c.args.at c.args.areas.now c.requires.safe c.register.result c.register.ensures c.deref.result
    (subst (λ (hs : Heaps). IsSeen hs.now c.register.result c.deref.result) c.heap.ensures c.deref.ensures.seen)
    (subst (λ (hs : Heaps). IsHeap hs.now) c.heap.ensures c.deref.ensures.valid) c.args.table c.requires.holds c.find_row.result c.find_row.ensures).0

pub returns-clause-runs : goal.returns-clause-runs
returns-clause-runs g c =
    (constant_switched c.args.code.now c.args.branch.now c.args.at c.args.areas.now c.requires.safe c.register.result c.register.ensures c.deref.result
    (subst (λ (hs : Heaps). IsSeen hs.now c.register.result c.deref.result) c.heap.ensures c.deref.ensures.seen)
    (subst (λ (hs : Heaps). IsHeap hs.now) c.heap.ensures c.deref.ensures.valid) c.args.table c.requires.holds c.find_row.result c.find_row.ensures).1

pub returns-clause-falls : goal.returns-clause-falls
returns-clause-falls g c =
    (constant_switched c.args.code.now c.args.branch.now c.args.at c.args.areas.now c.requires.safe c.register.result c.register.ensures c.deref.result
    (subst (λ (hs : Heaps). IsSeen hs.now c.register.result c.deref.result) c.heap.ensures c.deref.ensures.seen)
    (subst (λ (hs : Heaps). IsHeap hs.now) c.heap.ensures c.deref.ensures.valid) c.args.table c.requires.holds c.find_row.result c.find_row.ensures).2

pub returns-clause-query : goal.returns-clause-query
returns-clause-query g c =
    (constant_switched c.args.code.now c.args.branch.now c.args.at c.args.areas.now c.requires.safe c.register.result c.register.ensures c.deref.result
    (subst (λ (hs : Heaps). IsSeen hs.now c.register.result c.deref.result) c.heap.ensures c.deref.ensures.seen)
    (subst (λ (hs : Heaps). IsHeap hs.now) c.heap.ensures c.deref.ensures.valid) c.args.table c.requires.holds c.find_row.result c.find_row.ensures).3

pub returns-clause-row : goal.returns-clause-row
returns-clause-row g c =
    first_shows c.args.branch.now c.args.areas.now c.heap.result.now c.heap.ensures c.register.result c.register.ensures c.deref.result c.deref.ensures.seen
    (λ x. Finds x (table_at c.args.code.now c.args.table) c.find_row.result) c.find_row.ensures
