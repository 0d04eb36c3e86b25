use Rattle.std.proofs.Common.{FitsSigned, ap, sym, subst, rules, w64}
use Rattle.std.proofs.lemmas.Int.{to_z-of_z}
use Rattle.heap_cells.specs.declared.Cell.TheVariants as cell
use Rattle.heap_cells.specs.Terms.{Same}
use Rattle.heap_cells.specs.HeapFields.{slot_of}
use Rattle.heap_cells.proofs.Chains.{one_binding}
use Rattle.heap_cells.proofs.Heap.near_int.Goals as goal

pub returns-in-Int-index-clause-same : goal.returns-in-Int-index-clause-same
returns-in-Int-index-clause-same c =
    let z = c.in-Int-index.z in
    let fits : FitsSigned w64 c.in-Int-index.z = search rules in
    subst (λ y. Same c.args.self.now.now c.args.c (cell.Int y)) (sym (to_z-of_z w64 z fits))
    (one_binding c.self.inside c.args.self.now c.self.view_is c.self.invariant.stored c.args.c c.in-Ref.i c.index.result.now (cell.Int z) c.in-Ref.is c.requires
    c.index.ensures (ap slot_of c.in-Int-index.is))
