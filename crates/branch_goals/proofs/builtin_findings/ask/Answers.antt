use Rattle.std.proofs.Common.{FitsSigned, Ok, sym, subst, rules, w64}
use Rattle.std.proofs.lemmas.Int.{to_z-of_z}
use Rattle.fd_model.specs.Levels.{Levels}
use Rattle.heap_cells.specs.declared.Cell.TheVariants as cell
use Rattle.heap_cells.specs.Cells.{Heaps}
use Rattle.branch_goals.specs.Findings.{AreNumbersAt, Finds}
use Rattle.branch_goals.specs.declared.builtin_findings.Found.TheVariants.{Equal}
use Rattle.branch_goals.proofs.Findings.{asked_told}
use Rattle.branch_goals.proofs.builtin_findings.ask.Goals as goal

pub returns-in-Ok : goal.returns-in-Ok
returns-in-Ok g c = λ name.
    let fits : FitsSigned w64 c.told.result = search rules in
    subst (λ z. Finds name c.args.branch.now c.args.kind c.args.of c.args.is (Equal c.args.is (cell.Int z))) (sym (to_z-of_z w64 c.told.result fits))
    (asked_told name c.args.branch.now c.requires.sound.now.valid c.args.kind c.requires.kind c.args.of c.args.is c.requires.is c.in-Ok.all c.told.result
    (subst (λ (l : Levels). AreNumbersAt name c.args.branch.now.heaps.now l.current.sets c.args.of (Ok c.in-Ok.all)) c.store.ensures
    (subst (λ (h : Heaps). AreNumbersAt name h.now c.store.result.now.current.sets c.args.of (Ok c.in-Ok.all)) c.heap.ensures (c.in-Ok.ensures name))) c.told.ensures)
