use Rattle.std.proofs.Common.{FitsSigned, sym, subst, rules, w64}
use Rattle.std.proofs.lemmas.Int.{to_z-of_z}
use Rattle.heap_cells.specs.declared.Cell.TheVariants as cell
use Rattle.branch_goals.specs.Findings.{Finds, IsValueAt}
use Rattle.branch_goals.specs.declared.builtin_findings.Found.TheVariants.{Equal}
use Rattle.branch_goals.proofs.Findings.{is_told}
use Rattle.branch_goals.proofs.builtin_findings.find_told.Goals as goal

pub returns-in-FdMin : goal.returns-in-FdMin
returns-in-FdMin g c = λ name n. c.ask.ensures name

pub returns-in-Ok : goal.returns-in-Ok
returns-in-Ok g c = λ name n.
    let fits : FitsSigned w64 c.in-Ok.z = search rules in
    subst (λ z. Finds name c.args.branch.now c.args.kind c.args.first c.args.second (Equal c.args.first (cell.Int z))) (sym (to_z-of_z w64 c.in-Ok.z fits))
    (is_told name c.args.branch.now c.args.kind c.args.first c.args.second c.requires.sound.now.valid c.requires.first (sym c.in-Is.is) c.in-Ok.z
    (subst (IsValueAt name c.args.branch.now c.args.second) c.in-Ok.is (c.in_ok-z-in-Is.ensures name n)))
