use Rattle.std.proofs.Common.{◌∙◌, FitsSigned, subst, rules, w64}
use Rattle.std.proofs.lemmas.Int.{to_z-of_z}
use Rattle.fd_language.proofs.Lemmas.{two}
use Rattle.branch_goals.specs.Findings.{AreValuesAt, holds_by}
use Rattle.branch_goals.proofs.Findings.{compare_fault, compare_told}
use Rattle.branch_goals.proofs.builtin_findings.compare.Goals as goal

pub returns-in-Err : goal.returns-in-Err
returns-in-Err g c = λ name n.
    compare_fault name c.args.branch.now c.args.kind c.args.left c.args.right c.requires.kind c.in-Err.fault
    (subst (AreValuesAt name c.args.branch.now c.args.left c.args.right) c.in-Err.is (c.in_ok-fault.ensures name n))

pub returns-in-Ok : goal.returns-in-Ok
returns-in-Ok g c = λ name n.
    let fits_a : FitsSigned w64 c.in-Ok.a = search rules in
    let fits_b : FitsSigned w64 c.in-Ok.b = search rules in
    compare_told name c.args.branch.now c.args.kind c.args.left c.args.right c.requires.kind c.in-Ok.a c.in-Ok.b
    (subst (AreValuesAt name c.args.branch.now c.args.left c.args.right) c.in-Ok.is (c.in_ok-fault.ensures name n)) c.holds.result
    (c.holds.ensures ∙ two (holds_by c.args.kind) (to_z-of_z w64 c.in-Ok.a fits_a) (to_z-of_z w64 c.in-Ok.b fits_b))
