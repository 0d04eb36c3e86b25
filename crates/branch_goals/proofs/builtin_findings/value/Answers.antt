use Rattle.std.proofs.Common.{◌≡◌, FitsSigned, Ok, ap, sym, subst, rules, w64}
use Rattle.std.proofs.lemmas.Int.{to_z-of_z}
use Rattle.builtin_calls.specs.Outcomes.{IsFault}
use Rattle.fd_model.specs.Arithmetic.{value_of}
use Rattle.fd_model.specs.Builtins.{checked_value}
use Rattle.branch_goals.specs.Findings.{IsValueAt, seen_at}
use Rattle.branch_goals.proofs.Findings.{fault_value, links_below, value_by}
use Rattle.branch_goals.proofs.builtin_findings.value.Goals as goal

pub eval-requires-clause-links : goal.eval-requires-clause-links
eval-requires-clause-links g c = links_below c.args.branch.now c.requires.sound c.heap.result.now c.store.result.now c.heap.ensures c.store.ensures

pub returns-in-Ok : goal.returns-in-Ok
returns-in-Ok g c = λ name n.
    let fits : FitsSigned w64 c.in-Ok.z = search rules in
    subst (λ z. IsValueAt name c.args.branch.now c.args.c (Ok z)) (sym (to_z-of_z w64 c.in-Ok.z fits))
    (ap checked_value (value_by name c.args.branch.now c.heap.result.now c.store.result.now c.heap.ensures c.store.ensures c.args.c (λ v. v ≡ Ok c.in-Ok.z) (c.in-Ok.ensures name n.0)))

pub returns-in_ok-fault_of-in-Err : goal.returns-in_ok-fault_of-in-Err
returns-in_ok-fault_of-in-Err g c = λ name n.
    fault_value c.in-Err.fault (value_of (seen_at name c.args.branch.now c.args.c)) c.in_ok-fault_of-in-Err.field-0
    (value_by name c.args.branch.now c.heap.result.now c.store.result.now c.heap.ensures c.store.ensures c.args.c (IsFault c.in-Err.fault)
    (c.in-Err.ensures name n.0)) c.in_ok-fault_of-in-Err.ensures.fault
