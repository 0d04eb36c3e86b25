use Rattle.std.proofs.Common.{sym, subst, arith}
use Rattle.std.proofs.lemmas.List.{take_all}
use Rattle.clause_compiler.specs.ClauseKeys.{AreKeyed}
use Rattle.clause_compiler.proofs.PredicateSwitches.{keyed_all}
use Rattle.clause_compiler.proofs.tables.add_all.Goals as goal

pub returns-clause-each : goal.returns-clause-each
returns-clause-each c =
    let p = c.args.program.now in
    let ns = c.args.clauses.now in
    let keyed = subst (λ l. AreKeyed p l c.loop-i.keyed) (take_all c.loop-i.i ns (omega arith)) c.loop-i.invariant in
    sym (keyed_all p ns _ _ _ keyed)
