use Rattle.std.proofs.Common.{length, map, refl, arith, subst}
use Rattle.clause_code.specs.Predicates.{predicate_in, Gathered}
use Rattle.clause_code.proofs.ProgramFunctors.{predicates_gathered}
use Rattle.clause_code.proofs.predicates.predicates_of.Goals as goal

pub returns : goal.returns
returns c =
    let p = c.args.program.now in
    let keys = c.loop-i.functors.keys in
    predicates_gathered p keys (map predicate_in keys) refl (subst (λ n. Gathered p (length p.clauses) n keys) (omega arith) c.loop-i.invariant)
