use Rattle.std.proofs.Common.{◌<◌, length, sym, subst}
use Rattle.clause_check.specs.declared.program.QueryParts.{QueryParts}
use Rattle.clause_check.specs.Programs.{FlatProgram, IsPart}
use Rattle.clause_check.proofs.KeptQueries.{query_kept_at}
use Rattle.clause_check.proofs.program.Program.goals_of.Goals as goal

pub returns-clause-within : goal.returns-clause-within
returns-clause-within c =
    let items = c.self.inside.queries.items in
    let size = subst (λ (q : FlatProgram). c.args.q < length q.queries) (sym c.self.view_is) c.requires in
    let own = query_kept_at _ _ items c.args.q c.index.result.now c.self.invariant.queries size in
    let here = subst (λ (x : QueryParts). IsPart (length c.self.inside.goals.items) x.goals) (sym c.index.ensures) own.goals in
    subst (λ (q : FlatProgram). IsPart (length q.goals) c.index.result.now.goals) c.self.view_is here
