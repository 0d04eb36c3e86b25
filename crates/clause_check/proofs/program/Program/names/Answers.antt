use Rattle.std.proofs.Common.{◌<◌, length, sym, subst}
use Rattle.std.specs.Prelude.{All}
use Rattle.clause_check.specs.declared.program.QueryParts.{QueryParts}
use Rattle.clause_check.specs.Programs.{FlatProgram}
use Rattle.clause_check.proofs.KeptQueries.{query_kept_at}
use Rattle.clause_check.proofs.program.Program.names.Goals as goal

pub returns-clause-own : goal.returns-clause-own
returns-clause-own c =
    let items = c.self.inside.queries.items in
    let size = subst (λ (q : FlatProgram). c.args.q < length q.queries) (sym c.self.view_is) c.requires in
    let own = query_kept_at _ _ items c.args.q c.index.result.now c.self.invariant.queries size in
    let named = subst (λ (x : QueryParts). All (λ a. a.number < length c.self.inside.pool.names) x.names.items) (sym c.index.ensures) own.names in
    let told = subst (All (λ a. a.number < length c.self.inside.pool.names)) (sym c.deref.ensures.value) named in
    subst (λ (q : FlatProgram). All (λ a. a.number < length q.pool.names) c.deref.result.now) c.self.view_is told
