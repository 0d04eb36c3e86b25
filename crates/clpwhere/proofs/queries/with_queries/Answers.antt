use Rattle.std.proofs.Common.{ℕ, List, subst, sym}
use Rattle.clpwhere.specs.Parts.{QueriedParts}
use Rattle.clpwhere.specs.Queries.{AreQueries}
use Rattle.clpwhere.proofs.queries.with_queries.Goals as goal

pub returns-clause-queries : goal.returns-clause-queries
returns-clause-queries c =
    let found = subst (λ (bytes : List ℕ). AreQueries bytes c.in_ok-queries.queries.items) c.bytes.ensures c.in_ok-queries.ensures in
    subst (λ (t : QueriedParts). AreQueries c.args.text.bytes t.queries) (sym c.new.ensures) found
