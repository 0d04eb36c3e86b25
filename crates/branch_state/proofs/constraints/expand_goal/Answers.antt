use Rattle.std.proofs.Common.{ap, subst}
use Rattle.fd_language.specs.declared.TheConstants.{INFINITY}
use Rattle.fd_model.specs.ConstraintExpansion.{arguments, expand}
use Rattle.heap_cells.specs.SeenTerms.{seen_term}
use Rattle.range_code.specs.Frames.{family_of}
use Rattle.term_pool.specs.Contents.{name_in}
use Rattle.constraint_expand.specs.Views.{Expands}
use Rattle.branch_state.proofs.constraints.expand_goal.Goals as goal

pub returns-clause-row : goal.returns-clause-row
returns-clause-row g c =
    let r = c.expand_read-expanded.result in
    let n = c.variable_count.result in
    let seen = seen_term (name_in c.args.from.now.names) c.args.heap.now.now (family_of c.args.store.now.current.sets) c.args.goal in
    subst (λ m. Expands (expand INFINITY c.args.kind (arguments seen) m) r) c.variable_count.ensures
    (subst (λ ts. Expands (expand INFINITY c.args.kind ts n) r) (ap arguments c.in_ok-goal.ensures.term) c.expand_read-expanded.ensures.row)
