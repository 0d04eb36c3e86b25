use Rattle.std.proofs.Common.{◌≡◌}
use Rattle.std.proofs.Common.{None}
use Rattle.fd_language.specs.Spelling.{read_range}
use Rattle.term_pool.specs.PlacedTerms.{placed_of}
use Rattle.range_terms.proofs.WalkResult.{refused, not_refused, whole_nodes, whole_places, is_spelled, same_range, some_range, the_range}
use Rattle.range_terms.proofs.read_range.Goals as goal
use Rattle.fd_language.proofs.Lemmas.{is_none}

pub returns-in-Some-clause-spelled : goal.returns-in-Some-clause-spelled
returns-in-Some-clause-spelled c = refused c.args.infinity c.args.pool.now (placed_of c.args.pool.now c.args.t) c.in-Ok.found c.in-Some.place c.in-Ok.ensures c.in-Some.is

pub unwrap-range-requires : goal.unwrap-range-requires
unwrap-range-requires c =
    some_range c.from_nodes.result c.in-Ok.found.nodes.items c.from_nodes.ensures
    (is_spelled c.args.infinity c.args.pool.now (placed_of c.args.pool.now c.args.t) c.in-Ok.found c.in-Ok.ensures
    (is_none c.in-Ok.found.offender c.in_default.not-Some))

pub returns-clause-spelled : goal.returns-clause-spelled
returns-clause-spelled c =
    let now = c.args.pool.now in
    let x = placed_of now c.args.t in
    let found = c.in-Ok.found in
    let none : found.offender ≡ None = is_none found.offender c.in_default.not-Some in (
      not_refused c.args.infinity now x found c.in-Ok.ensures none,
      same_range c.unwrap-range.result (read_range c.args.infinity x).tree found.nodes.items
          (the_range c.from_nodes.result c.unwrap-range.result found.nodes.items c.from_nodes.ensures c.unwrap-range.ensures)
          (whole_nodes c.args.infinity now x found c.in-Ok.ensures none),
      whole_places c.args.infinity now x found c.in-Ok.ensures,
    )
