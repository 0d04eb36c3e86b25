use Rattle.std.proofs.Common.{subst}
use Rattle.fd_language.specs.PlacedTerm.{place}
use Rattle.term_pool.specs.Contents.{atom_name}
use Rattle.term_pool.specs.declared.Node.{Node}
use Rattle.term_pool.specs.PoolInvariant.{shape_of}
use Rattle.term_pool.specs.PlacedTerms.{placed_of}
use Rattle.text_warnings.specs.Terms.{IsSeen}
use Rattle.text_warnings.proofs.PartShapes.{many_parts}
use Rattle.text_warnings.proofs.parts.parts_of.Goals as goal

pub returns-in_default-2 : goal.returns-in_default-2
returns-in_default-2 c =
    let pool = c.args.pool.now in
    let t = c.args.t in
    let node = c.in_default.t8-1-own.given in
    let seen = subst (λ (n : Node). IsSeen pool t (shape_of n)) node.1 c.look.ensures.placed in
    (tt, many_parts (placed_of pool t) (atom_name pool node.0.0) (place (placed_of pool t)) (placed_of pool) node.0.1.0.now seen c.in_default.len_at_least)
