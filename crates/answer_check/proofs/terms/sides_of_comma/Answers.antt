use Rattle.std.proofs.Common.{rules, ◌≡◌, ◌≤◌, length, subst}
use Rattle.fd_language.specs.PlacedTerm.{place}
use Rattle.term_pool.specs.declared.Node.{Node}
use Rattle.term_pool.specs.Contents.{atom_name}
use Rattle.term_pool.specs.PlacedTerms.{placed_of, placed_by}
use Rattle.term_pool.specs.PoolInvariant.{shape_of}
use Rattle.answer_check.proofs.Shapes.{many_alone}
use Rattle.answer_check.proofs.terms.sides_of_comma.Goals as goal

pub returns-in_default-2 : goal.returns-in_default-2
returns-in_default-2 c =
    let pool = c.args.pool.now in
    let x = placed_of pool c.args.t in
    let len : 3 ≤ length c.in_default.field-1.now = search rules in
    let e = subst (λ (n : Node). x ≡ placed_by pool.names (placed_of pool) (place x) (shape_of n)) c.in_default.is c.look.ensures.placed in
    many_alone x (atom_name pool c.in_default.field-0) (place x) (placed_of pool) c.in_default.field-1.now e len
