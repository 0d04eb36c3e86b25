use Rattle.std.proofs.Common.{rules, ◌≡◌, ◌≤◌, length, subst}
use Rattle.term_pool.specs.declared.Node.{Node}
use Rattle.term_pool.specs.Contents.{atom_name}
use Rattle.term_pool.specs.Terms.{term_of, shape_term}
use Rattle.term_pool.specs.PoolInvariant.{shape_of}
use Rattle.answer_check.proofs.MemberTerms.{many_no_cell}
use Rattle.answer_check.proofs.members.cell_of.Goals as goal

pub returns-in_default-3 : goal.returns-in_default-3
returns-in_default-3 c =
    let pool = c.args.pool.now in
    let len : 3 ≤ length c.in_default.field-1.now = search rules in
    let e = subst (λ (n : Node). term_of pool c.args.t ≡ shape_term pool (shape_of n)) c.in_default.is c.view.ensures.term in
    many_no_cell (term_of pool c.args.t) (atom_name pool c.in_default.field-0) (term_of pool) c.in_default.field-1.now e len
