use Rattle.std.proofs.Common.{subst, ◌∙◌}
use Rattle.fd_language.specs.PlacedTerm.{place}
use Rattle.term_pool.specs.Contents.{atom_name}
use Rattle.term_pool.specs.declared.Node.{Node}
use Rattle.term_pool.specs.PoolInvariant.{shape_of}
use Rattle.term_pool.specs.PlacedTerms.{placed_of}
use Rattle.clause_check.specs.Terms.{IsSeen}
use Rattle.clause_check.proofs.TermShapes.{many_joined, two_joined, one_joined, bare_joined}
use Rattle.clause_check.proofs.terms.body_form.Goals as goal

pub returns-in_default-name_of-2 : goal.returns-in_default-name_of-2
returns-in_default-name_of-2 c =
    let pool = c.args.pool.now in
    let t = c.args.t in
    let name = atom_name pool c.in-Comp-default-len2.name in
    let text = c.name_of-in-Comp-default-len2.ensures.name in
    two_joined (placed_of pool t) name (place (placed_of pool t)) (placed_of pool) c.in-Comp-default-len2.field-1.now c.in-Comp-default-len2.ensures.placed
    c.in-Comp-default-len2.len_at_least c.in-Comp-default-len2.len_below
    (λ e. c.in_default-name_of-2.not-text (text ∙ e)) (λ e. c.in_default-name_of-2.not-text-2 (text ∙ e)) (λ e. c.in_default-name_of-2.not-text-3 (text ∙ e))

pub returns-in_default-2 : goal.returns-in_default-2
returns-in_default-2 c =
    let pool = c.args.pool.now in
    let t = c.args.t in
    let node = c.in_default.t8-1-own.given in
    let seen = subst (λ (n : Node). IsSeen pool t (shape_of n)) node.1 c.look.ensures.placed in
    many_joined (placed_of pool t) (atom_name pool node.0.0) (place (placed_of pool t)) (placed_of pool) node.0.1.0.now seen c.in_default.len_at_least

pub returns-in_default-name_of : goal.returns-in_default-name_of
returns-in_default-name_of c =
    let pool = c.args.pool.now in
    let t = c.args.t in
    let name = atom_name pool c.in-Comp-default-len1.name in
    one_joined (placed_of pool t) name (place (placed_of pool t)) (placed_of pool) c.in-Comp-default-len1.field-1.now c.in-Comp-default-len1.ensures.placed
    c.in-Comp-default-len1.len_at_least c.in-Comp-default-len1.len_below
    (λ e. c.in_default-name_of.not-text (c.name_of.ensures.name ∙ e))

pub returns-in_default : goal.returns-in_default
returns-in_default c =
    let pool = c.args.pool.now in
    let t = c.args.t in
    let node = c.in_default.t8-1-own.given in
    let seen = subst (λ (n : Node). IsSeen pool t (shape_of n)) node.1 c.look.ensures.placed in
    bare_joined (placed_of pool t) (atom_name pool node.0.0) (place (placed_of pool t)) (placed_of pool) node.0.1.0.now seen c.in_default.len_below
