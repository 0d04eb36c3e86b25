use Rattle.std.proofs.Common.{◌≡◌, ◌∙◌, List, Some, length, arith, sym, ap, subst, refl, map, string_bytes}
use Rattle.std.proofs.lemmas.Option.{slice_get_read}
use Rattle.term_pool.specs.declared.TermId.{TermId}
use Rattle.term_pool.specs.Contents.{Contents, Shape, shape_at}
use Rattle.term_pool.specs.PoolInvariant.{IsPool, shape_of}
use Rattle.term_pool.specs.PoolFields.{stored_shape}
use Rattle.term_pool.proofs.Laws.{term_of_shape, shape_within}
use Rattle.term_pool.proofs.Growth.{stored_at, length-entries_of}
use Rattle.term_pool.proofs.Pool.view.Goals as goal

pub returns-clause-shape : goal.returns-clause-shape
returns-clause-shape c =
    let parts = c.self.inside.parts.items in
    let nodes = c.self.inside.nodes.items in
    let size : length c.args.self.now.entries ≡ length nodes = ap (λ (p : Contents). length p.entries) (sym c.self.view_is) ∙ length-entries_of parts nodes in
    let stands = slice_get_read nodes (length nodes) c.args.t.number c.index.result.now refl (omega (arith, size, c.requires)) c.index.ensures in
    let shape : shape_of c.node_of.result ≡ stored_shape parts c.index.result.now.node =
    c.node_of.ensures ∙ ap (λ (l : List TermId). stored_shape l c.index.result.now.node) c.deref.ensures.value in
    subst (λ (p : Contents). shape_at p c.args.t ≡ Some (shape_of c.node_of.result)) c.self.view_is
    (stored_at (map string_bytes c.self.inside.atoms.keys) parts nodes c.args.t c.index.result.now stands ∙ ap (λ (s : Shape). Some s) (sym shape))

pub returns-clause-within : goal.returns-clause-within
returns-clause-within c = shape_within c.args.self.now (subst IsPool c.self.view_is c.self.invariant.pool) c.args.t (shape_of c.node_of.result) (returns-clause-shape c)

pub returns-clause-term : goal.returns-clause-term
returns-clause-term c = term_of_shape c.args.self.now (subst IsPool c.self.view_is c.self.invariant.pool) c.args.t (shape_of c.node_of.result) (returns-clause-shape c)
