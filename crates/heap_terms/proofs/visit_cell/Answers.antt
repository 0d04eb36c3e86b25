use Rattle.std.proofs.Common.{◌∙◌, ap, subst, rules, w64}
use Rattle.std.specs.Prelude.{OnOk}
use Rattle.heap_terms.specs.CellReads.{AddsTerm}
use Rattle.std.proofs.lemmas.Int.{to_z-of_z}
use Rattle.std.proofs.lemmas.Result.{on_ok_weaker}
use borrow.Author.Rules.{sfits_of}
use Rattle.fd_language.specs.Term.{Int}
use Rattle.term_pool.specs.Contents.{name_in}
use Rattle.heap_cells.specs.SeenTerms.{link_of}
use Rattle.heap_cells.proofs.Lemmas.{seen_atom}
use Rattle.heap_terms.proofs.CellReads.{read_var, read_linked, read_int, read_atom, read_compound}
use Rattle.heap_terms.proofs.visit_cell.Goals as goal

pub name_of-requires : goal.name_of-requires
name_of-requires g c = seen_atom _ c.args.heap.now.now c.deref.ensures.valid c.requires.atoms c.args.c c.requires.atom c.in-Atom.a c.in-Atom.ensures.seen

pub returns-in-Open-clause-read : goal.returns-in-Open-clause-read
returns-in-Open-clause-read g c =
    let s = c.in-Open.ensures.seen in
    on_ok_weaker c.add_leaf.result (read_var c.args.from.now.names c.args.heap.now.now c.deref.ensures.valid (g.V.View.sets c.args.view.now) c.args.c
    c.args.tasks.now.items c.args.done.now.items c.add_leaf.new.pool c.add_leaf.new.done.items c.in-Open.i s.1 s.2) c.add_leaf.ensures.added

pub domain-requires : goal.domain-requires
domain-requires g c = let s = c.in-Constrained.ensures.seen in c.requires.linked c.in-Constrained.i c.in-Constrained.k (ap link_of s.1)

pub returns-in-Constrained-clause-read : goal.returns-in-Constrained-clause-read
returns-in-Constrained-clause-read g c =
    let s = c.in-Constrained.ensures.seen in
    on_ok_weaker c.add_linked.result (read_linked c.args.from.now.names c.args.heap.now.now c.deref.ensures.valid (g.V.View.sets c.args.view.now) c.args.c
    c.args.tasks.now.items c.args.done.now.items c.add_linked.new.pool c.add_linked.new.done.items c.in-Constrained.i c.in-Constrained.k c.domain.result.now
    s.1 s.2 c.domain.ensures) c.add_linked.ensures.added

pub returns-in-Int-clause-read : goal.returns-in-Int-clause-read
returns-in-Int-clause-read g c =
    let b = rw c.in-Int.is at c.deref.type_inv in
    on_ok_weaker c.add_leaf-in-Int.result (read_int c.args.from.now.names c.args.heap.now.now c.deref.ensures.valid (g.V.View.sets c.args.view.now) c.args.c
    c.args.tasks.now.items c.args.done.now.items c.add_leaf-in-Int.new.pool c.add_leaf-in-Int.new.done.items c.in-Int.z c.in-Int.ensures.seen)
    (subst (λ z. OnOk c.add_leaf-in-Int.result (AddsTerm (Int z) c.args.done.now.items c.add_leaf-in-Int.new.pool c.add_leaf-in-Int.new.done.items))
    (to_z-of_z w64 c.in-Int.z (sfits_of b.1.1.1.1.0.1)) c.add_leaf-in-Int.ensures.added)

pub returns-in_ok-a-in-Atom-clause-read : goal.returns-in_ok-a-in-Atom-clause-read
returns-in_ok-a-in-Atom-clause-read g c =
    on_ok_weaker c.add_leaf-in-Atom.result (read_atom c.args.from.now.names c.args.heap.now.now c.deref.ensures.valid (g.V.View.sets c.args.view.now) c.args.c
    c.args.tasks.now.items c.args.done.now.items c.add_leaf-in-Atom.new.pool c.add_leaf-in-Atom.new.done.items c.in-Atom.a
    (name_in c.atom.new.self.names c.in_ok-a-in-Atom.a) (c.in_ok-a-in-Atom.ensures.name ∙ c.name_of.ensures.name) c.in-Atom.ensures.seen)
    c.add_leaf-in-Atom.ensures.added

pub returns-in_ok-visit_cells-in-Struct-clause-read : goal.returns-in_ok-visit_cells-in-Struct-clause-read
returns-in_ok-visit_cells-in-Struct-clause-read g c =
    let s = c.in-Struct.ensures.seen in
    read_compound c.args.from.now.names c.args.heap.now.now c.deref.ensures.valid (g.V.View.sets c.args.view.now) c.args.c c.args.tasks.now.items
    c.args.done.now.items c.requires.atoms c.args.pool.now c.visit_cells.new.tasks.items c.in-Struct.f c.in-Struct.args.now s.0 s.1 s.2 s.3 (search rules)
