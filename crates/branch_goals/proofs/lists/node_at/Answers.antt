use Rattle.std.proofs.Common.{ap, subst}
use Rattle.branch_lemmas.specs.Frames.{link_of}
use Rattle.branch_goals.specs.Lists.{IsVariableNode}
use Rattle.branch_goals.proofs.ListNodes.{node_free, node_variable, node_int, node_atom, node_compound}
use Rattle.branch_goals.proofs.lists.node_at.Goals as goal

pub domain-requires : goal.domain-requires
domain-requires g c = let s = c.in-Constrained.ensures.seen in c.requires.linked c.in-Constrained.field-0 c.in-Constrained.k (ap link_of s.1)

pub returns-in-Open : goal.returns-in-Open
returns-in-Open g c = λ name names.
    let s = c.in-Open.ensures.seen in
    node_free name c.args.heap.now.now c.deref.ensures.valid (g.V.View.sets c.args.view.now) c.args.at c.in-Open.field-0 s.1 s.2

pub returns-in-Constrained : goal.returns-in-Constrained
returns-in-Constrained g c = λ name names.
    let s = c.in-Constrained.ensures.seen in
    node_variable name c.args.heap.now.now c.deref.ensures.valid (g.V.View.sets c.args.view.now) c.args.at c.in-Constrained.field-0 c.in-Constrained.k c.variable_node.result s.1 s.2
    (subst (λ xs. IsVariableNode xs c.variable_node.result) c.domain.ensures c.variable_node.ensures)

pub returns-in-Int : goal.returns-in-Int
returns-in-Int g c = λ name names.
    node_int name c.args.heap.now.now c.deref.ensures.valid (g.V.View.sets c.args.view.now) c.args.at c.in-Int.field-0 c.in-Int.ensures.seen

pub returns-in-Atom : goal.returns-in-Atom
returns-in-Atom g c = λ name names.
    node_atom name c.args.heap.now.now c.deref.ensures.valid (g.V.View.sets c.args.view.now) c.args.at names c.in-Atom.a c.atom_node.result c.in-Atom.ensures.seen c.atom_node.ensures

pub returns-in-Struct : goal.returns-in-Struct
returns-in-Struct g c = λ name names.
    let s = c.in-Struct.ensures.seen in
    node_compound name c.args.heap.now.now c.deref.ensures.valid (g.V.View.sets c.args.view.now) c.args.at names c.in-Struct.f c.in-Struct.args.now s.0
    c.compound_node.result s.2 s.3 c.compound_node.ensures
