use Rattle.std.proofs.Common.{ap, rules, refl, []}
use Rattle.heap_cells.specs.Cells.{Heaps}
use Rattle.unify_core.proofs.ImmediateUnifications.{left_bound, integers_true, integers_false, atoms_true, atoms_false}
use Rattle.unify_core.proofs.Unifications.{IsBehind, equalled, atoms_unified}
use Rattle.unify_core.proofs.unify_into.Goals as goal

bound : (c : goal.In_ok-bind) → IsBehind c.args.heap.now.now c.args.a c.args.b c.bind.new.self.now [] c.args.touches.now.items c.args.touches.now.items
bound c =
    let s = c.in-Some.ensures.open in
    left_bound c.args.heap.now.now c.bind.new.self.now c.open_root.ensures.valid c.args.a c.args.b c.root-right.result c.in-Some.i c.args.touches.now.items
    c.requires.own_a c.requires.own_b s.0 s.1 s.2 c.root-right.ensures.own c.root-right.ensures.same
    (record { bound = ap (λ (g : Heaps). g.now) c.in_ok-bind.ensures.bound; absent = c.is_apart.ensures c.if-is_apart.true })

pub returns-then-is_apart-clause-equal : goal.returns-then-is_apart-clause-equal
returns-then-is_apart-clause-equal c = equalled c.args.heap.now.now c.bind.new.self.now c.args.a c.args.b [] c.args.touches.now.items c.args.touches.now.items refl (bound c)

pub returns-then-is_apart-clause-atoms : goal.returns-then-is_apart-clause-atoms
returns-then-is_apart-clause-atoms c = let w = bound c in atoms_unified c.args.heap.now.now c.bind.new.self.now c.args.a c.args.b [] w.more w.way

pub returns-in-Int-right-clause-equal : goal.returns-in-Int-right-clause-equal
returns-in-Int-right-clause-equal c = integers_true c.args.heap.now.now c.root-right.ensures.valid c.args.a c.args.b c.requires.own_a c.requires.own_b
    c.in-Int.x c.in-Int-right.y _ c.args.touches.now.items (λ e. search rules) c.in-Int.ensures.same c.in-Int-right.ensures.same

pub returns-in-Int-right-clause-unequal : goal.returns-in-Int-right-clause-unequal
returns-in-Int-right-clause-unequal c = integers_false c.args.heap.now.now c.root-right.ensures.valid c.args.a c.args.b c.requires.own_a c.requires.own_b
    c.in-Int.x c.in-Int-right.y _ (λ e f. search rules) c.in-Int.ensures.same c.in-Int-right.ensures.same

pub returns-in-Atom-right-clause-equal : goal.returns-in-Atom-right-clause-equal
returns-in-Atom-right-clause-equal c = atoms_true c.args.heap.now.now c.root-right.ensures.valid c.args.a c.args.b c.requires.own_a c.requires.own_b c.in-Atom.x
    c.in-Atom-right.y c.eq.result c.args.touches.now.items c.eq.ensures c.in-Atom.ensures.same c.in-Atom-right.ensures.same

pub returns-in-Atom-right-clause-unequal : goal.returns-in-Atom-right-clause-unequal
returns-in-Atom-right-clause-unequal c = atoms_false c.args.heap.now.now c.root-right.ensures.valid c.args.a c.args.b c.requires.own_a c.requires.own_b
    c.in-Atom.x c.in-Atom-right.y c.eq.result c.eq.ensures c.in-Atom.ensures.same c.in-Atom-right.ensures.same
