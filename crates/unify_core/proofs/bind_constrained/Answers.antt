use Rattle.std.proofs.Common.{◌≡◌, ◌∙◌, false, refl, ap, inl, inr, ◌++◌, [], ◌∷◌}
use Rattle.heap_cells.specs.declared.Cell.TheVariants as cell
use Rattle.heap_cells.specs.Cells.{Heaps, is_bound}
use Rattle.heap_cells.specs.Terms.{Naming, term_of, occurs}
use Rattle.unify_core.specs.declared.Touch.{Touch}
use Rattle.std.proofs.Common.{w64}
use Rattle.std.proofs.lemmas.Int.{to_z-of_z}
use borrow.Author.Rules.{sfits_of}
use Rattle.unify_core.specs.declared.Touch.TheVariants.{Value}
use Rattle.unify_core.specs.Outcome.{TellsTouch}
use Rattle.unify_core.proofs.OccursCheck.{int_absent, var_absent, else_symbolic}
use Rattle.unify_core.proofs.bind_constrained.Goals as goal
use Rattle.unify_core.proofs.bind_constrained.Goals.{in-Int, in-Constrained}

pub returns-in_default : goal.returns-in_default
returns-in_default c = record {
  bound = tt;
  symbolic = else_symbolic c.args.heap.now.now c.deref.ensures.valid c.args.to c.deref.result c.requires.root c.requires.closed c.deref.ensures.seen
      c.deref.ensures.at_root (λ i k. c.in_default.not-Constrained i k) (λ z. c.in_default.not-Int z);
  below = refl;
}

pub bind-requires-clause-absent : goal.bind-requires-clause-absent
bind-requires-clause-absent c = elim c.match-deref.branch [
  | in-Int w ↦ int_absent c.args.heap.now.now c.deref.ensures.valid c.args.var c.args.to w.in-Int.z w.in-Int.ensures.seen
  | in-Constrained w ↦
      let s = w.in-Constrained.ensures.seen in
      var_absent c.args.heap.now.now c.deref.ensures.valid c.args.var w.in-Constrained.field-0 c.args.to (ap is_bound s.1) s.2
      (λ e. c.requires.other (w.in-Constrained.ensures.at_root c.requires.root ∙ ap cell.Ref e))
]

absent : (c : goal.In_ok-bind) → (name : Naming) → occurs c.args.var (term_of name c.args.heap.now.now c.args.to) ≡ false
absent c = elim c.match-deref.branch [
  | in-Int w ↦ int_absent c.args.heap.now.now c.deref.ensures.valid c.args.var c.args.to w.in-Int.z w.in-Int.ensures.seen
  | in-Constrained w ↦
      let s = w.in-Constrained.ensures.seen in
      var_absent c.args.heap.now.now c.deref.ensures.valid c.args.var w.in-Constrained.field-0 c.args.to (ap is_bound s.1) s.2
      (λ e. c.requires.other (w.in-Constrained.ensures.at_root c.requires.root ∙ ap cell.Ref e))
]

tells : (c : goal.In_ok-bind) → TellsTouch c.args.heap.now.now c.args.var c.args.k c.args.to c.args.touches.now.items c.push.new.self.items
tells c = elim c.match-deref.branch [
  | in-Int w ↦ inl (
    w.in-Int.z,
    w.in-Int.ensures.at_root c.requires.root,
    (let b = rw w.in-Int.is at c.deref.type_inv in
        c.in_ok-push.ensures.items ∙ ap (λ (t : Touch). c.args.touches.now.items ++ t ∷ [])
        (w.touch-is ∙ ap (Value c.args.k) (to_z-of_z w64 w.in-Int.z (sfits_of b.1.1.1.1.0.1)))),
  )
  | in-Constrained w ↦ inr (
    w.in-Constrained.field-0,
    w.in-Constrained.m,
    w.in-Constrained.ensures.at_root c.requires.root,
    w.in-Constrained.ensures.seen.1,
    c.in_ok-push.ensures.items ∙ ap (λ (t : Touch). c.args.touches.now.items ++ t ∷ []) w.touch-is,
  )
]

pub returns-clause-bound : goal.returns-clause-bound
returns-clause-bound c = (record { bound = ap (λ (h : Heaps). h.now) c.in_ok-bind.ensures.bound; absent = absent c }, tells c)
