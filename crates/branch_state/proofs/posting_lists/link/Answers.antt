use Rattle.std.proofs.Common.{◌∙◌, ap, refl}
use Rattle.fd_model.specs.Levels.{Levels}
use Rattle.heap_cells.specs.Cells.{Heaps, is_bound, linked, with_slot}
use Rattle.branch_state.proofs.ConstraintLinks.{open_named, linked_named, seen_var, seen_linked}
use Rattle.branch_state.proofs.posting_lists.link.Goals as goal

pub returns-in_ok-constrain-clause-linked : goal.returns-in_ok-constrain-clause-linked
returns-in_ok-constrain-clause-linked g c = λ h sets xs w.
    let now = c.args.heap.now.now in
    let s = c.in-Open.ensures.seen in
    let i = c.in-Open.i in
    let e = ap (λ (x : Heaps). x.now) c.in_ok-constrain.ensures.linked ∙ ap (λ k. with_slot now i (linked k)) c.in_ok-k.ensures.number in
    open_named h sets xs now c.args.store.now.current.sets w c.args.x i (seen_var now c.deref.ensures.valid c.args.x c.requires i (ap is_bound s.1) s.2) s.0 s.1
    c.constrain.new.self.now c.new_var.new.self.current.sets e (ap (λ (l : Levels). l.current.sets) c.in_ok-k.ensures.added)

pub returns-in_default : goal.returns-in_default
returns-in_default g c =
    let now = c.args.heap.now.now in
    let k = seen_linked now c.deref.ensures.valid c.args.x c.requires c.deref.result c.deref.ensures.seen c.in_default.not-Open in
    record {
      store = refl;
      below = refl;
      linked = λ h sets xs w. linked_named h sets xs now c.args.store.now.current.sets w c.args.x k.0 k.1 k.2 k.3;
    }
