use Rattle.std.proofs.Common.{◌≡◌, sym, ◌∙◌, ap, refl, subst, arith, length, ◌<◌, false, IfSome, Option, Some, None}
use Rattle.heap_cells.specs.declared.Cell.{Cell}
use Rattle.heap_cells.specs.declared.Cell.TheVariants as cell
use Rattle.heap_cells.specs.Cells.{bound, is_bound, slot_at, IsOf}
use Rattle.heap_cells.specs.Terms.{Same, term_of}
use Rattle.heap_cells.specs.SeenCells.{IsRoot, binding_or, one_step}
use Rattle.heap_cells.proofs.Fields.{slot_is, slots_there, valid_now}
use Rattle.heap_cells.proofs.Chains.{no_more, one_binding}
use Rattle.heap_cells.proofs.SeenCells.{binding_at, bound_alike, stays_put, unbound_step, unbound_here}
use Rattle.heap_cells.proofs.Heap.near_root.Goals as goal

pub returns-in_default : goal.returns-in_default
returns-in_default c = record {
  root = no_more c.args.self.now.now c.args.c c.in_default.not-Ref;
  same = λ name. refl;
  own = c.requires;
  near = stays_put c.args.self.now.now c.args.c c.in_default.not-Ref;
  none = (λ e. absurd (let f : ⊥ = cc in f), λ w. absurd (c.in_default.not-Ref w.0 w.2));
  valid = valid_now c.self.inside c.args.self.now c.self.view_is c.self.invariant.stored;
}

pub returns-in-Some-clause-root : goal.returns-in-Some-clause-root
returns-in-Some-clause-root c = go c.no_variable.result (c.no_variable.ensures.root c.args.self.now.now)
  where
    go : (o : Option Cell) → IfSome o (λ r. (r ≡ c.in-Some.next) × IsRoot c.args.self.now.now r) → IfSome o (IsRoot c.args.self.now.now)
    go (Some r) h = h.1
    go None h = tt

pub returns-in-Some-clause-same : goal.returns-in-Some-clause-same
returns-in-Some-clause-same c = go c.no_variable.result (c.no_variable.ensures.root c.args.self.now.now)
  where
    go : (o : Option Cell) → IfSome o (λ r. (r ≡ c.in-Some.next) × IsRoot c.args.self.now.now r) → IfSome o (Same c.args.self.now.now c.args.c)
    go (Some r) k = one_binding c.self.inside c.args.self.now c.self.view_is c.self.invariant.stored c.args.c c.in-Ref.i c.index.result.now r c.in-Ref.is
        c.requires c.index.ensures (c.in-Some.ensures ∙ ap bound (sym k.0))
    go None k = tt

pub returns-in-Some-clause-own : goal.returns-in-Some-clause-own
returns-in-Some-clause-own c = go c.no_variable.result (c.no_variable.ensures.root c.args.self.now.now)
  where
    go : (o : Option Cell) → IfSome o (λ r. (r ≡ c.in-Some.next) × IsRoot c.args.self.now.now r) → IfSome o (IsOf c.args.self.now.now)
    go (Some r) k = (valid_now c.self.inside c.args.self.now c.self.view_is c.self.invariant.stored).slots c.in-Ref.i r
        (binding_at c.self.inside c.args.self.now c.self.view_is c.args.c c.in-Ref.i c.index.result.now c.in-Some.next c.in-Ref.is c.requires c.index.ensures
        c.in-Some.ensures ∙ ap bound (sym k.0))
    go None k = tt

pub returns-in-Some-clause-near : goal.returns-in-Some-clause-near
returns-in-Some-clause-near c = go c.no_variable.result (c.no_variable.ensures.root c.args.self.now.now)
  where
    go : (o : Option Cell) → IfSome o (λ r. (r ≡ c.in-Some.next) × IsRoot c.args.self.now.now r) → IfSome o (λ r. r ≡ one_step c.args.self.now.now c.args.c)
    go (Some r) k = k.0 ∙ sym (ap (one_step c.args.self.now.now) c.in-Ref.is
        ∙ ap (λ s. binding_or s (cell.Ref c.in-Ref.i)) (binding_at c.self.inside c.args.self.now c.self.view_is c.args.c c.in-Ref.i c.index.result.now
        c.in-Some.next c.in-Ref.is c.requires c.index.ensures c.in-Some.ensures))
    go None k = tt

pub returns-in-Some-clause-none : goal.returns-in-Some-clause-none
returns-in-Some-clause-none c = (
  λ e. (let w = c.no_variable.ensures.none.0 e in (c.in-Ref.i, w.0, c.in-Ref.is, slot ∙ ap bound w.1)),
  λ w. c.no_variable.ensures.none.1 (w.1, bound_alike c.args.self.now.now c.args.c c.in-Ref.i c.in-Some.next w.0 w.1 c.in-Ref.is slot w.2 w.3),
)
  where
    slot : slot_at c.args.self.now.now c.in-Ref.i ≡ bound c.in-Some.next
    slot = binding_at c.self.inside c.args.self.now c.self.view_is c.args.c c.in-Ref.i c.index.result.now c.in-Some.next c.in-Ref.is c.requires c.index.ensures c.in-Some.ensures

pub returns-in-None : goal.returns-in-None
returns-in-None c = record {
  root = open_here;
  same = λ name. ap (term_of name c.args.self.now.now) c.in-Ref.is;
  own = own;
  near = sym (ap (one_step c.args.self.now.now) c.in-Ref.is ∙ unbound_step c.args.self.now.now c.in-Ref.i open_here);
  none = (λ e. absurd (let f : ⊥ = cc in f), λ w. absurd (unbound_here c.args.self.now.now c.args.c c.in-Ref.i c.in-Ref.is open_here w.0 w.1 w.2 w.3));
  valid = valid_now c.self.inside c.args.self.now c.self.view_is c.self.invariant.stored;
}
  where
    own : c.in-Ref.i < length c.args.self.now.now.slots
    own = subst (IsOf c.args.self.now.now) c.in-Ref.is c.requires

    open_here : is_bound (slot_at c.args.self.now.now c.in-Ref.i) ≡ false
    open_here =
        let l = slots_there c.self.inside c.args.self.now c.self.view_is in
        let there : c.in-Ref.i < length c.self.inside.variables.items = omega (arith, own) in
        ap is_bound (slot_is c.self.inside c.args.self.now c.self.view_is c.in-Ref.i c.index.result.now c.index.result.now there c.index.ensures) ∙ c.in-None.ensures
