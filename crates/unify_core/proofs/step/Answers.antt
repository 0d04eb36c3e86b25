use Rattle.std.proofs.Common.{◌≡◌, ◌++◌, [], ◌∷◌, refl, ◌∙◌, sym, ap, subst, inl, inr, length, List, rules}
use Rattle.heap_cells.specs.declared.Cell.TheVariants as cell
use Rattle.heap_cells.specs.Cells.{is_bound}
use Rattle.heap_cells.specs.Terms.{term_of}
use Rattle.unify_core.specs.declared.Pair.{Pair}
use Rattle.unify_core.specs.Outcome.{IsDone}
use Rattle.unify_core.proofs.PairReduction.{done_same, done_parts, IsCompound}
use Rattle.unify_core.proofs.PairSteps.{if_true, if_false, same_through, infinite_hopeless, symbolic_hopeless, open_done, linked_done, compound_else}
use Rattle.unify_core.proofs.PairSteps.{constant_else, compounds_differ}
use Rattle.term_pool.proofs.Lemmas.{atom_same, atom_other}
use Rattle.unify_core.proofs.step.Goals as goal
use Rattle.unify_core.proofs.step.Goals.{then-ne-via-then-ne, then-ne-via-else-ne+then-some-others}

-- one cell
pub returns-then-eq-clause-done : goal.returns-then-eq-clause-done
returns-then-eq-clause-done c =
    let e : c.root-left.result ≡ c.root-right.result = search rules in
    done_same c.args.heap.now.now c.args.work.now.items c.args.pair c.args.touches.now.items
    (λ name. c.root-left.ensures.same name ∙ ap (term_of name c.args.heap.now.now) e ∙ sym (c.root-right.ensures.same name))

-- an open variable
pub returns-in-Open-clause-done : goal.returns-in-Open-clause-done
returns-in-Open-clause-done c =
    let s = c.in-Open.ensures.seen in
    if_true c.bind_open.result _ _ (λ b. open_done c.args.heap.now.now c.root-left.ensures.valid c.args.work.now.items c.args.pair c.args.touches.now.items
    c.in-Open.i c.root-right.result s.0 c.root-right.ensures.own (ap is_bound s.1)
    (inl (
      same_through c.args.heap.now.now c.args.pair.left c.root-left.result (cell.Ref c.in-Open.i) c.root-left.ensures.same s.2,
      c.root-right.ensures.same,
    )) c.bind_open.new.heap.now s.1 b) c.bind_open.ensures.bound

pub returns-in-Open-clause-hopeless : goal.returns-in-Open-clause-hopeless
returns-in-Open-clause-hopeless c =
    let s = c.in-Open.ensures.seen in
    if_false c.bind_open.result _ _ (λ b. infinite_hopeless c.args.heap.now.now c.root-left.ensures.valid c.args.work.now.items c.args.pair
    c.args.touches.now.items c.in-Open.i c.root-right.result s.0 c.root-right.ensures.own (ap is_bound s.1)
    (inl (
      same_through c.args.heap.now.now c.args.pair.left c.root-left.result (cell.Ref c.in-Open.i) c.root-left.ensures.same s.2,
      c.root-right.ensures.same,
    )) b) c.bind_open.ensures.infinite

pub returns-in-Open-deref-clause-done : goal.returns-in-Open-deref-clause-done
returns-in-Open-deref-clause-done c =
    let s = c.in-Open-deref.ensures.seen in
    if_true c.bind_open-in-Open-deref.result _ _ (λ b. open_done c.args.heap.now.now c.root-left.ensures.valid c.args.work.now.items c.args.pair
    c.args.touches.now.items c.in-Open-deref.open c.root-left.result s.0 c.root-left.ensures.own (ap is_bound s.1)
    (inr (
      same_through c.args.heap.now.now c.args.pair.right c.root-right.result (cell.Ref c.in-Open-deref.open) c.root-right.ensures.same s.2,
      c.root-left.ensures.same,
    )) c.bind_open-in-Open-deref.new.heap.now s.1 b) c.bind_open-in-Open-deref.ensures.bound

pub returns-in-Open-deref-clause-hopeless : goal.returns-in-Open-deref-clause-hopeless
returns-in-Open-deref-clause-hopeless c =
    let s = c.in-Open-deref.ensures.seen in
    if_false c.bind_open-in-Open-deref.result _ _ (λ b. infinite_hopeless c.args.heap.now.now c.root-left.ensures.valid c.args.work.now.items c.args.pair
    c.args.touches.now.items c.in-Open-deref.open c.root-left.result s.0 c.root-left.ensures.own (ap is_bound s.1)
    (inr (
      same_through c.args.heap.now.now c.args.pair.right c.root-right.result (cell.Ref c.in-Open-deref.open) c.root-right.ensures.same s.2,
      c.root-left.ensures.same,
    )) b) c.bind_open-in-Open-deref.ensures.infinite

pub returns-in-Open-deref-2-clause-done : goal.returns-in-Open-deref-2-clause-done
returns-in-Open-deref-2-clause-done c =
    let s = c.in-Open-deref-2.ensures.seen in
    if_true c.bind_open-in-Open-deref-2.result _ _ (λ b. open_done c.args.heap.now.now c.root-left.ensures.valid c.args.work.now.items c.args.pair
    c.args.touches.now.items c.in-Open-deref-2.j c.root-left.result s.0 c.root-left.ensures.own (ap is_bound s.1)
    (inr (
      same_through c.args.heap.now.now c.args.pair.right c.root-right.result (cell.Ref c.in-Open-deref-2.j) c.root-right.ensures.same s.2,
      c.root-left.ensures.same,
    )) c.bind_open-in-Open-deref-2.new.heap.now s.1 b) c.bind_open-in-Open-deref-2.ensures.bound

pub returns-in-Open-deref-2-clause-hopeless : goal.returns-in-Open-deref-2-clause-hopeless
returns-in-Open-deref-2-clause-hopeless c =
    let s = c.in-Open-deref-2.ensures.seen in
    if_false c.bind_open-in-Open-deref-2.result _ _ (λ b. infinite_hopeless c.args.heap.now.now c.root-left.ensures.valid c.args.work.now.items c.args.pair
    c.args.touches.now.items c.in-Open-deref-2.j c.root-left.result s.0 c.root-left.ensures.own (ap is_bound s.1)
    (inr (
      same_through c.args.heap.now.now c.args.pair.right c.root-right.result (cell.Ref c.in-Open-deref-2.j) c.root-right.ensures.same s.2,
      c.root-left.ensures.same,
    )) b) c.bind_open-in-Open-deref-2.ensures.infinite

pub returns-in-Open-deref-3-clause-done : goal.returns-in-Open-deref-3-clause-done
returns-in-Open-deref-3-clause-done c =
    let s = c.in-Open-deref-3.ensures.seen in
    if_true c.bind_open-in-Open-deref-3.result _ _ (λ b. open_done c.args.heap.now.now c.root-left.ensures.valid c.args.work.now.items c.args.pair
    c.args.touches.now.items c.in-Open-deref-3.j c.root-left.result s.0 c.root-left.ensures.own (ap is_bound s.1)
    (inr (
      same_through c.args.heap.now.now c.args.pair.right c.root-right.result (cell.Ref c.in-Open-deref-3.j) c.root-right.ensures.same s.2,
      c.root-left.ensures.same,
    )) c.bind_open-in-Open-deref-3.new.heap.now s.1 b) c.bind_open-in-Open-deref-3.ensures.bound

pub returns-in-Open-deref-3-clause-hopeless : goal.returns-in-Open-deref-3-clause-hopeless
returns-in-Open-deref-3-clause-hopeless c =
    let s = c.in-Open-deref-3.ensures.seen in
    if_false c.bind_open-in-Open-deref-3.result _ _ (λ b. infinite_hopeless c.args.heap.now.now c.root-left.ensures.valid c.args.work.now.items c.args.pair
    c.args.touches.now.items c.in-Open-deref-3.j c.root-left.result s.0 c.root-left.ensures.own (ap is_bound s.1)
    (inr (
      same_through c.args.heap.now.now c.args.pair.right c.root-right.result (cell.Ref c.in-Open-deref-3.j) c.root-right.ensures.same s.2,
      c.root-left.ensures.same,
    )) b) c.bind_open-in-Open-deref-3.ensures.infinite

-- a variable of the store
pub returns-in_default-deref : goal.returns-in_default-deref
returns-in_default-deref c =
    let s = c.in-Constrained.ensures.seen in
    let apart : c.root-right.result ≡ cell.Ref c.in-Constrained.i → ⊥ = search rules in
    record {
      done = if_true c.bind_constrained.result _ _ (λ b. linked_done c.args.heap.now.now c.root-left.ensures.valid c.args.work.now.items c.args.pair
          c.args.touches.now.items c.in-Constrained.i c.root-right.result s.0 c.root-right.ensures.own (ap is_bound s.1)
          (inl (
            same_through c.args.heap.now.now c.args.pair.left c.root-left.result (cell.Ref c.in-Constrained.i) c.root-left.ensures.same s.2,
            c.root-right.ensures.same,
          )) c.bind_constrained.new.heap.now c.in-Constrained.k c.bind_constrained.new.touches.items s.1 apart b.0 b.1)
          c.bind_constrained.ensures.bound;
      hopeless = if_false c.bind_constrained.result _ _
          (λ b. symbolic_hopeless c.args.heap.now.now c.root-left.ensures.valid c.args.work.now.items c.args.pair c.args.touches.now.items c.in-Constrained.i
          c.root-right.result s.0 c.root-right.ensures.own (ap is_bound s.1)
          (inl (
            same_through c.args.heap.now.now c.args.pair.left c.root-left.result (cell.Ref c.in-Constrained.i) c.root-left.ensures.same s.2,
            c.root-right.ensures.same,
          )) c.in-Constrained.k s.1 b) c.bind_constrained.ensures.symbolic;
      below = c.bind_constrained.ensures.below;
    }

pub returns-in-Constrained-deref-clause-done : goal.returns-in-Constrained-deref-clause-done
returns-in-Constrained-deref-clause-done c =
    let s = c.in-Constrained-deref.ensures.seen in
    let apart : c.root-left.result ≡ cell.Ref c.in-Constrained-deref.j → ⊥ = search rules in
    if_true c.bind_constrained-in-Constrained-deref.result _ _
    (λ b. linked_done c.args.heap.now.now c.root-left.ensures.valid c.args.work.now.items c.args.pair c.args.touches.now.items c.in-Constrained-deref.j
    c.root-left.result s.0 c.root-left.ensures.own (ap is_bound s.1)
    (inr (
      same_through c.args.heap.now.now c.args.pair.right c.root-right.result (cell.Ref c.in-Constrained-deref.j) c.root-right.ensures.same s.2,
      c.root-left.ensures.same,
    )) c.bind_constrained-in-Constrained-deref.new.heap.now c.in-Constrained-deref.k
    c.bind_constrained-in-Constrained-deref.new.touches.items s.1 apart b.0 b.1) c.bind_constrained-in-Constrained-deref.ensures.bound

pub returns-in-Constrained-deref-clause-hopeless : goal.returns-in-Constrained-deref-clause-hopeless
returns-in-Constrained-deref-clause-hopeless c =
    let s = c.in-Constrained-deref.ensures.seen in
    if_false c.bind_constrained-in-Constrained-deref.result _ _
    (λ b. symbolic_hopeless c.args.heap.now.now c.root-left.ensures.valid c.args.work.now.items c.args.pair c.args.touches.now.items
    c.in-Constrained-deref.j c.root-left.result s.0 c.root-left.ensures.own (ap is_bound s.1)
    (inr (
      same_through c.args.heap.now.now c.args.pair.right c.root-right.result (cell.Ref c.in-Constrained-deref.j) c.root-right.ensures.same s.2,
      c.root-left.ensures.same,
    )) c.in-Constrained-deref.k s.1 b) c.bind_constrained-in-Constrained-deref.ensures.symbolic

-- two compound terms
pub returns-in_ok-pair_up-in-Struct-deref-clause-done : goal.returns-in_ok-pair_up-in-Struct-deref-clause-done
returns-in_ok-pair_up-in-Struct-deref-clause-done c =
    let s = c.in-Struct.ensures.seen in
    let t = c.in-Struct-deref.ensures.seen in
    let e : c.in-Struct.f ≡ c.in-Struct-deref.g = atom_same c.in-Struct.f c.in-Struct-deref.g c.ne.result c.ne.ensures c.if-ne.false in
    let l : length c.in-Struct.some.now ≡ length c.in-Struct-deref.others.now = c.if-some-others.false in
    subst (λ (ps : List Pair). IsDone c.args.heap.now.now (c.args.work.now.items ++ c.args.pair ∷ []) c.args.touches.now.items c.args.heap.now.now ps
    c.args.touches.now.items) (sym c.in_ok-pair_up-in-Struct-deref.ensures)
    (done_parts c.args.heap.now.now c.root-left.ensures.valid c.args.work.now.items c.args.pair c.args.touches.now.items c.in-Struct-deref.g c.in-Struct.some.now c.in-Struct-deref.others.now
    (subst (λ f. IsCompound c.args.heap.now.now c.args.pair.left f c.in-Struct.some.now) e (s.0, s.2, λ name. c.root-left.ensures.same name ∙ s.3 name)) (
      t.0,
      t.2,
      λ name. c.root-right.ensures.same name ∙ t.3 name,
    ) l)

pub returns-then-ne-clause-hopeless : goal.returns-then-ne-clause-hopeless
returns-then-ne-clause-hopeless c =
    let s = c.in-Struct.ensures.seen in
    let t = c.in-Struct-deref.ensures.seen in
    compounds_differ c.args.heap.now.now c.root-left.ensures.valid c.args.work.now.items c.args.pair c.root-left.result c.root-right.result
    c.root-left.ensures.same c.root-right.ensures.same c.in-Struct.f c.in-Struct-deref.g c.in-Struct.some.now c.in-Struct-deref.others.now (s.0, s.2, s.3)
    (t.0, t.2, t.3)
    (λ e l. elim c.then-ne.branch [
      | then-ne-via-then-ne w ↦ atom_other c.in-Struct.f c.in-Struct-deref.g c.ne.result c.ne.ensures w.if-ne.true e
      | then-ne-via-else-ne+then-some-others w ↦ w.if-some-others.true l
    ])

-- cells that can't be equal
pub returns-in_default-deref-2 : goal.returns-in_default-deref-2
returns-in_default-deref-2 c =
    let s = c.in-Struct.ensures.seen in
    record {
      done = tt;
      hopeless = compound_else c.args.heap.now.now c.root-left.ensures.valid c.args.work.now.items c.args.pair c.root-left.result c.root-right.result
          c.root-left.ensures.same c.root-right.ensures.same c.in-Struct.f c.in-Struct.some.now c.deref-in-Struct.result (s.0, s.2, s.3)
          c.deref-in-Struct.ensures.seen (λ i. c.in_default-deref-2.not-Open i) (λ g ds. c.in_default-deref-2.not-Struct g ds);
      below = refl;
    }

pub returns-in_default-deref-3 : goal.returns-in_default-deref-3
returns-in_default-deref-3 c =
    let n : c.root-left.result ≡ c.root-right.result → ⊥ = search rules in
    record {
      done = tt;
      hopeless = constant_else c.args.heap.now.now c.root-left.ensures.valid c.args.work.now.items c.args.pair c.root-left.result c.root-right.result
          c.root-left.ensures.same c.root-right.ensures.same c.deref.result c.deref-in_default.result (c.deref.ensures.at_root c.root-left.ensures.root)
          c.deref-in_default.ensures.seen (c.deref-in_default.ensures.at_root c.root-right.ensures.root) n
          (λ i. c.in_default.not-Open i) (λ i k. c.in_default.not-Constrained i k) (λ g ds. c.in_default.not-Struct g ds) (λ i. c.in_default-deref-3.not-Open i)
          (λ i k. c.in_default-deref-3.not-Constrained i k);
      below = refl;
    }
