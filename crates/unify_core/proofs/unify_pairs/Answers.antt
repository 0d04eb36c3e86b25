use Rattle.std.proofs.Common.{◌≡◌, rules, ◌++◌, [], ◌∷◌, ◌∙◌, List, refl, subst}
use Rattle.unify_core.specs.declared.Pair.{Pair}
use Rattle.unify_core.specs.Outcome.{IsDone, IsHopeless}
use Rattle.unify_core.proofs.Unifications.{IsBehind, behind_first, behind_further, equalled, none_unified, atoms_unified, at_true, at_false}
use Rattle.unify_core.proofs.unify_pairs.Goals as goal
use Rattle.unify_core.proofs.unify_pairs.Goals.{In-Some}

pub pairs-init : goal.pairs-init
pairs-init c = (behind_first c.args.heap.now.now c.args.a c.args.b c.new-work.result.items c.args.touches.now.items c.new-work.ensures.items c.requires.own_a c.requires.own_b, refl)

pub returns-then-not-branch-clause-unequal : goal.returns-then-not-branch-clause-unequal
returns-then-not-branch-clause-unequal c =
    let w = c.pairs.invariant.0 in
    none_unified c.args.heap.now.now c.pairs.heap.now c.args.a c.args.b (c.pairs.work.items ++ c.pairs.pair ∷ []) w.more w.way
    (at_false c.in_ok-step.field-0 (IsHopeless c.pairs.heap.now (c.pairs.work.items ++ c.pairs.pair ∷ [])) c.if-not-branch.true
    c.in_ok-step.ensures.hopeless)

-- a step that was done
some : (c : In-Some) → IsDone c.pairs.heap.now (c.pairs.work.items ++ c.pairs.pair ∷ []) c.pairs.touches.items c.step.new.heap.now
    (c.pop.new.self.items ++ c.in-Some.next ∷ []) c.step.new.touches.items
some c =
    subst (λ (ps : List Pair). IsDone c.pairs.heap.now (c.pairs.work.items ++ c.pairs.pair ∷ []) c.pairs.touches.items c.step.new.heap.now ps c.step.new.touches.items) c.in-Some.ensures.items
    (at_true c.in_ok-step.field-0 (IsDone c.pairs.heap.now (c.pairs.work.items ++ c.pairs.pair ∷ []) c.pairs.touches.items c.step.new.heap.now
    c.step.new.work.items c.step.new.touches.items) c.if-not-branch.false c.in_ok-step.ensures.done)

pub pairs-smaller : goal.pairs-smaller
pairs-smaller c = (some c).falls

pub pairs-preserved : goal.pairs-preserved
pairs-preserved c = (
  behind_further c.args.heap.now.now c.pairs.heap.now c.step.new.heap.now c.args.a c.args.b (c.pairs.work.items ++ c.pairs.pair ∷ [])
      (c.pop.new.self.items ++ c.in-Some.next ∷ []) c.args.touches.now.items c.pairs.touches.items c.step.new.touches.items c.pairs.invariant.0 (some c),
  c.in_ok-step.ensures.below ∙ c.pairs.invariant.1,
)

-- all work is done
last : (c : goal.After-drop-work-in-None) → IsBehind c.args.heap.now.now c.args.a c.args.b c.step.new.heap.now c.step.new.work.items c.args.touches.now.items c.step.new.touches.items
last c =
    behind_further c.args.heap.now.now c.pairs.heap.now c.step.new.heap.now c.args.a c.args.b (c.pairs.work.items ++ c.pairs.pair ∷ []) c.step.new.work.items
    c.args.touches.now.items c.pairs.touches.items c.step.new.touches.items c.pairs.invariant.0
    (at_true c.in_ok-step.field-0 (IsDone c.pairs.heap.now (c.pairs.work.items ++ c.pairs.pair ∷ []) c.pairs.touches.items c.step.new.heap.now
    c.step.new.work.items c.step.new.touches.items) c.if-not-branch.false c.in_ok-step.ensures.done)

pub returns-in-None-clause-equal : goal.returns-in-None-clause-equal
returns-in-None-clause-equal c =
    let e : c.step.new.work.items ≡ [] = search rules in
    equalled c.args.heap.now.now c.step.new.heap.now c.args.a c.args.b c.step.new.work.items c.args.touches.now.items c.step.new.touches.items e (last c)

pub returns-in-None-clause-atoms : goal.returns-in-None-clause-atoms
returns-in-None-clause-atoms c =
    let w = last c in
    atoms_unified c.args.heap.now.now c.step.new.heap.now c.args.a c.args.b c.step.new.work.items w.more w.way
