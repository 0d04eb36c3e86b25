use Rattle.std.proofs.Common.{◌≡◌, ◌<◌, [], ap, refl, sym, subst, length}
use Rattle.heap_cells.specs.declared.Cell.TheVariants as cell
use Rattle.heap_cells.specs.Cells.{Heaps, free, slot_at}
use Rattle.unify_core.specs.Unifications.{IsEqualled}
use Rattle.unify_core.proofs.Lemmas.{IsBehind, equalled, atoms_unified}
use Rattle.branch_state.specs.Compounds.{IsCompoundOf}
use Rattle.branch_state.specs.States.{State, IsSound, IsCell}
use Rattle.branch_state.proofs.Compounds.{compound_absent, compound_bound}
use Rattle.branch_state.proofs.States.{unified_sound}
use Rattle.branch_state.proofs.state.BranchState.bind_built.Goals as goal

pub bind-requires-clause-absent : goal.bind-requires-clause-absent
bind-requires-clause-absent g c =
    let now : State = record { atoms = c.self.inside.atoms; infinity = c.self.inside.infinity; heaps = c.self.inside.heap; levels = c.self.inside.store } in
    let made : IsCompoundOf now.heaps.now c.args.args.now c.args.built = subst (λ (s : State). IsCompoundOf s.heaps.now c.args.args.now c.args.built) (sym c.self.view_is) c.requires.compound in
    compound_absent now.heaps.now c.args.var c.args.args.now c.args.built made (c.are_others.ensures.absent c.if-not-are_others.false)

bound : (g : _) → (c : goal.In_ok-bind g) → IsBehind c.self.inside.heap.now (cell.Ref c.args.var) c.args.built c.bind.new.self.now [] c.args.touches.now.items c.args.touches.now.items
bound g c =
    let now : State = record { atoms = c.self.inside.atoms; infinity = c.self.inside.infinity; heaps = c.self.inside.heap; levels = c.self.inside.store } in
    let o : IsSound now = subst IsSound (sym c.self.view_is) c.requires.sound in
    let made : IsCompoundOf now.heaps.now c.args.args.now c.args.built = subst (λ (s : State). IsCompoundOf s.heaps.now c.args.args.now c.args.built) (sym c.self.view_is) c.requires.compound in
    let there : c.args.var < length now.heaps.now.slots = subst (λ (s : State). c.args.var < length s.heaps.now.slots) (sym c.self.view_is) c.requires.there in
    let open_now : slot_at now.heaps.now c.args.var ≡ free = subst (λ (s : State). slot_at s.heaps.now c.args.var ≡ free) (sym c.self.view_is) c.requires.«open» in
    let own : IsCell now c.args.built = subst (λ (s : State). IsCell s c.args.built) (sym c.self.view_is) c.requires.own in
    compound_bound now.heaps.now c.bind.new.self.now o.now.valid c.args.var there open_now c.args.args.now c.args.built own.0 made
    (c.are_others.ensures.absent c.if-not-are_others.false) (ap (λ (x : Heaps). x.now) c.in_ok-bind.ensures.bound) c.args.touches.now.items

pub returns-clause-equal : goal.returns-clause-equal
returns-clause-equal g c =
    let now : State = record { atoms = c.self.inside.atoms; infinity = c.self.inside.infinity; heaps = c.self.inside.heap; levels = c.self.inside.store } in
    let ts = c.args.touches.now.items in
    subst (λ (s : State). IsEqualled s.heaps.now (cell.Ref c.args.var) c.args.built c.bind.new.self.now ts ts) c.self.view_is
    (equalled now.heaps.now c.bind.new.self.now (cell.Ref c.args.var) c.args.built [] ts ts refl (bound g c))

pub returns-clause-sound : goal.returns-clause-sound
returns-clause-sound g c =
    let now : State = record { atoms = c.self.inside.atoms; infinity = c.self.inside.infinity; heaps = c.self.inside.heap; levels = c.self.inside.store } in
    let o : IsSound now = subst IsSound (sym c.self.view_is) c.requires.sound in
    let own : IsCell now c.args.built = subst (λ (s : State). IsCell s c.args.built) (sym c.self.view_is) c.requires.own in
    let there : c.args.var < length now.heaps.now.slots = subst (λ (s : State). c.args.var < length s.heaps.now.slots) (sym c.self.view_is) c.requires.there in
    let ts = c.args.touches.now.items in
    let w = bound g c in
    let is : IsEqualled now.heaps.now (cell.Ref c.args.var) c.args.built c.bind.new.self.now ts ts = equalled now.heaps.now c.bind.new.self.now (cell.Ref c.args.var) c.args.built [] ts ts refl w in
    unified_sound now o c.bind.new.self (cell.Ref c.args.var) c.args.built ts ts (ap (λ (x : Heaps). x.below) c.in_ok-bind.ensures.bound) (there, tt) own is
    (atoms_unified now.heaps.now c.bind.new.self.now (cell.Ref c.args.var) c.args.built [] w.more w.way) c.in_ok-bind.ensures.valid
