use Rattle.std.proofs.Common.{◌≡◌, ℕ, ◌<◌, ◌∙◌, sym, ap, subst, arith, List, length, set}
use Rattle.std.specs.Prelude.{Result, Ok}
use Rattle.fd_language.specs.Term.{apply}
use Rattle.heap_cells.specs.declared.Cell.{Cell}
use Rattle.heap_cells.specs.declared.Variable.{Variable}
use Rattle.heap_cells.specs.declared.Saved.{Saved}
use Rattle.heap_cells.specs.Cells.{Cells, Heaps, bound, with_slot}
use Rattle.heap_cells.specs.HeapFields.{cells_of, heaps_of, held, AreSound}
use Rattle.heap_cells.specs.Terms.{Naming, term_of, one}
use Rattle.heap_cells.specs.HeapInvariant.{IsHeap}
use Rattle.heap_cells.proofs.Fields.{valid_now, now_is, slots_there}
use Rattle.heap_cells.proofs.Bindings.{bind_valid, bind_terms}
use Rattle.heap_cells.proofs.VariableChanges.{view_after}
use Rattle.heap_cells.proofs.LooseVariables.{held_more, view_more}
use Rattle.heap_cells.proofs.LooseInvariant.{bound_sound}
use Rattle.heap_cells.proofs.Heap.bind.Goals as goal
use Rattle.heap_cells.proofs.Heap.bind.Goals.{After-hold}

old : (c : After-hold) → IsHeap c.args.self.now.now
old c = valid_now c.self.inside c.args.self.now c.self.view_is c.self.invariant.stored

valid : (c : After-hold) → IsHeap (with_slot c.args.self.now.now c.args.var (bound c.args.to))
valid c = bind_valid c.args.self.now.now c.args.var c.args.to (old c) c.requires.there c.requires.own c.requires.unbound c.requires.absent

pub invariant_of-self-2 : goal.invariant_of-self-2
invariant_of-self-2 c =
    let f = c.self.inside in
    let slots = slots_there f c.args.self.now c.self.view_is in
    let there : c.args.var < length f.variables.items = omega (arith, slots, c.requires.there) in
    let are : c.hold.new.variables.items ≡ held (set f.variables.items c.args.var c.bound_to.result) c.args.to = c.hold.ensures ∙ ap (λ l. held l c.args.to) c.in_ok-change.ensures.changed in
    subst (λ (l : List Variable). AreSound l f.args.items f.structures.items c.change.new.trail.items f.marks.items) (sym are)
    (subst (λ (l : List Saved). AreSound (held (set f.variables.items c.args.var c.bound_to.result) c.args.to) f.args.items f.structures.items l f.marks.items) (sym c.in_ok-change.ensures.trailed)
    (bound_sound f.variables.items f.args.items f.structures.items f.trail.items f.marks.items c.self.invariant c.args.var c.bound_to.result c.args.to there c.bound_to.ensures
    (subst (λ h. IsHeap (with_slot h c.args.var (bound c.args.to))) (sym (now_is f c.args.self.now c.self.view_is)) (valid c))))

pub returns-clause-bound : goal.returns-clause-bound
returns-clause-bound c =
    let f = c.self.inside in
    let vs = c.change.new.variables.items in
    let r : Result ℕ ℕ = Ok 0 in
    ap (λ (l : List Variable). heaps_of l f.args.items f.structures.items c.change.new.trail.items f.marks.items) c.hold.ensures
    ∙ view_more f.args.items f.structures.items c.change.new.trail.items (held vs c.args.to) vs (held_more vs c.args.to) f.marks.items
    ∙ view_after r f c.args.self.now c.self.view_is c.self.invariant.stored c.args.var c.bound_to.result (bound c.args.to) c.bound_to.ensures vs
    c.change.new.trail.items c.in_ok-change.ensures.changed c.in_ok-change.ensures.trailed tt (valid c)

now_bound : (c : After-hold) → cells_of c.hold.new.variables.items c.self.inside.args.items c.self.inside.structures.items ≡ with_slot c.args.self.now.now c.args.var (bound c.args.to)
now_bound c = ap (λ (h : Heaps). h.now) (returns-clause-bound c)

pub returns-clause-terms : goal.returns-clause-terms
returns-clause-terms c =
    let h = c.args.self.now.now in
    let P : Cells → Type 0 = λ g. (name : Naming) (d : Cell) → term_of name g d ≡ apply (one c.args.var (term_of name h c.args.to)) (term_of name h d) in
    subst P (sym (now_bound c)) (bind_terms h c.args.var c.args.to (old c) c.requires.there c.requires.own c.requires.unbound c.requires.absent)

pub returns-clause-valid : goal.returns-clause-valid
returns-clause-valid c = (invariant_of-self-2 c).stored.now
