use Rattle.std.proofs.Common.{◌≡◌, ◌∙◌, ap, sym, subst, Some, None, pos, rules, w64, of_z, to_z}
use Rattle.std.proofs.lemmas.Int.{to_z-of_z}
use borrow.Author.Rules.{sfits_of}
use Rattle.range_code.specs.Frames.{family_of}
use Rattle.branch_lemmas.specs.Frames.{link_of}
use Rattle.heap_cells.specs.SeenTerms.{seen_term}
use Rattle.fd_language.specs.SingleValues.{only}
use Rattle.branch_state.specs.declared.cell_looks.Look.TheVariants as look
use Rattle.branch_state.specs.StoreVariables.{LooksAs}
use Rattle.branch_state.proofs.CellLooks.{looks_open, looks_number, looks_linked, looks_int, looks_symbol}
use Rattle.branch_state.proofs.cell_looks.look_cell.Goals as goal

pub domain-requires : goal.domain-requires
domain-requires g c = let s = c.in-Constrained.ensures.seen in c.requires.linked c.in-Constrained.field-0 c.in-Constrained.k (ap link_of s.1)

pub returns-in-Open : goal.returns-in-Open
returns-in-Open g c = λ name.
    let s = c.in-Open.ensures.seen in
    looks_open name c.args.heap.now.now c.deref.ensures.valid (family_of c.args.store.now.current.sets) c.args.cell c.in-Open.i s.0 s.1 s.2

pub returns-in-Some : goal.returns-in-Some
returns-in-Some g c = λ name.
    let s = c.in-Constrained.ensures.seen in
    let is : only (family_of c.args.store.now.current.sets c.in-Constrained.k) ≡ Some c.in-Some.value = ap only (sym c.domain.ensures) ∙ sym c.only_value.ensures ∙ c.in-Some.is in
    let fits : to_z w64 (of_z w64 c.from.result) ≡ pos c.in-Some.value = search rules in
    subst (LooksAs c.args.heap.now.now (seen_term name c.args.heap.now.now (family_of c.args.store.now.current.sets) c.args.cell)) (sym (c.number.ensures ∙ ap look.Number fits))
    (looks_number name c.args.heap.now.now c.deref.ensures.valid (family_of c.args.store.now.current.sets) c.args.cell c.in-Constrained.field-0 c.in-Constrained.k c.in-Some.value s.1 s.2 is)

pub returns-in-None : goal.returns-in-None
returns-in-None g c = λ name.
    let s = c.in-Constrained.ensures.seen in
    let is : only (family_of c.args.store.now.current.sets c.in-Constrained.k) ≡ None = ap only (sym c.domain.ensures) ∙ sym c.only_value.ensures ∙ c.in-None.is in
    looks_linked name c.args.heap.now.now c.deref.ensures.valid (family_of c.args.store.now.current.sets) c.args.cell c.in-Constrained.field-0 c.in-Constrained.k s.1 s.2 is

pub returns-in-Int : goal.returns-in-Int
returns-in-Int g c = λ name.
    subst (LooksAs c.args.heap.now.now (seen_term name c.args.heap.now.now (family_of c.args.store.now.current.sets) c.args.cell))
    (sym (c.number-in-Int.ensures ∙ ap look.Number (to_z-of_z w64 c.in-Int.z (sfits_of (rw c.in-Int.is at c.deref.type_inv).1.1.1.1.0.1))))
    (looks_int name c.args.heap.now.now c.deref.ensures.valid (family_of c.args.store.now.current.sets) c.args.cell c.in-Int.z c.in-Int.ensures.seen)

pub returns-in_default : goal.returns-in_default
returns-in_default g c = λ name.
    looks_symbol name c.args.heap.now.now c.deref.ensures.valid (family_of c.args.store.now.current.sets) c.args.cell c.deref.result c.deref.ensures.seen
    c.in_default.not-Open c.in_default.not-Constrained c.in_default.not-Int
