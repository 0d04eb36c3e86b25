use Rattle.std.proofs.Common.{[], FitsSigned, ◌+◌, refl, subst, arith, rules, w64, add-one, get_or}
use Rattle.std.proofs.Math.Seq.{drop-cons}
use Rattle.std.proofs.lemmas.Int.{to_z-of_z}
use Rattle.std.proofs.lemmas.List.Elements.{All-nil}
use Rattle.heap_cells.specs.declared.Cell.TheVariants as cell
use Rattle.heap_cells.specs.Cells.{Heaps}
use Rattle.heap_cells.specs.Terms.{Same}
use Rattle.branch_state.specs.Steps.{IsTouchBelow}
use Rattle.term_instructions.specs.declared.read_mode.ReadPosition.{ReadPosition}
use Rattle.term_instructions.proofs.ReadSteps.{reads_variable, reads_void, looked_atom, looked_integer}
use Rattle.term_instructions.proofs.UnifyInstructions.{place_within, unify_there, variable_needs, void_needs}
use Rattle.term_instructions.proofs.read_mode.look_at_argument.Goals as goal

pub argument_at-requires-clause-there : goal.argument_at-requires-clause-there
argument_at-requires-clause-there g c = place_within c.args.code.now c.args.branch.now c.args.from.at _ c.args.areas.now c.requires.safe

pub argument_at-requires-clause-unify : goal.argument_at-requires-clause-unify
argument_at-requires-clause-unify g c = unify_there c.args.code.now c.args.branch.now c.args.from.at _ c.args.areas.now c.requires.safe (let more = c.requires.more in omega (arith, more))

pub write-requires : goal.write-requires
write-requires g c = variable_needs c.args.code.now c.args.branch.now c.args.from.at _ c.args.areas.now c.requires.safe (let more = c.requires.more in
    omega (arith, more)) c.in-Variable.r c.in-Variable.ensures

pub returns-in_ok-write-in-Variable-clause-looks : goal.returns-in_ok-write-in-Variable-clause-looks
returns-in_ok-write-in-Variable-clause-looks g c =
    let w = c.in_ok-write-in-Variable.ensures in
    reads_variable c.args.code.now c.args.cells.now c.args.branch.now [] c.args.from.at c.args.from.next c.args.areas.now c.requires.safe c.requires.more
    c.requires.own (All-nil (IsTouchBelow _)) _ (drop-cons c.args.cells.now c.args.from.next _ c.requires.more)
    c.in-Variable.r c.in-Variable.ensures (c.requires.own c.args.from.next _ c.requires.more) c.write.new.areas w.written w.same w.slots
    (record { at = c.behind-at.result; next = c.args.from.next + 1 }) c.behind-at.ensures (add-one c.args.from.next)

pub returns-in-Void-clause-looks : goal.returns-in-Void-clause-looks
returns-in-Void-clause-looks g c =
    let low = void_needs c.args.code.now c.args.branch.now c.args.from.at _ c.args.areas.now c.requires.safe (let more = c.requires.more in omega (arith, more)) c.in-Void.n c.in-Void.ensures in
    reads_void c.args.code.now c.args.cells.now c.args.branch.now [] c.args.from.at c.args.from.next c.args.areas.now c.requires.safe c.requires.more
    c.requires.own (All-nil (IsTouchBelow _)) (get_or c.args.cells.now c.args.from.next (cell.Ref c.args.from.next))
    (drop-cons c.args.cells.now c.args.from.next (cell.Ref c.args.from.next) c.requires.more)
    c.in-Void.n c.in-Void.ensures low (record { at = c.behind-at.result; next = c.args.from.next + c.in-Void.n }) c.behind-at.ensures refl

pub returns-in-Constant-clause-looks : goal.returns-in-Constant-clause-looks
returns-in-Constant-clause-looks g c =
    let d = get_or c.args.cells.now c.args.from.next (cell.Ref 0) in
    let same : Same c.args.branch.now.heaps.now d c.root.result = subst (λ (hs : Heaps). Same hs.now d c.root.result) c.heap.ensures c.root.ensures.same in
    looked_atom c.args.code.now c.args.cells.now c.args.branch.now c.args.from.at c.args.from.next c.args.areas.now c.requires.safe c.requires.more
    c.requires.own d (c.requires.own c.args.from.next (cell.Ref 0) c.requires.more).0
    (drop-cons c.args.cells.now c.args.from.next (cell.Ref 0) c.requires.more)
    c.in-Constant.c c.in-Constant.ensures c.root.result same (record { at = c.behind-at.result; next = c.args.from.next + 1 }) c.look_at_atom.result
    c.look_at_atom.ensures c.behind-at.ensures (add-one c.args.from.next)

pub returns-in-Integer-clause-looks : goal.returns-in-Integer-clause-looks
returns-in-Integer-clause-looks g c =
    let fits : FitsSigned w64 c.in-Integer.z = search rules in
    let z_is = to_z-of_z w64 c.in-Integer.z fits in
    let d = get_or c.args.cells.now c.args.from.next (cell.Ref 0) in
    let to : ReadPosition = record { at = c.behind-at.result; next = c.args.from.next + 1 } in
    let same : Same c.args.branch.now.heaps.now d c.root-in-Integer.result = subst (λ (hs : Heaps). Same hs.now d c.root-in-Integer.result) c.heap-in-Integer.ensures c.root-in-Integer.ensures.same in
    looked_integer c.args.code.now c.args.cells.now c.args.branch.now c.args.from.at c.args.from.next c.args.areas.now c.requires.safe c.requires.more
    c.requires.own d (c.requires.own c.args.from.next (cell.Ref 0) c.requires.more).0
    (drop-cons c.args.cells.now c.args.from.next (cell.Ref 0) c.requires.more)
    c.in-Integer.z c.in-Integer.ensures c.root-in-Integer.result same to c.look_at_integer.result (rw z_is at c.look_at_integer.ensures) c.behind-at.ensures (add-one c.args.from.next)
