use Rattle.std.proofs.Common.{FitsSigned, ◌+◌, refl, subst, sym, arith, rules, w64, add-one, get_or}
use Rattle.std.proofs.Math.Seq.{drop-cons}
use Rattle.std.proofs.lemmas.Int.{to_z-of_z}
use Rattle.fd_language.specs.declared.NoMemory.{NoMemory}
use Rattle.heap_cells.specs.declared.Cell.TheVariants as cell
use Rattle.wam_code.specs.declared.instruction.Code.TheVariants.{UnifyValue, UnifyConstant, UnifyInteger}
use Rattle.term_instructions.specs.ReadMode.{IsNextPlace, ReadsOn}
use Rattle.term_instructions.proofs.Steps.{held_own}
use Rattle.term_instructions.proofs.ReadSteps.{reads_variable, reads_void, reads_equal, value_equal, constant_equal, integer_equal, constant_own, value_stays}
use Rattle.term_instructions.proofs.ReadSteps.{constant_stays, integer_stays, next_place}
use Rattle.term_instructions.proofs.UnifyInstructions.{place_within, unify_there, variable_needs, value_needs, void_needs}
use Rattle.term_instructions.proofs.read_mode.read_argument.Goals as goal

pub argument_at-requires-clause-there : goal.argument_at-requires-clause-there
argument_at-requires-clause-there g c = place_within c.args.code.now c.args.branch.now c.args.from.at _ c.args.areas.now c.requires.safe

pub argument_at-requires-clause-unify : goal.argument_at-requires-clause-unify
argument_at-requires-clause-unify g c = unify_there c.args.code.now c.args.branch.now c.args.from.at _ c.args.areas.now c.requires.safe (let more = c.requires.more in omega (arith, more))

pub write-requires : goal.write-requires
write-requires g c = variable_needs c.args.code.now c.args.branch.now c.args.from.at _ c.args.areas.now c.requires.safe (let more = c.requires.more in
    omega (arith, more)) c.in-Variable.r c.in-Variable.ensures

pub read-held-requires : goal.read-held-requires
read-held-requires g c = value_needs c.args.code.now c.args.branch.now c.args.from.at _ c.args.areas.now c.requires.safe (let more = c.requires.more in
    omega (arith, more)) c.in-Value.r c.in-Value.ensures

pub unify-requires-clause-own_b : goal.unify-requires-clause-own_b
unify-requires-clause-own_b g c = held_own c.args.branch.now c.args.areas.now c.in-Value.r c.read-held.result c.requires.safe.here.registers_own c.requires.safe.here.slots_own c.read-held.ensures

pub unify-requires-in-Constant-clause-own_b : goal.unify-requires-in-Constant-clause-own_b
unify-requires-in-Constant-clause-own_b g c = constant_own c.args.code.now c.args.cells.now c.args.branch.now c.args.touches.now.items c.args.from.at
    c.args.from.next c.args.areas.now c.requires.safe c.requires.more c.requires.own c.requires.told
    (get_or c.args.cells.now c.args.from.next (cell.Ref c.args.from.next))
    (drop-cons c.args.cells.now c.args.from.next (cell.Ref c.args.from.next) c.requires.more) c.in-Constant.c c.in-Constant.ensures

pub returns-in_ok-write-in-Variable-clause-reads : goal.returns-in_ok-write-in-Variable-clause-reads
returns-in_ok-write-in-Variable-clause-reads g c =
    let w = c.in_ok-write-in-Variable.ensures in
    reads_variable c.args.code.now c.args.cells.now c.args.branch.now c.args.touches.now.items c.args.from.at c.args.from.next c.args.areas.now c.requires.safe
    c.requires.more c.requires.own c.requires.told _ (drop-cons c.args.cells.now c.args.from.next _ c.requires.more)
    c.in-Variable.r c.in-Variable.ensures (c.requires.own c.args.from.next _ c.requires.more) c.write.new.areas w.written w.same w.slots
    (record { at = c.behind-at.result; next = c.args.from.next + 1 }) c.behind-at.ensures (add-one c.args.from.next)

pub returns-in-Void-clause-reads : goal.returns-in-Void-clause-reads
returns-in-Void-clause-reads g c =
    let low = void_needs c.args.code.now c.args.branch.now c.args.from.at _ c.args.areas.now c.requires.safe (let more = c.requires.more in omega (arith, more)) c.in-Void.n c.in-Void.ensures in
    reads_void c.args.code.now c.args.cells.now c.args.branch.now c.args.touches.now.items c.args.from.at c.args.from.next c.args.areas.now c.requires.safe
    c.requires.more c.requires.own c.requires.told (get_or c.args.cells.now c.args.from.next (cell.Ref c.args.from.next))
    (drop-cons c.args.cells.now c.args.from.next (cell.Ref c.args.from.next) c.requires.more)
    c.in-Void.n c.in-Void.ensures low (record { at = c.behind-at.result; next = c.args.from.next + c.in-Void.n }) c.behind-at.ensures refl

pub returns-in_ok-equal-in-Value-clause-reads : goal.returns-in_ok-equal-in-Value-clause-reads
returns-in_ok-equal-in-Value-clause-reads g c =
    let u = c.in_ok-equal-in-Value.ensures in
    subst (ReadsOn c.args.code.now c.args.cells.now c.args.branch.now c.args.touches.now.items c.args.from c.args.areas.now c.unify.new.self
    c.unify.new.touches.items c.args.areas.now) (sym c.reading_if.ensures)
    (reads_equal c.args.code.now c.args.cells.now c.args.branch.now c.args.touches.now.items c.args.from.at c.args.from.next c.args.areas.now c.requires.safe
    c.requires.more c.requires.own c.requires.told _ (drop-cons c.args.cells.now c.args.from.next _ c.requires.more)
    (UnifyValue c.in-Value.r) c.in-Value.ensures refl (value_stays c.in-Value.r) (c.read-held.result)
    (value_equal c.args.code.now c.args.cells.now c.args.branch.now c.args.touches.now.items c.args.from.at c.args.from.next c.args.areas.now
    c.requires.safe c.requires.more c.requires.own c.requires.told _ (drop-cons c.args.cells.now c.args.from.next _ c.requires.more) c.in-Value.r
    c.in-Value.ensures c.read-held.result c.read-held.ensures) NoMemory c.unify.new.self c.unify.new.touches.items c.in_ok-equal-in-Value.equal
    c.in_ok-equal-in-Value.ensures.equal c.in_ok-equal-in-Value.ensures.unequal u.touches u.heap u.sound u.below
    (record { at = c.behind-at.result; next = c.args.from.next + 1 }) c.behind-at.ensures (add-one c.args.from.next))

pub returns-in_ok-equal-in-Value-clause-place : goal.returns-in_ok-equal-in-Value-clause-place
returns-in_ok-equal-in-Value-clause-place g c = subst (IsNextPlace c.args.from.at) (sym c.reading_if.ensures)
    (next_place c.in_ok-equal-in-Value.equal c.args.from.at (record { at = c.behind-at.result; next = c.args.from.next + 1 }) c.behind-at.ensures)

pub returns-in_ok-equal-in-Constant-clause-reads : goal.returns-in_ok-equal-in-Constant-clause-reads
returns-in_ok-equal-in-Constant-clause-reads g c =
    let u = c.in_ok-equal-in-Constant.ensures in
    subst (ReadsOn c.args.code.now c.args.cells.now c.args.branch.now c.args.touches.now.items c.args.from c.args.areas.now c.unify-in-Constant.new.self
    c.unify-in-Constant.new.touches.items c.args.areas.now) (sym c.reading_if-in-Constant.ensures)
    (reads_equal c.args.code.now c.args.cells.now c.args.branch.now c.args.touches.now.items c.args.from.at c.args.from.next c.args.areas.now c.requires.safe
    c.requires.more c.requires.own c.requires.told _ (drop-cons c.args.cells.now c.args.from.next _ c.requires.more)
    (UnifyConstant c.in-Constant.c) c.in-Constant.ensures refl (constant_stays c.in-Constant.c) (cell.Atom c.in-Constant.c)
    (constant_equal c.args.code.now c.args.cells.now c.args.branch.now c.args.touches.now.items c.args.from.at c.args.from.next c.args.areas.now
    c.requires.safe c.requires.more c.requires.own c.requires.told _ (drop-cons c.args.cells.now c.args.from.next _ c.requires.more) c.in-Constant.c
    c.in-Constant.ensures) NoMemory c.unify-in-Constant.new.self c.unify-in-Constant.new.touches.items c.in_ok-equal-in-Constant.equal
    c.in_ok-equal-in-Constant.ensures.equal c.in_ok-equal-in-Constant.ensures.unequal u.touches u.heap u.sound u.below
    (record { at = c.behind-at.result; next = c.args.from.next + 1 }) c.behind-at.ensures (add-one c.args.from.next))

pub returns-in_ok-equal-in-Constant-clause-place : goal.returns-in_ok-equal-in-Constant-clause-place
returns-in_ok-equal-in-Constant-clause-place g c = subst (IsNextPlace c.args.from.at) (sym c.reading_if-in-Constant.ensures)
    (next_place c.in_ok-equal-in-Constant.equal c.args.from.at (record { at = c.behind-at.result; next = c.args.from.next + 1 }) c.behind-at.ensures)

pub returns-in_ok-equal-in-Integer-clause-reads : goal.returns-in_ok-equal-in-Integer-clause-reads
returns-in_ok-equal-in-Integer-clause-reads g c =
    let fits : FitsSigned w64 c.in-Integer.z = search rules in
    let z_is = to_z-of_z w64 c.in-Integer.z fits in
    let u = c.in_ok-equal-in-Integer.ensures in
    subst (ReadsOn c.args.code.now c.args.cells.now c.args.branch.now c.args.touches.now.items c.args.from c.args.areas.now c.unify-in-Integer.new.self
    c.unify-in-Integer.new.touches.items c.args.areas.now) (sym c.reading_if-in-Integer.ensures)
    (reads_equal c.args.code.now c.args.cells.now c.args.branch.now c.args.touches.now.items c.args.from.at c.args.from.next c.args.areas.now c.requires.safe
    c.requires.more c.requires.own c.requires.told _ (drop-cons c.args.cells.now c.args.from.next _ c.requires.more)
    (UnifyInteger c.in-Integer.z) c.in-Integer.ensures refl (integer_stays c.in-Integer.z) (cell.Int c.in-Integer.z)
    (integer_equal c.args.code.now c.args.cells.now c.args.branch.now c.args.touches.now.items c.args.from.at c.args.from.next c.args.areas.now
    c.requires.safe c.requires.more c.requires.own c.requires.told _ (drop-cons c.args.cells.now c.args.from.next _ c.requires.more) c.in-Integer.z
    c.in-Integer.ensures) NoMemory c.unify-in-Integer.new.self c.unify-in-Integer.new.touches.items c.in_ok-equal-in-Integer.equal
    (rw z_is at c.in_ok-equal-in-Integer.ensures.equal) (rw z_is at c.in_ok-equal-in-Integer.ensures.unequal) u.touches u.heap u.sound u.below
    (record { at = c.behind-at.result; next = c.args.from.next + 1 }) c.behind-at.ensures (add-one c.args.from.next))

pub returns-in_ok-equal-in-Integer-clause-place : goal.returns-in_ok-equal-in-Integer-clause-place
returns-in_ok-equal-in-Integer-clause-place g c = subst (IsNextPlace c.args.from.at) (sym c.reading_if-in-Integer.ensures)
    (next_place c.in_ok-equal-in-Integer.equal c.args.from.at (record { at = c.behind-at.result; next = c.args.from.next + 1 }) c.behind-at.ensures)
