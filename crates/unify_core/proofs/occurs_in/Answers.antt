use Rattle.std.proofs.Common.{sym, subst}
use Rattle.heap_cells.specs.declared.Cell.TheVariants as cell
use Rattle.unify_core.specs.OccursCheck.{OccursAmong, LeavesAhead}
use Rattle.unify_core.proofs.OccursCheck.{Looks, found_there, looks_further, looks_smaller, looks_last}
use Rattle.unify_core.proofs.Unifications.{at_true, at_false}
use Rattle.unify_core.proofs.occurs_in.Goals as goal

pub returns-then-branch : goal.returns-then-branch
returns-then-branch c =
    let h = c.args.heap.now.now in
    let s = c.in-Struct.ensures.seen in
    found_there h c.deref.ensures.valid c.args.var c.compounds.ahead c.compounds.at (cell.Struct c.args.top) c.compounds.invariant c.in-Struct.field-0 c.in-Struct.args.now (s.0, s.2, s.3)
    (at_true c.in_ok-look_into.field-0 (OccursAmong h c.args.var c.in-Struct.args.now) c.if-branch.true c.in_ok-look_into.ensures.found)

pub compounds-smaller : goal.compounds-smaller
compounds-smaller c =
    let h = c.args.heap.now.now in
    let s = c.in-Struct.ensures.seen in
    rw (sym c.in-Some.ensures) (looks_smaller h c.deref.ensures.valid c.args.var c.compounds.ahead c.compounds.at (cell.Struct c.args.top) c.compounds.invariant
    c.in-Struct.field-0 c.in-Struct.args.now (s.0, s.2, s.3) c.look_into.new.ahead
    (at_false c.in_ok-look_into.field-0 (LeavesAhead h c.args.var c.in-Struct.args.now c.compounds.ahead c.look_into.new.ahead) c.if-branch.false c.in_ok-look_into.ensures.further))

pub compounds-preserved : goal.compounds-preserved
compounds-preserved c =
    let h = c.args.heap.now.now in
    let s = c.in-Struct.ensures.seen in
    subst (λ js. Looks h c.args.var js (cell.Struct c.args.top)) c.in-Some.ensures
    (looks_further h c.deref.ensures.valid c.args.var c.compounds.ahead c.compounds.at (cell.Struct c.args.top) c.compounds.invariant c.in-Struct.field-0
    c.in-Struct.args.now (s.0, s.2, s.3) c.look_into.new.ahead
    (at_false c.in_ok-look_into.field-0 (LeavesAhead h c.args.var c.in-Struct.args.now c.compounds.ahead c.look_into.new.ahead) c.if-branch.false c.in_ok-look_into.ensures.further))

pub returns-in-None : goal.returns-in-None
returns-in-None c =
    let h = c.args.heap.now.now in
    let s = c.in-Struct.ensures.seen in
    looks_last h c.args.var (cell.Struct c.args.top) c.look_into.new.ahead c.in-None.ensures
    (looks_further h c.deref.ensures.valid c.args.var c.compounds.ahead c.compounds.at (cell.Struct c.args.top) c.compounds.invariant c.in-Struct.field-0
    c.in-Struct.args.now (s.0, s.2, s.3) c.look_into.new.ahead
    (at_false c.in_ok-look_into.field-0 (LeavesAhead h c.args.var c.in-Struct.args.now c.compounds.ahead c.look_into.new.ahead) c.if-branch.false c.in_ok-look_into.ensures.further))
