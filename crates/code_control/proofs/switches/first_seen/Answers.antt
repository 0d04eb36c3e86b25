use Rattle.std.proofs.Common.{refl, sym, subst}
use Rattle.heap_cells.specs.Cells.{Heaps, IsOf}
use Rattle.heap_cells.specs.SeenCells.{IsSeen}
use Rattle.wam_code.specs.declared.instruction.Code.TheVariants as step
use Rattle.code_control.proofs.TableRows.{first_there, first_own}
use Rattle.code_control.proofs.switches.first_seen.Goals as goal

pub register-requires : goal.register-requires
register-requires g c =
    first_there c.args.code.now c.args.branch.now c.args.at c.args.areas.now c.requires.safe (step.SwitchOnTerm c.args.v c.args.c c.args.i c.args.s) c.requires.holds refl

pub deref-requires : goal.deref-requires
deref-requires g c =
    subst (λ (hs : Heaps). IsOf hs.now c.register.result) (sym c.heap.ensures)
    (first_own c.args.code.now c.args.branch.now c.args.at c.args.areas.now c.requires.safe c.register.result c.register.ensures)

pub returns : goal.returns
returns g c = (c.register.result, c.register.ensures, subst (λ (hs : Heaps). IsSeen hs.now c.register.result c.deref.result) c.heap.ensures c.deref.ensures.seen)
