use Rattle.std.proofs.Common.{◌≡◌, refl, sym, subst, replicate, Some}
use Rattle.wam_code.specs.Area.{Unset}
use Rattle.wam_code.specs.declared.instruction.Code.{Code}
use Rattle.code_flow.specs.StateTransfer.{changed}
use Rattle.code_flow.proofs.successor_places.makes_too_much.Goals as goal

pub returns-in-Allocate-clause-next : goal.returns-in-Allocate-clause-next
returns-in-Allocate-clause-next c = λ e s g.
    c.lacks_room.ensures e (changed c.args.code s) (subst (λ (i : Code). (changed i s).frame ≡ Some (replicate c.in-Allocate.count Unset)) (sym c.in-Allocate.is) refl) g
