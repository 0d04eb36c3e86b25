use Rattle.std.proofs.Common.{rules, ◌∙◌, ◌<◌, ap, refl, length}
use Rattle.fd_language.specs.Family.{has}
use Rattle.code_flow.proofs.Successors.{handed_there, handed_past}
use Rattle.code_flow.proofs.DistinctRegisters.{registers_at}
use Rattle.code_flow.proofs.successor_places.hands.Goals as goal

pub covers-requires : goal.covers-requires
covers-requires c =
    let ss = c.args.states.now in
    let to = c.args.to in
    let low : to < length ss = search rules in
    λ n. (ap (λ l. has l n) c.deref.ensures.value ∙ registers_at ss c.args.registers.now to c.index-states-to.result c.index-registers-to.result c.requires low
    c.index-states-to.is c.index-registers-to.is n)

pub returns-then-to-states : goal.returns-then-to-states
returns-then-to-states c = handed_there c.args.states.now c.args.to c.index-states-to.result c.args.handed.now c.covers.result (search rules) c.index-states-to.is c.covers.ensures

pub returns-else-to-states : goal.returns-else-to-states
returns-else-to-states c = (λ e. handed_past c.args.states.now c.args.to c.args.handed.now (search rules), λ f. refl)
