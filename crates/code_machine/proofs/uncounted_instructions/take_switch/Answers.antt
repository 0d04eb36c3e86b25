use Rattle.std.proofs.Common.{subst}
use Rattle.term_instructions.specs.Pairs.{GetsPair}
use Rattle.code_machine.proofs.UncountedInstructions.{switch_moves, switch_reads}
use Rattle.code_machine.proofs.uncounted_instructions.take_switch.Goals as goal

pub returns-in-Some : goal.returns-in-Some
returns-in-Some g c =
    let e = c.switch_on_term-to.ensures in
    let p = subst (GetsPair c.args.code.now c.args.branch.now c.switch_on_term-to.result.0 c.args.areas.now c.get_pair.new.areas) c.in-Some.is c.in_ok-next.ensures in
    switch_reads c.args.code.now c.args.branch.now c.args.at c.args.areas.now c.switch_on_term-to.result.0 e.safe e.runs e.falls e.query c.get_pair.new.areas c.in-Some.next p

pub returns-in-None : goal.returns-in-None
returns-in-None g c =
    let e = c.switch_on_term-to.ensures in
    let p = subst (GetsPair c.args.code.now c.args.branch.now c.switch_on_term-to.result.0 c.args.areas.now c.get_pair.new.areas) c.in-None.is c.in_ok-next.ensures in
    switch_moves c.args.code.now c.args.branch.now c.args.at c.args.areas.now c.switch_on_term-to.result.0 e.safe e.runs e.falls e.query c.get_pair.new.areas p
