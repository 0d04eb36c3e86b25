use Rattle.clause_code.specs.FramelessClauses.{InRegisters}
use Rattle.clause_code.proofs.argument_homes.register_homes.Given as goal

abbrev pub invariant-loop-register : goal.invariant-loop-register
invariant-loop-register l = InRegisters l.homes.items l.first l.register
