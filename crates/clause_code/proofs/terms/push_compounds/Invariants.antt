use Rattle.clause_code.proofs.Rests.{Pushing}
use Rattle.clause_code.proofs.terms.push_compounds.Given as goal

abbrev pub invariant-loop-id : goal.invariant-loop-id
invariant-loop-id l = Pushing l.pool l.read l.first l.free l.register l.id-index l.ids l.fn.works.items l.works.items
