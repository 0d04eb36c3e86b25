use Rattle.std.proofs.Common.{sym, subst}
use Rattle.clause_code.specs.LevelSlots.{AreNeeds}
use Rattle.clause_code.proofs.clause.compile_framed.Goals as goal

pub most_needed-count-requires-clause-needs : goal.most_needed-count-requires-clause-needs
most_needed-count-requires-clause-needs c = let k = c.requires.needs in subst (λ n. AreNeeds c.args.program.now n c.args.needs.now) (sym k.long) k
