use Rattle.std.proofs.Common.{sym, subst}
use Rattle.clause_code.specs.CodablePrograms.{AreOnce}
use Rattle.clause_code.specs.LevelSlots.{AreNeeds}
use Rattle.clause_code.proofs.QueryCode.{query_known}
use Rattle.clause_code.proofs.query.compile_query.Goals as goal

pub frame_of-requires-clause-once : goal.frame_of-requires-clause-once
frame_of-requires-clause-once c = subst AreOnce (sym c.shown.ensures) (query_known c.args.program.now c.known.ensures c.args.q c.requires.query).once

pub most_needed-requires-clause-needs : goal.most_needed-requires-clause-needs
most_needed-requires-clause-needs c = let k = c.requires.needs in subst (λ n. AreNeeds c.args.program.now n c.args.needs.now) (sym k.long) k
