use Rattle.std.proofs.Common.{rules, refl, arith}
use Rattle.clause_check.proofs.AddedForms.{grown_refl, fact_added}
use Rattle.clause_check.proofs.FlatGoals.{part_none}
use Rattle.clause_check.proofs.check.Parts.add_fact.Goals as goal

pub returns-clause-added : goal.returns-clause-added
returns-clause-added c = λ N.
    fact_added N c.args.sentences.now c.args.self.now _ c.args.sentence.now (grown_refl c.args.self.now.store) c.requires.store c.args.head
    (record { variables = c.len.result; head = c.args.head; body = record { from = c.len-end.result; to = c.len-end.result } }) c.in_default.ensures c.requires.head refl (search rules)
    (record { ordered = omega arith; within = search rules }) (part_none _ c.len-end.result c.len-end.result (omega arith)) c.in_ok-push.ensures.items refl
