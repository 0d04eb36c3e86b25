use Rattle.std.proofs.Common.{rules, refl}
use Rattle.clause_check.proofs.AddedForms.{rule_added}
use Rattle.clause_check.proofs.check.Parts.add_clause.Goals as goal

pub returns-clause-added : goal.returns-clause-added
returns-clause-added c =
    let read = c.in_ok-body.ensures.read in
    rule_added c.args.infinity c.args.sentences.now c.args.self.now _ c.args.sentence.now read.grown read.store c.args.head c.args.body
    (record { variables = c.len.result; head = c.args.head; body = c.in_ok-body.body }) c.in_default.ensures
    c.requires.head refl (search rules) read c.in_ok-push.ensures.items refl
