use Rattle.std.proofs.Common.{rules, refl, List, subst}
use Rattle.term_pool.specs.declared.AtomId.{AtomId}
use Rattle.clause_check.specs.Parts.{AreShown}
use Rattle.clause_check.proofs.AddedForms.{query_added}
use Rattle.clause_check.proofs.check.Parts.add_query.Goals as goal

pub returns-clause-added : goal.returns-clause-added
returns-clause-added c =
    let read = c.in_ok-goals.ensures.read in
    let shown = c.in_ok-shown.shown in
    let are = subst (λ (ids : List AtomId). AreShown c.args.sentences.now.pool ids shown.names.items shown.numbers.items) c.deref.ensures.value c.in_ok-shown.ensures in
    query_added c.args.infinity c.args.sentences.now c.args.self.now _ c.args.sentence.now read.grown read.store c.args.body
    (record { variables = c.len.result; names = shown.names; shown = shown.numbers; goals = c.in_ok-goals.goals }) are (search rules) read
    refl c.in_ok-push.ensures.items
