use Rattle.std.proofs.Common.{ℕ}
use Rattle.std.proofs.lemmas.Result.{on_ok_weaker, IfErr-weaker}
use Rattle.clause_check.specs.PartVerdicts.{RefusesAs, RefusesSentence}
use Rattle.clause_check.specs.declared.terms.SentenceForm.TheVariants.{Query, Clause, Fact}
use Rattle.clause_check.proofs.SentenceForms.{added_as, refused_as}
use Rattle.clause_check.proofs.check.Parts.add_sentence.Goals as goal

pub returns-in-Query-clause-added : goal.returns-in-Query-clause-added
returns-in-Query-clause-added c =
    on_ok_weaker c.add_query.result
    (added_as c.args.infinity c.args.sentences.now c.args.sentence.now c.in_ok-wide.wide c.sentence_form.result (Query c.in-Query.body)
    c.in_ok-wide.ensures c.in_ok-refuse_wide.ensures.narrow c.sentence_form.ensures.1 c.in-Query.is c.args.self.now c.add_query.new.self)
    c.add_query.ensures.added

pub returns-in-Query-clause-fault : goal.returns-in-Query-clause-fault
returns-in-Query-clause-fault c =
    IfErr-weaker c.add_query.result (RefusesAs c.args.infinity c.args.sentences.now c.args.sentence.now (Query c.in-Query.body))
    (RefusesSentence c.args.infinity c.args.sentences.now c.args.sentence.now)
    (refused_as c.args.infinity c.args.sentences.now c.args.sentence.now c.in_ok-wide.wide c.sentence_form.result (Query c.in-Query.body)
    c.in_ok-wide.ensures c.in_ok-refuse_wide.ensures.narrow c.sentence_form.ensures.1 c.in-Query.is)
    c.add_query.ensures.fault

pub returns-in-Clause-clause-added : goal.returns-in-Clause-clause-added
returns-in-Clause-clause-added c =
    on_ok_weaker c.add_clause.result
    (added_as c.args.infinity c.args.sentences.now c.args.sentence.now c.in_ok-wide.wide c.sentence_form.result (Clause c.in-Clause.head c.in-Clause.body)
    c.in_ok-wide.ensures c.in_ok-refuse_wide.ensures.narrow c.sentence_form.ensures.1 c.in-Clause.is c.args.self.now c.add_clause.new.self)
    c.add_clause.ensures.added

pub returns-in-Clause-clause-fault : goal.returns-in-Clause-clause-fault
returns-in-Clause-clause-fault c =
    IfErr-weaker c.add_clause.result (RefusesAs c.args.infinity c.args.sentences.now c.args.sentence.now (Clause c.in-Clause.head c.in-Clause.body))
    (RefusesSentence c.args.infinity c.args.sentences.now c.args.sentence.now)
    (refused_as c.args.infinity c.args.sentences.now c.args.sentence.now c.in_ok-wide.wide c.sentence_form.result (Clause c.in-Clause.head c.in-Clause.body)
    c.in_ok-wide.ensures c.in_ok-refuse_wide.ensures.narrow c.sentence_form.ensures.1 c.in-Clause.is)
    c.add_clause.ensures.fault

pub returns-in-Fact-clause-added : goal.returns-in-Fact-clause-added
returns-in-Fact-clause-added c =
    let s = c.args.sentences.now in
    let form = Fact c.in-Fact.head in
    on_ok_weaker c.add_fact.result
    (λ h. added_as c.args.infinity s c.args.sentence.now c.in_ok-wide.wide c.sentence_form.result form c.in_ok-wide.ensures c.in_ok-refuse_wide.ensures.narrow
    c.sentence_form.ensures.1 c.in-Fact.is c.args.self.now c.add_fact.new.self (h c.args.infinity))
    c.add_fact.ensures.added

pub returns-in-Fact-clause-fault : goal.returns-in-Fact-clause-fault
returns-in-Fact-clause-fault c =
    let s = c.args.sentences.now in
    let form = Fact c.in-Fact.head in
    IfErr-weaker c.add_fact.result (λ e. (N : ℕ) → RefusesAs N s c.args.sentence.now form e) (RefusesSentence c.args.infinity s c.args.sentence.now)
    (λ e h. refused_as c.args.infinity s c.args.sentence.now c.in_ok-wide.wide c.sentence_form.result form c.in_ok-wide.ensures c.in_ok-refuse_wide.ensures.narrow
    c.sentence_form.ensures.1 c.in-Fact.is e (h c.args.infinity))
    c.add_fact.ensures.fault
