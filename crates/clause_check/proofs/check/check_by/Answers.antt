use Rattle.clause_check.proofs.check.check_by.Goals as goal

pub add_sentences-requires-clause-nothing : goal.add_sentences-requires-clause-nothing
add_sentences-requires-clause-nothing c = c.new-parts.ensures c.args.infinity c.args.sentences.now.pool
