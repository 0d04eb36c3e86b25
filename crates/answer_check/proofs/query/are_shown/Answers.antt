use Rattle.std.proofs.Common.{sym, ◌∙◌}
use Rattle.term_pool.specs.Contents.{atom_name}
use Rattle.answer_check.proofs.WholeQueries.{some_hidden}
use Rattle.answer_check.proofs.query.are_shown.Goals as goal

pub returns-then-is_hidden_name : goal.returns-then-is_hidden_name
returns-then-is_hidden_name c =
    sym (some_hidden (atom_name c.args.pool.now) c.args.names.now c.loop-name.name-index _ c.loop-name-test.true (sym c.is_hidden_name.ensures ∙ c.if-is_hidden_name.true))
