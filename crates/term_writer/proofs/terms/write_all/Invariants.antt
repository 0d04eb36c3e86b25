use Rattle.std.proofs.Common.{◌≡◌}
use Rattle.std.specs.Prelude.{All}
use Rattle.fd_language.specs.TermTexts.{term_text}
use Rattle.term_pool.specs.Terms.{term_of}
use Rattle.term_writer.specs.Pieces.{joined, finished, load, IsOf}
use Rattle.term_writer.specs.Views.{mode_of, text_in}
use Rattle.term_writer.proofs.terms.write_all.Given as goal

abbrev pub invariant-loop-piece : goal.invariant-loop-piece
invariant-loop-piece l = record {
  within : All (IsOf l.pool) l.ahead.items;
  whole : finished l.pool (mode_of l.mode) (text_in l.names) l.text.items l.ahead.items
      ≡ finished l.pool (mode_of l.mode) (text_in l.names) (joined l.fn.text.items (term_text (mode_of l.mode) (text_in l.names) l.fn.limit (term_of l.pool l.fn.t))) l.fn.ahead.items;
}

abbrev pub decreases-loop-piece : goal.decreases-loop-piece
decreases-loop-piece l = load l.pool l.ahead.items
