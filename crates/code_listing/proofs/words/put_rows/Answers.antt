use Rattle.std.proofs.Common.{rules, codes}
use Rattle.code_listing.specs.Texts.{row_word}
use Rattle.code_listing.proofs.JoinedTexts.{behind_step}
use Rattle.code_listing.proofs.words.put_rows.Goals as goal

pub loop-index-preserved : goal.loop-index-preserved
loop-index-preserved c = behind_step row_word c.args.rows.now c.loop-index.index _ (search rules) (codes " ") c.args.text.now.items c.loop-index.text.items
    c.put_row_word.new.text.items c.loop-index.invariant c.in_ok-put_row_word.ensures
