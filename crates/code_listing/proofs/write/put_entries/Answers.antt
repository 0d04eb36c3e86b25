use Rattle.std.proofs.Common.{rules}
use Rattle.code_listing.specs.Texts.{entry_text}
use Rattle.code_listing.proofs.JoinedTexts.{lines_step}
use Rattle.code_listing.proofs.write.put_entries.Goals as goal

pub loop-index-preserved : goal.loop-index-preserved
loop-index-preserved c = lines_step entry_text c.args.entries.now c.loop-index.index _ (search rules) c.put_count.new.text.items c.loop-index.text.items
    c.put_entry.new.text.items c.loop-index.invariant c.in_ok-put_entry.ensures
