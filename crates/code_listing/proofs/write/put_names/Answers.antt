use Rattle.std.proofs.Common.{rules, codes}
use Rattle.code_listing.specs.Texts.{atom_number}
use Rattle.code_listing.proofs.JoinedTexts.{behind_step}
use Rattle.code_listing.proofs.write.put_names.Goals as goal

pub loop-index-preserved : goal.loop-index-preserved
loop-index-preserved c = behind_step atom_number c.args.names.now c.loop-index.index _ (search rules) (codes " ") c.args.text.now.items c.loop-index.text.items
    c.put_number_word.new.text.items c.loop-index.invariant c.in_ok-put_number_word.ensures
