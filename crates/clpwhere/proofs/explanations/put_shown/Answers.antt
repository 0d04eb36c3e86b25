use Rattle.std.proofs.Common.{rules, string_bytes}
use Rattle.clpwhere.proofs.ShownCharacters.{shown_next}
use Rattle.clpwhere.proofs.explanations.put_shown.Goals as goal

pub loop-character-preserved : goal.loop-character-preserved
loop-character-preserved c =
    shown_next (string_bytes c.args.shown.now) (string_bytes c.loop-character.shown) (string_bytes c.push.new.self) c.args.characters.now c.loop-character.character-index c.character-item.result
    c.loop-character-test.true (search rules) c.loop-character.invariant (search rules)
