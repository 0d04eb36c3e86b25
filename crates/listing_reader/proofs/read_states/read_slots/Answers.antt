use Rattle.std.proofs.Common.{◌≡◌, ◌∙◌, arith}
use Rattle.std.proofs.lemmas.List.{take_all}
use Rattle.code_listing.specs.Texts.{slot_letter}
use Rattle.code_listing.specs.States.{slot_of}
use Rattle.listing_reader.proofs.Loops.{letters_step, letters_stop}
use Rattle.listing_reader.proofs.read_states.read_slots.Goals as goal

pub returns-in_default : goal.returns-in_default
returns-in_default c = λ ys h e. letters_stop slot_letter c.args.word.now c.loop-letter.letter-index (omega arith) c.in_default.ensures ys e

pub loop-letter-preserved : goal.loop-letter-preserved
loop-letter-preserved c = letters_step slot_of slot_letter c.loop-letter.slots.items c.push.new.self.items c.in-Some.slot c.args.word.now
    c.loop-letter.letter-index c.in_ok-push.ensures.items (omega arith) c.loop-letter.invariant c.in-Some.ensures.1

pub returns : goal.returns
returns c = (tt, c.loop-letter.invariant ∙ take_all c.loop-letter.letter-index c.args.word.now (omega arith))
