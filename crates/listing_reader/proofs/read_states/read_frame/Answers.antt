use Rattle.std.proofs.Common.{rules, ◌≡◌, List, ℕ, codes, map}
use Rattle.wam_code.specs.Area.{Slot}
use Rattle.code_listing.specs.Texts.{slot_letter}
use Rattle.code_listing.specs.States.{slot_of}
use Rattle.listing_reader.specs.Frames.{IsSlots, letters}
use Rattle.listing_reader.proofs.Loops.{reads_none}
use Rattle.listing_reader.proofs.StateWords.{frame_none}
use Rattle.listing_reader.proofs.read_states.read_frame.Goals as goal

pub returns-in-None : goal.returns-in-None
returns-in-None c =
    let dash : ¬ (c.args.word.now ≡ codes "-") = search rules in
    let dot : ¬ (c.args.word.now ≡ codes ".") = search rules in
    frame_none c.args.word.now dash dot (reads_none (λ v. map slot_of v.items) IsSlots letters c.args.word.now c.in_ok-read_slots.field-0 c.in-None.is c.in_ok-read_slots.ensures)
