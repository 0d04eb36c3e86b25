use Rattle.std.proofs.Common.{◌++◌, ◌∙◌, ap, sym, map}
use Rattle.std.proofs.lemmas.List.{take_all}
use Rattle.std.proofs.lemmas.Simd.{map-map}
use Rattle.code_listing.specs.Texts.{slot_letter}
use Rattle.code_listing.specs.States.{slot_of}
use Rattle.code_listing.proofs.write.put_slots.Goals as goal

pub returns : goal.returns
returns c = c.loop-index.invariant ∙ ap (λ l. c.args.text.now.items ++ l)
    (ap (map (λ s. slot_letter (slot_of s))) (take_all c.loop-index.index c.args.slots.now c.loop-index-test.false)
    ∙ sym (map-map slot_letter slot_of c.args.slots.now))
