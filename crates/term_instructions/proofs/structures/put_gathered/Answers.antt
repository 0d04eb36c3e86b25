use Rattle.std.proofs.Common.{refl}
use Rattle.term_instructions.proofs.structures.put_gathered.Goals as goal

pub returns : goal.returns
returns g c =
    let b = c.in_ok-built in
    let w = c.in_ok-write.ensures in
    record { leads = refl; built = b.built; made = b.ensures.made; heap = b.ensures.heap; sound = b.ensures.sound; written = w.written; same = w.same; slots = w.slots }
