use Rattle.std.proofs.Common.{arith}
use Rattle.listing_reader.proofs.Loops.{cut_here, nowhere, nowhere_front}
use Rattle.listing_reader.proofs.split.cut_once.Goals as goal

pub returns-in_default : goal.returns-in_default
returns-in_default c = nowhere c.args.separator c.args.text.now c.in_default.ensures

pub returns : goal.returns
returns c =
    let m = c.in-Some.ensures in
    let h = m.0.high in
    (cut_here c.args.separator c.args.text.now c.in-Some.at h m.0.before m.1, nowhere_front c.args.separator c.args.text.now c.in-Some.at (omega (arith, h)) m.0.before)
