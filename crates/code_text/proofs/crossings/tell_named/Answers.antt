use Rattle.std.proofs.Common.{rules}
use Rattle.wam_code.specs.Area.{area_of}
use Rattle.code_text.proofs.CrossingFaults.{named_told, named_tells}
use Rattle.code_text.proofs.crossings.tell_named.Goals as goal

pub loop-index-preserved : goal.loop-index-preserved
loop-index-preserved c =
    let a = area_of c.args.parts.now in
    let own = c.args.owners.now in
    let ns = c.args.named.now in
    let i = c.loop-index.index in
    let old = c.loop-index.first.place in
    let new = c.tell_crossing.new.first.place in
    record {
      crossings = named_told a own c.args.at ns i 0 (search rules) c.args.first.now.place old new c.loop-index.invariant.crossings c.tell_crossing.ensures.tells.kept c.tell_crossing.ensures.crossing;
      tells = named_tells a own c.args.at ns i 0 (search rules) c.args.first.now.place old new c.loop-index.invariant.tells c.tell_crossing.ensures.tells;
    }
