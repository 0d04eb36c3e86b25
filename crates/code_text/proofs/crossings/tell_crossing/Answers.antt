use Rattle.std.proofs.Common.{rules, ◌≡◌, true, false}
use Rattle.wam_code.specs.Area.{area_of}
use Rattle.code_text.specs.Owners.{IsCrossed}
use Rattle.code_text.proofs.CrossingFaults.{same_crossing, crossing_told, crossing_tells}
use Rattle.code_text.proofs.FaultPlaces.{tell_same}
use Rattle.code_text.proofs.crossings.tell_crossing.Goals as goal

pub returns-then-not-is_same : goal.returns-then-not-is_same
returns-then-not-is_same c =
    let a = area_of c.args.parts.now in
    let own = c.args.owners.now in
    let old = c.args.first.now.place in
    let mid = c.tell_owner.new.first.place in
    let new = c.tell_owner-then-not-is_same.new.first.place in
    let differ : c.is_same.result ≡ false = search rules in
    record {
      crossing = crossing_told a own c.args.at c.args.to c.owner_at-from.result c.owner_at-into.result c.owner_at-from.ensures c.owner_at-into.ensures
          c.is_same.result c.is_same.ensures old differ mid new c.tell_owner.ensures.told c.tell_owner-then-not-is_same.ensures.told
          c.tell_owner-then-not-is_same.ensures.tells.kept;
      tells = crossing_tells a own c.args.at c.args.to c.owner_at-from.result c.owner_at-into.result c.owner_at-from.ensures c.owner_at-into.ensures
          c.is_same.result c.is_same.ensures old differ mid new c.tell_owner.ensures.tells c.tell_owner-then-not-is_same.ensures.tells;
    }

pub returns-else-not-is_same : goal.returns-else-not-is_same
returns-else-not-is_same c =
    let a = area_of c.args.parts.now in
    let own = c.args.owners.now in
    let old = c.args.first.now.place in
    let same : c.is_same.result ≡ true = search rules in
    record {
      crossing = same_crossing a own c.args.at c.args.to c.owner_at-from.result c.owner_at-into.result c.owner_at-from.ensures c.owner_at-into.ensures c.is_same.result c.is_same.ensures old same;
      tells = tell_same (IsCrossed a own c.args.at c.args.to) old;
    }
