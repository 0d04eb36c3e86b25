use Rattle.std.proofs.Common.{◌≤◌, take}
use Rattle.wam_code.specs.Area.{area_of}
use Rattle.code_listing.specs.Sheets.{AreNamedInOrder}
use Rattle.state_search.proofs.place_states.are_in_order.Given as goal

abbrev pub invariant-loop-at : goal.invariant-loop-at
invariant-loop-at l =
    record {
      order : AreNamedInOrder (take l.at (area_of l.parts).code) l.next;
      small : l.next ≤ l.at;
    }
