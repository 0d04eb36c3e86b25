use Rattle.std.proofs.Common.{◌≡◌, length, min, sym, subst}
use Rattle.wam_code.specs.Area.{area_of}
use Rattle.code_text.specs.Places.{HasAllKeys}
use Rattle.code_listing.specs.States.{states_of}
use Rattle.code_text.specs.FaultPlaces.{IsFault}
use Rattle.code_text.proofs.Faults.{fits_kept, spans_kept, told_result}
use Rattle.code_text.proofs.verification.first_failing.Goals as goal

pub returns : goal.returns
returns c =
    let a = area_of c.args.parts.now in
    let ss = states_of c.args.states.now in
    let zero = c.new-first.result.place in
    let one = c.tell_lengths.new.first.place in
    let two = c.tell_tables.new.first.place in
    let three = c.tell_spans.new.first.place in
    let four = c.tell_places.new.first.place in
    let k_two = c.tell_tables.ensures.tells.kept in
    let k_three = c.in_ok-tell_spans.ensures.tells.kept in
    let k_four = c.in_ok-tell_places.ensures.tells.kept in
    told_result a ss four
    (fits_kept (length ss ≡ length a.code) one four (min (length ss) (length a.code)) (λ p t. k_four p (k_three p (k_two p t))) c.tell_lengths.ensures.found)
    (fits_kept (HasAllKeys a) two four (length a.code) (λ p t. k_four p (k_three p t)) c.tell_tables.ensures.found)
    (spans_kept a ss three four k_four c.in_ok-tell_spans.ensures.found) c.in_ok-tell_places.ensures.found
    (c.in_ok-tell_places.ensures.tells.fault (c.in_ok-tell_spans.ensures.tells.fault
    (c.tell_tables.ensures.tells.fault (c.tell_lengths.ensures.tells.fault (subst (IsFault a ss) (sym c.new-first.ensures) tt)))))
