use Rattle.std.proofs.Common.{◌≡◌}
use Rattle.wam_code.specs.Area.{Span, HasQuery, area_of, span_of}
use Rattle.code_text.proofs.PlaceOwners.{number_told, number_tells}
use Rattle.code_text.proofs.FaultPlaces.{tell_same}
use Rattle.code_text.proofs.owners.tell_number.Goals as goal

pub returns-in-None : goal.returns-in-None
returns-in-None c = record {
  told = λ q h. absurd (c.in-None.ensures q h);
  tells = tell_same (λ p. (q : Span) × HasQuery (area_of c.args.parts.now) c.args.number q × (p ≡ q.at)) c.args.first.now.place;
}

pub returns-in-Some : goal.returns-in-Some
returns-in-Some c =
    let a = area_of c.args.parts.now in
    let q = span_of c.in-Some.query.now in
    record {
      told = number_told a c.args.number q c.tell.new.self.place c.in-Some.ensures c.tell.ensures.told;
      tells = number_tells a c.args.number q c.args.first.now.place c.tell.new.self.place c.in-Some.ensures c.tell.ensures.tells;
    }
