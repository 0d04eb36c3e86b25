use Rattle.wam_code.specs.Area.{area_of, span_of}
use Rattle.code_text.proofs.PlaceOwners.{goes_none, goes_unknown, goes_end, goes_far}
use Rattle.code_text.proofs.owners.going_on.Goals as goal

pub returns-in-None : goal.returns-in-None
returns-in-None c = goes_none (area_of c.args.parts.now) c.args.last c.args.at c.in-None.is

pub returns-in-None-query_at : goal.returns-in-None-query_at
returns-in-None-query_at c = goes_unknown (area_of c.args.parts.now) c.args.last c.args.at c.in-Some.number c.in-Some.is c.in-None-query_at.ensures

pub returns-then-at-query : goal.returns-then-at-query
returns-then-at-query c = goes_far (area_of c.args.parts.now) c.args.last c.args.at c.in-Some.number c.in-Some.is (span_of c.in-Some-query_at.query.now) c.in-Some-query_at.ensures c.if-at-query.true

pub returns-else-at-query : goal.returns-else-at-query
returns-else-at-query c = goes_end (area_of c.args.parts.now) c.args.last c.args.at c.in-Some.number c.in-Some.is (span_of c.in-Some-query_at.query.now) c.in-Some-query_at.ensures c.if-at-query.false
