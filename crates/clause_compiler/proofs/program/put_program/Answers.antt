use Rattle.std.proofs.Common.{◌≡◌, refl, ap, length, map, arith}
use Rattle.wam_code.specs.Area.{span_of}
use Rattle.clause_compiler.specs.Parts.{tables_in}
use Rattle.clause_compiler.proofs.CodeAssembly.{raw_numbered, laid_out_as}
use Rattle.clause_compiler.proofs.program.put_program.Goals as goal

pub put_clauses-requires-clause-codable : goal.put_clauses-requires-clause-codable
put_clauses-requires-clause-codable c = c.known.ensures.codable

pub put_queries-requires-clause-codable : goal.put_queries-requires-clause-codable
put_queries-requires-clause-codable c = c.known.ensures.codable

pub place_choices-requires-clause-numbered : goal.place_choices-requires-clause-numbered
place_choices-requires-clause-numbered c =
    raw_numbered c.args.program.now c.known.ensures c.args.predicates.now c.requires.predicates c.args.code.now.items c.put_choices.new.code.items
    c.put_clauses.new.code.items c.put_queries.new.code.items c.in_ok-entries.entries.items c.in_ok-places.places.items
    (map span_of c.in_ok-queries.queries.items) (tables_in c.put_choices.new.tables) c.in_ok-entries.ensures.keys c.in_ok-entries.ensures.rising
    c.requires.code
    c.in_ok-entries.ensures.choices c.in_ok-places.ensures c.in_ok-queries.ensures c.len-choices.result (length c.deref-4.result.now)
    (let e : c.len-choices.result ≡ length c.put_choices.new.code.items = omega (arith, c.len-choices.ensures, c.put_choices.new.code.ok.0) in
    e) (ap length c.deref-4.ensures.value)

pub returns : goal.returns
returns c =
    laid_out_as c.args.program.now c.known.ensures c.args.predicates.now c.requires.predicates c.args.code.now.items c.put_choices.new.code.items
    c.put_clauses.new.code.items c.put_queries.new.code.items c.in_ok-entries.entries.items c.in_ok-places.places.items
    (map span_of c.in_ok-queries.queries.items) (tables_in c.put_choices.new.tables) c.in_ok-entries.ensures.keys c.in_ok-entries.ensures.rising
    c.requires.code
    c.in_ok-entries.ensures.choices c.in_ok-places.ensures c.in_ok-queries.ensures c.place_choices.new.code.items c.args.program.now.ranges c.len-choices.result
    c.deref-4.result.now (let e : c.len-choices.result ≡ length c.put_choices.new.code.items = omega (
      arith,
      c.len-choices.ensures,
      c.put_choices.new.code.ok.0,
    ) in e) c.deref-4.ensures.value c.place_choices.ensures refl
