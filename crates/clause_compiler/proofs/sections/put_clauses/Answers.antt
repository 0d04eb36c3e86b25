use Rattle.std.proofs.Common.{◌≡◌, ◌+◌, arith}
use Rattle.clause_compiler.specs.Sections.{IsClausePiece, its_place}
use Rattle.clause_compiler.proofs.PieceOffsets.{put_one}
use Rattle.clause_compiler.proofs.sections.put_clauses.Goals as goal

pub loop-clause-preserved : goal.loop-clause-preserved
loop-clause-preserved c =
    let ps = c.args.predicates.now in
    let p = c.args.program.now in
    let w = c.in_ok-compile_clause.ensures in
    put_one its_place (IsClausePiece p ps) c.loop-clause.clause c.args.code.now.items c.loop-clause.code.items c.compile_clause.new.code.items
    c.loop-clause.places.items c.push.new.self.items c.loop-clause.invariant
    w.0 c.len-at.result
    w.2
    (omega arith)
    w.1
    c.in_ok-push.ensures.items
