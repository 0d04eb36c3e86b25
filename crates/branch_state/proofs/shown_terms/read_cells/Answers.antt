use Rattle.term_pool.specs.Contents.{name_in}
use Rattle.heap_cells.specs.SeenTerms.{seen_term}
use Rattle.range_code.specs.Frames.{family_of}
use Rattle.branch_state.proofs.ShownTerms.{read_more}
use Rattle.branch_state.proofs.shown_terms.read_cells.Goals as goal

pub loop-cell-preserved : goal.loop-cell-preserved
loop-cell-preserved g c =
    let more = read_more (seen_term (name_in c.args.from.now.names) c.args.heap.now.now (family_of c.args.store.now.current.sets)) c.args.cells.now
    c.loop-cell.cell-index _ c.loop-cell-test.true c.loop-cell.pool c.read_back.new.pool c.loop-cell.terms.items c.push.new.self.items
    c.in_ok-read_back.field-0
    c.in_ok-read_back.ensures.kept c.in_ok-read_back.ensures.extends c.loop-cell.invariant.own c.loop-cell.invariant.terms c.in_ok-read_back.ensures.own
    c.in_ok-read_back.ensures.term c.in_ok-push.ensures.items in
    record { own = more.0; terms = more.1 }
