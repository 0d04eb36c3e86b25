use Rattle.std.proofs.Common.{◌≡◌, ◌<◌, ◌++◌, Some, length, map, set, sym, ◌∙◌, arith}
use Rattle.std.specs.Prelude.{position}
use Rattle.std.proofs.lemmas.List.{length-map}
use Rattle.term_pool.specs.PlacedTerms.{placed_of}
use Rattle.text_warnings.specs.Clauses.{calls_of}
use Rattle.text_warnings.specs.Terms.{same_numbers}
use Rattle.text_warnings.specs.Graphs.{items_of, numbers_in}
use Rattle.text_warnings.proofs.CallEdges.{adds_body, put_items}
use Rattle.text_warnings.proofs.WarningOrder.{on_ok}
use Rattle.text_warnings.proofs.calls.add_edges.Goals as goal

pub returns : goal.returns
returns c =
    let pool = c.args.pool.now in
    let keys = c.args.functors.now.keys in
    let vs = c.args.edges.now.items in
    let b = c.in-Some.body in
    let n = c.in-Some-get_index_of.number in
    let found = c.index_mut.result.now in
    let next = c.put_calls.new.calls in
    let more = numbers_in pool keys (calls_of (placed_of pool b)) in
    let at : position (same_numbers c.args.clause.functor) keys ≡ Some n = sym c.get_index_of.ensures.index ∙ c.in-Some-get_index_of.is in
    let below : n < length keys = c.in-Some-get_index_of.ensures.within in
    let inside : n < length vs = omega (arith, below, c.requires.count) in
    on_ok c.put_calls.result
    (λ (e : next.items ≡ found.items ++ more).
    adds_body pool keys c.args.clause b n (map items_of vs) (map items_of (set vs n next)) c.in-Some.is at (omega (arith, inside, length-map vs items_of))
    (put_items vs n found next more inside c.index_mut.ensures.value e))
    c.put_calls.ensures
