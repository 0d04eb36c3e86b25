use Rattle.std.proofs.Common.{◌+◌, None, map, take, get_or, sym, ◌∙◌}
use Rattle.std.proofs.lemmas.List.{take_more, length-map}
use Rattle.text_warnings.specs.declared.clauses.Clause.{Clause}
use Rattle.text_warnings.specs.Graphs.{items_of}
use Rattle.text_warnings.proofs.CallEdges.{no_clauses, edges_more}
use Rattle.text_warnings.proofs.calls.edges_of.Goals as goal

pub loop-clause-init : goal.loop-clause-init
loop-clause-init c =
    no_clauses c.args.pool.now c.args.functors.now.keys (map items_of c.in_ok-edges.edges.items)
    (length-map c.in_ok-edges.edges.items items_of ∙ c.in_ok-edges.ensures.count ∙ c.len.ensures.len) c.in_ok-edges.ensures.empty

pub loop-clause-preserved : goal.loop-clause-preserved
loop-clause-preserved c =
    let i = c.loop-clause.clause-index in
    let ks = c.args.clauses.now in
    let d : Clause = record { functor = record { name = record { number = 0 }; arity = 0 }; place = 0; body = None } in
    edges_more c.args.pool.now c.args.functors.now.keys (take i ks) (take (i + 1) ks) (get_or ks i d) (map items_of c.loop-clause.edges.items) (map items_of c.add_edges.new.edges.items)
    (sym (take_more ks i d c.loop-clause-test.true)) c.loop-clause.invariant c.in_ok-add_edges.ensures
