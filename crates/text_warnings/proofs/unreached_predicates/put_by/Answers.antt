use Rattle.std.proofs.Common.{◌≡◌, ◌++◌, map}
use Rattle.text_warnings.specs.Graphs.{unreached_among, unreached_at}
use Rattle.text_warnings.proofs.WarningOrder.{on_ok}
use Rattle.text_warnings.proofs.WarningViews.{names_own}
use Rattle.text_warnings.proofs.unreached_predicates.put_by.Goals as goal

pub reach_all-requires-clause-names : goal.reach_all-requires-clause-names
reach_all-requires-clause-names c = names_own c.args.sentences.now.pool c.args.clauses.now c.args.functors.now.keys c.requires.clauses c.requires.functors

pub returns : goal.returns
returns c =
    let ns = c.reach_all.new.reached.keys in
    on_ok c.put_unreached.result
    (λ (h : c.put_unreached.new.warnings.items ≡ c.args.warnings.now.items ++ map unreached_at (unreached_among c.args.starts.now c.args.functors.now.keys ns c.args.first.now)).
    record { numbers = ns; reached = c.in_ok-reach_all.ensures; adds = h })
    c.put_unreached.ensures
