use Rattle.std.proofs.Common.{sym, ◌∙◌}
use Rattle.range_code.proofs.RangeRuns.{tests_there, nodes_readable, nodes_fit, nodes_spelled, gives_empty, gives_all, gives_table}
use Rattle.range_code.proofs.run_range.Goals as goal

pub find_standing-requires : goal.find_standing-requires
find_standing-requires g c = tests_there (g.V.View.sets c.args.view.now) c.args.code.now c.args.args.now c.tests.ensures.accepted c.requires c.tests.result.now c.tests.ensures.tests

pub evaluate-requires-clause-spelled : goal.evaluate-requires-clause-spelled
evaluate-requires-clause-spelled g c = nodes_spelled (g.V.View.sets c.args.view.now) c.args.code.now c.args.args.now c.tests.ensures.accepted c.requires _ c.steps.ensures.nodes

pub evaluate-requires-clause-readable : goal.evaluate-requires-clause-readable
evaluate-requires-clause-readable g c = nodes_readable (g.V.View.sets c.args.view.now) c.args.code.now c.args.args.now c.tests.ensures.accepted c.requires _ c.steps.ensures.nodes

pub evaluate-requires-clause-fits : goal.evaluate-requires-clause-fits
evaluate-requires-clause-fits g c = nodes_fit (g.V.View.sets c.args.view.now) c.args.code.now c.args.args.now c.tests.ensures.accepted c.requires _
    c.steps.ensures.nodes c.tests.result.now c.tests.ensures.tests (c.find_standing.ensures.rising c.in-Settled.is)

pub returns-in-Empty-clause-set : goal.returns-in-Empty-clause-set
returns-in-Empty-clause-set g c = gives_empty (g.V.View.sets c.args.view.now) c.args.code.now c.args.args.now c.tests.ensures.accepted c.requires c.empty.result
    c.tests.result.now c.tests.ensures.tests c.empty.ensures (sym c.in-Empty.is ∙ c.find_standing.ensures.value)

pub returns-in-Open-clause-set : goal.returns-in-Open-clause-set
returns-in-Open-clause-set g c = gives_all (g.V.View.sets c.args.view.now) c.args.code.now c.args.args.now c.tests.ensures.accepted c.requires c.full.result
    c.tests.result.now c.tests.ensures.tests c.full.ensures (sym c.in-Open.is ∙ c.find_standing.ensures.value)

pub returns-in_ok-reserve-in-Settled-clause-set : goal.returns-in_ok-reserve-in-Settled-clause-set
returns-in_ok-reserve-in-Settled-clause-set g c = gives_table (g.V.View.sets c.args.view.now) c.args.code.now c.args.args.now c.tests.ensures.accepted
    c.requires _ c.steps.ensures.nodes c.evaluate.result c.tests.result.now c.tests.ensures.tests (sym c.in-Settled.is ∙ c.find_standing.ensures.value)
    c.evaluate.ensures.set
