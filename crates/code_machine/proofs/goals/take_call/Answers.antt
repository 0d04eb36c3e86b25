use Rattle.std.proofs.Common.{reverse}
use Rattle.code_machine.proofs.GoalSteps.{calls_to, call_spends, splits_to, test_spends}
use Rattle.code_machine.proofs.goals.take_call.Goals as goal

pub returns-in-Call : goal.returns-in-Call
returns-in-Call g c =
    let e = c.call.ensures in
    calls_to c.args.code.now c.args.branch.now c.args.at c.args.areas.now c.call.new.areas (reverse c.args.labels.now.items) c.requires.labels c.call.result e.safe e.runs e.query e.most e.same

pub returns-in-Execute : goal.returns-in-Execute
returns-in-Execute g c =
    let e = c.execute.ensures in
    call_spends c.args.code.now c.args.branch.now c.args.at c.args.areas.now (reverse c.args.labels.now.items) c.requires.labels c.execute.new.areas
    c.execute.result e.safe e.runs e.query e.most e.same.points

pub returns-in-Either : goal.returns-in-Either
returns-in-Either g c =
    let e = c.either.ensures in
    splits_to c.args.code.now c.args.branch.now c.args.at c.args.areas.now c.either.new.areas (reverse c.args.labels.now.items) c.requires.labels
    c.either.new.branch c.args.areas.now c.in-Either.to c.either.result e.safe e.runs e.query e.other e.falls e.pair e.point

pub returns-in-TestOnly : goal.returns-in-TestOnly
returns-in-TestOnly g c =
    let e = c.test_only.ensures in
    test_spends c.args.code.now c.args.branch.now c.args.at c.args.areas.now (reverse c.args.labels.now.items) c.requires.labels c.test_only.new.areas
    c.test_only.result e.safe e.runs e.query e.falls e.same.points

pub returns-in-EnterTest : goal.returns-in-EnterTest
returns-in-EnterTest g c =
    let e = c.enter_test.ensures in
    splits_to c.args.code.now c.args.branch.now c.args.at c.args.areas.now c.enter_test.new.areas (reverse c.args.labels.now.items) c.requires.labels
    c.enter_test.new.branch c.enter_test.new.areas c.in-EnterTest.to c.enter_test.result e.safe e.runs e.query e.other e.falls e.pair e.point
