use Rattle.range_features.specs.MetPairs.{sees}
use Rattle.range_features.proofs.MetPairs.{met_new, met_again, is_new, is_known}
use Rattle.range_features.proofs.take.Goals as goal

pub returns-in_ok-push : goal.returns-in_ok-push
returns-in_ok-push c =
    met_new c.args.node (c.in-Some.variable, c.in-Some.feature) c.args.seen.now c.add.new.self c.args.found.now.items c.push.new.self.items c.in-Some.ensures
    (is_new (sees c.args.seen.now (c.in-Some.variable, c.in-Some.feature)) c.in_ok-add.field-0 c.in_ok-add.ensures.new c.if-branch.true) c.in_ok-add.ensures.seen c.in_ok-push.ensures.items

pub returns-else-branch : goal.returns-else-branch
returns-else-branch c =
    met_again c.args.node (c.in-Some.variable, c.in-Some.feature) c.args.seen.now c.add.new.self c.args.found.now.items c.in-Some.ensures
    (is_known (sees c.args.seen.now (c.in-Some.variable, c.in-Some.feature)) c.in_ok-add.field-0 c.in_ok-add.ensures.new c.if-branch.false) c.in_ok-add.ensures.seen
