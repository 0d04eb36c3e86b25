use Rattle.std.proofs.Common.{◌≡◌, ap, sym, ◌∙◌, subst, take, length, arith, drop_of_length-le}
use Rattle.std.specs.List.{All}
use Rattle.std.proofs.Math.Seq.{take-length}
use Rattle.range_code.specs.Frames.{slot_set}
use Rattle.range_code.specs.Standings.{tested, TestRises, IsTestSeen}
use Rattle.range_code.proofs.frame.find_standing.Goals as goal

pub slot_domain-requires : goal.slot_domain-requires
slot_domain-requires g c = subst (IsTestSeen (length (g.V.View.sets c.args.view.now)) c.args.args.now) c.in-NeedSome.is (c.requires c.loop-test.test-index _ c.loop-test-test.true)

pub slot_domain-requires-in-NeedFixed : goal.slot_domain-requires-in-NeedFixed
slot_domain-requires-in-NeedFixed g c = subst (IsTestSeen (length (g.V.View.sets c.args.view.now)) c.args.args.now) c.in-NeedFixed.is (c.requires c.loop-test.test-index _ c.loop-test-test.true)

pub returns-clause-value : goal.returns-clause-value
returns-clause-value g c = sym (c.loop-test.invariant.same ∙ ap (tested (slot_set (g.V.View.sets c.args.view.now) c.args.args.now)) (drop_of_length-le c.args.tests.now c.loop-test-test.false))

pub returns-clause-rising : goal.returns-clause-rising
returns-clause-rising g c _ =
    let all : c.loop-test.test-index ≡ length c.args.tests.now = omega arith in
    subst (All (TestRises (slot_set (g.V.View.sets c.args.view.now) c.args.args.now))) (ap (λ n. take n c.args.tests.now) all ∙ take-length c.args.tests.now) c.loop-test.invariant.rising
