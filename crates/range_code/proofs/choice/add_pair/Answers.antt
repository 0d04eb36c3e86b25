use Rattle.range_code.proofs.Choices.{pair_added, none_added}
use Rattle.std.proofs.Common.{refl}
use Rattle.range_code.proofs.choice.add_pair.Goals as goal

pub returns-in_ok-push : goal.returns-in_ok-push
returns-in_ok-push c = pair_added c.args.part c.args.pairs.now.items c.push.new.self.items c.in-Some.pair c.in_ok-push.ensures.items c.in-Some.ensures.key
    c.in-Some.ensures.number c.in-Some.ensures.key_high c.in-Some.ensures.number_high

pub returns-in_default : goal.returns-in_default
returns-in_default c = none_added c.args.part c.args.pairs.now.items c.args.pairs.now.items refl c.in_default.ensures.none
