use Rattle.std.proofs.Common.{refl}
use Rattle.linear_forms.proofs.Stacks.{two_taken}
use Rattle.linear_forms.proofs.walk.Made.take_two.Goals as goal

pub returns-clause-taken : goal.returns-clause-taken
returns-clause-taken c = two_taken c.args.self.now _ c.pop.new.self.items c.in-Some-pop.left c.in-Some.right c.in-Some.ensures.items c.in-Some-pop.ensures.items refl
