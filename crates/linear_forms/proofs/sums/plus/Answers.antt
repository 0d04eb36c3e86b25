use Rattle.linear_forms.proofs.SumArithmetic.{sum_front, sum_back}
use Rattle.linear_forms.proofs.sums.plus.Goals as goal

pub returns-then-len : goal.returns-then-len
returns-then-len c = λ s t lo m hi p q. sum_back c.args.left c.args.right s t lo m hi p q c.added.result c.added.ensures

pub returns-else-len : goal.returns-else-len
returns-else-len c = λ s t lo m hi p q. sum_front c.args.left c.args.right s t lo m hi p q c.added-else-len.result c.added-else-len.ensures
