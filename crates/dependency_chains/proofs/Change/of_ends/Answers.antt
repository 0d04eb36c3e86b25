use Rattle.std.proofs.Common.{refl}
use Rattle.dependency_chains.proofs.SetEnds.{change_by_ends}
use Rattle.dependency_chains.proofs.Change.of_ends.Goals as goal

pub returns : goal.returns
returns c old new a b l = change_by_ends old new c.args.before c.args.after _ refl refl refl a b l
