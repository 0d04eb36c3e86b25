use Rattle.std.proofs.lemmas.List.{take_rest}
use Rattle.code_goals.proofs.ranges.behind_first.Goals as goal

pub returns : goal.returns
returns c = take_rest c.args.cells.now 1
