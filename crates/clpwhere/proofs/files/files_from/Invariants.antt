use Rattle.std.proofs.Common.{length}
use Rattle.clpwhere.proofs.FilePlaces.{HasPassed}
use Rattle.clpwhere.proofs.files.files_from.Given as goal

abbrev pub invariant-skipping : goal.invariant-skipping
invariant-skipping l = HasPassed l.files l.begin l.place l.rest l.at

abbrev pub decreases-skipping : goal.decreases-skipping
decreases-skipping l = length l.rest
