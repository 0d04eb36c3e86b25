use Rattle.fd_language.specs.declared.TheConstants.{INFINITY}
use Rattle.range_code.proofs.SetEnds.{differ}
use Rattle.range_code.proofs.frame.is_open.Goals as goal

pub returns : goal.returns
returns c = differ INFINITY c.args.domain.now c.least.result c.greatest.result c.least.ensures.rising c.least.ensures.least c.greatest.ensures.greatest
