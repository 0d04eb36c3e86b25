use Rattle.fd_language.specs.declared.TheConstants.{INFINITY}
use Rattle.range_code.proofs.Forms.{greatest_limit}
use Rattle.range_code.proofs.form.end_of.Goals as goal

pub returns-in-Greatest-clause-limit : goal.returns-in-Greatest-clause-limit
returns-in-Greatest-clause-limit c = greatest_limit INFINITY c.args.domain.now c.greatest.result c.greatest.ensures.rising c.greatest.ensures.greatest
