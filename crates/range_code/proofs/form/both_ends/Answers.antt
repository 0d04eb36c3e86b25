use Rattle.fd_language.specs.declared.TheConstants.{INFINITY}
use Rattle.range_code.proofs.Forms.{greatest_limit}
use Rattle.range_code.proofs.form.both_ends.Goals as goal

pub returns-in-Least-clause-other_limit : goal.returns-in-Least-clause-other_limit
returns-in-Least-clause-other_limit c = greatest_limit INFINITY c.args.domain.now c.greatest.result c.greatest.ensures.rising c.greatest.ensures.greatest

pub returns-in-Greatest-clause-one_limit : goal.returns-in-Greatest-clause-one_limit
returns-in-Greatest-clause-one_limit c = greatest_limit INFINITY c.args.domain.now c.greatest-in-Greatest.result c.greatest-in-Greatest.ensures.rising c.greatest-in-Greatest.ensures.greatest
