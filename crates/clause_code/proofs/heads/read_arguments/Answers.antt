use Rattle.std.proofs.Common.{◌≡◌, ◌+◌, ◌++◌, suc, length, subst, arith, OnOk}
use Rattle.term_pool.specs.Terms.{term_of, terms_by}
use Rattle.fd_language.specs.Term.{term_count}
use Rattle.clause_code.specs.ClauseParts.{head_code}
use Rattle.clause_code.proofs.Rests.{count_terms}
use Rattle.clause_code.proofs.heads.read_arguments.Goals as goal

pub returns-clause-code : goal.returns-clause-code
returns-clause-code c =
    let ts = terms_by (term_of c.args.pool.now) c.args.ids.now in
    let k = count_terms (term_of c.args.pool.now) c.args.ids.now in
    let free : length c.args.ids.now + 1 ≡ suc (term_count ts) = omega (arith, k) in
    subst (λ n. OnOk c.read_by.result (c.read_by.new.code.items ≡ c.args.code.now.items ++ head_code c.args.pool.now c.args.homes.now n ts)) free c.read_by.ensures.code
