use Rattle.std.proofs.Common.{◌+◌, ◌∙◌, length, refl}
use Rattle.term_pool.specs.Terms.{term_of, terms_by}
use Rattle.clause_code.specs.Steps.{puts}
use Rattle.clause_code.proofs.LoadedArguments.{loaded}
use Rattle.clause_code.proofs.CodableTerms.{made_same}
use Rattle.clause_code.proofs.goals.load.Goals as goal

pub returns-clause-code : goal.returns-clause-code
returns-clause-code c =
    let w = c.in_ok-put_all.ensures in
    loaded c.args.pool.now c.args.homes.now c.args.code.now.items c.put_all.new.code.items c.push.new.self.items c.args.made.now.items c.put_all.new.made.items
    c.args.ids.now (length c.args.ids.now + 1) c.args.last refl w.writes c.in_ok-push.ensures.items

pub returns-clause-made : goal.returns-clause-made
returns-clause-made c = let w = c.in_ok-put_all.ensures in let k = w.writes in
    k.marks ∙ made_same c.args.made.now.items (puts c.args.pool.now 1 (length c.args.ids.now + 1) (terms_by (term_of c.args.pool.now) c.args.ids.now))
    c.requires.made
