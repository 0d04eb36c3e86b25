use Rattle.std.proofs.Common.{◌∙◌, List, subst, sym, set}
use Rattle.term_pool.specs.declared.AtomId.{AtomId}
use Rattle.term_reader.specs.VariableNumbers.{IsIndexed}
use Rattle.term_reader.proofs.VariableNumbers.{indexed_push}
use Rattle.term_reader.proofs.variables.Variables.add.Goals as goal

pub returns-clause-indexed : goal.returns-clause-indexed
returns-clause-indexed c =
    let k = c.in_ok-reach.ensures.kept in
    subst (λ (ns : List AtomId). IsIndexed c.args.self.now.anonymous ns (set c.reach.new.numbers.items c.args.name.number c.len-number.result)) (sym c.in_ok-push.ensures.items)
    (indexed_push c.args.self.now.anonymous c.args.self.now.names.items c.args.self.now.numbers.items c.reach.new.numbers.items k.0 c.args.name
    c.len-number.result c.requires.indexed c.requires.new k.1 c.in_ok-reach.ensures.reached (c.len-number.ensures ∙ c.args.self.now.names.ok.0))
