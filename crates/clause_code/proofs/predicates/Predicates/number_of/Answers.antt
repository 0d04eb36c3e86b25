use Rattle.std.proofs.Common.{sym}
use Rattle.clause_code.proofs.Numbers.{if_found, if_absent}
use Rattle.clause_code.proofs.predicates.Predicates.number_of.Goals as goal

pub returns-clause-found : goal.returns-clause-found
returns-clause-found c = if_found c.get_index_of.result c.self.inside.functors.keys (record { name = c.args.name; arity = c.args.arity }) c.args.self.now
    (sym c.self.view_is) c.get_index_of.ensures.index

pub returns-clause-none : goal.returns-clause-none
returns-clause-none c = if_absent c.get_index_of.result c.self.inside.functors.keys (record { name = c.args.name; arity = c.args.arity }) c.args.self.now
    (sym c.self.view_is) c.get_index_of.ensures.index
