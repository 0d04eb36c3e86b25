use Rattle.std.proofs.Common.{length}
use Rattle.term_pool.specs.Contents.{atom_name}
use Rattle.clause_code.proofs.Rests.{few_parts}
use Rattle.clause_code.proofs.frameless_clauses.put_arguments.Goals as goal

pub put_all-requires-clause-few : goal.put_all-requires-clause-few
put_all-requires-clause-few c = few_parts c.args.pool.now (length c.args.homes.now) c.args.t (atom_name c.args.pool.now c.in-Comp.field-0) c.in-Comp.parts.now c.in-Comp.ensures.term c.requires.own.1
