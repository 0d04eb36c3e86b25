use Rattle.std.proofs.Common.{length}
use Rattle.term_pool.specs.Contents.{atom_name}
use Rattle.clause_code.proofs.Rests.{few_parts}
use Rattle.clause_code.proofs.terms.close.Goals as goal

pub put_structure-requires-clause-few : goal.put_structure-requires-clause-few
put_structure-requires-clause-few c = few_parts c.args.pool.now (length c.args.homes.now) c.args.id (atom_name c.args.pool.now c.in-Comp.name)
    c.in-Comp.parts.now c.in-Comp.ensures.term c.requires.suits
