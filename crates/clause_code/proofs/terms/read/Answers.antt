use Rattle.std.proofs.Common.{length}
use Rattle.term_pool.specs.Contents.{atom_name}
use Rattle.clause_code.proofs.Rests.{few_parts, turns_read}
use Rattle.clause_code.proofs.terms.read.Goals as goal

pub get_structure-requires-clause-few : goal.get_structure-requires-clause-few
get_structure-requires-clause-few c = few_parts c.args.pool.now (length c.args.homes.now) c.args.id (atom_name c.args.pool.now c.in-Comp.name)
    c.in-Comp.parts.now c.in-Comp.ensures.term c.requires.suits

pub returns-in_ok-push_compounds : goal.returns-in_ok-push_compounds
returns-in_ok-push_compounds c =
    turns_read c.args.pool.now c.args.homes.now c.args.id c.args.register c.args.free (atom_name c.args.pool.now c.in-Comp.name) c.in-Comp.parts.now
    c.in_ok-next.next c.args.works.now.items c.push_compounds.new.works.items
    c.args.code.now.items c.get_structure.new.code.items c.args.made.now.items c.get_structure.new.made.items c.in-Comp.ensures.term c.requires.suits
    c.requires.works c.in_ok-next.ensures c.in_ok-get_structure.ensures c.in_ok-push_compounds.ensures
