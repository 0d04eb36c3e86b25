use Rattle.term_pool.specs.Contents.{atom_name}
use Rattle.clause_code.proofs.Rests.{opens}
use Rattle.clause_code.proofs.terms.open.Goals as goal

pub returns-in_ok-push_compounds : goal.returns-in_ok-push_compounds
returns-in_ok-push_compounds c =
    opens c.args.pool.now c.args.id c.args.register c.args.free (atom_name c.args.pool.now c.in-Comp.field-0) c.in-Comp.parts.now c.in_ok-next.next
    c.args.works.now.items c.push.new.self.items c.push_compounds.new.works.items c.requires
    c.in-Comp.ensures.term c.in_ok-next.ensures c.in_ok-push.ensures.items c.in_ok-push_compounds.ensures
