use Rattle.std.proofs.Common.{length, refl}
use Rattle.clause_code.proofs.Rests.{writes_get}
use Rattle.clause_code.proofs.terms.get_structure.Goals as goal

pub returns : goal.returns
returns c =
    writes_get c.args.pool.now c.args.homes.now c.args.code.now.items c.push.new.self.items c.unify_parts.new.code.items c.args.made.now.items
    c.unify_parts.new.made.items c.args.name c.args.parts.now (length c.args.parts.now) c.args.register c.args.free
    c.requires.pool c.requires.name refl c.in_ok-push.ensures.items c.in_ok-unify_parts.ensures
