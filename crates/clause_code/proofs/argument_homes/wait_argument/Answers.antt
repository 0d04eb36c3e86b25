use Rattle.std.proofs.Common.{length, add-one}
use Rattle.clause_code.proofs.ArgumentHomes.{one_own, one_waits}
use Rattle.clause_code.proofs.argument_homes.wait_argument.Goals as goal

pub leave_all-requires-clause-own : goal.leave_all-requires-clause-own
leave_all-requires-clause-own c = one_own c.args.pool.now (length c.args.homes.now.items) c.args.terms.now.items c.push.new.self.items c.args.id
    c.requires.terms c.in_ok-push.ensures.items c.requires.own

pub returns-clause-waits : goal.returns-clause-waits
returns-clause-waits c =
    one_waits c.args.pool.now c.leave_all.new.homes.items c.args.terms.now.items c.push.new.self.items c.args.id _ c.args.register c.args.last c.requires.terms
    c.in_ok-push.ensures.items (add-one c.args.register) c.in_ok-leave_all.ensures.outside
