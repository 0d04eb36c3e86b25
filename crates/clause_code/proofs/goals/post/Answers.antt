use Rattle.std.proofs.Common.{◌+◌, ◌∙◌, length, refl}
use Rattle.term_pool.specs.Terms.{term_of}
use Rattle.clause_code.specs.SimpleGoals.{variables}
use Rattle.clause_code.specs.Steps.{put, puts}
use Rattle.clause_code.proofs.LoadedArguments.{posted, posted_made}
use Rattle.clause_code.proofs.WrittenSteps.{writes_long}
use Rattle.clause_code.proofs.goals.post.Goals as goal

pub load_slots-requires-clause-long : goal.load_slots-requires-clause-long
load_slots-requires-clause-long c =
    let w = c.in_ok-put.ensures in
    writes_long c.args.homes.now c.args.code.now.items c.put.new.code.items c.args.made.now.items c.put.new.made.items
    (put c.args.pool.now 1 (length c.args.slots.now + 2) (term_of c.args.pool.now c.args.t)) w.writes ∙ c.requires.long

pub returns-clause-code : goal.returns-clause-code
returns-clause-code c =
    let w = c.in_ok-put.ensures in
    posted c.args.pool.now c.args.slots.now c.args.homes.now c.args.code.now.items c.put.new.code.items c.load_slots.new.code.items c.push.new.self.items
    c.args.made.now.items c.put.new.made.items c.load_slots.new.made.items c.args.t c.args.r (length c.args.slots.now + 1)
    (length c.args.slots.now + 2) refl
    w.writes c.in_ok-load_slots.ensures c.in_ok-push.ensures.items

pub returns-clause-made : goal.returns-clause-made
returns-clause-made c =
    let w = c.in_ok-put.ensures in
    let v = c.in_ok-load_slots.ensures in
    posted_made c.args.made.now.items c.put.new.made.items c.load_slots.new.made.items
    (put c.args.pool.now 1 (length c.args.slots.now + 2) (term_of c.args.pool.now c.args.t))
    (puts c.args.pool.now 2 (length c.args.slots.now + 2) (variables c.args.slots.now)) c.requires.made w.writes.marks v.marks
