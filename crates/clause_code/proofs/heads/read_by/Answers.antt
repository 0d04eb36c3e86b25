use Rattle.std.proofs.Common.{◌∙◌}
use Rattle.term_pool.specs.Terms.{term_of, terms_by}
use Rattle.clause_code.specs.Steps.{gets}
use Rattle.clause_code.proofs.FramedClauses.{headed, unmade_long, filled_all}
use Rattle.clause_code.proofs.WrittenSteps.{writes_long}
use Rattle.clause_code.proofs.heads.read_by.Goals as goal

pub fill_all-requires : goal.fill_all-requires
fill_all-requires c =
    let w = c.in_ok-get_all.ensures in
    writes_long c.args.homes.now c.args.code.now.items c.get_all.new.code.items c.args.made.now.items c.get_all.new.made.items
    (gets c.args.pool.now 1 c.args.free (terms_by (term_of c.args.pool.now) c.args.ids.now)) w.writes
    ∙ unmade_long c.args.homes.now c.args.made.now.items c.requires.made

pub returns-clause-code : goal.returns-clause-code
returns-clause-code c =
    let w = c.in_ok-get_all.ensures in
    headed c.args.pool.now c.args.homes.now c.args.code.now.items c.get_all.new.code.items c.fill_all.new.code.items c.args.made.now.items
    c.get_all.new.made.items c.args.ids.now c.args.free c.requires.made w.writes c.in_ok-fill_all.ensures.codes

pub returns-clause-made : goal.returns-clause-made
returns-clause-made c = let w = c.in_ok-get_all.ensures in
    (filled_all c.args.homes.now c.get_all.new.made.items c.fill_all.new.made.items
    (writes_long c.args.homes.now c.args.code.now.items c.get_all.new.code.items c.args.made.now.items c.get_all.new.made.items
    (gets c.args.pool.now 1 c.args.free (terms_by (term_of c.args.pool.now) c.args.ids.now)) w.writes
    ∙ unmade_long c.args.homes.now c.args.made.now.items c.requires.made) c.in_ok-fill_all.ensures.marks).0

pub returns-clause-long : goal.returns-clause-long
returns-clause-long c = let w = c.in_ok-get_all.ensures in
    (filled_all c.args.homes.now c.get_all.new.made.items c.fill_all.new.made.items
    (writes_long c.args.homes.now c.args.code.now.items c.get_all.new.code.items c.args.made.now.items c.get_all.new.made.items
    (gets c.args.pool.now 1 c.args.free (terms_by (term_of c.args.pool.now) c.args.ids.now)) w.writes
    ∙ unmade_long c.args.homes.now c.args.made.now.items c.requires.made) c.in_ok-fill_all.ensures.marks).1
