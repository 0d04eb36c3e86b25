use Rattle.std.proofs.Common.{◌∙◌}
use Rattle.clause_code.proofs.Rests.{turned, turned_lighter}
use Rattle.clause_code.proofs.WrittenSteps.{writes_long}
use Rattle.clause_code.proofs.terms.work_all.Goals as goal

pub loop-work-smaller : goal.loop-work-smaller
loop-work-smaller c =
    turned_lighter c.args.pool.now c.args.homes.now c.in-Some.work c.loop-work.works.items c.pop.new.self.items c.turn.new.works.items c.loop-work.code.items
    c.turn.new.code.items c.loop-work.made.items c.turn.new.made.items c.in-Some.ensures.items c.in_ok-turn.ensures

pub loop-work-preserved : goal.loop-work-preserved
loop-work-preserved c = record {
  owes =
      turned c.args.pool.now c.args.homes.now c.in-Some.work c.loop-work.works.items c.pop.new.self.items c.turn.new.works.items c.loop-work.code.items
      c.turn.new.code.items c.loop-work.made.items c.turn.new.made.items
      _ _ c.in-Some.ensures.items c.in_ok-turn.ensures c.loop-work.invariant.owes;
  works = let t = c.in_ok-turn.ensures in t.works;
  long = let t = c.in_ok-turn.ensures in writes_long c.args.homes.now c.loop-work.code.items c.turn.new.code.items c.loop-work.made.items c.turn.new.made.items
      t.steps t.writes ∙ c.loop-work.invariant.long;
}
