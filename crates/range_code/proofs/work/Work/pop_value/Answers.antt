use Rattle.std.proofs.Common.{rules, ◌∙◌, SFits, to_z-of_z}
use mir.Syntax.{w128}
use Rattle.range_code.proofs.StackTops.{last_popped}
use Rattle.range_code.proofs.work.Work.pop_value.Goals as goal

pub returns-clause-taken : goal.returns-clause-taken
returns-clause-taken c front a h =
    let f : SFits w128 c.unwrap_or.result = search rules in
    let k = last_popped c.args.self.now.values.items c.pop.new.self.items front a _ c.pop.result c.pop.ensures.items c.pop.ensures.variant c.pop.ensures.rest h in
    simp to_z-of_z (c.unwrap_or.ensures ∙ k.0, k.1)
