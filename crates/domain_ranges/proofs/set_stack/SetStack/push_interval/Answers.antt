use Rattle.std.proofs.Common.{rules, ap, ◌∙◌, ◌∷◌, SFits, to_z-of_z}
use mir.Syntax.{w128}
use Rattle.std.proofs.lemmas.Result.{on_ok_weaker}
use Rattle.domain_ranges.proofs.StackedSets.{numbers_one, numbers_none}
use Rattle.domain_ranges.proofs.set_stack.SetStack.push_interval.Goals as goal

pub returns-in-Some-clause-pushed : goal.returns-in-Some-clause-pushed
returns-in-Some-clause-pushed c =
    let f : SFits w128 c.args.lo = search rules in
    let g : SFits w128 c.args.hi = search rules in
    on_ok_weaker c.put.result (λ e. e ∙ ap (λ l. l ∷ c.args.self.now.sets)
    (numbers_one c.in-Some.span c.args.lo c.args.hi (λ n l. simp to_z-of_z at (c.in-Some.ensures.same n l)))) c.put.ensures.pushed

pub returns-in-None-clause-pushed : goal.returns-in-None-clause-pushed
returns-in-None-clause-pushed c =
    let f : SFits w128 c.args.lo = search rules in
    let g : SFits w128 c.args.hi = search rules in
    on_ok_weaker c.put-in-None.result (λ e. e ∙ ap (λ l. l ∷ c.args.self.now.sets)
    (numbers_none c.args.lo c.args.hi (λ n l. simp to_z-of_z at (c.in-None.ensures.none n l)))) c.put-in-None.ensures.pushed
