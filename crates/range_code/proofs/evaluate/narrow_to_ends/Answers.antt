use Rattle.std.proofs.Common.{rules, SFits, to_z-of_z, ◌∙◌, ap, ◌∷◌, ◌++◌, []}
use mir.Syntax.{w128}
use Rattle.domain_ranges.specs.Narrowing.{between}
use Rattle.range_code.proofs.Forms.{narrows_same}
use Rattle.range_code.proofs.evaluate.narrow_to_ends.Goals as goal

pub returns-clause-narrowed : goal.returns-clause-narrowed
returns-clause-narrowed c a b values =
    let f : SFits w128 c.pop_value-low.result = search rules in
    let h : SFits w128 c.pop_value-high.result = search rules in
    let high = c.pop_value-high.ensures.taken ([] ++ a ∷ []) b values in
    let low = c.pop_value-low.ensures.taken [] a high.1 in
    narrows_same c.narrowed_to.result c.args.target.now (between c.pop_value-low.result c.pop_value-high.result) (between a b)
    (ap (λ z. between z c.pop_value-high.result) low.0 ∙ ap (between a) high.0) (simp to_z-of_z at c.narrowed_to.ensures.narrowed)
