use Rattle.std.proofs.Common.{rules, ◌≤◌, ◌≤ℤ◌, ◌<ℤ◌, pos, nat_abs, sym, subst, SFits}
use mir.Syntax.{w64}
use Rattle.range_code.specs.PairedSums.{width_of_pairing}
use Rattle.range_code.proofs.PairedSums.{down_none, down_one}
use Rattle.range_code.proofs.told_forms.Pairing.quotient_down.Goals as goal

pub returns-then-extreme-lt0 : goal.returns-then-extreme-lt0
returns-then-extreme-lt0 g c =
    let f : SFits w64 c.extreme.result = search rules in
    let below : c.extreme.result <ℤ pos 0 = search rules in
    sym (down_none _ (width_of_pairing c.args.self) (subst (λ z. z <ℤ pos 0) c.extreme.ensures.value below)
    (subst (λ z. nat_abs z ≤ width_of_pairing c.args.self) c.extreme.ensures.value c.extreme.ensures.limit))

pub returns-else-extreme-lt0 : goal.returns-else-extreme-lt0
returns-else-extreme-lt0 g c =
    let f : SFits w64 c.extreme.result = search rules in
    let above : pos 0 ≤ℤ c.extreme.result = search rules in
    sym (down_one _ (width_of_pairing c.args.self) (subst (λ z. pos 0 ≤ℤ z) c.extreme.ensures.value above)
    (subst (λ z. nat_abs z ≤ width_of_pairing c.args.self) c.extreme.ensures.value c.extreme.ensures.limit))
