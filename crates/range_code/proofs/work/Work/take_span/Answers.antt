use Rattle.std.proofs.Common.{rules, ◌≡◌, ◌∙◌, ap, sym, pos, [], ◌∷◌, ◌++◌, SFits, to_z-of_z}
use mir.Syntax.{w128}
use Rattle.std.specs.Option.{unwrap_or}
use Rattle.fd_language.proofs.Lemmas.{two}
use Rattle.domain_ranges.specs.Narrowing.{between}
use Rattle.range_code.proofs.StackTops.{last_popped}
use Rattle.range_code.proofs.work.Work.take_span.Goals as goal

pub returns-in_ok-push_interval-clause-taken : goal.returns-in_ok-push_interval-clause-taken
returns-in_ok-push_interval-clause-taken c front a b values =
    let f : SFits w128 c.in-Some-pop.a = search rules in
    let h : SFits w128 c.in-Some.b = search rules in
    let k = last_popped c.args.self.now.values.items c.pop.new.self.items (front ++ a ∷ []) b _ c.pop.result c.pop.ensures.items c.pop.ensures.variant c.pop.ensures.rest values in
    let j = last_popped c.pop.new.self.items c.pop-in-Some.new.self.items front a _ c.pop-in-Some.result c.pop-in-Some.ensures.items c.pop-in-Some.ensures.variant c.pop-in-Some.ensures.rest k.1 in
    let low : c.in-Some-pop.a ≡ a = sym (ap (λ o. unwrap_or o (pos 0)) c.in-Some-pop.is) ∙ j.0 in
    let high : c.in-Some.b ≡ b = sym (ap (λ o. unwrap_or o (pos 0)) c.in-Some.is) ∙ k.0 in
    let pushed : c.push_interval.new.self.sets ≡ between c.in-Some-pop.a c.in-Some.b ∷ c.args.self.now.sets.sets = simp to_z-of_z at c.in_ok-push_interval.ensures.pushed in
    (j.1, pushed ∙ ap (λ s. s ∷ c.args.self.now.sets.sets) (two between low high))
