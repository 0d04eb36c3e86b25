use Rattle.std.proofs.Common.{rules, ◌≡◌, ◌∙◌, ap, sym, refl, pos, [], ◌∷◌, ◌++◌, SFits, to_z-of_z}
use mir.Syntax.{w128}
use Rattle.std.specs.Option.{unwrap_or}
use Rattle.fd_language.proofs.Lemmas.{two}
use Rattle.range_code.specs.Instructions.{operator_of}
use Rattle.range_code.specs.Work.{operated}
use Rattle.range_code.proofs.StackTops.{last_popped}
use Rattle.range_code.proofs.work.Work.take_terms.Goals as goal

pub operate-requires : goal.operate-requires
operate-requires c =
    let f : SFits w128 c.in-Some-pop.a = search rules in
    let h : SFits w128 c.in-Some.b = search rules in
    simp to_z-of_z (c.requires c.pop-in-Some.new.self.items c.in-Some-pop.a c.in-Some.b (c.in-Some.ensures.items ∙ ap (λ l. l ++ c.in-Some.b ∷ []) c.in-Some-pop.ensures.items))

pub returns-in-Some-pop-clause-taken : goal.returns-in-Some-pop-clause-taken
returns-in-Some-pop-clause-taken c front a b values =
    let f : SFits w128 c.in-Some-pop.a = search rules in
    let h : SFits w128 c.in-Some.b = search rules in
    let r : SFits w128 c.operate.result = search rules in
    let k = last_popped c.args.self.now.values.items c.pop.new.self.items (front ++ a ∷ []) b _ c.pop.result c.pop.ensures.items c.pop.ensures.variant c.pop.ensures.rest values in
    let j = last_popped c.pop.new.self.items c.pop-in-Some.new.self.items front a _ c.pop-in-Some.result c.pop-in-Some.ensures.items c.pop-in-Some.ensures.variant c.pop-in-Some.ensures.rest k.1 in
    let low : c.in-Some-pop.a ≡ a = sym (ap (λ o. unwrap_or o (pos 0)) c.in-Some-pop.is) ∙ j.0 in
    let high : c.in-Some.b ≡ b = sym (ap (λ o. unwrap_or o (pos 0)) c.in-Some.is) ∙ k.0 in
    let e : c.operate.result ≡ operated (operator_of c.args.instr) c.in-Some-pop.a c.in-Some.b = simp to_z-of_z at c.operate.ensures in
    (simp to_z-of_z at c.push_reserved.ensures.items ∙ two (λ l z. l ++ z ∷ []) j.1 (e ∙ two (operated (operator_of c.args.instr)) low high), refl)
