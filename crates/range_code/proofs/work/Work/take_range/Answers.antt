use Rattle.std.proofs.Common.{rules, ◌≡◌, ◌∙◌, ap, sym, subst, pos, ◌∷◌, SFits, to_z-of_z}
use mir.Syntax.{w128}
use Rattle.std.specs.Option.{unwrap_or}
use Rattle.std.proofs.lemmas.Result.{on_ok_weaker}
use Rattle.range_code.specs.Instructions.{operator_of}
use Rattle.range_code.specs.Steps.{moved}
use Rattle.range_code.proofs.StackTops.{last_popped}
use Rattle.range_code.proofs.work.Work.take_range.Goals as goal

pub returns-in-Some-clause-taken : goal.returns-in-Some-clause-taken
returns-in-Some-clause-taken c =
    let f : SFits w128 c.in-Some.c = search rules in
    on_ok_weaker c.move_last.result
    (λ moves before rest r a h g.
    let k = last_popped c.args.self.now.values.items c.pop.new.self.items before a _ c.pop.result c.pop.ensures.items c.pop.ensures.variant c.pop.ensures.rest h in
    let same : c.in-Some.c ≡ a = sym (ap (λ o. unwrap_or o (pos 0)) c.in-Some.is) ∙ k.0 in
    (ap (λ v. v.items) c.move_last.ensures.values ∙ k.1, subst (λ z. c.move_last.new.self.sets.sets ≡ moved (operator_of c.args.instr) r z ∷ rest) same (moves rest r g)))
    (simp to_z-of_z at c.move_last.ensures.moved)
