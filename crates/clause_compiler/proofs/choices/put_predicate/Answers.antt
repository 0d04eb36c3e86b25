use Rattle.std.proofs.Common.{◌∙◌, refl, sym, inl, inr}
use Rattle.std.proofs.lemmas.Result.{on_ok_weaker}
use Rattle.clause_code.specs.ClauseChoices.{list_of}
use Rattle.clause_compiler.proofs.choices.put_predicate.Goals as goal

pub returns-then-are_told_apart-clause-code : goal.returns-then-are_told_apart-clause-code
returns-then-are_told_apart-clause-code c =
    let told = sym c.are_told_apart.ensures ∙ c.if-are_told_apart.true in
    on_ok_weaker c.put_switch.result (λ h. (h.0, h.1, inr (told, h.2))) c.put_switch.ensures.code

pub returns-else-are_told_apart-clause-code : goal.returns-else-are_told_apart-clause-code
returns-else-are_told_apart-clause-code c =
    let alike = sym c.are_told_apart.ensures ∙ c.if-are_told_apart.false in
    on_ok_weaker c.put_list.result (λ e. (list_of c.args.clauses.now, e, inl (alike, refl))) c.put_list.ensures
