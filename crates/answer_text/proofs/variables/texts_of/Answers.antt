use Rattle.std.proofs.Common.{rules, ◌≡◌, ◌++◌, ◌∙◌, ℕ, true, [], List, sym, ap, subst}
use Rattle.std.proofs.lemmas.Result.{IfOk-equal, IfOk-weaker}
use Rattle.fd_language.specs.Family.{has}
use Rattle.fd_language.specs.Variables.{variables_of, distinct}
use Rattle.term_pool.specs.Terms.{term_of}
use Rattle.answer_text.specs.Pieces.{inserted}
use Rattle.answer_text.specs.Variables.{open_by, set_by, AreTexts, GiveTexts}
use Rattle.answer_text.proofs.VariableNumbers.{inserted_distinct, numbers_of}
use Rattle.fd_language.proofs.Lemmas.{has_distinct}
use Rattle.answer_text.proofs.Texts.{texts_found}
use Rattle.answer_text.proofs.variables.texts_of.Goals as goal

pub returns-clause-numbers : goal.returns-clause-numbers
returns-clause-numbers c =
    let t = term_of c.args.pool.now c.args.t in
    let numbers = c.args.numbers.now.keys in
    let none : c.new-own.result.keys ≡ [] = search rules in
    let own : c.as_slice.result.now ≡ distinct (variables_of t) =
    c.as_slice.ensures.keys ∙ c.in_ok-put_variables.ensures ∙ ap (λ (ks : List ℕ). inserted ks (variables_of t)) none ∙ numbers_of t in
    IfOk-equal c.variable_texts.result _ _ _ c.variable_texts.ensures.numbers
    (ap (inserted numbers) own ∙ inserted_distinct numbers (variables_of t))

pub returns-clause-texts : goal.returns-clause-texts
returns-clause-texts c =
    let t = term_of c.args.pool.now c.args.t in
    let keys = c.variable_texts.new.numbers.keys in
    let own = c.as_slice.result.now in
    let none : c.new-own.result.keys ≡ [] = search rules in
    let all : own ≡ distinct (variables_of t) =
    c.as_slice.ensures.keys ∙ c.in_ok-put_variables.ensures ∙ ap (λ (ks : List ℕ). inserted ks (variables_of t)) none ∙ numbers_of t in
    IfOk-weaker c.variable_texts.result
    (λ texts. (more : List ℕ) → AreTexts (open_by (set_by c.args.sets.now) (keys ++ more)) own texts.items)
    (λ texts. (more : List ℕ) → GiveTexts (open_by (set_by c.args.sets.now) (keys ++ more)) t texts.items)
    (λ texts h more y known.
    texts_found (open_by (set_by c.args.sets.now) (keys ++ more)) own texts.items y
    (h more) (subst (λ (l : List ℕ). has l y ≡ true) (sym all) (has_distinct (variables_of t) y known)))
    c.variable_texts.ensures.texts
