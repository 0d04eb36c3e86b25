use Rattle.std.proofs.Common.{rules, ◌≡◌, ◌++◌, ◌∙◌, ℕ, List, [], ap, subst}
use Rattle.std.proofs.lemmas.List.{append-nil}
use Rattle.fd_language.specs.Variables.{variables_of, distinct}
use Rattle.fd_language.specs.TermTexts.{Plain, term_text}
use Rattle.term_pool.specs.Terms.{term_of}
use Rattle.term_writer.specs.declared.VarText.{VarText}
use Rattle.term_writer.specs.Views.{text_of}
use Rattle.answer_text.specs.Pieces.{inserted}
use Rattle.answer_text.specs.Variables.{GiveTexts, open_by, set_by}
use Rattle.answer_text.proofs.VariableNumbers.{numbers_of}
use Rattle.answer_text.proofs.Texts.{own_texts}
use Rattle.answer_text.proofs.answer.plain_text.Goals as goal

pub returns : goal.returns
returns c =
    let u = term_of c.args.pool.now c.args.t in
    let keys = c.texts_of.new.numbers.keys in
    let texts = c.in_ok-texts.texts.items in
    let own = distinct (variables_of u) in
    let vars = open_by (set_by c.args.sets.now) own in
    let none : c.args.numbers.now.keys ≡ [] = c.requires.numbers in
    let whole : keys ++ [] ≡ own =
    append-nil keys ∙ c.in_ok-texts.ensures.numbers ∙ ap (λ (ks : List ℕ). inserted ks (variables_of u)) none ∙ numbers_of u in
    let given : GiveTexts vars u texts = subst (λ (ks : List ℕ). GiveTexts (open_by (set_by c.args.sets.now) ks) u texts) whole (c.in_ok-texts.ensures.texts []) in
    let written : c.write_term.new.out.items ≡ term_text Plain (text_of c.deref.result.now) 1200 u = search rules in
    written
    ∙ ap (λ (vs : List VarText). term_text Plain (text_of vs) 1200 u) c.deref.ensures.value
    ∙ own_texts vars Plain 1200 u texts given
