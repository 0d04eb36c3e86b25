use Rattle.std.proofs.Common.{◌++◌, ◌∙◌, ℕ, List, ap}
use Rattle.std.proofs.lemmas.Result.{on_ok_weaker}
use Rattle.fd_language.specs.TermTexts.{Quoted, term_text}
use Rattle.term_pool.specs.Terms.{term_of}
use Rattle.term_writer.specs.declared.VarText.{VarText}
use Rattle.term_writer.specs.Views.{text_of}
use Rattle.answer_text.specs.Variables.{open_by, set_by}
use Rattle.answer_text.proofs.Texts.{own_texts}
use Rattle.answer_text.proofs.answer.put_term.Goals as goal

pub returns-clause-text : goal.returns-clause-text
returns-clause-text c =
    let t = term_of c.args.pool.now c.args.t in
    let before = c.args.text.now.items in
    let texts = c.in_ok-texts.texts.items in
    on_ok_weaker c.write_term.result
    (λ written. λ more.
    let vars = open_by (set_by c.args.sets.now) (c.texts_of.new.numbers.keys ++ more) in
    written
    ∙ ap (λ (vs : List VarText). before ++ term_text Quoted (text_of vs) 699 t) c.deref.ensures.value
    ∙ ap (λ (l : List ℕ). before ++ l) (own_texts vars Quoted 699 t texts (c.in_ok-texts.ensures.texts more)))
    c.write_term.ensures.text
