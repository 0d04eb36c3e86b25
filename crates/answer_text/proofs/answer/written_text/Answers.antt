use Rattle.std.proofs.Common.{◌≡◌, ◌∙◌, ℕ, [], ◌∷◌, List, length, map, arith, sym, ap, subst, slice_index_or}
use Rattle.std.proofs.lemmas.Result.{IfOk-weaker}
use Rattle.fd_language.specs.Term.{Term, no_terms, term}
use Rattle.fd_language.specs.Variables.{variables_of, distinct}
use Rattle.fd_language.specs.TermTexts.{Plain, term_text}
use Rattle.machine_events.specs.Events.{set_in, variable_text, first_term}
use Rattle.term_pool.specs.declared.TermId.{TermId}
use Rattle.term_pool.specs.Terms.{term_of}
use Rattle.answer_text.specs.Variables.{HasSets, set_by}
use Rattle.answer_text.proofs.VariableNumbers.{variables_in, numbers_of, numbers_one}
use Rattle.answer_text.proofs.Texts.{text_by_same}
use Rattle.answer_text.proofs.answer.written_text.Goals as goal

only_term : (g : TermId → Term) (ids : List TermId) (t : TermId) → length ids ≡ 1 → t ≡ slice_index_or ids 0 t → first_term (map g ids) ≡ g t
only_term g [] t e f = absurd (omega arith)
only_term g (x ∷ ids) t e f = ap g (sym f)

pub returns : goal.returns
returns c =
    let shown = c.args.shown.now in
    let t = c.index.result.now in
    let u : Term = term_of shown.pool t in
    let only = only_term (term_of shown.pool) shown.terms.items t c.requires.0 c.index.ensures in
    let sets : HasSets shown.sets.items c.in_ok-sets.sets = subst (λ (l : List (ℕ × List ℕ)). HasSets l c.in_ok-sets.sets) c.deref.ensures.value c.in_ok-sets.ensures in
    let own : distinct (variables_of u) ≡ distinct (variables_in (u ∷ [])) = sym (numbers_of u) ∙ numbers_one u in
    IfOk-weaker c.plain_text.result _ _
    (λ text e. e
    ∙ text_by_same (set_by c.in_ok-sets.sets) (set_in shown.sets.items) (distinct (variables_of u)) (distinct (variables_in (u ∷ []))) Plain 1200 u sets own
    ∙ ap (λ (x : Term). term_text Plain (variable_text shown (term x no_terms)) 1200 x) (sym only))
    c.plain_text.ensures
