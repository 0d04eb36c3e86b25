use Rattle.std.proofs.Common.{rules, vec_len, ◌≡◌, ◌∙◌, sym, ap, subst, length, map, true}
use Rattle.std.specs.List.{list_all}
use Rattle.fd_language.specs.declared.TheConstants.{INFINITY}
use Rattle.fd_model.specs.Queries.{is_shown}
use Rattle.fd_model.specs.Refusals.{form_of}
use Rattle.term_pool.specs.Contents.{atom_name}
use Rattle.term_pool.specs.PlacedTerms.{placed_of}
use Rattle.term_reader.specs.Sentences.{sentence_of}
use Rattle.answer_check.specs.FlatForm.{conjuncts, flat_goals}
use Rattle.answer_check.specs.Goals.{FindsGoals}
use Rattle.answer_check.specs.TermShapes.{IsBody}
use Rattle.answer_check.proofs.WholeQueries.{as_many, sentence_found}
use Rattle.answer_check.proofs.query.read_sentence.Goals as goal

pub returns-then-are_shown : goal.returns-then-are_shown
returns-then-are_shown c =
    let pool = c.args.pool.now in
    let s = sentence_of pool c.args.sentence.now in
    let names = c.args.sentence.now.names.items in
    let b = subst (IsBody pool c.args.sentence.now.term) c.in-Some.is c.body_of.ensures in
    let x = placed_of pool c.in-Some.body in
    let size : vec_len c.args.sentence.now.names ≡ length names = search rules in
    let goals = subst (λ n. FindsGoals (flat_goals INFINITY n (conjuncts x)) c.in_ok-goals.goals) (c.len.ensures ∙ size ∙ sym (as_many (atom_name pool) names)) c.in_ok-goals.ensures in
    let shown : list_all is_shown (map (atom_name pool) names) ≡ true = ap (λ ns. list_all is_shown (map (atom_name pool) ns)) (sym c.deref.ensures.value)
    ∙ sym c.are_shown.ensures ∙ c.if-are_shown.true in
    sentence_found s (form_of s.term) x c.in_ok-goals.goals b.1 goals shown
