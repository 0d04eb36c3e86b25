use Rattle.std.proofs.Common.{◌≡◌, List, map, sym, ap, ◌∙◌, subst}
use Rattle.term_pool.specs.declared.AtomId.{AtomId}
use Rattle.term_pool.specs.Contents.{atom_name}
use Rattle.term_pool.specs.PlacedTerms.{placed_of}
use Rattle.term_reader.specs.Sentences.{sentence_of}
use Rattle.text_warnings.specs.Warnings as model
use Rattle.text_warnings.specs.OpenVariables.{Passed, nothing_passed, with_given, outer_goals, warnings_behind, open_by, open_in_sentence}
use Rattle.text_warnings.specs.OpenViews.{IsPassed}
use Rattle.text_warnings.specs.WarningViews.{Adds}
use Rattle.text_warnings.proofs.WarningOrder.{on_ok}
use Rattle.text_warnings.proofs.open_variables.put_open_of.Goals as goal

pub returns-in_ok-give-in-Clause : goal.returns-in_ok-give-in-Clause
returns-in_ok-give-in-Clause c =
    let pool = c.args.pool.now in
    let names = c.as_slice-names.result.now in
    let passed = with_given nothing_passed (placed_of pool c.in-Clause.head) in
    let goals = outer_goals (placed_of pool c.in-Clause.body) in
    let old = c.args.warnings.now.items in
    let new = c.put_body-in-Clause.new.warnings.items in
    let is : open_in_sentence (sentence_of pool c.args.sentence.now) ≡ warnings_behind (map (atom_name pool) names) passed goals =
    ap (open_by (map (atom_name pool) c.args.sentence.now.names.items)) c.in-Clause.ensures.1
    ∙ ap (λ (l : List AtomId). warnings_behind (map (atom_name pool) l) passed goals) (sym c.as_slice-names.ensures.value) in
    on_ok c.put_body-in-Clause.result
    (λ (h : (s : Passed) → IsPassed s c.give.new.passed → Adds pool (warnings_behind (map (atom_name pool) names) s goals) old new).
    subst (λ (l : List model.Warning). Adds pool l old new) (sym is) (h passed (c.in_ok-give-in-Clause.ensures nothing_passed c.requires.passed)))
    c.put_body-in-Clause.ensures
