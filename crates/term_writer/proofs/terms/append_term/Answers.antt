use Rattle.std.proofs.Common.{◌≡◌, ◌∙◌, ℕ, List, ap, subst, sym}
use Rattle.std.specs.Prelude.{All}
use Rattle.std.proofs.lemmas.List.Elements.{All-nil}
use Rattle.std.proofs.lemmas.Result.{on_ok_weaker}
use Rattle.fd_language.specs.TermTexts.{term_text}
use Rattle.term_pool.specs.Terms.{term_of}
use Rattle.term_writer.specs.Pieces.{joined, finished, IsOf}
use Rattle.term_writer.specs.Views.{mode_of, text_in, text_of}
use Rattle.term_writer.proofs.terms.append_term.Goals as goal

pub write_all-requires-clause-pieces : goal.write_all-requires-clause-pieces
write_all-requires-clause-pieces c = subst (All (IsOf c.args.pool.now)) (sym c.new-ahead.ensures.items) (All-nil (IsOf c.args.pool.now))

pub returns : goal.returns
unfolding finished
returns c =
    let pool = c.args.pool.now in
    let mode = mode_of c.args.mode in
    let names = text_in c.in_ok-names.names in
    let same : names ≡ text_of c.args.vars.now = λ j x. c.in_ok-names.ensures x j in
    on_ok_weaker c.write_all.result (λ e. e
    ∙ ap (finished pool mode names (joined c.args.text.now.items (term_text mode names c.args.limit (term_of pool c.args.t)))) c.new-ahead.ensures.items
    ∙ ap (λ (v : ℕ → List ℕ). joined c.args.text.now.items (term_text mode v c.args.limit (term_of pool c.args.t))) same) c.write_all.ensures
