use Rattle.std.proofs.Common.{◌≡◌, ◌∙◌, ◌++◌, ℕ, List, Bool, cond, sym, ap}
use Rattle.fd_language.specs.TermTexts.{quoted_name}
use Rattle.term_writer.specs.Pieces.{joined}
use Rattle.term_writer.specs.Views.{mode_of, name_text}
use Rattle.term_writer.proofs.Joins.{join_quoted}
use Rattle.term_writer.proofs.atoms.append_name.Goals as goal

pub returns : goal.returns
returns c =
    let text = c.args.text.now.items in
    let name = c.args.name.now in
    let quoted : name_text (mode_of c.args.mode) c.args.before name ≡ quoted_name name = c.stands_bare.ensures ∙ ap (λ (b : Bool). cond b name (quoted_name name)) c.if-stands_bare.false in
    c.in_ok-append_quoted.ensures ∙ ap (λ (n : List ℕ). text ++ quoted_name n) c.as_bytes-2.ensures.value ∙ sym (join_quoted text name) ∙ ap (joined text) (sym quoted)
