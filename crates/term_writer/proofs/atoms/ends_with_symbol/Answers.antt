use Rattle.std.proofs.Common.{◌≡◌, ◌∙◌, ap}
use Rattle.fd_language.specs.Characters.{is_symbol}
use Rattle.term_writer.proofs.Words.{ends_last}
use Rattle.term_writer.proofs.atoms.ends_with_symbol.Goals as goal

pub returns-in-Some : goal.returns-in-Some
returns-in-Some c =
    let same : c.from.result ≡ c.in-Some.byte.now = cc in
    c.is_symbol.ensures ∙ ap is_symbol same ∙ ends_last c.args.text.now c.in-Some.byte.now c.in-Some.ensures.value
