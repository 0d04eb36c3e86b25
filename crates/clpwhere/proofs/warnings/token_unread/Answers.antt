use Rattle.std.proofs.Common.{ℕ, List, Some, sym, ap, subst}
use Rattle.fd_language.specs.Reading.{token_fault}
use Rattle.fd_model.specs.Refusals.{refused_at}
use Rattle.char_tokens.specs.Views.{cause_of}
use Rattle.char_tokens.specs.declared.token.TokenFault.{TokenFault}
use Rattle.term_reader.specs.declared.reader.ReaderFault.TheVariants.{Token}
use Rattle.term_reader.specs.Sentences.{IsFaultOf}
use Rattle.clpwhere.proofs.warnings.token_unread.Goals as goal

pub returns-in-At-clause-fault : goal.returns-in-At-clause-fault
returns-in-At-clause-fault c =
    let p = c.in-At.place in
    λ text h. (token_fault (cause_of c.in-At.cause) p, subst (λ (f : TokenFault). IsFaultOf text (Token f)) c.in-At.is h, ap (λ (w : List ℕ). Some (refused_at p w)) (sym c.token_reason.ensures))
