use Rattle.std.proofs.Common.{◌≡◌, refl, subst}
use Rattle.fd_language.specs.Reading.{syntax_fault, too_deep}
use Rattle.term_reader.specs.declared.reader.ReaderFault.TheVariants as reader
use Rattle.term_reader.specs.Sentences.{IsFaultOf}
use Rattle.clpwhere.proofs.warnings.why_unread.Goals as goal

pub returns-in-Token-clause-fault : goal.returns-in-Token-clause-fault
returns-in-Token-clause-fault c = λ text h. c.token_unread.ensures.fault text (subst (IsFaultOf text) c.in-Token.is h)

pub returns-in-Syntax-clause-fault : goal.returns-in-Syntax-clause-fault
returns-in-Syntax-clause-fault c =
    let p = c.in-Syntax.place in
    let is : c.args.fault ≡ reader.Syntax p = cc in
    λ text h. (syntax_fault p, subst (IsFaultOf text) is h, refl)

pub returns-in-TooDeep-clause-fault : goal.returns-in-TooDeep-clause-fault
returns-in-TooDeep-clause-fault c =
    let p = c.in-TooDeep.place in
    let is : c.args.fault ≡ reader.TooDeep p = cc in
    λ text h. (too_deep p, subst (IsFaultOf text) is h, refl)
