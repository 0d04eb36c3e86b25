use Rattle.std.proofs.Common.{refl, ap, w64}
use Rattle.std.proofs.lemmas.Int.{to_z-of_z}
use Rattle.fd_language.specs.PlacedTerm.{var, int}
use Rattle.fd_language.specs.ReadingSteps.{wanted}
use Rattle.term_reader.specs.declared.parser.Terminal.{Terminal}
use Rattle.term_reader.specs.View.{terminal_at}
use Rattle.term_reader.proofs.Moves.{operand_term, fits_natural, token_natural}
use Rattle.term_reader.proofs.parser.Parser.operand.Goals as goal

pub returns-in_ok-term-in-Variable : goal.returns-in_ok-term-in-Variable
returns-in_ok-term-in-Variable c =
    operand_term c.args.self.now _ c.in_ok-term-in-Variable.term (var c.in-Variable.number c.args.place) c.args.token c.args.place c.requires.whole c.in_ok-term-in-Variable.ensures refl refl refl
    (λ s. ap (λ (x : Terminal). wanted s (terminal_at c.args.self.now.pool c.args.place x)) c.in-Variable.is)

pub returns-in_ok-term-in-Integer : goal.returns-in_ok-term-in-Integer
returns-in_ok-term-in-Integer c =
    let same = to_z-of_z w64 c.in-Integer.value (fits_natural c.in-Integer.value
    (token_natural c.args.self.now.pool c.args.token c.in-Integer.tight c.in-Integer.value c.in-Integer.is c.requires.token)) in
    let added = rw same at c.in_ok-term-in-Integer.ensures in
    operand_term c.args.self.now _ c.in_ok-term-in-Integer.term (int c.in-Integer.value c.args.place) c.args.token c.args.place c.requires.whole added refl refl refl
    (λ s. ap (λ (x : Terminal). wanted s (terminal_at c.args.self.now.pool c.args.place x)) c.in-Integer.is)
