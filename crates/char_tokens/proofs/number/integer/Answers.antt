use Rattle.std.proofs.Common.{◌≡◌, ◌∙◌, ◌+◌, ◌++◌, ◌∷◌, ℕ, List, ap, arith}
use Rattle.std.specs.Prelude.{encode_utf8}
use Rattle.std.specs.Str.{chars}
use Rattle.std.proofs.lemmas.Str.{encode_ascii}
use Rattle.fd_language.specs.Characters.{digits_value}
use Rattle.char_tokens.proofs.Runs.{at_first}
use Rattle.char_tokens.proofs.Digits.{behind_number, past_two}
use Rattle.char_tokens.proofs.number.integer.Goals as goal

pub returns-in-Some-clause-behind : goal.returns-in-Some-clause-behind
returns-in-Some-clause-behind c =
    let based = c.in-Some.ensures in
    let size = c.digits-size.result.0 in
    let zero : c.args.text.now ≡ 48 ∷ c.args.behind.now =
    c.requires.split ∙ ap (λ (d : ℕ). encode_utf8 d ++ c.args.behind.now) c.if-c-eq48.true ∙ ap (λ (l : List ℕ). l ++ c.args.behind.now) (encode_ascii 48 (omega arith)) in
    let at = at_first c.args.text.now c.args.behind.now 48 zero c.utf8.behind in
    let two = past_two c.args.text.now c.args.behind.now c.in-Some.rest.now c.digits-size.result.2.now size at based.behind based.within c.digits-size.ensures.rest c.digits-size.ensures.within in
    behind_number c.args.text.now c.digits-size.result.2.now c.number.result (digits_value c.in-Some.base 0 (chars c.in-Some.rest.now)) (2 + size)
    (c.number.ensures (digits_value c.in-Some.base 0 (chars c.in-Some.rest.now)) c.digits-size.ensures.value) two.0 two.1
