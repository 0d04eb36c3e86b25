use Rattle.std.proofs.Common.{◌≡◌, ◌∙◌, ◌+◌, ℕ, ◌∷◌, List, true, false, sym, ap}
use Rattle.std.specs.Prelude.{◌==◌, ◌&&◌}
use Rattle.std.specs.Char.{len_utf8}
use Rattle.std.specs.Str.{chars}
use Rattle.std.proofs.lemmas.Str.{chars_past_char}
use Rattle.fd_language.specs.Characters.{is_digit_of, past_run, run_size, digits_value, starts_with}
use Rattle.fd_language.specs.Tokens.{has_fraction, number_front}
use Rattle.char_tokens.specs.Views.{integer_of}
use Rattle.char_tokens.proofs.Runs.{run_here, past_here}
use Rattle.char_tokens.proofs.Digits.{decimal_float, decimal_code, decimal_number, behind_number}
use Rattle.char_tokens.proofs.number.decimal.Goals as goal

pub returns-then-has_fraction-clause-front : goal.returns-then-has_fraction-clause-front
returns-then-has_fraction-clause-front c =
    let later = chars c.args.behind.now in
    let past : chars c.digits-size.result.2.now ≡ past_run (is_digit_of 10) later =
    c.digits-size.ensures.past ∙ past_here (is_digit_of 10) c.args.text.now c.args.behind.now c.args.c c.utf8.text c.requires.split c.requires.digit in
    let h : has_fraction (past_run (is_digit_of 10) later) ≡ true = ap has_fraction (sym past) ∙ sym c.has_fraction.ensures ∙ c.if-has_fraction.true in
    sym (decimal_float c.args.c later h)

pub returns-clause-front : goal.returns-clause-front
returns-clause-front c =
    let later = chars c.args.behind.now in
    let past : chars c.digits-size.result.2.now ≡ past_run (is_digit_of 10) later =
    c.digits-size.ensures.past ∙ past_here (is_digit_of 10) c.args.text.now c.args.behind.now c.args.c c.utf8.text c.requires.split c.requires.digit in
    let h : has_fraction (past_run (is_digit_of 10) later) ≡ false = ap has_fraction (sym past) ∙ sym c.has_fraction.ensures ∙ c.if-has_fraction.false in
    let k : (c.args.c == 48 && starts_with 39 later) ≡ false = sym c.is_character_code.ensures ∙ c.if-is_character_code.false in
    let characters : chars c.args.text.now ≡ c.args.c ∷ later = chars_past_char c.args.text.now c.args.behind.now c.args.c c.utf8.text c.requires.split in
    let size : c.digits-size.result.0 ≡ len_utf8 c.args.c + run_size (is_digit_of 10) later =
    c.digits-size.ensures.size ∙ run_here (is_digit_of 10) c.args.text.now c.args.behind.now c.args.c c.utf8.text c.requires.split c.requires.digit in
    c.number.ensures (digits_value 10 0 (c.args.c ∷ later)) (c.digits-size.ensures.value ∙ ap (λ (cs : List ℕ). integer_of (digits_value 10 0 cs)) characters)
    ∙ ap (λ (n : ℕ). number_front (digits_value 10 0 (c.args.c ∷ later)) n) size
    ∙ sym (decimal_number c.args.c later h k)

pub returns-then-is_character_code-clause-front : goal.returns-then-is_character_code-clause-front
returns-then-is_character_code-clause-front c =
    let later = chars c.args.behind.now in
    let past : chars c.digits-size.result.2.now ≡ past_run (is_digit_of 10) later =
    c.digits-size.ensures.past ∙ past_here (is_digit_of 10) c.args.text.now c.args.behind.now c.args.c c.utf8.text c.requires.split c.requires.digit in
    let h : has_fraction (past_run (is_digit_of 10) later) ≡ false = ap has_fraction (sym past) ∙ sym c.has_fraction.ensures ∙ c.if-has_fraction.false in
    let k : (c.args.c == 48 && starts_with 39 later) ≡ true = sym c.is_character_code.ensures ∙ c.if-is_character_code.true in
    sym (decimal_code c.args.c later h k)

pub returns-clause-behind : goal.returns-clause-behind
returns-clause-behind c = behind_number c.args.text.now c.digits-size.result.2.now c.number.result (digits_value 10 0 (chars c.args.text.now))
    c.digits-size.result.0 (c.number.ensures (digits_value 10 0 (chars c.args.text.now)) c.digits-size.ensures.value) c.digits-size.ensures.within
    c.digits-size.ensures.rest
