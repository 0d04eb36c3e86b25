use Rattle.std.proofs.Common.{◌≡◌, ◌+◌, ◌∙◌, ◌∷◌, ℕ, List, Option, true, sym, ap, subst, arith}
use Rattle.std.specs.Char.{len_utf8, digit_value}
use Rattle.std.specs.Str.{chars}
use Rattle.std.proofs.lemmas.Str.{chars_past_char}
use Rattle.std.proofs.lemmas.Bool.{lt-ltb}
use Rattle.fd_language.specs.Characters.{is_digit_of}
use Rattle.char_tokens.specs.Views.{next_integer}
use Rattle.char_tokens.proofs.Runs.{IsAt, at_next, run_here, past_here}
use Rattle.char_tokens.proofs.Digits.{SoFar, so_far_step, NoDigit, no_digit_none, no_digit_other, value_read}
use Rattle.char_tokens.proofs.number.digits.Goals as goal
use Rattle.char_tokens.proofs.number.digits.Goals.{in-Some+in_default-to_digit, in_default}

no_digit : (c : goal.After-rest-1) → NoDigit c.args.base (chars c.loop-c.rest.now)
no_digit c =
    elim c.match-first_char.branch [
      | in-Some+in_default-to_digit w ↦ no_digit_other c.args.base c.loop-c.rest.now w.in-Some.behind.now w.in-Some.c c.loop-c.invariant.utf8
          w.in-Some.ensures.split.1 (omega (arith, w.in_default-to_digit.ensures.value))
      | in_default w ↦ no_digit_none c.args.base c.loop-c.rest.now w.in_default.ensures.split
    ]

pub loop-c-preserved : goal.loop-c-preserved
loop-c-preserved c =
    let base = c.args.base in
    let i = c.loop-c.invariant in
    let split = c.in-Some.ensures.split.1 in
    let h : is_digit_of base c.in-Some.c ≡ true = lt-ltb (digit_value c.in-Some.c) base c.in-Some-to_digit.ensures.value.0 in
    let digit : c.in-Some-to_digit.digit ≡ digit_value c.in-Some.c = c.in-Some-to_digit.ensures.value.1 in
    let n : c.len_utf8-size.result ≡ len_utf8 c.in-Some.c = c.len_utf8-size.ensures.value in
    let next = at_next c.args.text.now c.loop-c.rest.now c.in-Some.behind.now c.loop-c.size c.in-Some.c i.at split in
    let before : SoFar base c.loop-c.value (c.in-Some.c ∷ chars c.in-Some.behind.now) (chars c.args.text.now) =
    subst (λ (cs : List ℕ). SoFar base c.loop-c.value cs (chars c.args.text.now)) (chars_past_char c.loop-c.rest.now c.in-Some.behind.now c.in-Some.c i.utf8 split) i.value in
    let after = so_far_step base c.loop-c.value c.in-Some.c (chars c.in-Some.behind.now) (chars c.args.text.now) (omega arith) h before in
    record {
      utf8 = next.utf8;
      at = subst (λ (m : ℕ). IsAt c.args.text.now (c.loop-c.size + m) c.in-Some.behind.now) (sym n) next;
      size = omega (arith, i.size, run_here (is_digit_of base) c.loop-c.rest.now c.in-Some.behind.now c.in-Some.c i.utf8 split h, n);
      past = sym (past_here (is_digit_of base) c.loop-c.rest.now c.in-Some.behind.now c.in-Some.c i.utf8 split h) ∙ i.past;
      value = subst (λ (o : Option ℕ). SoFar base o (chars c.in-Some.behind.now) (chars c.args.text.now))
          (sym (c.next_integer-value.ensures ∙ ap (λ (d : ℕ). next_integer base c.loop-c.value d) digit)) after;
    }

pub returns-clause-size : goal.returns-clause-size
returns-clause-size c = let n = no_digit c in omega (arith, c.loop-c.invariant.size, n.size)

pub returns-clause-value : goal.returns-clause-value
returns-clause-value c = value_read c.args.base c.loop-c.value (chars c.loop-c.rest.now) (chars c.args.text.now) (no_digit c) c.loop-c.invariant.value

pub returns-clause-past : goal.returns-clause-past
returns-clause-past c = let n = no_digit c in sym n.past ∙ c.loop-c.invariant.past
