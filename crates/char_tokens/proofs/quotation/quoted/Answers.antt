use Rattle.std.proofs.Common.{◌≡◌, ◌∙◌, ◌+◌, ℕ, sym, ap, subst}
use Rattle.std.specs.Char.{len_utf8}
use Rattle.std.specs.Str.{chars}
use Rattle.fd_language.specs.Tokens.{Past, Broken, quoted_front}
use Rattle.char_tokens.specs.Views.{inside_of, cause_of}
use Rattle.char_tokens.proofs.Runs.{IsAt, at_next}
use Rattle.char_tokens.proofs.QuotedAtoms.{quoted_step, still_held}
use Rattle.fd_language.proofs.Lemmas.{front_past, front_broken}
use Rattle.char_tokens.proofs.quotation.quoted.Goals as goal

pub returns-in-Ends-clause-front : goal.returns-in-Ends-clause-front
returns-in-Ends-clause-front c =
    let size = c.loop-c.size in
    let later = chars c.in-Some.later.now in
    sym (front_past size (size + len_utf8 c.in-Some.c) later)
    ∙ sym (quoted_step (inside_of c.loop-c.place) (Past size) size c.in-Some.c later (chars c.loop-c.rest.now) c.in-Ends.ensures.step c.in-Some.ensures.characters)
    ∙ c.loop-c.invariant.same

pub returns-in-Offends-clause-front : goal.returns-in-Offends-clause-front
returns-in-Offends-clause-front c =
    let size = c.loop-c.size in
    let later = chars c.in-Some.later.now in
    sym (front_broken (cause_of c.in-Offends.cause) c.in-Offends.at (size + len_utf8 c.in-Some.c) later)
    ∙ sym (quoted_step (inside_of c.loop-c.place) (Broken (cause_of c.in-Offends.cause) c.in-Offends.at) size c.in-Some.c later (chars c.loop-c.rest.now)
    c.in-Offends.ensures.step c.in-Some.ensures.characters)
    ∙ c.loop-c.invariant.same

pub loop-c-preserved : goal.loop-c-preserved
loop-c-preserved c =
    let text = c.args.text.now in
    let i = c.loop-c.invariant in
    let size = c.loop-c.size in
    let later = chars c.in-Some.later.now in
    let n : c.len_utf8-size.result ≡ len_utf8 c.in-Some.c = c.len_utf8-size.ensures.value in
    let next = at_next text c.loop-c.rest.now c.in-Some.later.now size c.in-Some.c i.at c.in-Some.ensures.split.1 in
    record {
      utf8 = next.utf8;
      at = subst (λ (m : ℕ). IsAt text (size + m) c.in-Some.later.now) (sym n) next;
      held = still_held size c.len_utf8-size.result c.in-Stays.next c.in-Stays.ensures.bounded;
      same = ap (λ (m : ℕ). quoted_front (inside_of c.in-Stays.next) (size + m) later) n
          ∙ sym (quoted_step (inside_of c.loop-c.place) (inside_of c.in-Stays.next) size c.in-Some.c later (chars c.loop-c.rest.now) c.in-Stays.ensures.step c.in-Some.ensures.characters) ∙ i.same;
    }
