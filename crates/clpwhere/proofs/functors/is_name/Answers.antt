use Rattle.std.proofs.Common.{rules, ◌≡◌, ◌∙◌, subst, length}
use Rattle.char_tokens.specs.NextTokens.{IsNext}
use Rattle.char_tokens.specs.UnreadText.{Left}
use Rattle.char_tokens.specs.Views.{lexeme_of}
use Rattle.clpwhere.proofs.Names.{no_text, whole_name}
use Rattle.clpwhere.proofs.functors.is_name.Goals as goal

pub returns-in_default : goal.returns-in_default
returns-in_default c = no_text c.args.bytes.now c.in_default.ensures.cases.0

pub returns-then-token-text : goal.returns-then-token-text
returns-then-token-text c =
    let text = c.in-Ok.ensures.cases in
    let read = rw c.in-Ok-Some.field-0-is at c.in-Ok-Some.ensures.read in
    let next = subst (λ (s : Left). IsNext s c.next_token.new.self (lexeme_of c.in-Ok-Some.token)) c.new.ensures read in
    let long : length c.in-Ok-Some.token.text.now ≡ length c.in-Ok.text.now = search rules in
    c.is_name_kind.ensures ∙ whole_name c.args.bytes.now c.in-Ok.text.now c.next_token.new.self (lexeme_of c.in-Ok-Some.token) text.0 text.1 next long
