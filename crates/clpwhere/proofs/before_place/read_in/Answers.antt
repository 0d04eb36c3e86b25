use Rattle.std.proofs.Common.{◌∙◌, sym, subst, length}
use Rattle.char_tokens.specs.Views.{lexeme_of}
use Rattle.char_tokens.proofs.Lemmas.{next_shorter}
use Rattle.clpwhere.specs.declared.before_place.Before.TheVariants.{Unclear}
use Rattle.clpwhere.specs.declared.before_place.Passed.{Passed}
use Rattle.clpwhere.specs.BeforePlace.{at_end, at_token}
use Rattle.clpwhere.proofs.BeforePlace.{Tells, tells_before, tells_next, tells_refused, tells_tokens, whole}
use Rattle.clpwhere.proofs.before_place.read_in.Goals as goal

pub loop-token-smaller : goal.loop-token-smaller
loop-token-smaller c =
    let next = rw c.in-Ok-Some.field-0-is at c.in-Ok-Some.ensures.read in
    next_shorter c.loop-token.scanner c.next_token.new.self (lexeme_of c.in-Ok-Some.token) next

pub loop-token-preserved : goal.loop-token-preserved
loop-token-preserved c =
    let size = length c.args.text.now in
    let new = c.next_token.new.self in
    let next = rw c.in-Ok-Some.field-0-is at c.in-Ok-Some.ensures.read in
    λ b h. c.loop-token.invariant b (tells_next c.args.place size c.loop-token.last b c.loop-token.scanner new (lexeme_of c.in-Ok-Some.token) next c.if-token-place.true
    (subst (λ (last : Passed). Tells c.args.place size last new.place new.bytes b) c.read_token-last.ensures h))

pub returns-in-Ok-Some-2 : goal.returns-in-Ok-Some-2
returns-in-Ok-Some-2 c =
    let size = length c.args.text.now in
    let token = c.in-Ok-Some.token in
    let here = at_token c.args.place token.place token.text.now c.loop-token.last in
    let next = rw c.in-Ok-Some.field-0-is at c.in-Ok-Some.ensures.read in
    c.at_token.ensures
    ∙ sym (whole c.args.text.now c.args.place here (c.loop-token.invariant here
    (tells_before c.args.place size c.loop-token.last c.loop-token.scanner c.next_token.new.self (lexeme_of token) next c.if-token-place.false)))

pub returns-in-Ok-None : goal.returns-in-Ok-None
returns-in-Ok-None c =
    let size = length c.args.text.now in
    let here = at_end c.args.place size c.loop-token.last in
    let none = rw c.in-Ok-None.field-0-is at c.in-Ok-None.ensures.read in
    c.at_end.ensures ∙ sym (whole c.args.text.now c.args.place here (c.loop-token.invariant here (tells_tokens c.args.place size c.loop-token.last none.0)))

pub returns-in-Err : goal.returns-in-Err
returns-in-Err c =
    let size = length c.args.text.now in
    sym (whole c.args.text.now c.args.place Unclear (c.loop-token.invariant Unclear (tells_refused c.args.place size c.loop-token.last c.loop-token.scanner _ c.in-Err.ensures.fault)))
