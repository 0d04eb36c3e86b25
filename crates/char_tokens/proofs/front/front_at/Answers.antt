use Rattle.std.proofs.Common.{◌∙◌, sym, ap, arith}
use Rattle.std.specs.Str.{chars}
use Rattle.fd_language.specs.Tokens as model
use Rattle.char_tokens.specs.Views.{kind_of}
use Rattle.char_tokens.proofs.Leads.{led_as, both, ascii_first}
use Rattle.char_tokens.proofs.front.front_at.Goals as goal

pub integer-requires-clause-digit : goal.integer-requires-clause-digit
integer-requires-clause-digit c = (led_as c.args.c (chars c.args.behind.now) c.lead_of.ensures c.in-Digit.is).1

pub comment-requires-clause-slash : goal.comment-requires-clause-slash
comment-requires-clause-slash c =
    let k = both _ _ (led_as c.args.c (chars c.args.behind.now) c.lead_of.ensures c.in-Comment.is).1 in
    ascii_first 47 c.args.c c.args.text.now c.args.behind.now (omega arith) k.0 c.requires

pub comment-requires-clause-star : goal.comment-requires-clause-star
comment-requires-clause-star c = (both _ _ (led_as c.args.c (chars c.args.behind.now) c.lead_of.ensures c.in-Comment.is).1).1

pub quoted-requires : goal.quoted-requires
quoted-requires c = ascii_first 39 c.args.c c.args.text.now c.args.behind.now (omega arith) (led_as c.args.c (chars c.args.behind.now) c.lead_of.ensures c.in-Quote.is).1 c.requires

pub returns-in-Layout-clause-front : goal.returns-in-Layout-clause-front
returns-in-Layout-clause-front c = ap model.Gap c.len_utf8.ensures.value ∙ sym (led_as c.args.c (chars c.args.behind.now) c.lead_of.ensures c.in-Layout.is).0

pub returns-in-Line-clause-front : goal.returns-in-Line-clause-front
returns-in-Line-clause-front c = ap model.Gap c.run_behind-size.ensures.size ∙ sym (led_as c.args.c (chars c.args.behind.now) c.lead_of.ensures c.in-Line.is).0

pub returns-in-Digit-clause-front : goal.returns-in-Digit-clause-front
returns-in-Digit-clause-front c = c.integer.ensures.front ∙ sym (led_as c.args.c (chars c.args.behind.now) c.lead_of.ensures c.in-Digit.is).0

pub returns-in-Run-clause-front : goal.returns-in-Run-clause-front
returns-in-Run-clause-front c = ap (model.Token (kind_of c.in-Run.kind)) c.run_behind-size-in-Run.ensures.size ∙ sym (led_as c.args.c (chars c.args.behind.now) c.lead_of.ensures c.in-Run.is).0

pub returns-in-Comment-clause-front : goal.returns-in-Comment-clause-front
returns-in-Comment-clause-front c = c.comment.ensures.front ∙ sym (led_as c.args.c (chars c.args.behind.now) c.lead_of.ensures c.in-Comment.is).0

pub returns-in-Alone-clause-front : goal.returns-in-Alone-clause-front
returns-in-Alone-clause-front c = ap (model.Token (kind_of c.in-Alone.kind)) c.len_utf8-in-Alone.ensures.value ∙ sym (led_as c.args.c (chars c.args.behind.now) c.lead_of.ensures c.in-Alone.is).0

pub returns-in-Quote-clause-front : goal.returns-in-Quote-clause-front
returns-in-Quote-clause-front c = c.quoted.ensures.front ∙ sym (led_as c.args.c (chars c.args.behind.now) c.lead_of.ensures c.in-Quote.is).0

pub returns-in-Offends-clause-front : goal.returns-in-Offends-clause-front
returns-in-Offends-clause-front c = sym (led_as c.args.c (chars c.args.behind.now) c.lead_of.ensures c.in-Offends.is).0
