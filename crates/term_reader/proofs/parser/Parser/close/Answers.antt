use Rattle.std.proofs.Common.{◌≡◌, ◌∙◌, ◌-◌, refl, ap, sym, take, ℕ}
use Rattle.term_reader.specs.View.{closing_of, last_item}
use Rattle.term_reader.specs.declared.parser.Item.TheVariants as its
use Rattle.term_reader.specs.declared.parser.Terminal.TheVariants as tokens
use Rattle.term_reader.proofs.OpenBrackets.{on_top, moves_parenthesis}
use Rattle.term_reader.proofs.Closings.{ends, moves_nothing, moves_token, if_token, if_closed}
use Rattle.term_reader.proofs.parser.Parser.close.Goals as goal

pub returns-in-Nothing : goal.returns-in-Nothing
returns-in-Nothing c p =
    let o : last_item c.args.self.now.items.items ≡ c.top_item.result = sym (c.top_item.ensures ∙ ap last_item c.deref.ensures.value) in
    moves_nothing c.args.self.now _ c.args.term c.args.token (ap (λ o. closing_of o c.args.token) o ∙ sym c.closing_of.ensures ∙ c.in-Nothing.is) p

pub returns-in-Parenthesis : goal.returns-in-Parenthesis
returns-in-Parenthesis c p =
    let k = ends c.args.token (c.top_item.ensures ∙ ap last_item c.deref.ensures.value) c.closing_of.ensures c.in-Parenthesis.is in
    moves_token c.args.self.now _ c.args.term c.args.token tokens.Close p k.1
    (moves_parenthesis c.args.self.now _ c.args.term c.requires.whole c.requires.term (on_top c.args.self.now its.Parenthesis c.requires.whole k.0) refl refl
    (c.pop.ensures.rest ∙ ap (λ (n : ℕ). take (n - 1) c.args.self.now.items.items) c.args.self.now.items.ok.0) refl)

pub next_argument-requires-clause-top : goal.next_argument-requires-clause-top
next_argument-requires-clause-top c = let k = ends c.args.token (c.top_item.ensures ∙ ap last_item c.deref.ensures.value) c.closing_of.ensures c.in-Argument.is in k.0

pub returns-in-Argument : goal.returns-in-Argument
returns-in-Argument c =
    let k = ends c.args.token (c.top_item.ensures ∙ ap last_item c.deref.ensures.value) c.closing_of.ensures c.in-Argument.is in
    if_token c.next_argument.result c.args.self.now c.next_argument.new.self c.args.term c.args.token tokens.Comma k.1 c.next_argument.ensures

pub end_curly-requires-clause-top : goal.end_curly-requires-clause-top
end_curly-requires-clause-top c = let k = ends c.args.token (c.top_item.ensures ∙ ap last_item c.deref.ensures.value) c.closing_of.ensures c.in-Curly.is in k.0

pub returns-in-Curly : goal.returns-in-Curly
returns-in-Curly c =
    let k = ends c.args.token (c.top_item.ensures ∙ ap last_item c.deref.ensures.value) c.closing_of.ensures c.in-Curly.is in
    if_closed c.end_curly.result c.args.self.now c.end_curly.new.self c.args.term c.args.token tokens.CloseCurly k.1 c.end_curly.ensures (λ p. refl)

pub end_call-requires-clause-top : goal.end_call-requires-clause-top
end_call-requires-clause-top c = let k = ends c.args.token (c.top_item.ensures ∙ ap last_item c.deref.ensures.value) c.closing_of.ensures c.in-Call.is in k.0

pub returns-in-Call : goal.returns-in-Call
returns-in-Call c =
    let k = ends c.args.token (c.top_item.ensures ∙ ap last_item c.deref.ensures.value) c.closing_of.ensures c.in-Call.is in
    if_closed c.end_call.result c.args.self.now c.end_call.new.self c.args.term c.args.token tokens.Close k.1 c.end_call.ensures (λ p. refl)

pub end_list-requires-clause-top : goal.end_list-requires-clause-top
end_list-requires-clause-top c = let k = ends c.args.token (c.top_item.ensures ∙ ap last_item c.deref.ensures.value) c.closing_of.ensures c.in-List.is in k.0

pub returns-in-List : goal.returns-in-List
returns-in-List c =
    let k = ends c.args.token (c.top_item.ensures ∙ ap last_item c.deref.ensures.value) c.closing_of.ensures c.in-List.is in
    if_closed c.end_list.result c.args.self.now c.end_list.new.self c.args.term c.args.token tokens.CloseList k.1 c.end_list.ensures (λ p. refl)

pub begin_tail-requires-clause-top : goal.begin_tail-requires-clause-top
begin_tail-requires-clause-top c = let k = ends c.args.token (c.top_item.ensures ∙ ap last_item c.deref.ensures.value) c.closing_of.ensures c.in-Bar.is in k.0

pub returns-in-Bar : goal.returns-in-Bar
returns-in-Bar c =
    let k = ends c.args.token (c.top_item.ensures ∙ ap last_item c.deref.ensures.value) c.closing_of.ensures c.in-Bar.is in
    if_closed c.begin_tail.result c.args.self.now c.begin_tail.new.self c.args.term c.args.token tokens.Bar k.1 c.begin_tail.ensures (λ p. refl)

pub end_tail-requires-clause-top : goal.end_tail-requires-clause-top
end_tail-requires-clause-top c = let k = ends c.args.token (c.top_item.ensures ∙ ap last_item c.deref.ensures.value) c.closing_of.ensures c.in-Tail.is in k.0

pub returns-in-Tail : goal.returns-in-Tail
returns-in-Tail c =
    let k = ends c.args.token (c.top_item.ensures ∙ ap last_item c.deref.ensures.value) c.closing_of.ensures c.in-Tail.is in
    if_closed c.end_tail.result c.args.self.now c.end_tail.new.self c.args.term c.args.token tokens.CloseList k.1 c.end_tail.ensures (λ p. refl)
