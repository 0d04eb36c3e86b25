use Rattle.std.proofs.Common.{[], subst, append-nil, true}
use Rattle.std.proofs.lemmas.Result.{err_from_is_err_and}
use Rattle.fd_language.specs.Tokens.{HasTokens}
use Rattle.fd_language.proofs.Lemmas.{tokens_are_slices, one_list, not_both}
use Rattle.char_tokens.specs.Views.{lexemes, lexeme_of}
use Rattle.char_tokens.specs.NextTokens.{HasRead}
use Rattle.char_tokens.proofs.NextTokens.{completes_more, lexemes-push, next_shorter, completed_fault, only_fault, no_list}
use Rattle.char_tokens.proofs.scanner.tokens.Goals as goal

pub returns-in_err-token-clause-fault : goal.returns-in_err-token-clause-fault
returns-in_err-token-clause-fault c =
    let p = err_from_is_err_and c.from_residual.result c.from_residual.ensures.1 in
    rw (p.1, p.2) (completed_fault c.args.text.now c.loop-found.scanner (lexemes c.loop-found.found.items) _ c.loop-found.invariant c.in_err-token.ensures.fault)

pub returns-in_err-token-clause-only_these : goal.returns-in_err-token-clause-only_these
returns-in_err-token-clause-only_these c =
    let p = err_from_is_err_and c.from_residual.result c.from_residual.ensures.1 in
    rw (p.1, p.2) (λ ts h. no_list c.args.text.now c.loop-found.scanner (lexemes c.loop-found.found.items) _ c.loop-found.invariant c.in_err-token.ensures.fault ts h)

pub returns-in_err-token-clause-only_this : goal.returns-in_err-token-clause-only_this
returns-in_err-token-clause-only_this c =
    let p = err_from_is_err_and c.from_residual.result c.from_residual.ensures.1 in
    rw (p.1, p.2) (λ cause place h. only_fault c.args.text.now c.loop-found.scanner (lexemes c.loop-found.found.items) _ c.loop-found.invariant c.in_err-token.ensures.fault cause place h)

pub loop-found-smaller : goal.loop-found-smaller
loop-found-smaller c =
    let h : HasRead c.loop-found.scanner c.next_token.new.self c.in_ok-token.field-0 = c.in_ok-token.ensures.read in
    let i = rw c.in-Some.is at h in
    next_shorter c.loop-found.scanner c.next_token.new.self (lexeme_of c.in-Some.token) i

pub loop-found-preserved : goal.loop-found-preserved
loop-found-preserved c =
    let h : HasRead c.loop-found.scanner c.next_token.new.self c.in_ok-token.field-0 = c.in_ok-token.ensures.read in
    let i = rw c.in-Some.is at h in
    rw (c.in_ok-push.ensures.items, lexemes-push c.loop-found.found.items c.in-Some.token)
    (completes_more c.args.text.now c.loop-found.scanner c.next_token.new.self (lexemes c.loop-found.found.items) (lexeme_of c.in-Some.token) i c.loop-found.invariant)

pub returns-clause-found : goal.returns-clause-found
returns-clause-found c =
    let h : HasRead c.loop-found.scanner c.next_token.new.self c.in_ok-token.field-0 = c.in_ok-token.ensures.read in
    let n = rw c.in_default.is at h in
    subst (HasTokens 0 true c.args.text.now) (append-nil (lexemes c.loop-found.found.items)) (c.loop-found.invariant.tokens [] n.0)

pub returns-clause-slices : goal.returns-clause-slices
returns-clause-slices c = tokens_are_slices c.args.text.now (lexemes c.loop-found.found.items) (returns-clause-found c)

pub returns-clause-only_these : goal.returns-clause-only_these
returns-clause-only_these c = λ ts h. one_list (returns-clause-found c) h

pub returns-clause-only_this : goal.returns-clause-only_this
returns-clause-only_this c = λ cause place h. not_both (returns-clause-found c) h
