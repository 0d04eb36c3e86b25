use Rattle.std.proofs.Common.{◌≡◌, ◌∙◌, sym, true}
use Rattle.std.specs.Prelude.{is_some}
use Rattle.std.proofs.lemmas.Result.{err_from_is_err_and}
use Rattle.char_tokens.proofs.NextTokens.{next_shorter, read_some, decides_more, decided_fault}
use Rattle.char_tokens.proofs.scanner.Scanner.finish.Goals as goal

pub returns-in_err-next_token-clause-fault : goal.returns-in_err-next_token-clause-fault
returns-in_err-next_token-clause-fault c = let p = err_from_is_err_and c.from_residual.result c.from_residual.ensures.1 in
    rw (p.1, p.2) (decided_fault c.args.self c.loop.scanner _ c.loop.invariant c.in_err-next_token.ensures.fault)

pub loop-smaller : goal.loop-smaller
loop-smaller c =
    let some : is_some c.in_ok-next_token.field-0 ≡ true = sym c.is_some.ensures ∙ c.if-is_some.true in
    let t = read_some c.loop.scanner c.next_token.new.self c.in_ok-next_token.field-0 some c.in_ok-next_token.ensures.read in
    next_shorter c.loop.scanner c.next_token.new.self t.0 t.1

pub loop-preserved : goal.loop-preserved
loop-preserved c =
    let some : is_some c.in_ok-next_token.field-0 ≡ true = sym c.is_some.ensures ∙ c.if-is_some.true in
    let t = read_some c.loop.scanner c.next_token.new.self c.in_ok-next_token.field-0 some c.in_ok-next_token.ensures.read in
    decides_more c.args.self c.loop.scanner c.next_token.new.self t.0 t.1 c.loop.invariant
