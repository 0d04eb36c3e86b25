use Rattle.std.proofs.Common.{refl}
use Rattle.std.proofs.lemmas.Result.{err_from_is_err_and}
use Rattle.char_tokens.specs.Views.{lexeme_of}
use Rattle.char_tokens.specs.NextTokens as scanning
use Rattle.char_tokens.proofs.Lemmas.{next_shorter}
use Rattle.term_reader.proofs.Naturals.{next_natural}
use Rattle.term_reader.proofs.Texts.{depth_within, up_to_next, fault_refused, fault_deep, fault_next, fault_behind, read_whole}
use Rattle.term_reader.proofs.reader.Reader.read_all.Goals as goal

pub returns-in_err-token-clause-fault : goal.returns-in_err-token-clause-fault
returns-in_err-token-clause-fault c =
    let p = err_from_is_err_and c.from_residual.result c.from_residual.ensures.1 in
    rw (p.1, p.2) (fault_next c.args.text.now c.loop-token.scanner c.loop-token.depth c.loop-token.self _ c.loop-token.invariant c.in_err-token.ensures.fault)

pub read-requires-clause-natural : goal.read-requires-clause-natural
read-requires-clause-natural c =
    let h : scanning.HasRead c.loop-token.scanner c.next_token.new.self c.in_ok-token.field-0 = c.in_ok-token.ensures.read in
    let i = rw c.in-Some.is at h in
    next_natural c.loop-token.scanner c.next_token.new.self (lexeme_of c.in-Some.token) i

pub returns-in_err-finish-clause-fault : goal.returns-in_err-finish-clause-fault
returns-in_err-finish-clause-fault c =
    let h : scanning.HasRead c.loop-token.scanner c.next_token.new.self c.in_ok-token.field-0 = c.in_ok-token.ensures.read in
    let i = rw c.in-Some.is at h in
    let p = err_from_is_err_and c.from_residual-in_err-finish.result c.from_residual-in_err-finish.ensures.1 in
    rw (p.1, p.2) (fault_behind c.args.text.now c.loop-token.scanner c.next_token.new.self (lexeme_of c.in-Some.token) c.loop-token.depth c.loop-token.self _ i
    c.loop-token.invariant c.in_err-finish.ensures.fault)

pub returns-then-not-branch-clause-fault : goal.returns-then-not-branch-clause-fault
returns-then-not-branch-clause-fault c =
    let h : scanning.HasRead c.loop-token.scanner c.next_token.new.self c.in_ok-token.field-0 = c.in_ok-token.ensures.read in
    let i = rw c.in-Some.is at h in
    let m = rw c.if-not-branch.true at c.in_ok-read.ensures.took in
    fault_refused c.args.text.now c.loop-token.scanner c.next_token.new.self (lexeme_of c.in-Some.token) c.loop-token.depth c.loop-token.self c.read.new.self i
    c.loop-token.invariant m c.in_ok-finish.ensures.tokens

pub depth_behind-depth-requires : goal.depth_behind-depth-requires
depth_behind-depth-requires c = depth_within c.args.text.now c.loop-token.scanner c.loop-token.depth c.loop-token.self c.loop-token.invariant

pub returns-in_err-finish-2-clause-fault : goal.returns-in_err-finish-2-clause-fault
returns-in_err-finish-2-clause-fault c =
    let h : scanning.HasRead c.loop-token.scanner c.next_token.new.self c.in_ok-token.field-0 = c.in_ok-token.ensures.read in
    let i = rw c.in-Some.is at h in
    let p = err_from_is_err_and c.from_residual-in_err-finish-2.result c.from_residual-in_err-finish-2.ensures.1 in
    rw (p.1, p.2) (fault_behind c.args.text.now c.loop-token.scanner c.next_token.new.self (lexeme_of c.in-Some.token) c.loop-token.depth c.loop-token.self _ i
    c.loop-token.invariant c.in_err-finish-2.ensures.fault)

pub returns-then-depth-gt-DEEPEST-clause-fault : goal.returns-then-depth-gt-DEEPEST-clause-fault
returns-then-depth-gt-DEEPEST-clause-fault c =
    let h : scanning.HasRead c.loop-token.scanner c.next_token.new.self c.in_ok-token.field-0 = c.in_ok-token.ensures.read in
    let i = rw c.in-Some.is at h in
    let m = rw c.if-not-branch.false at c.in_ok-read.ensures.took in
    fault_deep c.args.text.now c.loop-token.scanner c.next_token.new.self (lexeme_of c.in-Some.token) c.loop-token.depth c.depth_behind-depth.result
    c.loop-token.self c.read.new.self i c.loop-token.invariant m c.depth_behind-depth.ensures c.if-depth-gt-DEEPEST.true c.in_ok-finish-2.ensures.tokens

pub loop-token-smaller : goal.loop-token-smaller
loop-token-smaller c =
    let h : scanning.HasRead c.loop-token.scanner c.next_token.new.self c.in_ok-token.field-0 = c.in_ok-token.ensures.read in
    let i = rw c.in-Some.is at h in
    next_shorter c.loop-token.scanner c.next_token.new.self (lexeme_of c.in-Some.token) i

pub loop-token-preserved : goal.loop-token-preserved
loop-token-preserved c =
    let h : scanning.HasRead c.loop-token.scanner c.next_token.new.self c.in_ok-token.field-0 = c.in_ok-token.ensures.read in
    let i = rw c.in-Some.is at h in
    let m = rw c.if-not-branch.false at c.in_ok-read.ensures.took in
    let w = rw c.if-not-branch.false at c.in_ok-read.ensures.whole in
    up_to_next c.args.text.now c.loop-token.scanner c.next_token.new.self (lexeme_of c.in-Some.token) c.loop-token.depth c.depth_behind-depth.result
    c.loop-token.self c.read.new.self i c.loop-token.invariant (w refl) m c.depth_behind-depth.ensures c.if-depth-gt-DEEPEST.false

pub returns-clause-read : goal.returns-clause-read
returns-clause-read c =
    let h : scanning.HasRead c.loop-token.scanner c.next_token.new.self c.in_ok-token.field-0 = c.in_ok-token.ensures.read in
    let n = rw c.in_default.is at h in
    read_whole c.args.text.now c.loop-token.scanner c.loop-token.depth c.loop-token.self c.loop-token.invariant n.0
