use Rattle.std.proofs.Common.{ap, arith, rules}
use Rattle.fd_model.specs.LinearRows.{Expansion}
use Rattle.constraint_expand.specs.Pieces.{pairs_ahead, counts_ahead, rows_ahead}
use Rattle.constraint_expand.specs.Sums.{sums_ahead}
use Rattle.constraint_expand.proofs.Pieces.{last_piece, none_left, sums_given}
use Rattle.constraint_expand.proofs.expansion.Expansion.next_piece.Goals as goal

pub returns-then-not-is_empty-clause-piece : goal.returns-then-not-is_empty-clause-piece
returns-then-not-is_empty-clause-piece c =
    let x = c.self.inside in
    let a = rw c.in_default.is at c.in_ok-piece.ensures.piece in
    let b = rw c.in_default-2.is at c.in_ok-piece-2.ensures.piece in
    let d = rw c.in_default-3.is at c.in_ok-piece-3.ensures.piece in
    last_piece (pairs_ahead x.pairs) _ (counts_ahead x.counters) _ (rows_ahead x.rows) _ (sums_ahead x.sums) x.rest.items c.replace.new.dest.items
    c.replace.result.items c.args.self.now.ranges a b d (ap (λ (y : Expansion). y.ranges) c.self.view_is) (search rules) (search rules)
    (search (rules, arith))

pub returns-clause-piece : goal.returns-clause-piece
returns-clause-piece c =
    let x = c.self.inside in
    let a = rw c.in_default.is at c.in_ok-piece.ensures.piece in
    let b = rw c.in_default-2.is at c.in_ok-piece-2.ensures.piece in
    let d = rw c.in_default-3.is at c.in_ok-piece-3.ensures.piece in
    sums_given (pairs_ahead x.pairs) _ (counts_ahead x.counters) _ (rows_ahead x.rows) _ (sums_ahead x.sums) _ x.rest.items c.args.self.now.ranges a b d
    (none_left x.rest.items (search (rules, arith))) (ap (λ (y : Expansion). y.ranges) c.self.view_is) (λ v. v.items) c.next_piece-4.result
    c.next_piece-4.ensures.piece
