use Rattle.std.proofs.Common.{◌≡◌, ◌≤◌, ◌<◌, ◌+◌, length, arith}
use Rattle.constraint_expand.proofs.Pieces.{pairs_over, pairs_piece, against_posts}
use Rattle.constraint_expand.proofs.differences.Pairs.next_piece.Goals as goal

pub returns-then-behind-len-clause-piece : goal.returns-then-behind-len-clause-piece
returns-then-behind-len-clause-piece c =
    let l : length c.args.self.now.variables.items ≤ c.args.self.now.next + 1 = omega arith in
    let e = pairs_over c.args.self.now.variables.items c.args.self.now.next l in
    (e, e)

pub returns-clause-piece : goal.returns-clause-piece
returns-clause-piece c =
    let xs = c.args.self.now.variables.items in
    let i = c.args.self.now.next in
    let j = c.saturating_add-behind.result in
    let l : j < length xs = omega arith in
    let e : j ≡ i + 1 = omega arith in
    pairs_piece xs i j e l c.post_against.new.list.items
    (against_posts xs c.deref.result.now i j c.index-variable.result.now c.new-list.result.items c.post_against.new.list.items c.deref.ensures.value
    (omega arith) c.index-variable.ensures c.new-list.ensures.items c.in_ok-post_against.ensures)
