use Rattle.std.proofs.Common.{List, map, sym, subst}
use Rattle.std.proofs.lemmas.Result.{err_from_is_err_and}
use Rattle.fd_model.specs.Members.{Member, as_member}
use Rattle.constraint_expand.specs.Lists.{member_of, Walking}
use Rattle.constraint_expand.proofs.ListWalks.{walk_ends, walk_stops, member_stops, walk_turns, map_push}
use Rattle.constraint_expand.proofs.members.members.Goals as goal

pub returns-in_err-head : goal.returns-in_err-head
returns-in_err-head c =
    let p = err_from_is_err_and c.from_residual.result c.from_residual.ensures.1 in
    rw (p.1, p.2) (walk_stops as_member c.args.pool.now c.args.list c.loop-found.rest (map member_of c.loop-found.found.items) c.loop-found.invariant _ c.in_err-head.ensures)

pub returns-in_err-read_member : goal.returns-in_err-read_member
returns-in_err-read_member c =
    let p = err_from_is_err_and c.from_residual-in_err-read_member.result c.from_residual-in_err-read_member.ensures.1 in
    let k = rw c.in-Some.is at c.in_ok-head.ensures in
    rw (p.1, p.2) (member_stops as_member c.args.pool.now c.args.list c.loop-found.rest (map member_of c.loop-found.found.items) c.loop-found.invariant
    c.in-Some.head c.in-Some.tail k _ c.in_err-read_member.ensures.reads)

pub loop-found-preserved : goal.loop-found-preserved
loop-found-preserved c =
    let k = rw c.in-Some.is at c.in_ok-head.ensures in
    subst (λ (xs : List Member). Walking as_member c.args.pool.now c.args.list c.in-Some.tail xs)
    (sym (map_push member_of c.loop-found.found.items c.push.new.self.items c.in_ok-read_member.field-0 c.in_ok-push.ensures.items))
    (walk_turns as_member c.args.pool.now c.args.list c.loop-found.rest (map member_of c.loop-found.found.items) c.loop-found.invariant c.in-Some.head
    c.in-Some.tail k (member_of c.in_ok-read_member.field-0) c.in_ok-read_member.ensures.reads)

pub returns : goal.returns
returns c = walk_ends as_member c.args.pool.now c.args.list c.loop-found.rest (map member_of c.loop-found.found.items) c.loop-found.invariant (rw c.in_default.is at c.in_ok-head.ensures)
