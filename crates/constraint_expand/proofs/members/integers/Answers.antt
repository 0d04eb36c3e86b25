use Rattle.std.proofs.Common.{List, [], ◌∷◌, ◌++◌, ℤ, ap, rules, sym, subst, ◌∙◌, FitsSigned}
use Rattle.std.specs.Int.{w64}
use Rattle.std.proofs.lemmas.Int.{to_z-of_z}
use Rattle.std.proofs.lemmas.Result.{err_from_is_err_and}
use Rattle.fd_model.specs.Members.{as_integer}
use Rattle.constraint_expand.specs.Lists.{Walking}
use Rattle.constraint_expand.proofs.ListWalks.{walk_ends, walk_stops, member_stops, walk_turns}
use Rattle.constraint_expand.proofs.members.integers.Goals as goal

pub returns-in_err-head : goal.returns-in_err-head
returns-in_err-head c =
    let p = err_from_is_err_and c.from_residual.result c.from_residual.ensures.1 in
    rw (p.1, p.2) (walk_stops as_integer c.args.pool.now c.args.list c.loop-found.rest c.loop-found.found.items c.loop-found.invariant _ c.in_err-head.ensures)

pub returns-in_err-read_integer : goal.returns-in_err-read_integer
returns-in_err-read_integer c =
    let p = err_from_is_err_and c.from_residual-in_err-read_integer.result c.from_residual-in_err-read_integer.ensures.1 in
    let k = rw c.in-Some.is at c.in_ok-head.ensures in
    rw (p.1, p.2) (member_stops as_integer c.args.pool.now c.args.list c.loop-found.rest c.loop-found.found.items c.loop-found.invariant c.in-Some.head
    c.in-Some.tail k _ c.in_err-read_integer.ensures)

pub loop-found-preserved : goal.loop-found-preserved
loop-found-preserved c =
    let k = rw c.in-Some.is at c.in_ok-head.ensures in
    let fits : FitsSigned w64 c.in_ok-read_integer.field-0 = search rules in
    subst (λ (xs : List ℤ). Walking as_integer c.args.pool.now c.args.list c.in-Some.tail xs)
    (sym (◌∙◌ {A = List ℤ} c.in_ok-push.ensures.items (ap (λ (z : ℤ). c.loop-found.found.items ++ z ∷ [])
    (to_z-of_z w64 c.in_ok-read_integer.field-0 fits))))
    (walk_turns as_integer c.args.pool.now c.args.list c.loop-found.rest c.loop-found.found.items c.loop-found.invariant c.in-Some.head c.in-Some.tail k
    (c.in_ok-read_integer.field-0) c.in_ok-read_integer.ensures)

pub returns : goal.returns
returns c = walk_ends as_integer c.args.pool.now c.args.list c.loop-found.rest c.loop-found.found.items c.loop-found.invariant (rw c.in_default.is at c.in_ok-head.ensures)
