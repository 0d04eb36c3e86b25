use Rattle.std.proofs.Common.{refl}
use Rattle.std.proofs.lemmas.Result.{err_from_is_err_and}
use Rattle.fd_model.specs.Linear.{product_of}
use Rattle.linear_forms.specs.declared.walk.Made.{Made}
use Rattle.linear_forms.proofs.Stacks.{applied, not_applied}
use Rattle.linear_forms.proofs.walk.Made.multiply.Goals as goal

pub returns-in_err-whole : goal.returns-in_err-whole
returns-in_err-whole c =
    let p = err_from_is_err_and c.from_residual-in_err-whole.result c.from_residual-in_err-whole.ensures.1 in
    rw (p.1, p.2) (not_applied product_of c.args.self.now c.take_two.new.self c.in_ok-left.left c.in_ok-left.right _ c.in_ok-left.ensures.taken c.in_err-whole.ensures)

pub returns : goal.returns
returns c =
    let new : Made = record { sums = c.push.new.self; met = c.take_two.new.self.met } in
    applied product_of c.args.self.now c.take_two.new.self new c.in_ok-left.left c.in_ok-left.right c.in_ok-whole.whole c.in_ok-left.ensures.taken c.in_ok-whole.ensures c.in_ok-push.ensures.items refl
