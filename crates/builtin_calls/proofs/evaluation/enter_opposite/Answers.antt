use Rattle.std.proofs.Common.{refl, inl}
use Rattle.std.proofs.lemmas.Result.{err_from_is_err_and}
use Rattle.builtin_calls.proofs.evaluation.enter_opposite.Goals as goal

pub returns-in_err-only : goal.returns-in_err-only
returns-in_err-only c =
    let p = err_from_is_err_and c.from_residual.result c.from_residual.ensures.1 in
    rw (p.1, p.2, c.in_err-only.ensures.0) (λ h G. c.in_err-only.ensures.1)

pub returns : goal.returns
returns c = λ h G. inl (c.in_ok-only.only, c.in_ok-only.ensures.0, c.in_ok-only.ensures.1, c.in_ok-push.ensures, refl)
