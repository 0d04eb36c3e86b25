use Rattle.std.proofs.Common.{◌∙◌, ℕ, List, inl, refl, subst}
use Rattle.fd_model.specs.Refusals.{refused_at}
use Rattle.clpwhere.specs.declared.warnings.Unread.TheVariants.{Refused}
use Rattle.clpwhere.specs.Faults.{IsUnreadBy}
use Rattle.clpwhere.proofs.warnings.look_through.Goals as goal

pub returns-in-Err-Refused : goal.returns-in-Err-Refused
returns-in-Err-Refused c =
    let place = c.in-Err-Refused.place in
    let reason = c.in-Err-Refused.reason in
    let told = subst (IsUnreadBy c.deref.result.now) c.in-Err-Refused.field-0-is c.in-Err-Refused.ensures.fault in
    let unread = subst (λ (bytes : List ℕ). IsUnreadBy bytes (Refused place reason)) (c.deref.ensures.value ∙ c.in_ok-whole.ensures.bytes) told in
    inl (refused_at place reason.now, unread, c.in_ok-refused_line-in-Err-Refused.ensures, refl)
