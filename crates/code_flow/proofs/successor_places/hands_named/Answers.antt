use Rattle.std.proofs.Common.{◌∙◌, ℕ, ap, sym}
use Rattle.fd_language.specs.Family.{has}
use Rattle.wam_code.specs.Area.{area_of}
use Rattle.code_flow.proofs.successor_places.hands_named.Goals as goal

pub returns : goal.returns
returns c =
    let a = area_of c.args.parts.now in
    let same = λ (to : ℕ). (ap (λ l. has l to) c.deref.ensures.value ∙ c.in_ok-named.ensures to) in
    (λ b to x. c.hands_all-found.ensures.0 b to (same to ∙ x), λ f. c.hands_all-found.ensures.1 (λ to x. f to (sym (same to) ∙ x)))
