use Rattle.std.proofs.Common.{◌≡◌, Some, None, refl, sym, ◌∙◌, subst}
use Rattle.wam_code.specs.Area.{area_of}
use Rattle.wam_code.specs.VerifiedCode.{is_other, HoldsOne}
use Rattle.code_text.proofs.places.has_other.Goals as goal

pub returns-in-None : goal.returns-in-None
returns-in-None c = (λ t to e. absurd (let f : None ≡ Some to = sym c.in-None.is ∙ c.other_of.ensures ∙ e in cc (f)), λ f. refl)

pub returns-in-Some : goal.returns-in-Some
returns-in-Some c =
    let a = area_of c.args.parts.now in (
      λ t to e. (let f : Some c.in-Some.to ≡ Some to = sym c.in-Some.is ∙ c.other_of.ensures ∙ e in let z : c.in-Some.to ≡ to = cc (f) in subst (HoldsOne a is_other) z (c.holds_other.ensures.0 t)),
      λ f. c.holds_other.ensures.1 (f c.in-Some.to (sym c.other_of.ensures ∙ c.in-Some.is)),
    )
