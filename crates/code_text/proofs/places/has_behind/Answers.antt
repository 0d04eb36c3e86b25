use Rattle.std.proofs.Common.{◌≡◌, false, true, refl, sym, ◌∙◌}
use Rattle.code_text.proofs.places.has_behind.Goals as goal

pub returns-then-holds_before : goal.returns-then-holds_before
returns-then-holds_before c = (λ t x. c.holds_behind.ensures.0 t, λ f. c.holds_behind.ensures.1 (f (c.holds_before.ensures.0 c.if-holds_before.true)))

pub returns-else-holds_before : goal.returns-else-holds_before
returns-else-holds_before c = (λ t x. absurd (let e : false ≡ true = sym c.if-holds_before.false ∙ c.holds_before.ensures.1 x in cc (e)), λ f. refl)
