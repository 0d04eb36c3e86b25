use Rattle.std.proofs.Common.{rules, ◌≡◌, ℕ, Some, false, true, refl, length}
use Rattle.std.proofs.lemmas.Option.{slice_get_read}
use Rattle.wam_code.specs.Area.{Holds, area_of}
use Rattle.wam_code.specs.VerifiedCode.{is_other, HoldsOne}
use Rattle.code_text.specs.Places.{HasChoices}
use Rattle.code_text.specs.Predecessors.{other_of}
use Rattle.code_text.proofs.PlaceConditions.{others_of, has_others, has_next, not_so, failed}
use Rattle.code_text.proofs.places.has_choices.Goals as goal

pub returns-then-not-has_other : goal.returns-then-not-has_other
returns-then-not-has_other c =
    let a = area_of c.args.parts.now in
    let at = c.args.at in
    let i = c.index.result.now in
    let h : Holds a at i = slice_get_read a.code (length a.code) at i refl c.requires c.index.ensures in
    let f : c.has_other.result ≡ false = search rules in
    not_so (HasChoices a at) (λ x. failed c.has_other.result ((to : ℕ) → other_of i ≡ Some to → HoldsOne a is_other to) c.has_other.ensures f (has_others a at i h x))

pub returns : goal.returns
returns c =
    let a = area_of c.args.parts.now in
    let at = c.args.at in
    let i = c.index.result.now in
    let h : Holds a at i = slice_get_read a.code (length a.code) at i refl c.requires c.index.ensures in
    let t : c.has_other.result ≡ true = search rules in
    (λ b. others_of a at i h (c.has_other.ensures.0 t) (c.has_behind.ensures.0 b), λ x. c.has_behind.ensures.1 (has_next a at i h x))
