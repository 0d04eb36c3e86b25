-- Places that are copied one by one.
use Rattle.std.proofs.Common.{◌≡◌, ℕ, ◌+◌, ◌-◌, ◌<◌, ◌≤◌, [], ◌∷◌, ◌++◌, length, drop, slice_range, get_or, ap, sym, ◌∙◌, arith, length-drop}
use Rattle.std.proofs.lemmas.List.{take_more, get_or-drop, get_or_append_left, append_assoc}
use Rattle.code_areas.specs.Areas.{Held, Places}

slice_more : (xs : Places) (from at : ℕ) (d : Held) → from ≤ at → at < length xs → slice_range xs from (at + 1) ≡ slice_range xs from at ++ get_or xs at d ∷ []
slice_more xs from at d low high =
    let step : at + 1 - from ≡ at - from + 1 = omega (arith, low) in
    let place : from + (at - from) ≡ at = omega (arith, low) in
    rw (step, take_more (drop from xs) (at - from) d (omega (arith, low, high, length-drop from xs)), get_or-drop, place)

-- one more copy
pub copied_more : (xs ys : Places) (from at : ℕ) (d : Held) → ys ≡ xs ++ slice_range xs from at → from ≤ at → at < length xs → ys ++ get_or ys at d ∷ [] ≡ xs ++ slice_range xs from (at + 1)
copied_more xs ys from at d e low high =
    let here : get_or ys at d ≡ get_or xs at d = ap (λ l. get_or l at d) e ∙ get_or_append_left xs (slice_range xs from at) d at high in
    ap (λ x. ys ++ x ∷ []) here ∙ ap (λ l. l ++ get_or xs at d ∷ []) e ∙ append_assoc xs (slice_range xs from at) (get_or xs at d ∷ []) ∙ ap (λ l. xs ++ l) (sym (slice_more xs from at d low high))
