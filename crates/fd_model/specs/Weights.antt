-- How much a change of sets may cost: a bound on the activations of posted ranges that it leads to.
use Rattle.std.specs.Prelude.{ℕ, ◌+◌, ◌-◌, Bool, ◌&&◌, not, ◌==◌, if◌then◌else◌, List, [], ◌∷◌, length}
use Rattle.std.specs.List.{list_any}
use Rattle.fd_language.specs.Family.{Family}
use Rattle.fd_language.specs.Range.{Range, Indexical, reads, is_several}
use Rattle.fd_language.specs.Features.{is_val, range_features}
use Rattle.fd_language.specs.Needs.{once}

-- whether the range reads more of y than its value: its min, max or dom
abbrev pub reads_more : Range → ℕ → Bool
reads_more r y = list_any (λ d. (d.0 == y) && not (is_val d.1)) (range_features r)

-- What the change of y's set weighs for a reader. Who reads its min, max or dom may be woken by each value that goes, and who reads its value alone once, when
-- one value is left of several.
abbrev pub weight : Range → Family → Family → ℕ → ℕ
weight r old new y =
    if reads_more r y then length (old y) - length (new y) else
    if is_several (old y) && not (is_several (new y)) then 1 else 0

abbrev pub sum_over : List ℕ → (ℕ → ℕ) → ℕ
sum_over [] f = 0
sum_over (y ∷ ys) f = f y + sum_over ys f

-- for each posted range and each variable that it reads
abbrev pub weights : List Indexical → Family → Family → ℕ
weights [] old new = 0
weights (p ∷ ps) old new = sum_over (once (reads p.range)) (weight p.range old new) + weights ps old new

-- the most that they can come to, whatever goes of the sets
abbrev pub whole_weight : Range → Family → ℕ → ℕ
whole_weight r old y = if reads_more r y then length (old y) else 1

abbrev pub whole_weights : List Indexical → Family → ℕ
whole_weights [] old = 0
whole_weights (p ∷ ps) old = sum_over (once (reads p.range)) (whole_weight p.range old) + whole_weights ps old
