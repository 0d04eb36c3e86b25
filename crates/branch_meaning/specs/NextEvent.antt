-- What a machine's call for its next event owes.
use Rattle.std.specs.Prelude.{◌≡◌, ℕ, Bool, true, false, List, [], ◌∷◌}
use Rattle.fd_model.specs.Goal.{Event, Wrote, Newline, Answer, End, Budget, Limit, Fault}

-- nothing comes behind it
abbrev pub is_final : Event → Bool
is_final (Wrote t) = false
is_final Newline = false
is_final (Answer t) = false
is_final End = true
is_final Budget = true
is_final Limit = true
is_final (Fault f) = true

-- a final event stays
abbrev pub behind : Event → List Event → List Event
behind End later = End ∷ []
behind Budget later = Budget ∷ []
behind Limit later = Limit ∷ []
behind (Fault f) later = Fault f ∷ []
behind _ later = later

-- Stands says which events are still to come for a state, and how many reductions its whole run spends. Whatever events were to come, e is the first of them,
-- and the new state stands for the others.
abbrev pub IsNext : (S : Type 0) → (S → List Event → ℕ → Type 0) → S → Event → S → Type 0
IsNext S Stands old e new = (es : List Event) (total : ℕ) → Stands old es total → (later : List Event) × (es ≡ e ∷ later) × Stands new (behind e later) total
