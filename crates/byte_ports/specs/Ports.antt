-- What a call of a source or a sink does to the bytes and the pieces that it tells, and to its count of faults.
-- Bytes and pieces that are not told are `None`. Those told after a call were told before it.
use Rattle.std.specs.Prelude.{◌≡◌, ℕ, ◌+◌, ◌<◌, ◌≤◌, min, List, [], ◌∷◌, ◌++◌, Option, Some, MatchOption, ⊤, length, drop, All}

-- the piece stood in front of what is left, and was taken
abbrev pub Took : Option (List ℕ) → Option (List ℕ) → List ℕ → Type 0
Took old new piece = MatchOption new ⊤ (λ after. old ≡ Some (piece ++ after))

-- where it is told, nothing is left
abbrev pub IsAtEnd : Option (List ℕ) → Type 0
IsAtEnd left = MatchOption left ⊤ (λ after. after ≡ [])

-- n bytes were taken
abbrev pub ReadJust : Option (List ℕ) → Option (List ℕ) → ℕ → Type 0
ReadJust old new n = (piece : List ℕ) × (length piece ≡ n) × Took old new piece

-- at most n bytes were taken
abbrev pub ReadWithin : Option (List ℕ) → Option (List ℕ) → ℕ → Type 0
ReadWithin old new n = (piece : List ℕ) × (length piece ≤ n) × Took old new piece

-- the piece was put behind what was written
abbrev pub Put : Option (List ℕ) → Option (List ℕ) → List ℕ → Type 0
Put old new piece = MatchOption new ⊤ (λ after. (before : List ℕ) × (old ≡ Some before) × (after ≡ before ++ piece))

-- a front of the piece was put behind what was written
abbrev pub PutPart : Option (List ℕ) → Option (List ℕ) → List ℕ → Type 0
PutPart old new piece = (part : List ℕ) × (rest : List ℕ) × (piece ≡ part ++ rest) × Put old new part

-- one more call of a sink was handed this piece
abbrev pub HandedOne : Option (List (List ℕ)) → Option (List (List ℕ)) → List ℕ → Type 0
HandedOne old new piece = MatchOption new ⊤ (λ after. (before : List (List ℕ)) × (old ≡ Some before) × (after ≡ before ++ piece ∷ []))

-- an end of a piece, shorter than the piece and not empty
abbrev pub IsRest : List ℕ → List ℕ → Type 0
IsRest piece rest = (n : ℕ) × (0 < n) × (n < length piece) × (rest ≡ drop n piece)

-- What the calls are handed that write one piece: the whole piece, and then only ends of it, which weren't taken yet. An empty piece takes no call.
abbrev pub AreCallsOf : List ℕ → List (List ℕ) → Type 0
AreCallsOf [] calls = calls ≡ []
AreCallsOf (b ∷ bs) calls = (rests : List (List ℕ)) × (calls ≡ (b ∷ bs) ∷ rests) × All (IsRest (b ∷ bs)) rests

-- and of pieces, one after another
abbrev pub AreCalls : List (List ℕ) → List (List ℕ) → Type 0
AreCalls [] calls = calls ≡ []
AreCalls (p ∷ ps) calls = (own : List (List ℕ)) × (later : List (List ℕ)) × AreCallsOf p own × AreCalls ps later × (calls ≡ own ++ later)

-- the pieces were handed over, each as one
abbrev pub Handed : Option (List (List ℕ)) → Option (List (List ℕ)) → List (List ℕ) → Type 0
Handed old new pieces =
    MatchOption new ⊤ (λ after. (before : List (List ℕ)) × (calls : List (List ℕ)) × (old ≡ Some before) × (after ≡ before ++ calls) × AreCalls pieces calls)

-- pieces from the first on were
abbrev pub HandedFront : Option (List (List ℕ)) → Option (List (List ℕ)) → List (List ℕ) → Type 0
HandedFront old new pieces = (front : List (List ℕ)) × (rest : List (List ℕ)) × (pieces ≡ front ++ rest) × Handed old new front

-- the greatest number of 64 bits, at which a count stands still
abbrev pub last_count : ℕ
last_count = 18446744073709551615

-- a count, raised by one where it can be
abbrev pub raised : ℕ → ℕ
raised n = min (n + 1) last_count

-- a count rose by exactly one, or stands still at its last value
abbrev pub Rose : ℕ → ℕ → Type 0
Rose before now = now ≡ raised before
