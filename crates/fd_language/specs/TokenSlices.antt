-- Where tokens lie in their text.
use Rattle.std.specs.Prelude.{◌≡◌, ℕ, ◌+◌, ◌<◌, ◌≤◌, List, [], ◌∷◌, take, drop, length}
use Rattle.fd_language.specs.Tokens.{Lexeme}

-- The tokens are slices of the text, none of them empty, one behind the other, and none begins before the place from.
abbrev pub AreSlices : List ℕ → ℕ → List Lexeme → Type 0
AreSlices text from [] = Unit {0}
AreSlices text from (t ∷ ts) =
    (from ≤ t.place) × (0 < length t.text) × (t.place + length t.text ≤ length text) × (t.text ≡ take (length t.text) (drop t.place text)) × AreSlices text (t.place + length t.text) ts
