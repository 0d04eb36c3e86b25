-- Words in a line.
use Rattle.std.specs.Prelude.{ℕ, List, [], ◌∷◌, ◌++◌, codes}

-- each text behind a separator
abbrev pub each_behind : List ℕ → List (List ℕ) → List ℕ
each_behind sep [] = []
each_behind sep (t ∷ ts) = sep ++ (t ++ each_behind sep ts)

-- texts with a separator between each two
abbrev pub between : List ℕ → List (List ℕ) → List ℕ
between sep [] = []
between sep (t ∷ ts) = t ++ each_behind sep ts

-- words separated by single spaces
abbrev pub words : List (List ℕ) → List ℕ
words ws = between (codes " ") ws

-- words, each behind a space
abbrev pub more_words : List (List ℕ) → List ℕ
more_words ws = each_behind (codes " ") ws

-- lines, each ended by a newline
abbrev pub line_bytes : List (List ℕ) → List ℕ
line_bytes [] = []
line_bytes (t ∷ ts) = t ++ (codes "\n" ++ line_bytes ts)
