-- The lines of a text of bytes.
use Rattle.std.specs.Prelude.{ℕ, ◌==◌, Bool, List, [], ◌∷◌, if◌then◌else◌}
use Rattle.std.specs.List.{onto_first}

abbrev pub is_newline : ℕ → Bool
is_newline b = b == 10

-- each line with the newline that ends it; what stands behind the last newline is a line without one
abbrev pub lines_of : List ℕ → List (List ℕ)
lines_of [] = []
lines_of (b ∷ bs) = if is_newline b then (b ∷ []) ∷ lines_of bs else onto_first b (lines_of bs)

-- the first of them, where there is one
abbrev pub first_line : List ℕ → List ℕ
first_line [] = []
first_line (b ∷ bs) = if is_newline b then b ∷ [] else b ∷ first_line bs
