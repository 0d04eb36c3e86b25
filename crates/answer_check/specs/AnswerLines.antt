-- The answers that are listed for a query.
use Rattle.std.specs.Prelude.{◌≡◌, ℕ, ◌+◌, ◌≤◌, Bool, false, ◌||◌, IsTrue, List, [], ◌∷◌, length, All, slice_index, Result, Ok, Err, codes, ◌⊎◌}
use Rattle.std.specs.Str.{bytes_eq}
use Rattle.fd_model.specs.FlatLines.{assigned_line}
use Rattle.fd_model.specs.Goal.{Query}
use Rattle.fd_model.specs.Lines.{line}
use Rattle.fd_model.specs.Satisfaction.{Assignment}

-- the assignment with these values, and 0 for each other variable
abbrev pub assigned : List ℕ → Assignment
assigned ns x = slice_index ns x

-- a line in which each variable of the query has one of these values, as the query's answer with them is written
pub record IsAnswer (M : ℕ) (q : Query) (l : List ℕ) (ns : List ℕ) : Type 0 where
  pub count : length ns ≡ q.variables
  pub within : All (λ n. n ≤ M) ns
  pub is : l ≡ line (assigned_line q (assigned ns))

-- the last line: all answers were written, or the budget was spent, or their limit was reached
abbrev pub is_last_line : List ℕ → Bool
is_last_line l = bytes_eq l (line (codes "end")) || (bytes_eq l (line (codes "budget")) || bytes_eq l (line (codes "limit")))

-- no line stands behind the last one
abbrev pub behind_last : ℕ → List (List ℕ) → Result (List (List ℕ)) ℕ
behind_last at [] = Ok []
behind_last at (l ∷ ls) = Err at

abbrev pub behind_row : List ℕ → Result (List (List ℕ)) ℕ → Result (List (List ℕ)) ℕ
behind_row ns (Ok nss) = Ok (ns ∷ nss)
behind_row ns (Err p) = Err p

-- What the lines are, of which the first begins at a place: answers and then a last line, or the place of the first line that breaks this, or of the end where
-- the last line is missing.
abbrev pub AreAnswers : ℕ → Query → ℕ → List (List ℕ) → Result (List (List ℕ)) ℕ → Type 0
AreAnswers M q at [] r = r ≡ Err at
AreAnswers M q at (l ∷ ls) r =
    (IsTrue (is_last_line l) × (r ≡ behind_last (at + length l) ls))
    ⊎ (((is_last_line l ≡ false) × ((ns : List ℕ) × IsAnswer M q l ns × ((rest : Result (List (List ℕ)) ℕ) × AreAnswers M q (at + length l) ls rest × (r ≡ behind_row ns rest))))
    ⊎ ((is_last_line l ≡ false) × ((ns : List ℕ) → IsAnswer M q l ns → ⊥) × (r ≡ Err at)))
