-- Texts that are joined.
use Rattle.std.specs.Prelude.{ℕ, zero, suc, List, [], ◌∷◌, ◌++◌, if◌then◌else◌, ◌==◌, map, codes}
use Rattle.std.specs.List.{list_any}
use Rattle.fd_model.specs.Lines.{Interval, interval_text, joined}

abbrev pub interval_of_span : (ℕ × ℕ) → Interval
interval_of_span s = record { low = s.0; high = s.1 }

abbrev pub spans_text : List (ℕ × ℕ) → List ℕ
spans_text spans = joined (codes ":") (map (λ s. interval_text (interval_of_span s)) spans)

-- what stands before the text of this index, where texts are joined
abbrev pub separator_at : ℕ → List ℕ → List ℕ
separator_at zero between = []
separator_at (suc i) between = between

-- a number behind the others, where it is not among them
abbrev pub with_number : List ℕ → ℕ → List ℕ
with_number ks v = if list_any (λ k. v == k) ks then ks else ks ++ v ∷ []

-- the numbers of a list, one after the other
abbrev pub inserted : List ℕ → List ℕ → List ℕ
inserted ks [] = ks
inserted ks (v ∷ vs) = inserted (with_number ks v) vs
