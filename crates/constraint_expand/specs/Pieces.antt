-- Ranges that are given in pieces, one piece after another.
use Rattle.std.specs.Prelude.{◌≡◌, ℕ, ◌+◌, ◌<◌, ◌^◌, List, [], ◌++◌, length, take, drop}
use Rattle.fd_language.specs.Range.{Range, Indexical}
use Rattle.fd_model.specs.ListRows.{pairwise, counts}
use Rattle.fd_model.specs.LinearRows.{rows_behind}
use Rattle.constraint_expand.specs.declared.differences.Pairs.{Pairs}
use Rattle.constraint_expand.specs.declared.counts.Counters.{Counters}
use Rattle.constraint_expand.specs.declared.rows.Comparison.{Comparison}
use Rattle.constraint_expand.specs.declared.rows.RowForm.{RowForm}
use Rattle.constraint_expand.specs.declared.rows.Rows.{Rows}
use Rattle.constraint_expand.specs.Nodes.{comparison_of, AreSides}
use Rattle.constraint_expand.specs.Posts.{indexicals, Accepted}

-- the piece is the first of the ranges that were left, and has at least one
pub record IsPiece (old new : List Indexical) (piece : List (ℕ × Range)) : Type 0 where
  pub ranges : old ≡ indexicals piece ++ new
  pub some : length new < length old

-- no ranges were left
abbrev pub IsOver : List Indexical → List Indexical → Type 0
IsOver old new = (old ≡ []) × (new ≡ [])

-- the variables from the next one on differ in pairs
abbrev pub pairs_ahead : Pairs → List Indexical
pairs_ahead p = pairwise (drop p.next p.variables.items)

-- the variables from the next one on are counted
abbrev pub counts_ahead : Counters → List Indexical
counts_ahead c = counts c.value (drop c.next c.variables.items) (c.first + c.next)

-- the counters' numbers have 64 bits
abbrev pub AreNumbers : Counters → Type 0
AreNumbers c = c.first + length c.variables.items < 2 ^ 64

-- the rows behind the first i
abbrev pub rows_from : Comparison → RowForm → ℕ → List Indexical
rows_from k form i = rows_behind (comparison_of k) form.constant (take i form.terms.items) (drop i form.terms.items)

abbrev pub rows_ahead : Rows → List Indexical
rows_ahead r = rows_from r.comparison r.straight r.next

-- the rows can be given
pub record AreReady (r : Rows) : Type 0 where
  pub sides : (i : ℕ) → i < length r.straight.terms.items → AreSides r.comparison r.straight r.turned i
  pub accepted : Accepted (rows_ahead r)
