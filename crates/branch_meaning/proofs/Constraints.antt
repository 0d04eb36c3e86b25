-- A constraint's row under other names of its variables.
use Rattle.std.proofs.Common.{◌≡◌, ℕ, refl, Result, Ok, Err}
use Rattle.fd_model.specs.declared.kinds.QueryFault.{QueryFault}
use Rattle.fd_model.specs.LinearRows.{Expansion}
use Rattle.branch_meaning.specs.Rows.{rename_expansion, rename_row}

pub was_row : (f : ℕ → ℕ) (x : Result Expansion QueryFault) (y : Expansion) → rename_row f x ≡ Ok y → (z : Expansion) × (x ≡ Ok z) × (rename_expansion f z ≡ y)
was_row f (Err d) y h = absurd (cc)
was_row f (Ok z) y h = (z, refl, (cc))
