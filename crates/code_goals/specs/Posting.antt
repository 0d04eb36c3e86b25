-- A goal `T in R` in the code.
use Rattle.std.specs.Prelude.{◌≡◌, ℕ}
use Rattle.fd_language.specs.Range.{Range}
use Rattle.wam_code.specs.declared.instruction.Code.TheVariants.{PostRange}
use Rattle.wam_code.specs.Area.{Area, Holds, range_at}

-- The instruction at the place posts this range, with the target and the range's variables in so many registers.
abbrev pub PostsAt : Area → ℕ → Range → ℕ → Type 0
PostsAt area at r n = (k : ℕ) × Holds area at (PostRange k n) × (r ≡ range_at area k)
