-- What a scanner has not read of a text.
use Rattle.std.specs.Prelude.{ℕ, List}

-- the bytes that are left, and the place in the text where they begin
pub record Left : Type 0 where
  pub bytes : List ℕ
  pub place : ℕ
