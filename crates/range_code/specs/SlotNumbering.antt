-- What is gathered of a range node by node.
use Rattle.std.specs.Prelude.{◌≡◌, ℕ, List}
use Rattle.fd_language.specs.Needs.{once}
use Rattle.range_code.specs.declared.compile.Numbered.{Numbered}

-- the variables that were met, each once
pub record IsNumbered (xs : List ℕ) (n : Numbered) : Type 0 where
  pub slots : n.slots.items ≡ once xs
  pub numbers : n.numbers.keys ≡ once xs
