-- What a refusal says of the term.
use Rattle.std.specs.Prelude.{◌≡◌, ℕ, Option, Some}
use Rattle.range_terms.specs.declared.RangeFault.{RangeFault}
use Rattle.range_terms.specs.declared.RangeFault.TheVariants.{NotARange, NoMemory}

-- The fault stands at the place of the refusal. Of want of memory nothing is said.
abbrev pub IsFaultOf : Option ℕ → RangeFault → Type 0
IsFaultOf refused (NotARange p) = refused ≡ Some p
IsFaultOf refused NoMemory = Unit {0}
