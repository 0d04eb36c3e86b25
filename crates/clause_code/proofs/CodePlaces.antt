-- From a list that is appended to the places in it.
use Rattle.std.proofs.Common.{◌≡◌, ℕ, suc, ◌+◌, List, [], ◌∷◌, length, arith}
use Rattle.wam_code.specs.declared.instruction.Code.{Code}
use Rattle.clause_code.specs.Pieces.{past}

pub past_is : (at : ℕ) (is : List Code) → past at is ≡ at + length is
past_is at [] = omega arith
past_is at (i ∷ is) = let r = past_is (suc at) is in omega (arith, r)
