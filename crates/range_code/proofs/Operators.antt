-- The operators of terms by their instructions.
use Rattle.std.proofs.Common.{arith, ◌≡◌, ℤ, pos, negsuc, refl, SFits}
use mir.Syntax.{w128}
use Rattle.range_code.specs.declared.instr.RangeInstr.{RangeInstr}
use Rattle.range_code.specs.declared.instr.RangeInstr.TheVariants as instr
use Rattle.range_code.specs.Instructions.{operator_of}
use Rattle.range_code.specs.Work.{IsLimited, operated}

pub fits_limited : (z : ℤ) → IsLimited z → SFits w128 z
fits_limited (pos n) h = record { sfits = omega (arith, h) }
fits_limited (negsuc n) h = record { sfits = omega (arith, h) }

-- what an instruction gives that is no operator of terms
pub none_operated : (i : RangeInstr) (a b : ℤ) → (i ≡ instr.Add → ⊥) → (i ≡ instr.Sub → ⊥) → (i ≡ instr.Mul → ⊥) → (i ≡ instr.DivDown → ⊥)
    → (i ≡ instr.DivUp → ⊥) → pos 0 ≡ operated (operator_of i) a b
none_operated instr.Add a b add sub mul down up = absurd (add refl)
none_operated instr.Sub a b add sub mul down up = absurd (sub refl)
none_operated instr.Mul a b add sub mul down up = absurd (mul refl)
none_operated instr.DivDown a b add sub mul down up = absurd (down refl)
none_operated instr.DivUp a b add sub mul down up = absurd (up refl)
none_operated i a b add sub mul down up = refl
