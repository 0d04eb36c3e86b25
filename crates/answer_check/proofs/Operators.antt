-- The operators of terms by their nodes.
use Rattle.std.proofs.Common.{arith, ◌≡◌, ◌∙◌, ℤ, pos, negsuc, ◌-ℤ◌, ◌≤ℤ◌, refl, SFits}
use Rattle.std.proofs.Math.IntN.{+ℤ_idl}
use mir.Syntax.{w128}
use Rattle.fd_language.specs.declared.range_node.RangeNode.{RangeNode}
use Rattle.fd_language.specs.declared.range_node.RangeNode.TheVariants as node
use Rattle.answer_check.specs.OperandStack.{IsLimited, operated}

pub fits_limited : (z : ℤ) → IsLimited z → SFits w128 z
fits_limited (pos n) h = record { sfits = omega (arith, h) }
fits_limited (negsuc n) h = record { sfits = omega (arith, h) }

-- what a node gives that is no operator of terms
pub none_operated : (m : RangeNode) (a b : ℤ) → (m ≡ node.Add → ⊥) → (m ≡ node.Sub → ⊥) → (m ≡ node.Mul → ⊥) → (m ≡ node.DivDown → ⊥) → (m ≡ node.DivUp → ⊥) → pos 0 ≡ operated m a b
none_operated node.Add a b add sub mul down up = absurd (add refl)
none_operated node.Sub a b add sub mul down up = absurd (sub refl)
none_operated node.Mul a b add sub mul down up = absurd (mul refl)
none_operated node.DivDown a b add sub mul down up = absurd (down refl)
none_operated node.DivUp a b add sub mul down up = absurd (up refl)
none_operated m a b add sub mul down up = refl
