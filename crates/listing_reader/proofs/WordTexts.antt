-- Words of one text are the same, and no word has a space.
use Rattle.std.proofs.Common.{◌≡◌, ℕ, zero, suc, ◌+◌, ◌<◌, ◌^◌, ℤ, pos, negsuc, Bool, true, false, nat_lt, nat_eq, List, [], ◌∷◌, ◌++◌, map, Option, Some, None}
use Rattle.std.proofs.Common.{refl, sym, ap, ◌∙◌, subst, arith, codes, decimal, FitsSigned, w64, append_assoc}
use Rattle.std.specs.Fmt.{signed_decimal}
use Rattle.std.specs.Int.Signed.{mag}
use Rattle.std.specs.List.{list_all}
use Rattle.std.proofs.lemmas.Bool.{lt-ltb}
use Rattle.std.proofs.lemmas.Fmt.{decimal_injective, signed_decimal_injective}
use Rattle.term_pool.specs.declared.AtomId.{AtomId}
use Rattle.wam_code.specs.declared.instruction.Register.{Register}
use Rattle.wam_code.specs.declared.instruction.Register.TheVariants.{X, Y}
use Rattle.code_listing.specs.Texts.{register_word, argument_word, slot_word, atom_number}
use Rattle.listing_reader.specs.NumberBounds.{IsNumber, IsArity, IsInteger, IsSmall}
use Rattle.listing_reader.specs.Operands.{IsSmallAtom}
use Rattle.listing_reader.proofs.Digits.{and_true, join_all, decimal_all, signed_all, is_printed, digit_over}

pub magnitude : (z : ℤ) → IsInteger z → mag z < 2 ^ 63
magnitude (pos n) h = omega (arith, h)
magnitude (negsuc n) h = omega (arith, h)

-- ---- one text, one thing

pub one_number : (m n : ℕ) → IsNumber m → IsNumber n → decimal m ≡ decimal n → m ≡ n
one_number m n f g e = decimal_injective m n f g e

pub one_arity : (m n : ℕ) → IsArity m → IsArity n → decimal m ≡ decimal n → m ≡ n
one_arity m n f g e = decimal_injective m n (omega (arith, f)) (omega (arith, g)) e

pub one_integer : (y z : ℤ) → IsInteger y → IsInteger z → signed_decimal y ≡ signed_decimal z → y ≡ z
one_integer y z f g e = signed_decimal_injective y z (magnitude y f) (magnitude z g) e

pub one_atom : (c d : AtomId) → IsSmallAtom c → IsSmallAtom d → atom_number c ≡ atom_number d → c ≡ d
one_atom c d f g e = ap (λ (n : ℕ). let r : AtomId = record { number = n } in r) (one_number c.number d.number f g e)

same_tail : (a b : ℕ) (v w : List ℕ) → a ∷ v ≡ b ∷ w → v ≡ w
same_tail a b v w e = cc

pub one_argument : (m n : ℕ) → IsNumber m → IsNumber n → argument_word m ≡ argument_word n → m ≡ n
one_argument m n f g e = one_number m n f g (same_tail 120 120 (decimal m) (decimal n) e)

pub one_slot : (m n : ℕ) → IsNumber m → IsNumber n → slot_word m ≡ slot_word n → m ≡ n
one_slot m n f g e = one_number m n f g (same_tail 121 121 (decimal m) (decimal n) e)

pub same_head : (a b : ℕ) (v w : List ℕ) → a ∷ v ≡ b ∷ w → a ≡ b
same_head a b v w e = cc

other_head : (v w : List ℕ) → 120 ∷ v ≡ 121 ∷ w → ⊥
other_head v w e = let g = same_head 120 121 v w e in omega (arith, g)

pub one_register : (r s : Register) → IsSmall r → IsSmall s → register_word r ≡ register_word s → r ≡ s
one_register (X m) (X n) f g e = ap X (one_argument m n f g e)
one_register (X m) (Y n) f g e = absurd (other_head (decimal m) (decimal n) e)
one_register (Y m) (X n) f g e = absurd (other_head (decimal n) (decimal m) (sym e))
one_register (Y m) (Y n) f g e = ap Y (one_slot m n f g e)

-- ---- no spaces

abbrev pub IsPrinted : List ℕ → Type 0
IsPrinted w = list_all is_printed w ≡ true

pub printed_join : (v w : List ℕ) → IsPrinted v → IsPrinted w → IsPrinted (v ++ w)
printed_join v w e f = join_all is_printed v w e f

pub printed_number : (n : ℕ) → IsNumber n → IsPrinted (decimal n)
printed_number n h = decimal_all is_printed (digit_over 32 (omega arith)) n h

pub printed_arity : (n : ℕ) → IsArity n → IsPrinted (decimal n)
printed_arity n h = printed_number n (omega (arith, h))

pub printed_integer : (z : ℤ) → IsInteger z → IsPrinted (signed_decimal z)
printed_integer z h = signed_all is_printed refl (digit_over 32 (omega arith)) z (magnitude z h)

pub printed_argument : (n : ℕ) → IsNumber n → IsPrinted (argument_word n)
printed_argument n h = printed_join (codes "x") (decimal n) refl (printed_number n h)

pub printed_slot : (n : ℕ) → IsNumber n → IsPrinted (slot_word n)
printed_slot n h = printed_join (codes "y") (decimal n) refl (printed_number n h)

pub printed_register : (r : Register) → IsSmall r → IsPrinted (register_word r)
printed_register (X n) h = printed_argument n h
printed_register (Y n) h = printed_slot n h

-- each of these words
abbrev pub ArePrinted : List (List ℕ) → Type 0
ArePrinted [] = Unit {0}
ArePrinted (w ∷ ws) = IsPrinted w × ArePrinted ws
