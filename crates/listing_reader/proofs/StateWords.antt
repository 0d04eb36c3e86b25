-- The words of states.
use Rattle.std.proofs.Common.{◌≡◌, ℕ, ◌<◌, ◌≤◌, Bool, true, false, ◌&&◌, nat_lt, List, [], ◌∷◌, ◌++◌, map, Option, Some, None, refl, sym, ap, ◌∙◌, subst, arith}
use Rattle.std.proofs.Common.{All, codes, decimal}
use Rattle.std.specs.List.{list_all}
use Rattle.std.proofs.lemmas.Bool.{lt-ltb}
use Rattle.wam_code.specs.Area.{Slot, Unset, Cell, Level, State}
use Rattle.code_listing.specs.Words.{between, each_behind}
use Rattle.code_listing.specs.Texts.{argument_word, frame_word, registers_word, slot_letter}
use Rattle.listing_reader.specs.NumberBounds.{IsNumber, IsSmallState}
use Rattle.listing_reader.specs.Lists.{state_words}
use Rattle.listing_reader.specs.Reading.{ReadsAs, has_byte, split}
use Rattle.listing_reader.proofs.LinePrefixes.{Lines, all_head, all_tail}
use Rattle.listing_reader.proofs.Digits.{and_true, decimal_all, digit_over, is_printed, join_all, without}
use Rattle.listing_reader.proofs.Separators.{AreWithout, between_split, some_word, split_between}
use Rattle.listing_reader.proofs.WordTexts.{ArePrinted, IsPrinted, one_argument, one_number, printed_argument, printed_join, printed_number, same_head}
use Rattle.listing_reader.proofs.LineWords.{one_list}

-- ---- registers

-- no comma stands in a register
argument_without : (n : ℕ) → IsNumber n → has_byte 44 (argument_word n) ≡ false
argument_without n h = without (λ b. nat_lt 44 b) 44 refl (argument_word n)
    (join_all (λ b. nat_lt 44 b) (codes "x") (decimal n) refl (decimal_all (λ b. nat_lt 44 b) (digit_over 44 (omega arith)) n h))

arguments_without : (ns : List ℕ) → All IsNumber ns → AreWithout 44 (map argument_word ns)
arguments_without [] h = tt
arguments_without (n ∷ ns) h = (argument_without n (all_head IsNumber n ns h), arguments_without ns (all_tail IsNumber n ns h))

-- the registers of a word, where there are some
pub split_registers : (n : ℕ) (ns : List ℕ) → All IsNumber (n ∷ ns) → split 44 (registers_word (n ∷ ns)) ≡ map argument_word (n ∷ ns)
split_registers n ns h = split_between 44 (argument_word n) (map argument_word ns) (arguments_without (n ∷ ns) h)

-- a word of registers begins with the letter of one
pub no_dash : (n : ℕ) (ns : List ℕ) → ¬ (registers_word (n ∷ ns) ≡ codes "-")
no_dash n ns e = let g = same_head 120 45 (decimal n ++ each_behind (codes ",") (map argument_word ns)) [] e in absurd (omega (arith, g))

-- what parts of a word are registers, and what aren't
pub registers_read : (word : List ℕ) (ns : List ℕ) → ¬ (ns ≡ []) → map argument_word ns ≡ split 44 word → registers_word ns ≡ word
registers_read word [] some e = absurd (some refl)
registers_read word (n ∷ ns) some e = ap (between (44 ∷ [])) e ∙ between_split 44 word

pub registers_none : (word : List ℕ) → ¬ (word ≡ codes "-") → ((ns : List ℕ) → All IsNumber ns → ¬ (map argument_word ns ≡ split 44 word)) → (ns : List ℕ)
    → All IsNumber ns → ¬ (registers_word ns ≡ word)
registers_none word other none [] h e = other (sym e)
registers_none word other none (n ∷ ns) h e = none (n ∷ ns) h (sym (split_registers n ns h) ∙ ap (split 44) e)

pub one_registers : (ms ns : List ℕ) → All IsNumber ms → All IsNumber ns → registers_word ms ≡ registers_word ns → ms ≡ ns
one_registers [] [] f g e = refl
one_registers [] (n ∷ ns) f g e = absurd (no_dash n ns (sym e))
one_registers (m ∷ ms) [] f g e = absurd (no_dash m ms e)
one_registers (m ∷ ms) (n ∷ ns) f g e = one_list IsNumber argument_word one_argument (m ∷ ms) (n ∷ ns) f g (sym (split_registers m ms f) ∙ ap (split 44) e ∙ split_registers n ns g)

printed_behind : (ns : List ℕ) → All IsNumber ns → IsPrinted (each_behind (codes ",") (map argument_word ns))
printed_behind [] h = refl
printed_behind (n ∷ ns) h = printed_join (codes ",") (argument_word n ++ each_behind (codes ",") (map argument_word ns)) refl
    (printed_join (argument_word n) (each_behind (codes ",") (map argument_word ns)) (printed_argument n (all_head IsNumber n ns h))
    (printed_behind ns (all_tail IsNumber n ns h)))

printed_registers : (ns : List ℕ) → All IsNumber ns → IsPrinted (registers_word ns)
printed_registers [] h = refl
printed_registers (n ∷ ns) h = printed_join (argument_word n) (each_behind (codes ",") (map argument_word ns)) (printed_argument n (all_head IsNumber n ns h))
    (printed_behind ns (all_tail IsNumber n ns h))

-- ---- frames

one_letter : (s t : Slot) → slot_letter s ≡ slot_letter t → s ≡ t
one_letter Unset Unset e = refl
one_letter Cell Cell e = refl
one_letter Level Level e = refl
one_letter Unset Cell e = absurd (omega (arith, e))
one_letter Unset Level e = absurd (omega (arith, e))
one_letter Cell Unset e = absurd (omega (arith, e))
one_letter Cell Level e = absurd (omega (arith, e))
one_letter Level Unset e = absurd (omega (arith, e))
one_letter Level Cell e = absurd (omega (arith, e))

one_slots : (xs ys : List Slot) → map slot_letter xs ≡ map slot_letter ys → xs ≡ ys
one_slots xs ys e = one_list (λ s. Unit {0}) slot_letter (λ s t f g h. one_letter s t h) xs ys (λ k d l. tt) (λ k d l. tt) e

letter_high : (s : Slot) → 46 < slot_letter s
letter_high Unset = omega arith
letter_high Cell = omega arith
letter_high Level = omega arith

-- letters are no sign
pub no_sign : (s : Slot) (ss : List Slot) (b : ℕ) → b ≤ 46 → ¬ (map slot_letter (s ∷ ss) ≡ b ∷ [])
no_sign s ss b low e = let k : slot_letter s ∷ map slot_letter ss ≡ b ∷ [] = e in let g : slot_letter s ≡ b = cc in let h = letter_high s in absurd (omega (arith, g, h, low))

pub one_frame : (f g : Option (List Slot)) → frame_word f ≡ frame_word g → f ≡ g
one_frame None None e = refl
one_frame None (Some []) e = absurd (let g = same_head 45 46 [] [] e in omega (arith, g))
one_frame None (Some (s ∷ ss)) e = absurd (no_sign s ss 45 (omega arith) (sym e))
one_frame (Some []) None e = absurd (let g = same_head 46 45 [] [] e in omega (arith, g))
one_frame (Some []) (Some []) e = refl
one_frame (Some []) (Some (s ∷ ss)) e = absurd (no_sign s ss 46 (omega arith) (sym e))
one_frame (Some (s ∷ ss)) None e = absurd (no_sign s ss 45 (omega arith) e)
one_frame (Some (s ∷ ss)) (Some []) e = absurd (no_sign s ss 46 (omega arith) e)
one_frame (Some (s ∷ ss)) (Some (t ∷ ts)) e = ap Some (one_slots (s ∷ ss) (t ∷ ts) e)

printed_letters : (ss : List Slot) → IsPrinted (map slot_letter ss)
printed_letters [] = refl
printed_letters (s ∷ ss) = and_true (is_printed (slot_letter s)) (list_all is_printed (map slot_letter ss)) (let h = letter_high s in lt-ltb 32 (slot_letter s) (omega (arith, h))) (printed_letters ss)

printed_frame : (f : Option (List Slot)) → IsPrinted (frame_word f)
printed_frame None = refl
printed_frame (Some []) = refl
printed_frame (Some (s ∷ ss)) = printed_letters (s ∷ ss)

-- what letters that are read say of a word of a frame
pub frame_read : (word : List ℕ) (ss : List Slot) → ¬ (word ≡ []) → map slot_letter ss ≡ word → frame_word (Some ss) ≡ word
frame_read word [] some e = absurd (some (sym e))
frame_read word (s ∷ ss) some e = e

pub frame_none : (word : List ℕ) → ¬ (word ≡ codes "-") → ¬ (word ≡ codes ".") → ((ss : List Slot) → Unit {0} → ¬ (map slot_letter ss ≡ word))
    → (f : Option (List Slot)) → Unit {0} → ¬ (frame_word f ≡ word)
frame_none word dash dot none None h e = dash (sym e)
frame_none word dash dot none (Some []) h e = dot (sym e)
frame_none word dash dot none (Some (s ∷ ss)) h e = none (s ∷ ss) tt e

some_byte : (b : ℕ) (w : List ℕ) → ¬ (b ∷ w ≡ [])
some_byte b w e = cc

-- no frame's word is empty
pub frame_some : (f : Option (List Slot)) → ¬ (frame_word f ≡ [])
frame_some None e = some_byte 45 [] e
frame_some (Some []) e = some_byte 46 [] e
frame_some (Some (s ∷ ss)) e = some_byte (slot_letter s) (map slot_letter ss) e

-- ---- states

pub one_state : (s t : State) → IsSmallState s → IsSmallState t → registers_word s.regs ≡ registers_word t.regs → frame_word s.frame ≡ frame_word t.frame → decimal s.owed ≡ decimal t.owed → s ≡ t
one_state s t f g a b c =
    let P : List ℕ → Option (List Slot) → ℕ → State = λ r q n. record { regs = r; frame = q; owed = n } in
    ap (λ (r : List ℕ). P r s.frame s.owed) (one_registers s.regs t.regs f.0 g.0 a)
    ∙ ap (λ (q : Option (List Slot)). P t.regs q s.owed) (one_frame s.frame t.frame b)
    ∙ ap (P t.regs t.frame) (one_number s.owed t.owed f.1 g.1 c)

pub printed_state : (s : State) → IsSmallState s → ArePrinted (state_words s)
printed_state s h = (printed_registers s.regs h.0, (printed_frame s.frame, (printed_number s.owed h.1, tt)))

pub registers_reads : {V : Type 0} (word : List ℕ) → ¬ (word ≡ codes "-") → (told : V → List ℕ) (r : Option V)
    → ReadsAs told (All IsNumber) (map argument_word) (split 44 word) r → ReadsAs told (All IsNumber) registers_word word r
registers_reads word other told None h = registers_none word other h
registers_reads word other told (Some v) h = (h.0, registers_read word (told v) (λ e. some_word 44 word (sym h.1 ∙ ap (map argument_word) e)) h.1)
