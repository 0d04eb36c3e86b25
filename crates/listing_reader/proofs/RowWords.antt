-- The rows of switches.
use Rattle.std.proofs.Common.{◌≡◌, ◌⊎◌, inl, inr, ℕ, ◌<◌, ℤ, Bool, true, false, ◌&&◌, nat_lt, List, [], ◌∷◌, ◌++◌, map, Option, Some, None, refl, sym, ap, ◌∙◌}
use Rattle.std.proofs.Common.{subst, arith, All, IsTrue, codes, decimal}
use Rattle.std.specs.Fmt.{signed_decimal}
use Rattle.std.specs.List.{list_all}
use Rattle.std.proofs.lemmas.Bool.{lt-ltb}
use Rattle.term_pool.specs.declared.AtomId.{AtomId}
use Rattle.wam_code.specs.declared.instruction.Key.{Key}
use Rattle.wam_code.specs.declared.instruction.Key.TheVariants as key
use Rattle.wam_code.specs.Area.{Table}
use Rattle.code_listing.specs.Texts.{atom_number, key_text, row_word}
use Rattle.listing_reader.specs.declared.forms.Kind.{Kind}
use Rattle.listing_reader.specs.declared.forms.Kind.TheVariants.{Atoms, Integers, Structures}
use Rattle.listing_reader.specs.NumberBounds.{IsNumber, IsArity, IsInteger, IsSmallKey}
use Rattle.listing_reader.specs.Operands.{IsSmallAtom}
use Rattle.listing_reader.specs.Forms.{IsSmallTable}
use Rattle.listing_reader.specs.Lists.{FitsKey, FitsRow, IsOfKind}
use Rattle.listing_reader.specs.Reading.{has_byte}
use Rattle.listing_reader.proofs.Digits.{decimal_all, digit_over, digit_under, is_printed, join_all, signed_all, without}
use Rattle.listing_reader.proofs.FormViews.{FitsSwitch}
use Rattle.listing_reader.proofs.WordTexts.{IsPrinted, magnitude, one_arity, one_atom, one_integer, one_number, printed_arity, printed_integer, printed_join}
use Rattle.listing_reader.proofs.WordTexts.{printed_number}
use Rattle.listing_reader.proofs.LineWords.{cut_same}

-- ---- keys

abbrev under_colon : ℕ → Bool
under_colon b = nat_lt b 58

number_under : (n : ℕ) → IsNumber n → list_all under_colon (decimal n) ≡ true
number_under n h = decimal_all under_colon digit_under n h

key_under : (k : Key) → IsSmallKey k → list_all under_colon (key_text k) ≡ true
key_under (key.Atom c) h = number_under c.number h
key_under (key.Int z) h = signed_all under_colon refl digit_under z (magnitude z h)
key_under (key.Struct f n) h = join_all under_colon (atom_number f) (codes "/" ++ decimal n) (number_under f.number h.0)
    (join_all under_colon (codes "/") (decimal n) refl (number_under n (let g = h.1 in omega (arith, g))))

-- no colon stands in a key
pub key_without : (k : Key) → IsSmallKey k → has_byte 58 (key_text k) ≡ false
key_without k h = without under_colon 58 refl (key_text k) (key_under k h)

-- no slash stands in a number
pub number_without : (n : ℕ) → IsNumber n → has_byte 47 (decimal n) ≡ false
number_without n h = without (λ b. nat_lt 47 b) 47 refl (decimal n) (decimal_all (λ b. nat_lt 47 b) (digit_over 47 (omega arith)) n h)

one_structure : (f g : AtomId) (m n : ℕ) → IsNumber f.number → IsArity m → IsNumber g.number → IsArity n → key_text (key.Struct f m) ≡ key_text (key.Struct g n) → key.Struct f m ≡ key.Struct g n
one_structure f g m n a b c d e =
    let t = cut_same 47 (atom_number f) (decimal m) (atom_number g) (decimal n) (number_without f.number a) (number_without g.number c) e in
    let first : f ≡ g = one_atom f g a c t.0 in
    let second : m ≡ n = one_arity m n b d t.1 in
    cc

pub one_key : (kind : Kind) (k l : Key) → FitsKey kind k → FitsKey kind l → key_text k ≡ key_text l → k ≡ l
one_key Atoms (key.Atom c) (key.Atom d) f g e = ap key.Atom (one_atom c d f.0 g.0 e)
one_key Atoms (key.Atom c) (key.Int z) f g e = absurd (let h : false ≡ true = g.1 in cc)
one_key Atoms (key.Atom c) (key.Struct a n) f g e = absurd (let h : false ≡ true = g.1 in cc)
one_key Atoms (key.Int z) l f g e = absurd (let h : false ≡ true = f.1 in cc)
one_key Atoms (key.Struct a n) l f g e = absurd (let h : false ≡ true = f.1 in cc)
one_key Integers (key.Int y) (key.Int z) f g e = ap key.Int (one_integer y z f.0 g.0 e)
one_key Integers (key.Int y) (key.Atom c) f g e = absurd (let h : false ≡ true = g.1 in cc)
one_key Integers (key.Int y) (key.Struct a n) f g e = absurd (let h : false ≡ true = g.1 in cc)
one_key Integers (key.Atom c) l f g e = absurd (let h : false ≡ true = f.1 in cc)
one_key Integers (key.Struct a n) l f g e = absurd (let h : false ≡ true = f.1 in cc)
one_key Structures (key.Struct a m) (key.Struct b n) f g e = one_structure a b m n f.0.0 f.0.1 g.0.0 g.0.1 e
one_key Structures (key.Struct a m) (key.Atom c) f g e = absurd (let h : false ≡ true = g.1 in cc)
one_key Structures (key.Struct a m) (key.Int z) f g e = absurd (let h : false ≡ true = g.1 in cc)
one_key Structures (key.Atom c) l f g e = absurd (let h : false ≡ true = f.1 in cc)
one_key Structures (key.Int z) l f g e = absurd (let h : false ≡ true = f.1 in cc)

pub printed_key : (k : Key) → IsSmallKey k → IsPrinted (key_text k)
printed_key (key.Atom c) h = printed_number c.number h
printed_key (key.Int z) h = printed_integer z h
printed_key (key.Struct f n) h = printed_join (atom_number f) (codes "/" ++ decimal n) (printed_number f.number h.0) (printed_join (codes "/") (decimal n) refl (printed_arity n h.1))

-- ---- rows

pub one_row : (kind : Kind) (r s : Key × ℕ) → FitsRow kind r → FitsRow kind s → row_word r ≡ row_word s → r ≡ s
one_row kind r s f g e =
    let t = cut_same 58 (key_text r.0) (decimal r.1) (key_text s.0) (decimal s.1) (key_without r.0 f.0.0) (key_without s.0 g.0.0) e in
    let first : r.0 ≡ s.0 = one_key kind r.0 s.0 f.0 g.0 t.0 in
    let second : r.1 ≡ s.1 = one_number r.1 s.1 f.1 g.1 t.1 in
    let P : Key → ℕ → Key × ℕ = λ k n. (k, n) in
    ap (λ (k : Key). P k r.1) first ∙ ap (P s.0) second

pub printed_row : (r : Key × ℕ) → IsSmallKey r.0 × IsNumber r.1 → IsPrinted (row_word r)
printed_row r h = printed_join (key_text r.0) (codes ":" ++ decimal r.1) (printed_key r.0 h.0) (printed_join (codes ":") (decimal r.1) refl (printed_number r.1 h.1))

-- rows that fit, by their numbers and by their kinds
pub rows_fit : (kind : Kind) (rows : Table) → All (FitsRow kind) rows → IsSmallTable rows × FitsSwitch kind rows
rows_fit Atoms rows h = (λ k d l. ((h k d l).0.0, (h k d l).1), λ k d l. (h k d l).0.1)
rows_fit Integers rows h = (λ k d l. ((h k d l).0.0, (h k d l).1), λ k d l. (h k d l).0.1)
rows_fit Structures rows h = (λ k d l. ((h k d l).0.0, (h k d l).1), λ k d l. (h k d l).0.1)

pub rows_each : (kind : Kind) (rows : Table) → IsSmallTable rows × FitsSwitch kind rows → All (FitsRow kind) rows
rows_each Atoms rows h = λ k d l. (((h.0 k d l).0, h.1 k d l), (h.0 k d l).1)
rows_each Integers rows h = λ k d l. (((h.0 k d l).0, h.1 k d l), (h.0 k d l).1)
rows_each Structures rows h = λ k d l. (((h.0 k d l).0, h.1 k d l), (h.0 k d l).1)

-- ---- texts of nothing

pub no_structure : (text name digits : List ℕ) → (text ≡ name ++ 47 ∷ digits) × (has_byte 47 name ≡ false)
    → (((f : AtomId) → IsSmallAtom f → ¬ (atom_number f ≡ name)) ⊎ ((n : ℕ) → IsArity n → ¬ (decimal n ≡ digits))) → (k : Key) → FitsKey Structures k
    → ¬ (key_text k ≡ text)
no_structure text name digits cut none (key.Atom c) f e = absurd (let h : false ≡ true = f.1 in cc)
no_structure text name digits cut none (key.Int z) f e = absurd (let h : false ≡ true = f.1 in cc)
no_structure text name digits cut none (key.Struct a n) f e = go none
  where
    t : (atom_number a ≡ name) × (decimal n ≡ digits)
    t = cut_same 47 (atom_number a) (decimal n) name digits (number_without a.number f.0.0) cut.1 (e ∙ cut.0)

    go : ((g : AtomId) → IsSmallAtom g → ¬ (atom_number g ≡ name)) ⊎ ((m : ℕ) → IsArity m → ¬ (decimal m ≡ digits)) → ⊥
    go (inl h) = h a f.0.0 t.0
    go (inr h) = h n f.0.1 t.1

pub no_row : (kind : Kind) (word text digits : List ℕ) → (word ≡ text ++ 58 ∷ digits) × (has_byte 58 text ≡ false)
    → (((k : Key) → FitsKey kind k → ¬ (key_text k ≡ text)) ⊎ ((n : ℕ) → IsNumber n → ¬ (decimal n ≡ digits))) → (r : Key × ℕ) → FitsRow kind r
    → ¬ (row_word r ≡ word)
no_row kind word text digits cut none r f e = go none
  where
    t : (key_text r.0 ≡ text) × (decimal r.1 ≡ digits)
    t = cut_same 58 (key_text r.0) (decimal r.1) text digits (key_without r.0 f.0.0) cut.1 (e ∙ cut.0)

    go : ((k : Key) → FitsKey kind k → ¬ (key_text k ≡ text)) ⊎ ((n : ℕ) → IsNumber n → ¬ (decimal n ≡ digits)) → ⊥
    go (inl h) = h r.0 f.0 t.0
    go (inr h) = h r.1 f.1 t.1
