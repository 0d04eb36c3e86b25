-- A text has at most one fault, and a listing none.
use Rattle.std.proofs.Common.{◌≡◌, ℕ, ◌<◌, ◌≤◌, List, [], ◌∷◌, ◌++◌, take, drop, refl, sym, ap, ◌∙◌, subst, inl, inr, arith, All, append_assoc}
use Rattle.std.proofs.lemmas.Bool.{cases_order}
use Rattle.std.proofs.lemmas.List.{length-take-le, take-append-drop}
use Rattle.wam_code.specs.VerifiedCode.{IsVerifiedBy}
use Rattle.code_listing.specs.Words.{line_bytes}
use Rattle.code_listing.specs.Listing.{Sheet, sheet_of, listing}
use Rattle.code_listing.specs.Sheets.{area_in, Listed}
use Rattle.code_flow.specs.Laws.{PlacesDecide}
use Rattle.listing_reader.specs.SheetTexts.{BeginsAs, Tells, IsBadLine, OneSheet}
use Rattle.listing_loader.specs.declared.fault.LoadFault.{LoadFault}
use Rattle.listing_loader.specs.declared.fault.LoadFault.TheVariants.{BadLine, BadNumber, BadRange, NotVerified, NoMemory}
use Rattle.listing_loader.specs.Marks.{number_marks, IsFirstBadRange, IsGoodRange}
use Rattle.listing_loader.specs.LoadedCode.{IsPlaceFault, IsLoadFault, IsSheetRefusal, IsGood, IsHeld}
use Rattle.listing_loader.specs.Laws.{OneAnswer}
use Rattle.listing_loader.proofs.Lists.{all_get}
use Rattle.listing_loader.proofs.WrongLines.{not_wrong, one_wrong}
use Rattle.listing_loader.proofs.CodeSheets.{held_sheet, held_good, held_verified}
use Rattle.code_listing.proofs.Lemmas.{lines_append}

-- ---- bad lines

-- what begins as a sheet does so with fewer lines
begins_less : (text : List ℕ) (k j : ℕ) (s : Sheet) → j ≤ k → BeginsAs text k s → BeginsAs text j s
begins_less text k j s le b = record {
  sheet = b.sheet;
  sizes = b.sizes;
  front = take j b.front;
  rest = drop j b.front ++ b.rest;
  behind = line_bytes (drop j b.front) ++ b.behind;
  lines = b.lines ∙ ap (λ l. l ++ b.rest) (sym (take-append-drop j b.front)) ∙ append_assoc (take j b.front) (drop j b.front) b.rest;
  count = length-take-le j b.front (omega (arith, le, b.count));
  bytes = b.bytes ∙ ap (λ l. line_bytes l ++ b.behind) (sym (take-append-drop j b.front))
      ∙ ap (λ l. l ++ b.behind) (lines_append (take j b.front) (drop j b.front))
      ∙ append_assoc (line_bytes (take j b.front)) (line_bytes (drop j b.front)) b.behind;
}

not_before : (text : List ℕ) (l m : ℕ) → IsBadLine text l → IsBadLine text m → l < m → ⊥
not_before text l m f g h = f.bad g.before.0 (begins_less text g.index l g.before.0 (omega (arith, h, g.at)) g.before.1)

one_line : (text : List ℕ) (l m : ℕ) → IsBadLine text l → IsBadLine text m → l ≡ m
one_line text l m f g = elim (cases_order l m) [
  | inl e ↦ e
  | inr o ↦ absurd (elim o [ inl h ↦ not_before text l m f g h | inr h ↦ not_before text m l g f h ])
]

-- ---- bad ranges and places

bad_before : (s : Sheet) (l m : ℕ) → (f : IsFirstBadRange s l) (g : IsFirstBadRange s m) → f.number < g.number → ⊥
bad_before s l m f g h = f.bad (g.before f.number f.nodes h f.there)

one_range : (s : Sheet) (l m : ℕ) → IsFirstBadRange s l → IsFirstBadRange s m → l ≡ m
one_range s l m f g = elim (cases_order f.number g.number) [
  | inl e ↦ omega (arith, e, f.at, g.at)
  | inr o ↦ absurd (elim o [ inl h ↦ bad_before s l m f g h | inr h ↦ bad_before s m l g f h ])
]

one_place : (s : Sheet) (l m : ℕ) → IsPlaceFault s l → IsPlaceFault s m → l ≡ m
one_place s l m f g = elim (cases_order f.place g.place) [
  | inl e ↦ omega (arith, e, f.at, g.at)
  | inr o ↦ absurd (elim o [ inl h ↦ f.first.fails (g.first.before f.place h) | inr h ↦ g.first.fails (f.first.before g.place h) ])
]

not_bad : (s : Sheet) (l : ℕ) → All IsGoodRange s.ranges → IsFirstBadRange s l → ⊥
not_bad s l good f = f.bad (all_get IsGoodRange s.ranges f.number f.nodes good f.there)

-- ---- what a sheet is refused for

pub one_refusal : (s : Sheet) (f g : LoadFault) → IsSheetRefusal s f → IsSheetRefusal s g → ¬ (f ≡ NoMemory) → ¬ (g ≡ NoMemory) → f ≡ g
one_refusal s NoMemory g a b x y = absurd (x refl)
one_refusal s f NoMemory a b x y = absurd (y refl)
one_refusal s (BadLine l) g a b x y = absurd a
one_refusal s f (BadLine m) a b x y = absurd b
one_refusal s (BadNumber l) (BadNumber m) a b x y = ap BadNumber (one_wrong (number_marks s) l m a b)
one_refusal s (BadNumber l) (BadRange m) a b x y = absurd (not_wrong (number_marks s) l b.numbers a)
one_refusal s (BadNumber l) (NotVerified m) a b x y = absurd (not_wrong (number_marks s) l b.numbers a)
one_refusal s (BadRange l) (BadNumber m) a b x y = absurd (not_wrong (number_marks s) m a.numbers b)
one_refusal s (BadRange l) (BadRange m) a b x y = ap BadRange (one_range s l m a.first b.first)
one_refusal s (BadRange l) (NotVerified m) a b x y = absurd (not_bad s l b.ranges a.first)
one_refusal s (NotVerified l) (BadNumber m) a b x y = absurd (not_wrong (number_marks s) m a.numbers b)
one_refusal s (NotVerified l) (BadRange m) a b x y = absurd (not_bad s m a.ranges b.first)
one_refusal s (NotVerified l) (NotVerified m) a b x y = ap NotVerified (one_place s l m a b)

-- a good sheet whose code is verified is refused for want of memory alone
pub no_refusal : PlacesDecide → (s : Sheet) (f : LoadFault) → IsGood s → IsVerifiedBy (area_in s) s.states → IsSheetRefusal s f → f ≡ NoMemory
no_refusal law s (BadLine l) good v a = absurd a
no_refusal law s (BadNumber l) good v a = absurd (not_wrong (number_marks s) l good.numbers a)
no_refusal law s (BadRange l) good v a = absurd (not_bad s l good.ranges a.first)
no_refusal law s (NotVerified l) good v a = absurd (law.none_fails (area_in s) s.states a.place v a.first)
no_refusal law s NoMemory good v a = refl

-- ---- what a text is refused for

-- a sheet that the text tells and what it is refused for, or a bad line
pub data Refusal (text : List ℕ) : LoadFault → Type 0 where
  line : {l : ℕ} → IsBadLine text l → Refusal text (BadLine l)
  told : {f : LoadFault} (s : Sheet) → Tells text s → IsSheetRefusal s f → Refusal text f

refusal_of : (text : List ℕ) (f : LoadFault) → IsLoadFault text f → ¬ (f ≡ NoMemory) → Refusal text f
refusal_of text (BadLine l) a x = line a
refusal_of text (BadNumber l) a x = told a.sheet a.tells a.first
refusal_of text (BadRange l) a x = told a.sheet a.tells a.range
refusal_of text (NotVerified l) a x = told a.sheet a.tells a.place
refusal_of text NoMemory a x = absurd (x refl)

-- and back
pub fault_of : (text : List ℕ) (s : Sheet) (f : LoadFault) → Tells text s → IsSheetRefusal s f → IsLoadFault text f
fault_of text s (BadLine l) t a = absurd a
fault_of text s (BadNumber l) t a = record { sheet = s; tells = t; first = a }
fault_of text s (BadRange l) t a = record { sheet = s; tells = t; range = a }
fault_of text s (NotVerified l) t a = record { sheet = s; tells = t; place = a }
fault_of text s NoMemory t a = tt

told_once : OneSheet → (text : List ℕ) (s t : Sheet) → Tells text s → Tells text t → s ≡ t
told_once law text s t a b = law s t a.sheet b.sheet a.sizes b.sizes (sym a.bytes ∙ b.bytes)

one_of : OneSheet → (text : List ℕ) (f g : LoadFault) → Refusal text f → Refusal text g → ¬ (f ≡ NoMemory) → ¬ (g ≡ NoMemory) → f ≡ g
one_of law text _ _ (line {l = l} a) (line {l = m} b) x y = ap BadLine (one_line text l m a b)
one_of law text _ g (line a) (told s t b) x y = absurd (a.none s t)
one_of law text f _ (told s t a) (line b) x y = absurd (b.none s t)
one_of law text f g (told s t a) (told u w b) x y = one_refusal u f g (subst (λ (z : Sheet). IsSheetRefusal z f) (told_once law text s u t w) a) b x y

-- the listing of code that memory holds tells its sheet
pub held_told : (text : List ℕ) (l : Listed) → IsHeld l → listing l.area l.states ≡ text → Tells text (sheet_of l.area l.states)
held_told text l h e = record { sheet = held_sheet l h; sizes = h.sizes; bytes = sym e }

listing_refusal : OneSheet → PlacesDecide → (text : List ℕ) (l : Listed) (f : LoadFault) → IsHeld l → listing l.area l.states ≡ text → Refusal text f → f ≡ NoMemory
listing_refusal law places text l _ h e (line a) = absurd (a.none (sheet_of l.area l.states) (held_told text l h e))
listing_refusal law places text l f h e (told s t a) =
    no_refusal places (sheet_of l.area l.states) f (held_good l h) (held_verified l h)
    (subst (λ (z : Sheet). IsSheetRefusal z f) (told_once law text s (sheet_of l.area l.states) t (held_told text l h e)) a)

listing_fault : OneSheet → PlacesDecide → (text : List ℕ) (l : Listed) (f : LoadFault) → IsHeld l → listing l.area l.states ≡ text → IsLoadFault text f → f ≡ NoMemory
listing_fault law places text l (BadLine n) h e a = listing_refusal law places text l (BadLine n) h e (line a)
listing_fault law places text l (BadNumber n) h e a = listing_refusal law places text l (BadNumber n) h e (told a.sheet a.tells a.first)
listing_fault law places text l (BadRange n) h e a = listing_refusal law places text l (BadRange n) h e (told a.sheet a.tells a.range)
listing_fault law places text l (NotVerified n) h e a = listing_refusal law places text l (NotVerified n) h e (told a.sheet a.tells a.place)
listing_fault law places text l NoMemory h e a = refl

pub one_answer : OneSheet → PlacesDecide → OneAnswer
one_answer law places = record {
  one = λ text f g a b x y. one_of law text f g (refusal_of text f a x) (refusal_of text g b y) x y;
  none = λ text l f h e a. listing_fault law places text l f h e a;
}
