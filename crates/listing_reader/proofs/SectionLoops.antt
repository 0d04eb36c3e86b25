-- Reading a section, line by line, and then those behind it.
use Rattle.std.proofs.Common.{◌≡◌, ◌⊎◌, inl, inr, ℕ, zero, suc, ◌+◌, ◌-◌, ◌<◌, ◌≤◌, List, [], ◌∷◌, ◌++◌, map, take, drop, length, get_or, Option, Some, None}
use Rattle.std.proofs.Common.{refl, sym, ap, ◌∙◌, subst, arith, All, append_assoc, length-append, length-drop, codes}
use Rattle.std.specs.Str.{IsUtf8}
use Rattle.std.proofs.lemmas.List.{append-nil, length-map, take_all}
use Rattle.std.proofs.lemmas.Str.{IsUtf8-from_ascii}
use Rattle.fd_language.specs.TermTexts.{Quoted, atom_text}
use Rattle.term_pool.specs.declared.AtomId.{AtomId}
use Rattle.wam_code.specs.declared.instruction.Code.TheVariants.{FailNow}
use Rattle.wam_code.specs.declared.parts.Entry.{Entry}
use Rattle.wam_code.specs.Area.{Span, State}
use Rattle.code_listing.specs.Listing.{counted}
use Rattle.code_listing.specs.Texts.{entry_text, nodes_text, span_text}
use Rattle.listing_reader.specs.declared.fault.SheetFault.{SheetFault}
use Rattle.listing_reader.specs.declared.fault.SheetFault.TheVariants.{BadLine, NoMemory}
use Rattle.listing_reader.specs.NumberBounds.{HasSize, IsNumber, IsSmallEntry, IsSmallSpan}
use Rattle.listing_reader.specs.Lines.{Follows, HasSection, Headed, IsLeft, IsStop, Joined, LeavesAt, Section, StopsAt, header}
use Rattle.listing_reader.specs.Lists.{FitsPlace, Placed, placed_text}
use Rattle.listing_reader.specs.Sections.{FromAtoms, FromEntries, FromQueries, FromRanges, IsPlaces, first_line}
use Rattle.listing_reader.proofs.LinePrefixes.{Lines, all_join, all_more, all_none, first_stops, leaves_end, leaves_head, leaves_of, leaves_then, map_join}
use Rattle.listing_reader.proofs.LinePrefixes.{section_size, stops_header, stops_item, head_stops}

-- ---- what stands for a thing that isn't read

pub some_atom : List ℕ
some_atom = codes "a"

pub some_atom_fits : IsUtf8 some_atom
unfolding some_atom
some_atom_fits = IsUtf8-from_ascii (codes "a") ascii
  where
    ascii : (i : ℕ) → get_or (codes "a") i 0 < 128
    ascii zero = omega arith
    ascii (suc i) = omega arith

abbrev pub some_entry : Entry
some_entry = let c : AtomId = record { number = 0 } in record { name = c; arity = 0; at = 0 }

pub some_entry_fits : IsSmallEntry some_entry
some_entry_fits = (omega arith, omega arith, omega arith)

abbrev pub some_span : Span
some_span = record { at = 0; end = 0; names = [] }

pub some_span_fits : IsSmallSpan some_span
some_span_fits = (omega arith, omega arith, all_none (λ c. IsNumber c.number))

abbrev pub some_place : Placed
some_place = let s : State = record { regs = []; frame = None; owed = 0 } in (s, (FailNow, []))

pub some_place_fits : FitsPlace some_place
some_place_fits = ((all_none IsNumber, omega arith), (tt, all_none _, all_none _, refl))

-- ---- the loop

module _ {A V : Type 0} (items : List V → List A) (told : V → A) (grow : (xs : List V) (x : V) → items (xs ++ x ∷ []) ≡ items xs ++ told x ∷ [])
    (size : (xs : List V) → length (items xs) ≡ length xs) (name : List ℕ) (Fits : A → Type 0) (text : A → List ℕ) (lines : Lines) (n : ℕ) where
  pub section_step : (xs new : List V) (x : V) (l : List ℕ) (later : Lines) → new ≡ xs ++ x ∷ [] → All Fits (items xs)
      → lines ≡ header name n ∷ (map text (items xs) ++ l ∷ later) → Fits (told x) × (text (told x) ≡ l)
      → All Fits (items new) × (lines ≡ header name n ∷ (map text (items new) ++ later))
  section_step xs new x l later e f is t =
      let whole : items new ≡ items xs ++ told x ∷ [] = ap items e ∙ grow xs x in (
        subst (λ (z : List A). All Fits z) (sym whole) (all_join Fits (items xs) (told x ∷ []) f (all_more Fits (told x) [] t.0 (all_none Fits))),
        is ∙ ap (λ (z : List ℕ). header name n ∷ (map text (items xs) ++ z ∷ later)) (sym t.1)
            ∙ ap (λ (z : Lines). header name n ∷ z) (sym (append_assoc (map text (items xs)) (text (told x) ∷ []) later)
            ∙ ap (λ (z : Lines). z ++ later) (sym (map_join text (items xs) (told x ∷ [])) ∙ ap (map text) (sym whole))),
      )

  pub section_done : (xs : List V) (rest : Lines) → IsNumber n → length xs ≡ n → All Fits (items xs) → lines ≡ header name n ∷ (map text (items xs) ++ rest)
      → HasSection name Fits text lines (items xs)
  section_done xs rest small c f is = record {
    fit = f;
    count = subst IsNumber (sym (size xs ∙ c)) small;
    behind = rest;
    are = is ∙ ap (λ (m : ℕ). header name m ∷ (map text (items xs) ++ rest)) (sym (length-map (items xs) text ∙ size xs ∙ c));
  }

  pub section_stops : (x0 : A) → Fits x0 → (xs : List V) (rest : Lines) (i at line : ℕ) → IsNumber n → length xs ≡ i → i < n → line ≡ at + i + 2
      → All Fits (items xs) → lines ≡ header name n ∷ (map text (items xs) ++ rest) → ((x : A) (r : Lines) → Fits x → ¬ (rest ≡ text x ∷ r))
      → (k : ℕ) × ((line ≡ suc (at + k)) × StopsAt (Section name Fits text) lines k)
  section_stops x0 f0 xs rest i at line small c l e f is none =
      let d = size xs in
      (suc (length (items xs)), (omega (arith, e, c, d), stops_item name Fits text x0 f0 lines rest n (items xs) is small f (omega (arith, c, d, l)) none))

pub header_stops : {A : Type 0} (name : List ℕ) (Fits : A → Type 0) (text : A → List ℕ) (lines : Lines) (at : ℕ)
    → ((n : ℕ) (rest : Lines) → IsNumber n → ¬ (lines ≡ header name n ∷ rest)) → (k : ℕ) × ((at + 1 ≡ suc (at + k)) × StopsAt (Section name Fits text) lines k)
header_stops name Fits text lines at none = (0, (omega arith, stops_header name Fits text lines none))

-- a line that isn't there, or isn't right
pub no_line : {A : Type 0} (Fits : A → Type 0) (text : A → List ℕ) (rest : Lines) → rest ≡ [] → (x : A) (r : Lines) → Fits x → ¬ (rest ≡ text x ∷ r)
no_line Fits text rest e x r f g = let k : [] ≡ text x ∷ r = sym e ∙ g in cc

pub wrong_line : {A : Type 0} (Fits : A → Type 0) (text : A → List ℕ) (rest later : Lines) (l : List ℕ) → rest ≡ l ∷ later → ((x : A) → Fits x → ¬ (text x ≡ l))
    → (x : A) (r : Lines) → Fits x → ¬ (rest ≡ text x ∷ r)
wrong_line Fits text rest later l e none x r f g = let k : l ∷ later ≡ text x ∷ r = sym e ∙ g in none x f (cc)

-- ---- behind a section

module _ {A W : Type 0} (g : W → List ℕ) (name : List ℕ) (Fits : A → Type 0) (text : A → List ℕ) (ws : List W) (ys : List A) (h : HasSection name Fits text (map g ws) ys) where
  pub section_long : suc (length ys) ≤ length ws
  section_long =
      let a = ap length h.are in
      let b = length-append (counted name (map text ys)) h.behind in
      let c = section_size name Fits text ys in
      let d = length-map ws g in
      omega (arith, a, b, c, d)

  pub section_behind : (n : ℕ) → n ≡ suc (length ys) → map g (take (length ws - n) (drop n ws)) ≡ h.behind
  section_behind n e =
      ap (map g) (take_all (length ws - n) (drop n ws) (omega (arith, length-drop n ws)))
      ∙ map_drop n ws ∙ ap (drop n) h.are ∙ drop_front n (counted name (map text ys)) h.behind (e ∙ sym (section_size name Fits text ys))
    where
      map_drop : (n : ℕ) (zs : List W) → map g (drop n zs) ≡ drop n (map g zs)
      map_drop zero zs = refl
      map_drop (suc n) [] = refl
      map_drop (suc n) (z ∷ zs) = map_drop n zs

      drop_front : (n : ℕ) (p q : Lines) → n ≡ length p → drop n (p ++ q) ≡ q
      drop_front zero [] q k = refl
      drop_front zero (x ∷ p) q k = absurd (omega (arith, k))
      drop_front (suc n) [] q k = absurd (omega (arith, k))
      drop_front (suc n) (x ∷ p) q k = drop_front n p q (omega (arith, k))

  -- what stops behind it
  pub left_then : (Q : Lines → Type 0) (rest : List ℕ) (n at : ℕ) → n ≡ suc (length ys) → (e : SheetFault)
      → IsLeft Q (map g (take (length ws - n) (drop n ws))) rest (at + n) e → IsLeft (Joined (Section name Fits text) Q) (map g ws) rest at e
  left_then Q rest n at c (BadLine l) (k, (d, lv)) = (
    suc (length ys) + k,
    (
      omega (arith, c, d),
      leaves_then rest name Fits text (map g ws) h.behind ys h.fit h.count h.are Q k (subst (λ (z : Lines). LeavesAt Q z rest k) (section_behind n c) lv),
    ),
  )
  left_then Q rest n at c NoMemory u = tt

  pub told_then : (Then : Lines → Type 0) (n : ℕ) → n ≡ suc (length ys) → Then (map g (take (length ws - n) (drop n ws))) → Follows name Fits text Then (map g ws) ys
  told_then Then n c t = record { fit = h.fit; count = h.count; behind = h.behind; are = h.are; then = subst Then (section_behind n c) t }

  -- lines that are too many, or one that isn't ended
  pub left_end : (rest : List ℕ) (n at : ℕ) → n ≡ suc (length ys) → (n < length ws) ⊎ (¬ (rest ≡ [])) → IsLeft (Section name Fits text) (map g ws) rest at (BadLine (at + n + 1))
  left_end rest n at c more =
      (suc (length ys), (omega (arith, c), leaves_end rest name Fits text (map g ws) h.behind ys h.fit h.count h.are (go more)))
    where
      go : (n < length ws) ⊎ (¬ (rest ≡ [])) → (0 < length h.behind) ⊎ (¬ (rest ≡ []))
      go (inl l) = inl (let a = ap length h.are in let b = length-append (counted name (map text ys)) h.behind in let d = section_size name Fits text ys in
          let k = length-map ws g in omega (arith, a, b, d, k, l, c))
      go (inr q) = inr q

  -- no line is left
  pub told_end : (n : ℕ) → n ≡ suc (length ys) → length ws ≤ n → map g ws ≡ counted name (map text ys)
  told_end n c l = h.are ∙ ap (λ (z : Lines). counted name (map text ys) ++ z) (go h.behind (let a = ap length h.are in
      let b = length-append (counted name (map text ys)) h.behind in let d = section_size name Fits text ys in let k = length-map ws g in
      omega (arith, a, b, d, k, l, c))) ∙ append-nil (counted name (map text ys))
    where
      go : (z : Lines) → length z ≡ 0 → z ≡ []
      go [] k = refl
      go (x ∷ z) k = absurd (omega (arith, k))

-- a section that stops itself
pub left_first : {A : Type 0} (name : List ℕ) (Fits : A → Type 0) (text : A → List ℕ) (Q : Lines → Type 0) (q : Lines) → Q q
    → (lines : Lines) (rest : List ℕ) (at : ℕ) (e : SheetFault) → IsStop (Section name Fits text) lines at e
    → IsLeft (Joined (Section name Fits text) Q) lines rest at e
left_first name Fits text Q q hq lines rest at (BadLine l) (k, (d, st)) = (k, (d, leaves_of rest (Joined (Section name Fits text) Q) lines k (first_stops name Fits text Q lines k st q hq)))
left_first name Fits text Q q hq lines rest at NoMemory u = tt

pub left_last : {A : Type 0} (name : List ℕ) (Fits : A → Type 0) (text : A → List ℕ) (lines : Lines) (rest : List ℕ) (at : ℕ) (e : SheetFault)
    → IsStop (Section name Fits text) lines at e → IsLeft (Section name Fits text) lines rest at e
left_last name Fits text lines rest at (BadLine l) (k, (d, st)) = (k, (d, leaves_of rest (Section name Fits text) lines k st))
left_last name Fits text lines rest at NoMemory u = tt

-- ---- empty sections

pub empty_places : IsPlaces (counted (codes "code") [])
empty_places = record { items = []; fit = all_none FitsPlace; count = omega arith; lines = refl }

pub empty_queries : FromQueries (counted (codes "queries") [] ++ counted (codes "code") [])
empty_queries = record {
  first = counted (codes "queries") [];
  rest = counted (codes "code") [];
  lines = refl;
  is_first = record { items = []; fit = all_none IsSmallSpan; count = omega arith; lines = refl };
  is_rest = empty_places;
}

pub empty_entries : FromEntries (counted (codes "entries") [] ++ (counted (codes "queries") [] ++ counted (codes "code") []))
empty_entries = record {
  first = counted (codes "entries") [];
  rest = counted (codes "queries") [] ++ counted (codes "code") [];
  lines = refl;
  is_first = record { items = []; fit = all_none IsSmallEntry; count = omega arith; lines = refl };
  is_rest = empty_queries;
}

pub empty_ranges : FromRanges (counted (codes "ranges") [] ++ (counted (codes "entries") [] ++ (counted (codes "queries") [] ++ counted (codes "code") [])))
empty_ranges = record {
  first = counted (codes "ranges") [];
  rest = counted (codes "entries") [] ++ (counted (codes "queries") [] ++ counted (codes "code") []);
  lines = refl;
  is_first = record { items = []; fit = all_none (All HasSize); count = omega arith; lines = refl };
  is_rest = empty_entries;
}

pub empty_atoms : FromAtoms (counted (codes "atoms") [] ++ (counted (codes "ranges") [] ++ (counted (codes "entries") [] ++ (counted (codes "queries") [] ++ counted (codes "code") []))))
empty_atoms = record {
  first = counted (codes "atoms") [];
  rest = counted (codes "ranges") [] ++ (counted (codes "entries") [] ++ (counted (codes "queries") [] ++ counted (codes "code") []));
  lines = refl;
  is_first = record { items = []; fit = all_none IsUtf8; count = omega arith; lines = refl };
  is_rest = empty_ranges;
}

-- ---- the first line

pub left_head : (lines : Lines) (rest : List ℕ) → ((behind : Lines) → ¬ (lines ≡ first_line ∷ behind)) → IsLeft (Headed first_line FromAtoms) lines rest 0 (BadLine 1)
left_head lines rest none = (
  0,
  (
    omega arith,
    leaves_of rest (Headed first_line FromAtoms) lines 0
        (head_stops first_line FromAtoms (counted (codes "atoms") []
        ++ (counted (codes "ranges") [] ++ (counted (codes "entries") [] ++ (counted (codes "queries") [] ++ counted (codes "code") [])))) empty_atoms lines none),
  ),
)

pub left_behind : (lines behind : Lines) (rest : List ℕ) → lines ≡ first_line ∷ behind → (e : SheetFault) → IsLeft FromAtoms behind rest 1 e → IsLeft (Headed first_line FromAtoms) lines rest 0 e
left_behind lines behind rest is (BadLine l) (k, (d, lv)) = (suc k, (omega (arith, d), leaves_head rest first_line FromAtoms lines behind is k lv))
left_behind lines behind rest is NoMemory u = tt

pub head_none : (h : List ℕ) (lines : Lines) → lines ≡ [] → (behind : Lines) → ¬ (lines ≡ h ∷ behind)
head_none h lines e behind f = let k : [] ≡ h ∷ behind = sym e ∙ f in cc

pub head_other : {W : Type 0} (g : W → List ℕ) (h : List ℕ) (ws : List W) (d : W) → 1 ≤ length ws → ¬ (g (get_or ws 0 d) ≡ h) → (behind : Lines) → ¬ (map g ws ≡ h ∷ behind)
head_other g h [] d l none behind e = absurd (omega (arith, l))
head_other g h (w ∷ ws) d l none behind e = let k : g w ∷ map g ws ≡ h ∷ behind = e in none (cc)
