-- The lines of sheets, section by section.
use Rattle.std.proofs.Common.{◌≡◌, ◌⊎◌, ℕ, zero, suc, ◌+◌, ◌<◌, ◌≤◌, ◌^◌, false, List, [], ◌∷◌, ◌++◌, map, length, refl, sym, ap, ◌∙◌, subst, inl, inr, arith}
use Rattle.std.proofs.Common.{All, append_assoc, codes, decimal}
use Rattle.std.specs.Str.{IsUtf8}
use Rattle.std.proofs.lemmas.Bool.{cases_lt}
use Rattle.std.proofs.lemmas.List.{append-nil, length-map}
use Rattle.fd_language.specs.Term.{Name}
use Rattle.fd_language.specs.TermTexts.{Quoted, atom_text}
use Rattle.fd_language.specs.declared.range_node.RangeNode.{RangeNode}
use Rattle.term_writer.specs.QuoteRoundTrip.{QuotedIsRead}
use Rattle.wam_code.specs.declared.instruction.Code.{Code}
use Rattle.wam_code.specs.declared.parts.Entry.{Entry}
use Rattle.wam_code.specs.Area.{Span, State, Table}
use Rattle.code_listing.specs.Words.{line_bytes, words}
use Rattle.code_listing.specs.Texts.{entry_text, nodes_text, span_text}
use Rattle.code_listing.specs.Listing.{Sheet, counted, sheet_lines, sheet_text}
use Rattle.code_listing.specs.Sheets.{AreNamedInOrder, IsSheet}
use Rattle.listing_reader.specs.NumberBounds.{HasSize, HasSizes, IsNumber, IsSmallEntry, IsSmallSpan}
use Rattle.listing_reader.specs.Forms.{IsSmallTable}
use Rattle.listing_reader.specs.Lines.{BeginAlike, Follows, Headed, Joined, LeavesAt, Section, header}
use Rattle.listing_reader.specs.Lists.{FitsPlace, Placed, entry_words, place_words, placed_text, span_words}
use Rattle.listing_reader.specs.TableNumbers.{codes_of, states_in, tables_of}
use Rattle.listing_reader.specs.Reading.{has_byte, split}
use Rattle.listing_reader.specs.Sections.{FromAtoms, FromEntries, FromQueries, FromRanges, IsAtoms, IsEntries, IsListing, IsPlaces, IsQueries, IsRanges}
use Rattle.listing_reader.specs.Sections.{TellsPlaces, first_line}
use Rattle.listing_reader.specs.SheetTexts.{BeginsAs, IsBadLine, OneSheet, Tells}
use Rattle.listing_reader.proofs.LinePrefixes.{Lines, all_head, all_tail, same_section}
use Rattle.listing_reader.proofs.AtomLines.{atom_inline, one_name}
use Rattle.listing_reader.proofs.TextLines.{front_of, lines_begin, same_lines, text_of_lines, told_lines, without_front, without_join}
use Rattle.code_listing.proofs.Lemmas.{lines_append}
use Rattle.listing_reader.proofs.LineTexts.{entry_inline, nodes_inline, one_entry, one_place, one_span, place_inline, span_inline}
use Rattle.listing_reader.proofs.NodeWords.{one_range}
use Rattle.listing_reader.proofs.TableNumbers.{codes_count, codes_fit, codes_numbers, codes_size, keys_of_places, lines_of_places, numbered_first, places_codes}
use Rattle.listing_reader.proofs.TableNumbers.{places_fit, places_lines, places_of, places_size, places_states, places_tables, states_fit, tables_fit}
use Rattle.listing_reader.proofs.Separators.{AreWithout}
use Rattle.listing_reader.proofs.WordTexts.{printed_number}
use Rattle.listing_reader.proofs.LineWords.{inline_words}

-- ---- a sheet by its sections

pub record Parts : Type 0 where
  pub atoms : List Name
  pub ranges : List (List RangeNode)
  pub entries : List Entry
  pub queries : List Span
  pub places : List Placed

pub record FitParts (p : Parts) : Type 0 where
  pub atoms : All IsUtf8 p.atoms
  pub ranges : All (All HasSize) p.ranges
  pub entries : All IsSmallEntry p.entries
  pub queries : All IsSmallSpan p.queries
  pub places : All FitsPlace p.places
  pub atom_count : IsNumber (length p.atoms)
  pub range_count : IsNumber (length p.ranges)
  pub entry_count : IsNumber (length p.entries)
  pub query_count : IsNumber (length p.queries)
  pub place_count : IsNumber (length p.places)

abbrev pub code_part : Parts → Lines
code_part p = counted (codes "code") (map placed_text p.places)

abbrev pub query_part : Parts → Lines
query_part p = counted (codes "queries") (map span_text p.queries) ++ code_part p

abbrev pub entry_part : Parts → Lines
entry_part p = counted (codes "entries") (map entry_text p.entries) ++ query_part p

abbrev pub range_part : Parts → Lines
range_part p = counted (codes "ranges") (map nodes_text p.ranges) ++ entry_part p

abbrev pub atom_part : Parts → Lines
atom_part p = counted (codes "atoms") (map (atom_text Quoted) p.atoms) ++ range_part p

abbrev pub part_lines : Parts → Lines
part_lines p = first_line ∷ atom_part p

-- ---- the parts of a sheet, and back

abbrev pub parts_of : Sheet → Parts
parts_of s = record { atoms = s.atoms; ranges = s.ranges; entries = s.entries; queries = s.queries; places = places_of s.tables s.states s.code }

abbrev pub sheet_with : Parts → Sheet
sheet_with p = record { atoms = p.atoms; ranges = p.ranges; entries = p.entries; queries = p.queries; tables = tables_of p.places; states = states_in p.places; code = codes_of 0 p.places }

module _ (s : Sheet) (is : IsSheet s) (sizes : HasSizes s) where
  pub parts_fit : FitParts (parts_of s)
  parts_fit = record {
    atoms = sizes.names;
    ranges = sizes.nodes;
    entries = sizes.entries;
    queries = sizes.queries;
    places = places_fit s.tables sizes.tables s.states s.code sizes.states sizes.code is.keys;
    atom_count = sizes.atom_count;
    range_count = sizes.range_count;
    entry_count = sizes.entry_count;
    query_count = sizes.query_count;
    place_count = subst IsNumber (sym (places_size s.tables s.states s.code is.states)) sizes.place_count;
  }

  pub parts_lines : part_lines (parts_of s) ≡ sheet_lines s
  parts_lines =
      ap (λ (l : Lines). first_line
      ∷ (counted (codes "atoms") (map (atom_text Quoted) s.atoms)
      ++ (counted (codes "ranges") (map nodes_text s.ranges)
      ++ (counted (codes "entries") (map entry_text s.entries) ++ (counted (codes "queries") (map span_text s.queries) ++ counted (codes "code") l)))))
      (places_lines s.tables s.states s.code)

  -- a sheet is that of its parts
  pub parts_back : sheet_with (parts_of s) ≡ s
  parts_back =
      let P : List Table → List State → List Code → Sheet = λ ts ss is. record { atoms = s.atoms; ranges = s.ranges; entries = s.entries; queries = s.queries; tables = ts; states = ss; code = is } in
      let ps : List Placed = places_of s.tables s.states s.code in
      let named = numbered_first s.code (length s.tables) is.tables in
      let tables : tables_of ps ≡ s.tables = places_tables s.tables 0 s.states s.code is.states named (let g = is.tables.all in omega (arith, g)) in
      ap (λ (ts : List Table). P ts (states_in ps) (codes_of 0 ps)) tables
      ∙ ap (λ (ss : List State). P s.tables ss (codes_of 0 ps)) (places_states s.tables s.states s.code is.states)
      ∙ ap (P s.tables s.states) (places_codes s.tables 0 s.states s.code is.states named)

module _ (p : Parts) (fit : FitParts p) where
  pub with_sheet : IsSheet (sheet_with p)
  with_sheet = record {
    states = states_size p.places ∙ sym (codes_size 0 p.places);
    tables = record { numbers = λ k t e. (let g : t ≡ 0 + k = codes_numbers 0 p.places k t e in omega (arith, g)); all = codes_count 0 p.places };
    keys = keys_of_places (tables_of p.places) [] p.places fit.places refl;
  }
    where
      states_size : (ps : List Placed) → length (states_in ps) ≡ length ps
      states_size [] = refl
      states_size (q ∷ ps) = ap suc (states_size ps)

  pub with_sizes : HasSizes (sheet_with p)
  with_sizes = record {
    names = fit.atoms;
    nodes = fit.ranges;
    entries = fit.entries;
    queries = fit.queries;
    tables = tables_fit p.places fit.places;
    states = states_fit p.places fit.places;
    code = codes_fit 0 p.places fit.places;
    atom_count = fit.atom_count;
    range_count = fit.range_count;
    entry_count = fit.entry_count;
    query_count = fit.query_count;
    place_count = subst IsNumber (sym (codes_size 0 p.places)) fit.place_count;
  }

  pub with_lines : sheet_lines (sheet_with p) ≡ part_lines p
  with_lines =
      ap (λ (l : Lines). first_line
      ∷ (counted (codes "atoms") (map (atom_text Quoted) p.atoms)
      ++ (counted (codes "ranges") (map nodes_text p.ranges)
      ++ (counted (codes "entries") (map entry_text p.entries) ++ (counted (codes "queries") (map span_text p.queries) ++ counted (codes "code") l)))))
      (lines_of_places (tables_of p.places) [] p.places fit.places refl)

  -- its lines are of the form
  pub is_listing : IsListing (part_lines p)
  is_listing = record {
    rest = atom_part p;
    lines = refl;
    is_rest = record {
      first = counted (codes "atoms") (map (atom_text Quoted) p.atoms);
      rest = range_part p;
      lines = refl;
      is_first = record { items = p.atoms; fit = fit.atoms; count = fit.atom_count; lines = refl };
      is_rest = record {
        first = counted (codes "ranges") (map nodes_text p.ranges);
        rest = entry_part p;
        lines = refl;
        is_first = record { items = p.ranges; fit = fit.ranges; count = fit.range_count; lines = refl };
        is_rest = record {
          first = counted (codes "entries") (map entry_text p.entries);
          rest = query_part p;
          lines = refl;
          is_first = record { items = p.entries; fit = fit.entries; count = fit.entry_count; lines = refl };
          is_rest = record {
            first = counted (codes "queries") (map span_text p.queries);
            rest = code_part p;
            lines = refl;
            is_first = record { items = p.queries; fit = fit.queries; count = fit.query_count; lines = refl };
            is_rest = record { items = p.places; fit = fit.places; count = fit.place_count; lines = refl };
          };
        };
      };
    };
  }

-- lines of the form are those of parts
pub listing_parts : (b : Lines) → IsListing b → (p : Parts) × (FitParts p × (b ≡ part_lines p))
listing_parts b h =
    let a = h.is_rest in
    let r = a.is_rest in
    let e = r.is_rest in
    let q = e.is_rest in
    let sa : IsAtoms a.first = a.is_first in
    let sr : IsRanges r.first = r.is_first in
    let se : IsEntries e.first = e.is_first in
    let sq : IsQueries q.first = q.is_first in
    let sc : IsPlaces q.rest = q.is_rest in
    let p : Parts = record { atoms = sa.items; ranges = sr.items; entries = se.items; queries = sq.items; places = sc.items } in
    let two : Lines → Lines → Lines = λ x y. x ++ y in
    let lq : q.first ++ q.rest ≡ query_part p = ap (λ (x : Lines). x ++ q.rest) sq.lines ∙ ap (λ (x : Lines). counted (codes "queries") (map span_text sq.items) ++ x) sc.lines in
    let le : e.first ++ e.rest ≡ entry_part p = ap (λ (x : Lines). x ++ e.rest) se.lines ∙ ap (λ (x : Lines). counted (codes "entries") (map entry_text se.items) ++ x) (q.lines ∙ lq) in
    let lr : r.first ++ r.rest ≡ range_part p = ap (λ (x : Lines). x ++ r.rest) sr.lines ∙ ap (λ (x : Lines). counted (codes "ranges") (map nodes_text sr.items) ++ x) (e.lines ∙ le) in
    let la : a.first ++ a.rest ≡ atom_part p = ap (λ (x : Lines). x ++ a.rest) sa.lines ∙ ap (λ (x : Lines). counted (codes "atoms") (map (atom_text Quoted) sa.items) ++ x) (r.lines ∙ lr) in (
      p,
      (
        record {
          atoms = sa.fit;
          ranges = sr.fit;
          entries = se.fit;
          queries = sq.fit;
          places = sc.fit;
          atom_count = sa.count;
          range_count = sr.count;
          entry_count = se.count;
          query_count = sq.count;
          place_count = sc.count;
        },
        h.lines ∙ ap (λ (x : Lines). first_line ∷ x) (a.lines ∙ la),
      ),
    )

-- ---- no newlines

section_without : {A : Type 0} (name : List ℕ) (Fits : A → Type 0) (text : A → List ℕ) → ((n : ℕ) → IsNumber n → has_byte 10 (header name n) ≡ false)
    → ((x : A) → Fits x → has_byte 10 (text x) ≡ false) → (xs : List A) → All Fits xs → IsNumber (length (map text xs))
    → AreWithout 10 (counted name (map text xs))
section_without {A} name Fits text head each xs f n = (head (length (map text xs)) n, go xs f)
  where
    go : (xs : List A) → All Fits xs → AreWithout 10 (map text xs)
    go [] f = tt
    go (x ∷ xs) f = (each x (all_head Fits x xs f), go xs (all_tail Fits x xs f))

map_count : {A : Type 0} (text : A → List ℕ) (xs : List A) → IsNumber (length xs) → IsNumber (length (map text xs))
map_count text xs n = subst IsNumber (sym (length-map xs text)) n

pub parts_without : (p : Parts) → FitParts p → AreWithout 10 (part_lines p)
parts_without p f = (
  refl,
  without_join 10 (counted (codes "atoms") (map (atom_text Quoted) p.atoms)) (range_part p)
      (section_without (codes "atoms") IsUtf8 (atom_text Quoted) (λ n h. inline_words (codes "atoms" ∷ decimal n ∷ []) (refl, (printed_number n h, tt)))
      atom_inline p.atoms f.atoms (map_count (atom_text Quoted) p.atoms f.atom_count))
      (without_join 10 (counted (codes "ranges") (map nodes_text p.ranges)) (entry_part p)
      (section_without (codes "ranges") (All HasSize) nodes_text (λ n h. inline_words (codes "ranges" ∷ decimal n ∷ []) (refl, (printed_number n h, tt)))
      nodes_inline p.ranges f.ranges (map_count nodes_text p.ranges f.range_count))
      (without_join 10 (counted (codes "entries") (map entry_text p.entries)) (query_part p)
      (section_without (codes "entries") IsSmallEntry entry_text (λ n h. inline_words (codes "entries" ∷ decimal n ∷ []) (refl, (printed_number n h, tt)))
      entry_inline p.entries f.entries (map_count entry_text p.entries f.entry_count))
      (without_join 10 (counted (codes "queries") (map span_text p.queries)) (code_part p)
      (section_without (codes "queries") IsSmallSpan span_text (λ n h. inline_words (codes "queries" ∷ decimal n ∷ []) (refl, (printed_number n h, tt)))
      span_inline p.queries f.queries (map_count span_text p.queries f.query_count))
      (section_without (codes "code") FitsPlace placed_text (λ n h. inline_words (codes "code" ∷ decimal n ∷ []) (refl, (printed_number n h, tt))) place_inline
      p.places f.places (map_count placed_text p.places f.place_count))))),
)

pub sheet_without : (s : Sheet) → IsSheet s → HasSizes s → AreWithout 10 (sheet_lines s)
sheet_without s is sizes = subst (AreWithout 10) (parts_lines s is sizes) (parts_without (parts_of s) (parts_fit s is sizes))

-- ---- one sheet

pub one_parts : QuotedIsRead → (p q : Parts) → FitParts p → FitParts q → part_lines p ≡ part_lines q → p ≡ q
one_parts law p q f g e =
    let P : List Name → List (List RangeNode) → List Entry → List Span → List Placed → Parts = λ a r s t u. record { atoms = a; ranges = r; entries = s; queries = t; places = u } in
    let e0 : first_line ∷ atom_part p ≡ first_line ∷ atom_part q = e in
    let e1 : atom_part p ≡ atom_part q = cc in
    let a = same_section (codes "atoms") IsUtf8 (atom_text Quoted) (one_name law) p.atoms q.atoms (range_part p) (range_part q) f.atoms g.atoms f.atom_count g.atom_count e1 in
    let r = same_section (codes "ranges") (All HasSize) nodes_text one_range p.ranges q.ranges (entry_part p) (entry_part q) f.ranges g.ranges f.range_count g.range_count a.1 in
    let s = same_section (codes "entries") IsSmallEntry entry_text one_entry p.entries q.entries (query_part p) (query_part q) f.entries g.entries f.entry_count g.entry_count r.1 in
    let t = same_section (codes "queries") IsSmallSpan span_text one_span p.queries q.queries (code_part p) (code_part q) f.queries g.queries f.query_count g.query_count s.1 in
    let u = same_section (codes "code") FitsPlace placed_text one_place p.places q.places [] [] f.places g.places f.place_count g.place_count
    (append-nil (code_part p) ∙ t.1 ∙ sym (append-nil (code_part q))) in
    ap (λ (x : List Name). P x p.ranges p.entries p.queries p.places) a.0
    ∙ ap (λ (x : List (List RangeNode)). P q.atoms x p.entries p.queries p.places) r.0
    ∙ ap (λ (x : List Entry). P q.atoms q.ranges x p.queries p.places) s.0
    ∙ ap (λ (x : List Span). P q.atoms q.ranges q.entries x p.places) t.0
    ∙ ap (P q.atoms q.ranges q.entries q.queries) u.0

pub one_sheet : QuotedIsRead → OneSheet
one_sheet law s t is js hs ht e =
    let lines : sheet_lines s ≡ sheet_lines t = same_lines (sheet_lines s) (sheet_lines t) (sheet_without s is hs) (sheet_without t js ht) e in
    let parts : parts_of s ≡ parts_of t = one_parts law (parts_of s) (parts_of t) (parts_fit s is hs) (parts_fit t js ht) (parts_lines s is hs ∙ lines ∙ sym (parts_lines t js ht)) in
    sym (parts_back s is hs) ∙ ap sheet_with parts ∙ parts_back t js ht

-- ---- a text's lines and its sheet

module _ (text : List ℕ) (ls : Lines) (rest : List ℕ) (is : split 10 text ≡ ls ++ rest ∷ []) where
  -- what begins as a listing does
  pub begins_as : (k : ℕ) (b : Lines) → IsListing b → BeginAlike k b ls → (s : Sheet) × BeginsAs text k s
  begins_as k b h g =
      let t = listing_parts b h in
      let f = front_of k b ls g in
      let whole : text ≡ line_bytes ls ++ rest = text_of_lines text ls rest is in (
        sheet_with t.0,
        record {
          sheet = with_sheet t.0 t.1.0;
          sizes = with_sizes t.0 t.1.0;
          front = f.front;
          rest = f.rest;
          behind = line_bytes f.behind ++ rest;
          lines = with_lines t.0 t.1.0 ∙ sym t.1.1 ∙ f.are;
          count = f.count;
          bytes = whole ∙ ap (λ (x : Lines). line_bytes x ++ rest) f.also ∙ ap (λ (x : List ℕ). x ++ rest) (lines_append f.front f.behind)
              ∙ append_assoc (line_bytes f.front) (line_bytes f.behind) rest;
        },
      )

  -- the lines of a sheet with which the text begins
  pub begins_alike : (k : ℕ) (s : Sheet) → BeginsAs text k s → (b : Lines) × (IsListing b × BeginAlike k b ls)
  begins_alike k s h =
      let lines : part_lines (parts_of s) ≡ h.front ++ h.rest = parts_lines s h.sheet h.sizes ∙ h.lines in
      let clean : AreWithout 10 h.front = without_front 10 h.front h.rest (subst (AreWithout 10) h.lines (sheet_without s h.sheet h.sizes)) in
      let g : BeginAlike (length h.front) (h.front ++ h.rest) ls = lines_begin text ls h.front h.rest rest h.behind is h.bytes clean in (
        part_lines (parts_of s),
        (
          is_listing (parts_of s) (parts_fit s h.sheet h.sizes),
          subst (λ (x : Lines). BeginAlike k x ls) (sym lines) (subst (λ (n : ℕ). BeginAlike n (h.front ++ h.rest) ls) h.count g),
        ),
      )

  -- a text that is a sheet's
  pub tells_lines : (s : Sheet) → Tells text s → (b : Lines) × (IsListing b × ((ls ≡ b) × (rest ≡ [])))
  tells_lines s h =
      let t = told_lines text ls (sheet_lines s) rest is h.bytes (sheet_without s h.sheet h.sizes) in
      (part_lines (parts_of s), (is_listing (parts_of s) (parts_fit s h.sheet h.sizes), (t.0 ∙ sym (parts_lines s h.sheet h.sizes), t.1)))

  -- the bad line
  pub bad_line : (k : ℕ) → LeavesAt IsListing ls rest k → IsBadLine text (suc k)
  bad_line k h = record {
    index = k;
    at = refl;
    none = λ s t. (let u = tells_lines s t in h.none u.0 u.1.0 u.1.1.0 u.1.1.1);
    before = begins_as k h.before.0 h.before.1.0 h.before.1.1;
    bad = λ s t. (let u = begins_alike (suc k) s t in h.bad u.0 u.1.0 u.1.1);
  }

  -- the sheet
  pub tells_sheet : (p : Parts) → FitParts p → ls ≡ part_lines p → rest ≡ [] → Tells text (sheet_with p)
  tells_sheet p f e r = record {
    sheet = with_sheet p f;
    sizes = with_sizes p f;
    bytes = text_of_lines text ls rest is ∙ ap (λ (x : List ℕ). line_bytes ls ++ x) r ∙ append-nil (line_bytes ls) ∙ ap line_bytes (e ∙ sym (with_lines p f));
  }
