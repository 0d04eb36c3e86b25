-- What a whole text tells, and why it tells nothing.
use Rattle.std.proofs.Common.{◌≡◌, ◌∙◌, ℕ, suc, ◌+◌, List, [], ◌∷◌, ◌++◌, map, refl, sym, ap, subst, arith, codes}
use Rattle.fd_language.specs.Term.{Name}
use Rattle.fd_language.specs.declared.range_node.RangeNode.{RangeNode}
use Rattle.wam_code.specs.declared.parts.Entry.{Entry}
use Rattle.wam_code.specs.Area.{Span, State, Table, span_of}
use Rattle.wam_code.specs.declared.instruction.Code.{Code}
use Rattle.fd_language.specs.TermTexts.{Quoted, atom_text}
use Rattle.code_listing.specs.Texts.{entry_text, nodes_text, span_text}
use Rattle.code_listing.specs.Listing.{Sheet, counted}
use Rattle.listing_reader.specs.declared.fault.SheetFault.{SheetFault}
use Rattle.listing_reader.specs.declared.fault.SheetFault.TheVariants.{BadLine, NoMemory}
use Rattle.listing_reader.specs.declared.read.Behind.{Behind}
use Rattle.listing_reader.specs.Lines.{IsLeft}
use Rattle.listing_reader.specs.Reading.{split}
use Rattle.listing_reader.specs.Sections.{IsListing, first_line}
use Rattle.listing_reader.specs.SheetTexts.{IsBadLine, IsSheetFault, OneSheet, Tells}
use Rattle.listing_reader.specs.LineContents.{TellsListing, places_in, sheet_of_all}
use Rattle.listing_reader.proofs.LinePrefixes.{Lines}
use Rattle.listing_reader.proofs.SheetLines.{FitParts, Parts, bad_line, part_lines, tells_sheet}

abbrev pub parts_in : List Name → Behind → Parts
parts_in names b = record { atoms = names; ranges = map (λ r. r.items) b.ranges.items; entries = b.entries.items; queries = map span_of b.queries.items; places = places_in b }

module _ (names : List Name) (b : Behind) (ls : Lines) (h : TellsListing names b ls) where
  pub told_fit : FitParts (parts_in names b)
  told_fit =
      let a = h.all in
      let r = a.then in
      let e = r.then in
      let q = e.then in
      let c = q.then in
      record {
        atoms = a.fit;
        ranges = r.fit;
        entries = e.fit;
        queries = q.fit;
        places = c.fit;
        atom_count = a.count;
        range_count = r.count;
        entry_count = e.count;
        query_count = q.count;
        place_count = c.count;
      }

  pub told_lines : ls ≡ part_lines (parts_in names b)
  told_lines =
      let a = h.all in
      let r = a.then in
      let e = r.then in
      let q = e.then in
      let c = q.then in
      let p = parts_in names b in
      h.are ∙ ap (λ (x : Lines). first_line ∷ x) (a.are ∙ ap (λ (x : Lines). counted (codes "atoms") (map (atom_text Quoted) p.atoms) ++ x)
      (r.are ∙ ap (λ (x : Lines). counted (codes "ranges") (map nodes_text p.ranges) ++ x)
      (e.are ∙ ap (λ (x : Lines). counted (codes "entries") (map entry_text p.entries) ++ x)
      (q.are ∙ ap (λ (x : Lines). counted (codes "queries") (map span_text p.queries) ++ x) c.are))))

module _ (text : List ℕ) (ls : Lines) (rest : List ℕ) (is : split 10 text ≡ ls ++ rest ∷ []) where
  pub told_sheet : (names : List Name) (b : Behind) → TellsListing names b ls → rest ≡ [] → Tells text (sheet_of_all names b)
  told_sheet names b h r = tells_sheet text ls rest is (parts_in names b) (told_fit names b ls h) (told_lines names b ls h) r

  pub told_fault : (e : SheetFault) → IsLeft IsListing ls rest 0 e → IsSheetFault text e
  told_fault (BadLine l) (k, (d, lv)) = subst (λ (n : ℕ). IsBadLine text n) (let g : suc k ≡ l = omega (arith, d) in g) (bad_line text ls rest is k lv)
  told_fault NoMemory u = tt

-- a text that is a sheet's has no fault but want of memory
pub known_fault : (text : List ℕ) (e : SheetFault) → IsSheetFault text e → (s : Sheet) → Tells text s → e ≡ NoMemory
known_fault text (BadLine l) h s t = absurd (h.none s t)
known_fault text NoMemory h s t = refl

-- and no other sheet
pub known_sheet : OneSheet → (text : List ℕ) (s t : Sheet) → Tells text s → Tells text t → t ≡ s
known_sheet one text s t f g = one t s g.sheet f.sheet g.sizes f.sizes (sym g.bytes ∙ f.bytes)

-- a sheet with these tables, states and code
pub sheet_same : (s t : Sheet) → s.atoms ≡ t.atoms → s.ranges ≡ t.ranges → s.entries ≡ t.entries → s.queries ≡ t.queries → s.tables ≡ t.tables → s.states ≡ t.states → s.code ≡ t.code → s ≡ t
sheet_same s t a b c d e f g =
    let P : List Name → List (List RangeNode) → List Entry → List Span → List Table → List State → List Code
    → Sheet = λ n r p q u v i. record { atoms = n; ranges = r; entries = p; queries = q; tables = u; states = v; code = i } in
    ap (λ (x : List Name). P x s.ranges s.entries s.queries s.tables s.states s.code) a ∙ ap (λ (x : List (List RangeNode)). P t.atoms x s.entries s.queries s.tables s.states s.code) b
    ∙ ap (λ (x : List Entry). P t.atoms t.ranges x s.queries s.tables s.states s.code) c ∙ ap (λ (x : List Span). P t.atoms t.ranges t.entries x s.tables s.states s.code) d
    ∙ ap (λ (x : List Table). P t.atoms t.ranges t.entries t.queries x s.states s.code) e ∙ ap (λ (x : List State). P t.atoms t.ranges t.entries t.queries t.tables x s.code) f
    ∙ ap (P t.atoms t.ranges t.entries t.queries t.tables t.states) g
