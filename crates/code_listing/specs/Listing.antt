-- The listing of code: a text that has all of it but the pool's terms, its first three atoms and
-- the variables of ranges, with the state of each place.
use Rattle.std.specs.Prelude.{◌≡◌, ℕ, List, [], ◌∷◌, ◌++◌, map, drop, length, slice_index_or, codes, decimal}
use Rattle.fd_language.specs.Term.{Name}
use Rattle.fd_language.specs.TermTexts.{Quoted, atom_text}
use Rattle.fd_language.specs.PostfixRanges.{nodes_of}
use Rattle.fd_language.specs.declared.range_node.RangeNode.{RangeNode}
use Rattle.range_code.specs.Slots.{in_slots}
use Rattle.wam_code.specs.declared.instruction.Code.{Code}
use Rattle.wam_code.specs.declared.instruction.Code.TheVariants.{SwitchOnConstant, SwitchOnInteger, SwitchOnStructure}
use Rattle.wam_code.specs.declared.parts.Entry.{Entry}
use Rattle.wam_code.specs.Area.{State, Span, Table, Area}
use Rattle.code_listing.specs.Words.{words, line_bytes}
use Rattle.code_listing.specs.Texts.{nodes_text, entry_text, span_text, place_text}

-- What a listing tells. Atoms are those behind the first three of every pool, and the variables of a range are its slots.
pub record Sheet : Type 0 where
  pub atoms : List Name
  pub ranges : List (List RangeNode)
  pub entries : List Entry
  pub queries : List Span
  pub tables : List Table
  pub states : List State
  pub code : List Code

-- ---- its lines

-- the table of a switch, and none of another instruction
abbrev pub table_of : List Table → Code → Table
table_of ts (SwitchOnConstant t) = slice_index_or ts t []
table_of ts (SwitchOnInteger t) = slice_index_or ts t []
table_of ts (SwitchOnStructure t) = slice_index_or ts t []
table_of ts i = []

-- each place with its state
abbrev pub places_text : List Table → List State → List Code → List (List ℕ)
places_text ts (s ∷ ss) (i ∷ is) = place_text (table_of ts i) s i ∷ places_text ts ss is
places_text ts _ _ = []

-- lines, behind one that says what they are and how many
abbrev pub counted : List ℕ → List (List ℕ) → List (List ℕ)
counted name ts = words (name ∷ decimal (length ts) ∷ []) ∷ ts

abbrev pub sheet_lines : Sheet → List (List ℕ)
sheet_lines s =
    codes "clpfd code 1"
    ∷ (counted (codes "atoms") (map (atom_text Quoted) s.atoms)
    ++ (counted (codes "ranges") (map nodes_text s.ranges)
    ++ (counted (codes "entries") (map entry_text s.entries)
    ++ (counted (codes "queries") (map span_text s.queries)
    ++ counted (codes "code") (places_text s.tables s.states s.code)))))

abbrev pub sheet_text : Sheet → List ℕ
sheet_text s = line_bytes (sheet_lines s)

-- ---- the listing of code

-- What is told of code with these states. The variables of ranges, the terms of the pool and its first three atoms are left out.
abbrev pub sheet_of : Area → List State → Sheet
sheet_of a ss = record { atoms = drop 3 a.pool.names; ranges = map (λ r. nodes_of (in_slots r)) a.ranges; entries = a.entries; queries = a.queries; tables = a.tables; states = ss; code = a.code }

abbrev pub listing : Area → List State → List ℕ
listing a ss = sheet_text (sheet_of a ss)

-- two areas that differ only in what a listing leaves out
abbrev pub IsSameCode : Area → Area → Type 0
IsSameCode a b = sheet_of a [] ≡ sheet_of b []
