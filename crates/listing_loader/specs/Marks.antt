-- The lines of a text that name what isn't there, and the ranges that can't be posted.
use Rattle.std.specs.Prelude.{◌≡◌, ℕ, suc, ◌+◌, ◌<◌, nat_lt, nat_le, int_lt, ◌==◌, Bool, true, false, ◌&&◌, not, if◌then◌else◌, IsTrue, List, [], ◌∷◌, ◌++◌}
use Rattle.std.specs.Prelude.{map, length, slice_get, Some}
use Rattle.std.specs.List.{list_any, list_all}
use Rattle.std.specs.Str.{bytes_eq}
use Rattle.fd_language.specs.Term.{Name}
use Rattle.fd_language.specs.Range.{Range}
use Rattle.fd_language.specs.RangeVerdict.{is_accepted}
use Rattle.fd_language.specs.PostfixRanges.{nodes_of}
use Rattle.fd_language.specs.declared.TheConstants.{INFINITY}
use Rattle.fd_language.specs.declared.range_node.RangeNode.{RangeNode}
use Rattle.range_code.specs.Nodes.{node_variables}
use Rattle.term_pool.specs.declared.AtomId.{AtomId}
use Rattle.term_pool.specs.Contents.{first_names}
use Rattle.wam_code.specs.declared.instruction.Key.{Key}
use Rattle.wam_code.specs.declared.instruction.Key.TheVariants as key
use Rattle.wam_code.specs.declared.instruction.Code.{Code}
use Rattle.wam_code.specs.declared.instruction.Code.TheVariants.{GetConstant, GetStructure, UnifyConstant, PutConstant, PutStructure, Call, Execute, Jump}
use Rattle.wam_code.specs.declared.instruction.Code.TheVariants.{TryMeElse, RetryMeElse, Try, Retry, Trust, SwitchOnTerm, SwitchOnConstant, SwitchOnInteger}
use Rattle.wam_code.specs.declared.instruction.Code.TheVariants.{SwitchOnStructure, Either, PostRange, EnterTest}
use Rattle.wam_code.specs.declared.parts.Entry.{Entry}
use Rattle.wam_code.specs.Area.{Span, Table}
use Rattle.code_listing.specs.Listing.{Sheet, table_of}
use Rattle.listing_loader.specs.declared.counts.Counts.{Counts}

-- ---- atoms

-- each atom is none of those before it
abbrev pub atom_marks : List Name → List Name → List Bool
atom_marks before [] = []
atom_marks before (c ∷ cs) = not (list_any (bytes_eq c) before) ∷ atom_marks (before ++ c ∷ []) cs

-- ---- slots

-- Where so many slots were met, each is one of them or the next one.
abbrev pub are_in_order : ℕ → List ℕ → Bool
are_in_order met [] = true
are_in_order met (y ∷ ys) = if nat_lt y met then are_in_order met ys else (y == met) && are_in_order (suc met) ys

-- the slots of a range are numbered from 0 by first occurrence
abbrev pub has_slots_in_order : List RangeNode → Bool
has_slots_in_order ns = are_in_order 0 (node_variables ns)

-- ---- what a line names

-- so many atoms, ranges, predicates and places are there
abbrev pub counts_of : Sheet → Counts
counts_of s = record { atoms = length first_names + length s.atoms; ranges = length s.ranges; entries = length s.entries; places = length s.code }

abbrev pub has_atom : Counts → AtomId → Bool
has_atom n c = nat_lt c.number n.atoms

abbrev pub entry_mark : Counts → Entry → Bool
entry_mark n e = has_atom n e.name && nat_lt e.at n.places

-- a query may end with the code
abbrev pub query_mark : Counts → Span → Bool
query_mark n q = nat_lt q.at n.places && (nat_le q.end n.places && list_all (has_atom n) q.names)

abbrev pub has_key : Counts → Key → Bool
has_key n (key.Atom c) = has_atom n c
has_key n (key.Int z) = true
has_key n (key.Struct f k) = has_atom n f

abbrev pub is_below : Key → Key → Bool
is_below (key.Atom c) (key.Atom d) = nat_lt c.number d.number
is_below (key.Int y) (key.Int z) = int_lt y z
is_below (key.Struct f n) (key.Struct g m) = if f.number == g.number then nat_lt n m else nat_lt f.number g.number
is_below k l = false

-- each key is below the next
abbrev pub rises : Table → Bool
rises (x ∷ y ∷ rows) = is_below x.0 y.0 && rises (y ∷ rows)
rises rows = true

abbrev pub has_row : Counts → Key × ℕ → Bool
has_row n row = has_key n row.0 && nat_lt row.1 n.places

abbrev pub table_mark : Counts → Table → Bool
table_mark n table = rises table && list_all (has_row n) table

-- of an instruction, where a switch has this table
abbrev pub instruction_mark : Counts → Table → Code → Bool
instruction_mark n table (GetConstant c a) = has_atom n c
instruction_mark n table (GetStructure f k a) = has_atom n f
instruction_mark n table (UnifyConstant c) = has_atom n c
instruction_mark n table (PutConstant c a) = has_atom n c
instruction_mark n table (PutStructure f k a) = has_atom n f
instruction_mark n table (Call e) = nat_lt e n.entries
instruction_mark n table (Execute e) = nat_lt e n.entries
instruction_mark n table (Jump to) = nat_lt to n.places
instruction_mark n table (TryMeElse to) = nat_lt to n.places
instruction_mark n table (RetryMeElse to) = nat_lt to n.places
instruction_mark n table (Try to) = nat_lt to n.places
instruction_mark n table (Retry to) = nat_lt to n.places
instruction_mark n table (Trust to) = nat_lt to n.places
instruction_mark n table (SwitchOnTerm v c i s) = nat_lt v n.places && (nat_lt c n.places && (nat_lt i n.places && nat_lt s n.places))
instruction_mark n table (SwitchOnConstant t) = table_mark n table
instruction_mark n table (SwitchOnInteger t) = table_mark n table
instruction_mark n table (SwitchOnStructure t) = table_mark n table
instruction_mark n table (Either to) = nat_lt to n.places
instruction_mark n table (EnterTest y z to) = nat_lt to n.places
instruction_mark n table (PostRange r k) = nat_lt r n.ranges
instruction_mark n table i = true

abbrev pub place_mark : Sheet → Code → Bool
place_mark s i = instruction_mark (counts_of s) (table_of s.tables i) i

-- ---- line by line

-- Whether each line is right in what it names: no atom is repeated, slots are in order, the keys of tables rise, and atoms, ranges, predicates and places are
-- there.
abbrev pub number_marks : Sheet → List Bool
number_marks s =
    true
    ∷ ((true ∷ atom_marks first_names s.atoms)
    ++ ((true ∷ map has_slots_in_order s.ranges)
    ++ ((true ∷ map (entry_mark (counts_of s)) s.entries)
    ++ ((true ∷ map (query_mark (counts_of s)) s.queries)
    ++ (true ∷ map (place_mark s) s.code)))))

-- The line with this number, from 1 on, is the first that isn't right.
pub record IsFirstWrong (marks : List Bool) (line : ℕ) : Type 0 where
  pub index : ℕ
  pub at : line ≡ suc index
  pub wrong : slice_get marks index ≡ Some false
  pub before : (k : ℕ) → k < index → slice_get marks k ≡ Some true

abbrev pub AreRight : List Bool → Type 0
AreRight marks = IsTrue (list_all (λ m. m) marks)

-- ---- ranges

-- the nodes spell a range that can be posted
abbrev pub IsGoodRange : List RangeNode → Type 0
IsGoodRange ns = (r : Range) × (nodes_of r ≡ ns) × IsTrue (is_accepted INFINITY r)

-- the line of the range with a number, and of the place
abbrev pub range_line : Sheet → ℕ → ℕ
range_line s r = 4 + (length s.atoms + r)

abbrev pub place_line : Sheet → ℕ → ℕ
place_line s at = 7 + (length s.atoms + (length s.ranges + (length s.entries + (length s.queries + at))))

-- The range with this line is the first that can't be posted.
pub record IsFirstBadRange (s : Sheet) (line : ℕ) : Type 0 where
  pub number : ℕ
  pub nodes : List RangeNode
  pub at : line ≡ range_line s number
  pub there : slice_get s.ranges number ≡ Some nodes
  pub bad : ¬ IsGoodRange nodes
  pub before : (k : ℕ) (ns : List RangeNode) → k < number → slice_get s.ranges k ≡ Some ns → IsGoodRange ns
