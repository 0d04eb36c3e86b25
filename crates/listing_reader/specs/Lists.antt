-- The words of lines.
use Rattle.std.specs.Prelude.{ℕ, List, [], ◌∷◌, map, decimal, All, IsTrue, IsUtf8}
use Rattle.fd_language.specs.declared.range_node.RangeNode.{RangeNode}
use Rattle.term_pool.specs.declared.AtomId.{AtomId}
use Rattle.wam_code.specs.declared.instruction.Key.{Key}
use Rattle.wam_code.specs.declared.instruction.Code.{Code}
use Rattle.wam_code.specs.declared.parts.Entry.{Entry}
use Rattle.wam_code.specs.Area.{State, Span, Table}
use Rattle.wam_code.specs.VerifiedCode.{is_atom, is_int, is_struct}
use Rattle.code_listing.specs.Texts.{atom_number, frame_word, registers_word, row_word, place_text}
use Rattle.listing_reader.specs.declared.forms.Kind.{Kind}
use Rattle.listing_reader.specs.declared.forms.Kind.TheVariants.{Atoms, Integers, Structures}
use Rattle.listing_reader.specs.NumberBounds.{IsNumber, IsSmallKey, IsSmallState}
use Rattle.listing_reader.specs.Forms.{FitsInstruction, IsSmallTable, instruction_text}

-- the key is of the switch's kind
abbrev pub IsOfKind : Kind → Key → Type 0
IsOfKind Atoms k = IsTrue (is_atom k)
IsOfKind Integers k = IsTrue (is_int k)
IsOfKind Structures k = IsTrue (is_struct k)

abbrev pub FitsKey : Kind → Key → Type 0
FitsKey kind k = IsSmallKey k × IsOfKind kind k

abbrev pub FitsRow : Kind → Key × ℕ → Type 0
FitsRow kind row = FitsKey kind row.0 × IsNumber row.1

abbrev pub rows_words : Table → List (List ℕ)
rows_words rows = map row_word rows

abbrev pub names_words : List AtomId → List (List ℕ)
names_words names = map atom_number names

abbrev pub entry_words : Entry → List (List ℕ)
entry_words e = atom_number e.name ∷ decimal e.arity ∷ decimal e.at ∷ []

abbrev pub span_words : Span → List (List ℕ)
span_words q = decimal q.at ∷ decimal q.end ∷ names_words q.names

abbrev pub state_words : State → List (List ℕ)
state_words s = registers_word s.regs ∷ frame_word s.frame ∷ decimal s.owed ∷ []

-- ---- places

-- a place's state, its instruction, and the rows of a switch
abbrev pub Placed : Type 0
Placed = State × (Code × Table)

abbrev pub FitsPlace : Placed → Type 0
FitsPlace p = IsSmallState p.0 × FitsInstruction p.1

abbrev pub place_words : Placed → List (List ℕ)
place_words p = registers_word p.0.regs ∷ frame_word p.0.frame ∷ decimal p.0.owed ∷ instruction_text p.1

abbrev pub placed_text : Placed → List ℕ
placed_text p = place_text p.1.1 p.0 p.1.0
