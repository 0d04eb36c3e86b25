-- Code as contracts see it.
use Rattle.std.specs.Prelude.{◌≡◌, ℕ, List, [], map, Option, Some, slice_get, slice_index_or}
use Rattle.fd_language.specs.Term.{Name}
use Rattle.fd_language.specs.Range.{Range}
use Rattle.fd_language.specs.Spelling.{empty_range}
use Rattle.term_pool.specs.declared.AtomId.{AtomId}
use Rattle.term_pool.specs.Contents.{Contents, atom_name}
use Rattle.wam_code.specs.declared.instruction.Key.{Key}
use Rattle.wam_code.specs.declared.instruction.Code.{Code}
use Rattle.wam_code.specs.declared.parts.Entry.{Entry}
use Rattle.wam_code.specs.declared.parts.QueryEntry.{QueryEntry}
use Rattle.wam_code.specs.declared.parts.CodeParts.{CodeParts}

-- what is known of a frame's slot: it is unset, or holds a cell, or a level of the search
pub data Slot : Type 0 where
  Unset : Slot
  Cell : Slot
  Level : Slot

-- What is known wherever a place is reached: the argument registers that hold a cell, the frame's slots where there is one, and how many arguments of a
-- structure are still owed. No code keeps it.
pub record State : Type 0 where
  pub regs : List ℕ
  pub frame : Option (List Slot)
  pub owed : ℕ

-- a query's code, from at on before end, and the names that an answer shows
pub record Span : Type 0 where
  pub at : ℕ
  pub end : ℕ
  pub names : List AtomId

-- a switch's keys, each with a place
abbrev pub Table : Type 0
Table = List (Key × ℕ)

pub record Area : Type 0 where
  pub pool : Contents
  pub code : List Code
  pub tables : List Table
  pub ranges : List Range
  pub entries : List Entry
  pub queries : List Span

-- ---- what is there

-- the instruction at a place
abbrev pub Holds : Area → ℕ → Code → Type 0
Holds a at i = slice_get a.code at ≡ Some i

-- the state of a place, by the states of all places
abbrev pub HasState : List State → ℕ → State → Type 0
HasState ss at s = slice_get ss at ≡ Some s

-- the predicate with a number
abbrev pub HasEntry : Area → ℕ → Entry → Type 0
HasEntry a n e = slice_get a.entries n ≡ Some e

-- the query with a number
abbrev pub HasQuery : Area → ℕ → Span → Type 0
HasQuery a n q = slice_get a.queries n ≡ Some q

abbrev pub table_at : Area → ℕ → Table
table_at a t = slice_index_or a.tables t []

abbrev pub range_at : Area → ℕ → Range
range_at a r = slice_index_or a.ranges r empty_range

-- the name of an atom
abbrev pub name_of : Area → AtomId → Name
name_of a c = atom_name a.pool c

-- ---- as it is kept

abbrev pub span_of : QueryEntry → Span
span_of q = record { at = q.at; end = q.end; names = q.names.items }

abbrev pub area_of : CodeParts → Area
area_of p = record {
  pool = p.pool;
  code = p.code.items;
  tables = map (λ t. t.items) p.tables.items;
  ranges = map (λ r. r.value) p.ranges.items;
  entries = p.entries.items;
  queries = map span_of p.queries.items;
}
