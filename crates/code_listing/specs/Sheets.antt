-- What a text can tell, and the code that it tells.
use Rattle.std.specs.Prelude.{◌≡◌, ℕ, Bool, true, IsTrue, List, [], ◌∷◌, ◌++◌, map, length, slice_get, Some, All}
use Rattle.fd_language.specs.PostfixRanges.{spelled_range}
use Rattle.term_pool.specs.Contents.{first_names}
use Rattle.wam_code.specs.declared.instruction.Key.{Key}
use Rattle.wam_code.specs.declared.instruction.Code.{Code}
use Rattle.wam_code.specs.declared.instruction.Code.TheVariants.{SwitchOnConstant, SwitchOnInteger, SwitchOnStructure}
use Rattle.wam_code.specs.Area.{State, Area}
use Rattle.wam_code.specs.Keys.{HasRisingTables}
use Rattle.wam_code.specs.VerifiedCode.{is_atom, is_int, is_struct, IsVerifiedBy}
use Rattle.code_listing.specs.Listing.{Sheet, table_of}

-- ---- tables in the order of their switches

-- the table that a switch names
abbrev pub switch_table : Code → List ℕ
switch_table (SwitchOnConstant t) = t ∷ []
switch_table (SwitchOnInteger t) = t ∷ []
switch_table (SwitchOnStructure t) = t ∷ []
switch_table i = []

-- those that code names, in its order
abbrev pub named_tables : List Code → List ℕ
named_tables [] = []
named_tables (i ∷ is) = switch_table i ++ named_tables is

-- so many tables, each named once, and numbered in the order of the switches that name them
pub record AreNamedInOrder (is : List Code) (count : ℕ) : Type 0 where
  pub numbers : (k t : ℕ) → slice_get (named_tables is) k ≡ Some t → t ≡ k
  pub all : length (named_tables is) ≡ count

-- the same, where their keys rise
pub record HasOrderedTables (a : Area) : Type 0 where
  pub in_order : AreNamedInOrder a.code (length a.tables)
  pub rising : HasRisingTables a

-- the keys that a switch may have
abbrev pub fits_switch : Code → Key → Bool
fits_switch (SwitchOnConstant t) = is_atom
fits_switch (SwitchOnInteger t) = is_int
fits_switch (SwitchOnStructure t) = is_struct
fits_switch i = λ _. true

-- ---- what a text can tell

-- As many states as places; tables in the order of their switches, with keys of the switch's kind.
pub record IsSheet (s : Sheet) : Type 0 where
  pub states : length s.states ≡ length s.code
  pub tables : AreNamedInOrder s.code (length s.tables)
  pub keys : All (λ i. All (λ row. IsTrue (fits_switch i row.0)) (table_of s.tables i)) s.code

-- the code that a sheet tells
abbrev pub area_in : Sheet → Area
area_in s = record { pool = record { names = first_names ++ s.atoms; entries = [] }; code = s.code; tables = s.tables; ranges = map spelled_range s.ranges; entries = s.entries; queries = s.queries }

-- ---- code that can be listed

-- Code with the states of its places: it is verified by them, and its tables are in the order of their switches.
pub record Listed : Type 0 where
  pub area : Area
  pub states : List State

pub record IsListed (l : Listed) : Type 0 where
  pub verified : IsVerifiedBy l.area l.states
  pub tables : HasOrderedTables l.area
