-- How the program goes through the places of files.
use Rattle.std.specs.Prelude.{◌≡◌, ◌≤◌, ◌<◌, ◌⊎◌, ℕ, ◌+◌, ◌-◌, List, [], length, get_or, Some}
use Rattle.clpwhere.specs.Parts.{TextParts}
use Rattle.clpwhere.specs.Files.{file_place, place_in_file}
use Rattle.clpwhere.specs.PlacedLines.{IsLineOf}
use Rattle.clpwhere.specs.declared.files.Cursor.{Cursor}

-- the first file, where there is one
abbrev pub first_file : List TextParts → TextParts
first_file files = get_or files 0 (record { name = []; bytes = [] })

-- Of files that begin at the place begin, the rest begins at the place at, and the place lies in the first of the rest.
pub record IsBehind (files : List TextParts) (begin place : ℕ) (rest : List TextParts) (at : ℕ) : Type 0 where
  pub later : begin ≤ at
  pub within : at ≤ place
  pub behind : (p : ℕ) → at ≤ p → file_place files (p - begin) ≡ file_place rest (p - at)
  pub here : 0 < length rest → file_place rest (place - at) ≡ Some (place_in_file (first_file rest) (place - at))
  pub some : 0 < length files → 0 < length rest
  pub same : length rest ≡ length files → (rest ≡ files) × (at ≡ begin)

-- a cursor stands in its first file, and its line is that of its place
pub record IsCursor (c : Cursor) : Type 0 where
  pub some : 0 < length c.files.now
  pub line : IsLineOf (first_file c.files.now).bytes c.place c.line

-- where a cursor stands that went on to the first of these files: it is its own first file, or a later one at its beginning
pub record Entered (old new : Cursor) (files : List TextParts) (begin : ℕ) : Type 0 where
  pub cursor : IsCursor new
  pub same : new.files.now ≡ files
  pub at : new.begin ≡ begin
  pub stands : (new.place ≡ 0) ⊎ ((old.begin ≡ begin) × (new.place ≡ old.place))

-- what the cursor's files say of a place, and where a cursor stands that was moved there
pub record Moved (old new : Cursor) (to : ℕ) : Type 0 where
  pub cursor : IsCursor new
  pub place : new.begin + new.place ≡ to
  pub behind : (p : ℕ) → to ≤ p → file_place old.files.now (p - old.begin) ≡ file_place new.files.now (p - new.begin)
  pub here : file_place new.files.now new.place ≡ Some (place_in_file (first_file new.files.now) new.place)
