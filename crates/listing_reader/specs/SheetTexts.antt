-- The sheet that a text tells, and the line for which a text that tells none is refused.
use Rattle.std.specs.Prelude.{◌≡◌, ℕ, suc, List, ◌++◌, length}
use Rattle.code_listing.specs.Words.{line_bytes}
use Rattle.code_listing.specs.Listing.{Sheet, sheet_lines, sheet_text}
use Rattle.code_listing.specs.Sheets.{IsSheet}
use Rattle.listing_reader.specs.NumberBounds.{HasSizes}
use Rattle.listing_reader.specs.declared.fault.SheetFault.{SheetFault}
use Rattle.listing_reader.specs.declared.fault.SheetFault.TheVariants.{BadLine, NoMemory}

-- The text begins with the first k lines that the sheet has.
pub record BeginsAs (text : List ℕ) (k : ℕ) (s : Sheet) : Type 0 where
  pub sheet : IsSheet s
  pub sizes : HasSizes s
  pub front : List (List ℕ)
  pub rest : List (List ℕ)
  pub behind : List ℕ
  pub lines : sheet_lines s ≡ front ++ rest
  pub count : length front ≡ k
  pub bytes : text ≡ line_bytes front ++ behind

-- The text is all of the sheet's lines.
pub record Tells (text : List ℕ) (s : Sheet) : Type 0 where
  pub sheet : IsSheet s
  pub sizes : HasSizes s
  pub bytes : text ≡ sheet_text s

-- The text isn't a sheet's, and the line with this number, from 1 on, is the first with which no sheet goes on: it has another form, it is missing, or it is
-- one too many.
pub record IsBadLine (text : List ℕ) (line : ℕ) : Type 0 where
  pub index : ℕ
  pub at : line ≡ suc index
  pub none : (s : Sheet) → ¬ Tells text s
  pub before : (s : Sheet) × BeginsAs text index s
  pub bad : (s : Sheet) → ¬ BeginsAs text line s

-- The fault is the first bad line. Want of memory says nothing.
abbrev pub IsSheetFault : List ℕ → SheetFault → Type 0
IsSheetFault text (BadLine l) = IsBadLine text l
IsSheetFault text NoMemory = Unit {0}

-- No two sheets have one text.
abbrev pub OneSheet : Type 0
OneSheet = (s t : Sheet) → IsSheet s → IsSheet t → HasSizes s → HasSizes t → sheet_text s ≡ sheet_text t → s ≡ t
