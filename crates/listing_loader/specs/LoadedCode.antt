-- The code that a text tells, and what a text that is no listing is refused for.
use Rattle.std.specs.Prelude.{◌≡◌, ℕ, ◌<◌, List, map, length, IsTrue, All}
use Rattle.fd_language.specs.declared.TheConstants.{INFINITY}
use Rattle.fd_language.specs.Range.{Range}
use Rattle.fd_language.specs.RangeVerdict.{is_accepted}
use Rattle.fd_language.specs.PostfixRanges.{spelled_range}
use Rattle.term_pool.specs.PoolInvariant.{IsPool}
use Rattle.code_listing.specs.Listing.{Sheet, sheet_of}
use Rattle.code_listing.specs.Sheets.{area_in, Listed, IsListed}
use Rattle.code_flow.specs.PlaceConditions.{IsFirstFailing}
use Rattle.listing_reader.specs.NumberBounds.{HasSizes}
use Rattle.listing_reader.specs.SheetTexts.{Tells, IsBadLine}
use Rattle.listing_loader.specs.declared.fault.LoadFault.{LoadFault}
use Rattle.listing_loader.specs.declared.fault.LoadFault.TheVariants.{BadLine, BadNumber, BadRange, NotVerified, NoMemory}
use Rattle.listing_loader.specs.Marks.{number_marks, IsFirstWrong, AreRight, IsFirstBadRange, IsGoodRange, place_line}

-- ---- what a sheet names

-- All lines are right in what they name, and this is the line of the first range that can't be posted.
pub record IsRangeFault (s : Sheet) (line : ℕ) : Type 0 where
  pub numbers : AreRight (number_marks s)
  pub first : IsFirstBadRange s line

-- All lines are right, all ranges can be posted, and this is the line of the smallest place at which the code isn't verified by its states.
pub record IsPlaceFault (s : Sheet) (line : ℕ) : Type 0 where
  pub numbers : AreRight (number_marks s)
  pub ranges : All IsGoodRange s.ranges
  pub place : ℕ
  pub there : place < length s.code
  pub at : line ≡ place_line s place
  pub first : IsFirstFailing (area_in s) s.states place

-- ---- the faults of a text

-- A text of the right form has a line that isn't right in what it names, and this is the first.
pub record IsBadNumber (text : List ℕ) (line : ℕ) : Type 0 where
  pub sheet : Sheet
  pub tells : Tells text sheet
  pub first : IsFirstWrong (number_marks sheet) line

-- It has a range that can't be posted.
pub record IsBadRange (text : List ℕ) (line : ℕ) : Type 0 where
  pub sheet : Sheet
  pub tells : Tells text sheet
  pub range : IsRangeFault sheet line

-- Its code isn't verified by its states.
pub record IsNotVerified (text : List ℕ) (line : ℕ) : Type 0 where
  pub sheet : Sheet
  pub tells : Tells text sheet
  pub place : IsPlaceFault sheet line

-- Want of memory says nothing.
abbrev pub IsLoadFault : List ℕ → LoadFault → Type 0
IsLoadFault text (BadLine l) = IsBadLine text l
IsLoadFault text (BadNumber l) = IsBadNumber text l
IsLoadFault text (BadRange l) = IsBadRange text l
IsLoadFault text (NotVerified l) = IsNotVerified text l
IsLoadFault text NoMemory = Unit {0}

-- All lines are right in what they name, and all ranges can be posted.
pub record IsGood (s : Sheet) : Type 0 where
  pub numbers : AreRight (number_marks s)
  pub ranges : All IsGoodRange s.ranges

-- the ranges of the sheet, each of which can be posted
pub record AreRanges (s : Sheet) (rs : List Range) : Type 0 where
  pub spelled : rs ≡ map spelled_range s.ranges
  pub good : All IsGoodRange s.ranges

-- what a sheet is refused for
abbrev pub IsSheetRefusal : Sheet → LoadFault → Type 0
IsSheetRefusal s (BadLine l) = ⊥
IsSheetRefusal s (BadNumber l) = IsFirstWrong (number_marks s) l
IsSheetRefusal s (BadRange l) = IsRangeFault s l
IsSheetRefusal s (NotVerified l) = IsPlaceFault s l
IsSheetRefusal s NoMemory = Unit {0}

-- ---- code that loads

-- Code with states as memory holds it: its pool begins with the first three atoms and has each name once, its ranges are ready to be posted, and its numbers
-- are ones that their types can hold.
pub record IsHeld (l : Listed) : Type 0 where
  pub listed : IsListed l
  pub pool : IsPool l.area.pool
  pub ranges : All (λ r. IsTrue (is_accepted INFINITY r)) l.area.ranges
  pub sizes : HasSizes (sheet_of l.area l.states)
