-- The sections of a listing.
use Rattle.std.specs.Prelude.{◌≡◌, ℕ, List, ◌∷◌, codes, map, length, All, IsUtf8}
use Rattle.fd_language.specs.Term.{Name}
use Rattle.fd_language.specs.TermTexts.{Quoted, atom_text}
use Rattle.fd_language.specs.declared.range_node.RangeNode.{RangeNode}
use Rattle.wam_code.specs.declared.parts.Entry.{Entry}
use Rattle.wam_code.specs.Area.{Span}
use Rattle.code_listing.specs.Listing.{counted}
use Rattle.code_listing.specs.Texts.{entry_text, nodes_text, span_text}
use Rattle.listing_reader.specs.NumberBounds.{HasSize, IsNumber, IsSmallEntry, IsSmallSpan}
use Rattle.listing_reader.specs.Lines.{Follows, Headed, Joined, Section}
use Rattle.listing_reader.specs.Lists.{FitsPlace, Placed, placed_text}

-- ---- their forms

abbrev pub IsAtoms : List (List ℕ) → Type 0
IsAtoms = Section (codes "atoms") IsUtf8 (atom_text Quoted)

abbrev pub IsRanges : List (List ℕ) → Type 0
IsRanges = Section (codes "ranges") (All HasSize) nodes_text

abbrev pub IsEntries : List (List ℕ) → Type 0
IsEntries = Section (codes "entries") IsSmallEntry entry_text

abbrev pub IsQueries : List (List ℕ) → Type 0
IsQueries = Section (codes "queries") IsSmallSpan span_text

abbrev pub IsPlaces : List (List ℕ) → Type 0
IsPlaces = Section (codes "code") FitsPlace placed_text

-- each with those behind it
abbrev pub FromQueries : List (List ℕ) → Type 0
FromQueries = Joined IsQueries IsPlaces

abbrev pub FromEntries : List (List ℕ) → Type 0
FromEntries = Joined IsEntries FromQueries

abbrev pub FromRanges : List (List ℕ) → Type 0
FromRanges = Joined IsRanges FromEntries

abbrev pub FromAtoms : List (List ℕ) → Type 0
FromAtoms = Joined IsAtoms FromRanges

abbrev pub first_line : List ℕ
first_line = codes "clpfd code 1"

-- lines that don't begin with it
abbrev pub HasNoFirst : List (List ℕ) → Type 0
HasNoFirst lines = (behind : List (List ℕ)) → ¬ (lines ≡ first_line ∷ behind)

abbrev pub IsListing : List (List ℕ) → Type 0
IsListing = Headed first_line FromAtoms

-- ---- what lines tell, each section with those behind it

pub record TellsPlaces (ps : List Placed) (lines : List (List ℕ)) : Type 0 where
  pub fit : All FitsPlace ps
  pub count : IsNumber (length ps)
  pub are : lines ≡ counted (codes "code") (map placed_text ps)

abbrev pub TellsQueries : List Span → List Placed → List (List ℕ) → Type 0
TellsQueries qs ps lines = Follows (codes "queries") IsSmallSpan span_text (TellsPlaces ps) lines qs

abbrev pub TellsEntries : List Entry → List Span → List Placed → List (List ℕ) → Type 0
TellsEntries es qs ps lines = Follows (codes "entries") IsSmallEntry entry_text (TellsQueries qs ps) lines es

abbrev pub TellsRanges : List (List RangeNode) → List Entry → List Span → List Placed → List (List ℕ) → Type 0
TellsRanges rs es qs ps lines = Follows (codes "ranges") (All HasSize) nodes_text (TellsEntries es qs ps) lines rs

abbrev pub TellsAtoms : List Name → List (List RangeNode) → List Entry → List Span → List Placed → List (List ℕ) → Type 0
TellsAtoms names rs es qs ps lines = Follows (codes "atoms") IsUtf8 (atom_text Quoted) (TellsRanges rs es qs ps) lines names
