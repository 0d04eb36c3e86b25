-- What lines have a form, and the first line at which lines leave it.
use Rattle.std.specs.Prelude.{◌≡◌, ◌⊎◌, ℕ, zero, suc, ◌+◌, ◌<◌, List, [], ◌∷◌, ◌++◌, map, length, All, decimal}
use Rattle.code_listing.specs.Words.{words}
use Rattle.code_listing.specs.Listing.{counted}
use Rattle.listing_reader.specs.NumberBounds.{IsNumber}
use Rattle.listing_reader.specs.declared.fault.SheetFault.{SheetFault}
use Rattle.listing_reader.specs.declared.fault.SheetFault.TheVariants.{BadLine, NoMemory}

-- both have k lines at least, and the first k are the same
abbrev pub BeginAlike : ℕ → List (List ℕ) → List (List ℕ) → Type 0
BeginAlike zero ls ms = Unit {0}
BeginAlike (suc k) (l ∷ ls) (m ∷ ms) = (l ≡ m) × BeginAlike k ls ms
BeginAlike (suc k) _ _ = ⊥

-- The first k lines are those of something of the form, which always goes on behind them, and nothing of the form has the first k + 1.
pub record StopsAt (Is : List (List ℕ) → Type 0) (lines : List (List ℕ)) (k : ℕ) : Type 0 where
  pub before : (b : List (List ℕ)) × (Is b × BeginAlike k b lines)
  pub longer : (b : List (List ℕ)) → Is b → BeginAlike k b lines → k < length b
  pub bad : (b : List (List ℕ)) → Is b → ¬ BeginAlike (suc k) b lines

-- The fault is the line at which lines leave the form, where so many lines stand before them. Want of memory says nothing.
abbrev pub IsStop : (List (List ℕ) → Type 0) → List (List ℕ) → ℕ → SheetFault → Type 0
IsStop Is lines at (BadLine l) = (k : ℕ) × ((l ≡ suc (at + k)) × StopsAt Is lines k)
IsStop Is lines at NoMemory = Unit {0}

-- a line that says what lines are and how many
abbrev pub header : List ℕ → ℕ → List ℕ
header name n = words (name ∷ decimal n ∷ [])

-- lines that begin with one, with this count, and those behind it
abbrev pub HasHeader : List ℕ → List (List ℕ) → ℕ → List (List ℕ) → Type 0
HasHeader name lines n behind = IsNumber n × (lines ≡ header name n ∷ behind)

-- lines that begin with none
abbrev pub HasNoHeader : List ℕ → List (List ℕ) → Type 0
HasNoHeader name lines = (n : ℕ) (behind : List (List ℕ)) → IsNumber n → ¬ (lines ≡ header name n ∷ behind)

-- the texts of things, behind a line that says what they are and how many
pub record Section {A : Type 0} (name : List ℕ) (Fits : A → Type 0) (text : A → List ℕ) (b : List (List ℕ)) : Type 0 where
  pub items : List A
  pub fit : All Fits items
  pub count : IsNumber (length items)
  pub lines : b ≡ counted name (map text items)

-- The lines begin with the section of these things.
pub record HasSection {A : Type 0} (name : List ℕ) (Fits : A → Type 0) (text : A → List ℕ) (lines : List (List ℕ)) (xs : List A) : Type 0 where
  pub fit : All Fits xs
  pub count : IsNumber (length xs)
  pub behind : List (List ℕ)
  pub are : lines ≡ counted name (map text xs) ++ behind

-- lines of one form, and then lines of another
pub record Joined (P Q : List (List ℕ) → Type 0) (b : List (List ℕ)) : Type 0 where
  pub first : List (List ℕ)
  pub rest : List (List ℕ)
  pub is_first : P first
  pub is_rest : Q rest
  pub lines : b ≡ first ++ rest

-- a line, and then lines of a form
pub record Headed (head : List ℕ) (Q : List (List ℕ) → Type 0) (b : List (List ℕ)) : Type 0 where
  pub rest : List (List ℕ)
  pub is_rest : Q rest
  pub lines : b ≡ head ∷ rest

-- The lines are the section of these things, and then lines of which Then holds.
pub record Follows {A : Type 0} (name : List ℕ) (Fits : A → Type 0) (text : A → List ℕ) (Then : List (List ℕ) → Type 0) (lines : List (List ℕ)) (xs : List A) : Type 0 where
  pub fit : All Fits xs
  pub count : IsNumber (length xs)
  pub behind : List (List ℕ)
  pub are : lines ≡ counted name (map text xs) ++ behind
  pub then : Then behind

-- more lines than so many, or one that isn't ended
abbrev pub GoesOn : {W : Type 0} → ℕ → List W → List ℕ → Type 0
GoesOn size lines rest = (size < length lines) ⊎ (¬ (rest ≡ []))

-- Of a text with these lines, and this behind its last newline: the first k lines are those of something of the form, nothing of the form has the first k + 1,
-- and the text is nothing of the form.
pub record LeavesAt (Is : List (List ℕ) → Type 0) (lines : List (List ℕ)) (rest : List ℕ) (k : ℕ) : Type 0 where
  pub before : (b : List (List ℕ)) × (Is b × BeginAlike k b lines)
  pub bad : (b : List (List ℕ)) → Is b → ¬ BeginAlike (suc k) b lines
  pub none : (b : List (List ℕ)) → Is b → lines ≡ b → ¬ (rest ≡ [])

abbrev pub IsLeft : (List (List ℕ) → Type 0) → List (List ℕ) → List ℕ → ℕ → SheetFault → Type 0
IsLeft Is lines rest at (BadLine l) = (k : ℕ) × ((l ≡ suc (at + k)) × LeavesAt Is lines rest k)
IsLeft Is lines rest at NoMemory = Unit {0}
