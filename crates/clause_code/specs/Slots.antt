-- The slots of a query's variables: the shown ones have the first slots, in their order.
use Rattle.std.specs.Prelude.{◌≡◌, ℕ, suc, ◌<◌, List, length, slice_index_or}
use Rattle.wam_code.specs.declared.instruction.Register.{Register}
use Rattle.wam_code.specs.declared.instruction.Register.TheVariants.{Y}
use Rattle.clause_code.specs.Steps.{home}

-- the slot of a variable, or 0 where it has none yet
abbrev pub slot : List ℕ → ℕ → ℕ
slot slots x = slice_index_or slots x 0

-- The slots that are given are below `next`, and no two variables have one.
pub record AreGiven (v next : ℕ) (slots : List ℕ) : Type 0 where
  pub long : length slots ≡ v
  pub some : 0 < next
  pub below : (x : ℕ) → x < v → slot slots x < next
  pub apart : (x y : ℕ) → x < v → y < v → 0 < slot slots x → slot slots x ≡ slot slots y → x ≡ y

-- the first k of the shown variables have the first k slots
abbrev pub AreShown : List ℕ → ℕ → List ℕ → Type 0
AreShown shown k slots = (j : ℕ) → j < k → slot slots (slice_index_or shown j 0) ≡ suc j

-- the first k variables have slots
abbrev pub AreAll : ℕ → List ℕ → Type 0
AreAll k slots = (x : ℕ) → x < k → 0 < slot slots x

-- The v variables of a query are in slots of a frame with so many, the shown ones first.
pub record IsQueryFrame (v : ℕ) (shown : List ℕ) (homes : List Register) (slots : ℕ) : Type 0 where
  pub long : length homes ≡ v
  pub apart : (x y : ℕ) → x < v → y < v → home homes x ≡ home homes y → x ≡ y
  pub in_frame : (x : ℕ) → x < v → (i : ℕ) × (home homes x ≡ Y (suc i)) × (i < slots)
  pub first : (j : ℕ) → j < length shown → home homes (slice_index_or shown j 0) ≡ Y (suc j)
