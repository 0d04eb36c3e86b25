-- The arguments of a structure that is there, read one by one.
use Rattle.std.specs.Prelude.{◌≡◌, ◌≢◌, ℕ, suc, ◌-◌, ◌≤◌, Bool, true, false, List, [], length, drop, All, Option, Some, None}
use Rattle.fd_language.specs.declared.TheConstants.{INFINITY}
use Rattle.fd_model.specs.Goal.{Branch}
use Rattle.heap_cells.specs.declared.Cell.{Cell}
use Rattle.heap_cells.specs.declared.Cell.TheVariants as cell
use Rattle.heap_cells.specs.Terms.{Naming}
use Rattle.unify_core.specs.declared.Touch.{Touch}
use Rattle.branch_state.specs.States as branch
use Rattle.branch_state.specs.States.{IsCell, IsSameBelow}
use Rattle.branch_state.specs.Steps.{AreTouchesOf, posted_with}
use Rattle.wam_code.specs.Area.{Area}
use Rattle.code_areas.specs.Areas.{Contents}
use Rattle.code_meaning.specs.ReadMode.{Reads}
use Rattle.code_safety.specs.Machine.{registers_of, stack_of, IsSameBehind}
use Rattle.code_safety.specs.Safety.{IsSafe, IsSafeBack, IsSafeThen}
use Rattle.code_safety.specs.RepresentedBranch.{IsNaming, HasNoModel, StandsThen}
use Rattle.term_instructions.specs.declared.read_mode.ReadPosition.{ReadPosition}
use Rattle.term_instructions.specs.declared.read_mode.Look.{Look}
use Rattle.term_instructions.specs.declared.read_mode.Start.{Start}
use Rattle.term_instructions.specs.declared.read_mode.Start.TheVariants as start
use Rattle.term_instructions.specs.declared.read_mode.Look.TheVariants.{Read, Refused, Unclear}
use Rattle.code_safety.specs.declared.instruction_outcomes.Went.{Went}
use Rattle.term_instructions.specs.Arguments.{LeadsAmong, LeadsFrom}

-- The cells left are to be equal to the terms that the code gives from the place on, where what was
-- touched is still to be posted.
abbrev pub ReadsAt : ℕ → List ℕ → Area → List ℕ → Naming → branch.State → List Touch → ℕ → Contents → List Cell → Branch → Type 0
ReadsAt N marks area shown name s told at c left b = Reads INFINITY N marks area shown name s.heaps.now (posted_with s told) 0 at (registers_of c) left (stack_of c) b

-- It is safe to read on, and the machine stands for the same branches.
pub record IsReadTo (area : Area) (cells : List Cell) (s : branch.State) (told : List Touch) (from : ReadPosition) (c : Contents) (s' : branch.State)
    (told' : List Touch) (to : ReadPosition) (c' : Contents) : Type 0 where
  pub safe : IsSafe area s' to.at (length cells - to.next) c'
  pub within : to.next ≤ length cells
  pub leads : LeadsAmong area from.at to.at
  pub own : All (IsCell s') cells
  pub are_told : AreTouchesOf s' told'
  pub behind : IsSameBehind c c'
  pub below : IsSameBelow s s'
  pub keeps : (N : ℕ) (small : N ≤ INFINITY) (marks : List ℕ) (shown : List ℕ) (name : Naming) (b : Branch) → IsNaming area name
      → ReadsAt N marks area shown name s told from.at c (drop from.next cells) b → ReadsAt N marks area shown name s' told' to.at c' (drop to.next cells) b

-- It is safe to go back, and no such branch has a model.
pub record IsRefused (area : Area) (cells : List Cell) (s : branch.State) (told : List Touch) (from : ReadPosition) (c : Contents) (s' : branch.State) (c' : Contents) : Type 0 where
  pub safe : IsSafeBack area s' c'
  pub behind : IsSameBehind c c'
  pub below : IsSameBelow s s'
  pub none : (N : ℕ) (small : N ≤ INFINITY) (marks : List ℕ) (shown : List ℕ) (name : Naming) (b : Branch) → IsNaming area name
      → ReadsAt N marks area shown name s told from.at c (drop from.next cells) b → HasNoModel N b

abbrev pub ReadsOn : Area → List Cell → branch.State → List Touch → ReadPosition → Contents → branch.State → List Touch → Contents → Option ReadPosition → Type 0
ReadsOn area cells s told from c s' told' c' (Some to) = IsReadTo area cells s told from c s' told' to c'
ReadsOn area cells s told from c s' told' c' None = IsRefused area cells s told from c s' c'

-- the instruction behind is the next one
abbrev pub IsNextPlace : ℕ → Option ReadPosition → Type 0
IsNextPlace at (Some to) = to.at ≡ suc at
IsNextPlace at None = Unit {0}

-- all of them are read
abbrev pub ReadsAll : Area → List Cell → branch.State → List Touch → ReadPosition → Contents → branch.State → List Touch → Contents → Option ℕ → Type 0
ReadsAll area cells s told from c s' told' c' (Some at) = IsReadTo area cells s told from c s' told' (record { at = at; next = length cells }) c'
ReadsAll area cells s told from c s' told' c' None = IsRefused area cells s told from c s' c'

-- ReadPosition has ended where this leads, and the machine stands for the same branches.
pub record ReadsThen (area : Area) (cells : List Cell) (s : branch.State) (told : List Touch) (at : ℕ) (c : Contents) (s' : branch.State) (c' : Contents) (w : Went) : Type 0 where
  pub safe : IsSafeThen area s' c' w
  pub leads : LeadsFrom area at w
  pub behind : IsSameBehind c c'
  pub below : IsSameBelow s s'
  pub stands : (N : ℕ) (small : N ≤ INFINITY) (marks : List ℕ) (shown : List ℕ) (name : Naming) (b : Branch) → IsNaming area name
      → ReadsAt N marks area shown name s told at c cells b → StandsThen N marks area shown name s' c' w b

-- constants of one kind that differ
abbrev pub AreOther : Cell → Cell → Type 0
AreOther (cell.Atom a) (cell.Atom c) = a ≢ c
AreOther (cell.Int x) (cell.Int z) = x ≢ z
AreOther _ _ = ⊥

-- what a look at the end of an argument's bindings tells, where the code gives a constant
abbrev pub TellsEqual : Cell → Cell → ReadPosition → Look → Type 0
TellsEqual root constant to (Read there) = (root ≡ constant) × (there ≡ to)
TellsEqual root constant to Refused = AreOther root constant
TellsEqual root constant to Unclear = Unit {0}

-- what a look at an argument comes to: nothing has changed but a register
abbrev pub LooksOn : Area → List Cell → branch.State → ReadPosition → Contents → Contents → Look
    → Type 0
LooksOn area cells s from c c' (Read to) = IsReadTo area cells s [] from c s [] to c'
LooksOn area cells s from c c' Refused = IsRefused area cells s [] from c s c'
LooksOn area cells s from c c' Unclear = c' ≡ c

-- the instruction behind is the next one
abbrev pub IsNextLook : ℕ → Look → Type 0
IsNextLook at (Read to) = to.at ≡ suc at
IsNextLook at Refused = Unit {0}
IsNextLook at Unclear = Unit {0}

-- whether the next argument was read into a register: else nothing has changed
abbrev pub TakesOne : Area → List Cell → branch.State → ReadPosition → Contents → Contents → Bool
    → Type 0
TakesOne area cells s from c c' true = IsReadTo area cells s [] from c s []
    (record { at = suc from.at; next = suc from.next }) c'
TakesOne area cells s from c c' false = c' ≡ c

-- how far arguments were read into registers, where nothing else has changed
abbrev pub StartsTo : Area → List Cell → branch.State → ℕ → Contents → Contents → Start → Type 0
StartsTo area cells s at c c' (start.All to) = IsReadTo area cells s []
    (record { at = at; next = 0 }) c s [] (record { at = to; next = length cells }) c'
StartsTo area cells s at c c' (start.Part to) = IsReadTo area cells s []
    (record { at = at; next = 0 }) c s [] to c'
