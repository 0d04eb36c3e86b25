-- The forms of instructions: their names, and the instructions that they are with operands.
use Rattle.std.specs.Prelude.{◌≡◌, ℕ, ℤ, List, [], ◌∷◌, codes, All, IsTrue, Option}
use Rattle.listing_reader.specs.declared.forms.Lone.{Lone}
use Rattle.listing_reader.specs.declared.forms.Lone.TheVariants as lone
use Rattle.listing_reader.specs.declared.forms.One.{One}
use Rattle.listing_reader.specs.declared.forms.One.TheVariants as one
use Rattle.listing_reader.specs.declared.forms.Two.{Two}
use Rattle.listing_reader.specs.declared.forms.Two.TheVariants as two
use Rattle.listing_reader.specs.declared.forms.Three.{Three}
use Rattle.listing_reader.specs.declared.forms.Three.TheVariants as three
use Rattle.listing_reader.specs.declared.forms.Side.{Side}
use Rattle.listing_reader.specs.declared.forms.Side.TheVariants as side
use Rattle.listing_reader.specs.declared.forms.Kind.{Kind}
use Rattle.listing_reader.specs.declared.forms.Kind.TheVariants as kind
use Rattle.listing_reader.specs.declared.forms.Counted.{Counted}
use Rattle.listing_reader.specs.declared.forms.Counted.TheVariants as counted
use Rattle.listing_reader.specs.declared.forms.Slotted.{Slotted}
use Rattle.listing_reader.specs.declared.forms.Slotted.TheVariants as slotted
use Rattle.listing_reader.specs.declared.forms.Operation.{Operation}
use Rattle.listing_reader.specs.declared.forms.Operation.TheVariants as form
use Rattle.term_pool.specs.declared.AtomId.{AtomId}
use Rattle.wam_code.specs.declared.instruction.Register.{Register}
use Rattle.wam_code.specs.declared.instruction.Code.{Code}
use Rattle.wam_code.specs.declared.instruction.Code.TheVariants as code
use Rattle.wam_code.specs.declared.instruction.Code.TheVariants.{SwitchOnConstant, SwitchOnInteger, SwitchOnStructure}
use Rattle.wam_code.specs.Area.{Table}
use Rattle.code_listing.specs.Texts.{instruction_words}
use Rattle.code_listing.specs.Sheets.{fits_switch}
use Rattle.listing_reader.specs.NumberBounds.{IsNumber, IsSmallKey, IsSmallCode}
use Rattle.listing_reader.specs.Reading.{ReadsAs}

-- the name of an instruction
abbrev pub form_name : Operation → List ℕ
form_name (form.Two (two.Variable side.Get)) = codes "GetVariable"
form_name (form.Two (two.Value side.Get)) = codes "GetValue"
form_name (form.Two (two.Constant side.Get)) = codes "GetConstant"
form_name (form.Two (two.Integer side.Get)) = codes "GetInteger"
form_name (form.Three (three.Structure side.Get)) = codes "GetStructure"
form_name (form.Two (two.Variable side.Put)) = codes "PutVariable"
form_name (form.Two (two.Value side.Put)) = codes "PutValue"
form_name (form.Two (two.Constant side.Put)) = codes "PutConstant"
form_name (form.Two (two.Integer side.Put)) = codes "PutInteger"
form_name (form.Three (three.Structure side.Put)) = codes "PutStructure"
form_name (form.One one.UnifyVariable) = codes "UnifyVariable"
form_name (form.One one.UnifyValue) = codes "UnifyValue"
form_name (form.One one.UnifyConstant) = codes "UnifyConstant"
form_name (form.One one.UnifyInteger) = codes "UnifyInteger"
form_name (form.One (one.Counted counted.UnifyVoid)) = codes "UnifyVoid"
form_name (form.One (one.Counted counted.Allocate)) = codes "Allocate"
form_name (form.One (one.Counted counted.Call)) = codes "Call"
form_name (form.One (one.Counted counted.Execute)) = codes "Execute"
form_name (form.One (one.Counted counted.Jump)) = codes "Jump"
form_name (form.One (one.Counted counted.TryMeElse)) = codes "TryMeElse"
form_name (form.One (one.Counted counted.RetryMeElse)) = codes "RetryMeElse"
form_name (form.One (one.Counted counted.Try)) = codes "Try"
form_name (form.One (one.Counted counted.Retry)) = codes "Retry"
form_name (form.One (one.Counted counted.Trust)) = codes "Trust"
form_name (form.One (one.Counted counted.Either)) = codes "Either"
form_name (form.Lone lone.Deallocate) = codes "Deallocate"
form_name (form.Lone lone.Proceed) = codes "Proceed"
form_name (form.Lone lone.FailNow) = codes "FailNow"
form_name (form.Lone lone.AnswerNow) = codes "AnswerNow"
form_name (form.Lone lone.TrustMe) = codes "TrustMe"
form_name (form.SwitchOnTerm) = codes "SwitchOnTerm"
form_name (form.Switch kind.Atoms) = codes "SwitchOnConstant"
form_name (form.Switch kind.Integers) = codes "SwitchOnInteger"
form_name (form.Switch kind.Structures) = codes "SwitchOnStructure"
form_name (form.One one.Builtin) = codes "Builtin"
form_name (form.One one.Constrain) = codes "Constrain"
form_name (form.One one.Label) = codes "Label"
form_name (form.Two two.Best) = codes "Best"
form_name (form.Two two.PostRange) = codes "PostRange"
form_name (form.One (one.Slotted slotted.Level)) = codes "Level"
form_name (form.One (one.Slotted slotted.TestOnly)) = codes "TestOnly"
form_name (form.One (one.Slotted slotted.CutTo)) = codes "CutTo"
form_name (form.Three three.EnterTest) = codes "EnterTest"

abbrev pub IsAnyForm : Operation → Type 0
IsAnyForm f = Unit {0}

abbrev pub counted_code : Counted → ℕ → Code
counted_code counted.UnifyVoid n = code.UnifyVoid n
counted_code counted.Allocate n = code.Allocate n
counted_code counted.Call n = code.Call n
counted_code counted.Execute n = code.Execute n
counted_code counted.Jump n = code.Jump n
counted_code counted.TryMeElse n = code.TryMeElse n
counted_code counted.RetryMeElse n = code.RetryMeElse n
counted_code counted.Try n = code.Try n
counted_code counted.Retry n = code.Retry n
counted_code counted.Trust n = code.Trust n
counted_code counted.Either n = code.Either n

abbrev pub slotted_code : Slotted → ℕ → Code
slotted_code slotted.Level n = code.Level n
slotted_code slotted.TestOnly n = code.TestOnly n
slotted_code slotted.CutTo n = code.CutTo n

-- an instruction that takes a head's argument or makes a goal's
abbrev pub variable_code : Side → Register → ℕ → Code
variable_code side.Get r a = code.GetVariable r a
variable_code side.Put r a = code.PutVariable r a

abbrev pub value_code : Side → Register → ℕ → Code
value_code side.Get r a = code.GetValue r a
value_code side.Put r a = code.PutValue r a

abbrev pub constant_code : Side → AtomId → ℕ → Code
constant_code side.Get c a = code.GetConstant c a
constant_code side.Put c a = code.PutConstant c a

abbrev pub integer_code : Side → ℤ → ℕ → Code
integer_code side.Get z a = code.GetInteger z a
integer_code side.Put z a = code.PutInteger z a

abbrev pub structure_code : Side → AtomId → ℕ → ℕ → Code
structure_code side.Get f n a = code.GetStructure f n a
structure_code side.Put f n a = code.PutStructure f n a

-- ---- instructions with their rows

-- A switch without the number of its table, or another instruction without rows.
abbrev pub IsBare : Code → Table → Type 0
IsBare (SwitchOnConstant t) rows = t ≡ 0
IsBare (SwitchOnInteger t) rows = t ≡ 0
IsBare (SwitchOnStructure t) rows = t ≡ 0
IsBare i rows = rows ≡ []

abbrev pub IsSmallTable : Table → Type 0
IsSmallTable rows = All (λ row. IsSmallKey row.0 × IsNumber row.1) rows

-- An instruction and the rows of a switch: numbers are of their sizes, and keys of the switch's kind.
abbrev pub FitsInstruction : Code × Table → Type 0
FitsInstruction y = IsSmallCode y.0 × IsSmallTable y.1 × All (λ row. IsTrue (fits_switch y.0 row.0)) y.1 × IsBare y.0 y.1

-- its name and its operands
abbrev pub instruction_text : Code × Table → List (List ℕ)
instruction_text y = instruction_words y.1 y.0

-- an instruction without rows
abbrev pub without_rows : Code → Code × Table
without_rows i = (i, [])

-- the switch with keys of a kind
abbrev pub switch_code : Kind → Code
switch_code kind.Atoms = SwitchOnConstant 0
switch_code kind.Integers = SwitchOnInteger 0
switch_code kind.Structures = SwitchOnStructure 0

-- The result is the instruction of this form with these operands, where the form has no rows.
abbrev pub ReadsPlain : Operation → List (List ℕ) → Option Code → Type 0
ReadsPlain (form.Switch k) ws r = Unit {0}
ReadsPlain f ws r = ReadsAs without_rows FitsInstruction instruction_text (form_name f ∷ ws) r
