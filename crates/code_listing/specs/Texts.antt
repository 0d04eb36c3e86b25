-- The text of what stands in a line.
use Rattle.std.specs.Prelude.{ℕ, zero, suc, List, [], ◌∷◌, ◌++◌, map, Option, Some, None, codes, decimal}
use Rattle.std.specs.Fmt.{signed_decimal}
use Rattle.fd_language.specs.declared.range_node.RangeNode.{RangeNode}
use Rattle.fd_language.specs.declared.range_node.RangeNode.TheVariants as node
use Rattle.term_pool.specs.declared.AtomId.{AtomId}
use Rattle.wam_code.specs.declared.instruction.Register.{Register}
use Rattle.wam_code.specs.declared.instruction.Register.TheVariants.{X, Y}
use Rattle.wam_code.specs.declared.instruction.Key.{Key}
use Rattle.wam_code.specs.declared.instruction.Key.TheVariants as key
use Rattle.wam_code.specs.declared.instruction.Code.{Code}
use Rattle.wam_code.specs.declared.instruction.Code.TheVariants as code
use Rattle.wam_code.specs.declared.instruction.Code.TheVariants.{GetVariable, GetValue, GetConstant, GetInteger, GetStructure, UnifyVariable, UnifyValue}
use Rattle.wam_code.specs.declared.instruction.Code.TheVariants.{UnifyConstant, UnifyInteger, UnifyVoid, PutVariable, PutValue, PutConstant, PutInteger}
use Rattle.wam_code.specs.declared.instruction.Code.TheVariants.{PutStructure, Allocate, Deallocate, Call, Execute, Proceed, Jump, FailNow, AnswerNow}
use Rattle.wam_code.specs.declared.instruction.Code.TheVariants.{TryMeElse, RetryMeElse, TrustMe, Try, Retry, Trust, SwitchOnTerm, SwitchOnConstant}
use Rattle.wam_code.specs.declared.instruction.Code.TheVariants.{SwitchOnInteger, SwitchOnStructure, Either, Builtin, Constrain, Label, Best, PostRange}
use Rattle.wam_code.specs.declared.instruction.Code.TheVariants.{TestOnly, EnterTest, CutTo}
use Rattle.wam_code.specs.declared.parts.Entry.{Entry}
use Rattle.wam_code.specs.Area.{Slot, Unset, Cell, Level, State, Span, Table}
use Rattle.code_listing.specs.Words.{between, words}
use Rattle.code_listing.specs.Names.{constraint_word, builtin_word, order_word, aim_word}

-- what stands before the text of this index, where texts are separated
abbrev pub separator_at : ℕ → List ℕ → List ℕ
separator_at zero sep = []
separator_at (suc i) sep = sep

-- ---- ranges

-- a name with a number behind it
abbrev pub numbered : List ℕ → ℕ → List ℕ
numbered name n = name ++ (codes " " ++ decimal n)

abbrev pub node_text : RangeNode → List ℕ
node_text (node.Int z) = codes "i " ++ signed_decimal z
node_text node.Infinity = codes "inf"
node_text (node.Param y) = numbered (codes "p") y
node_text (node.Min y) = numbered (codes "min") y
node_text (node.Max y) = numbered (codes "max") y
node_text (node.Val y) = numbered (codes "val") y
node_text node.Add = codes "add"
node_text node.Sub = codes "sub"
node_text node.Mul = codes "mul"
node_text node.DivDown = codes "down"
node_text node.DivUp = codes "up"
node_text node.Span = codes "span"
node_text node.One = codes "one"
node_text (node.Dom y) = numbered (codes "dom") y
node_text node.Union = codes "union"
node_text node.Inter = codes "inter"
node_text node.Outside = codes "outside"
node_text node.Plus = codes "plus"
node_text node.Minus = codes "minus"
node_text node.Times = codes "times"
node_text node.Over = codes "over"

abbrev pub nodes_text : List RangeNode → List ℕ
nodes_text ns = words (map node_text ns)

-- ---- predicates and queries

abbrev pub atom_number : AtomId → List ℕ
atom_number c = decimal c.number

abbrev pub entry_text : Entry → List ℕ
entry_text e = words (atom_number e.name ∷ decimal e.arity ∷ decimal e.at ∷ [])

abbrev pub span_text : Span → List ℕ
span_text q = words (decimal q.at ∷ decimal q.end ∷ map atom_number q.names)

-- ---- states

abbrev pub register_word : Register → List ℕ
register_word (X n) = codes "x" ++ decimal n
register_word (Y n) = codes "y" ++ decimal n

-- an argument register
abbrev pub argument_word : ℕ → List ℕ
argument_word n = register_word (X n)

-- a slot
abbrev pub slot_word : ℕ → List ℕ
slot_word n = register_word (Y n)

abbrev pub registers_between : List ℕ → List ℕ
registers_between ns = between (codes ",") (map argument_word ns)

abbrev pub registers_word : List ℕ → List ℕ
registers_word [] = codes "-"
registers_word (n ∷ ns) = registers_between (n ∷ ns)

abbrev pub slot_letter : Slot → ℕ
slot_letter Unset = 117
slot_letter Cell = 99
slot_letter Level = 108

abbrev pub frame_word : Option (List Slot) → List ℕ
frame_word None = codes "-"
frame_word (Some []) = codes "."
frame_word (Some (s ∷ ss)) = map slot_letter (s ∷ ss)

-- ---- instructions

abbrev pub key_text : Key → List ℕ
key_text (key.Atom c) = atom_number c
key_text (key.Int z) = signed_decimal z
key_text (key.Struct f n) = atom_number f ++ (codes "/" ++ decimal n)

abbrev pub row_word : Key × ℕ → List ℕ
row_word row = key_text row.0 ++ (codes ":" ++ decimal row.1)

-- The instruction's name and its operands, where a switch has this table.
abbrev pub instruction_words : Table → Code → List (List ℕ)
instruction_words table (GetVariable r a) = codes "GetVariable" ∷ register_word r ∷ argument_word a ∷ []
instruction_words table (GetValue r a) = codes "GetValue" ∷ register_word r ∷ argument_word a ∷ []
instruction_words table (GetConstant c a) = codes "GetConstant" ∷ atom_number c ∷ argument_word a ∷ []
instruction_words table (GetInteger z a) = codes "GetInteger" ∷ signed_decimal z ∷ argument_word a ∷ []
instruction_words table (GetStructure f n a) = codes "GetStructure" ∷ atom_number f ∷ decimal n ∷ argument_word a ∷ []
instruction_words table (UnifyVariable r) = codes "UnifyVariable" ∷ register_word r ∷ []
instruction_words table (UnifyValue r) = codes "UnifyValue" ∷ register_word r ∷ []
instruction_words table (UnifyConstant c) = codes "UnifyConstant" ∷ atom_number c ∷ []
instruction_words table (UnifyInteger z) = codes "UnifyInteger" ∷ signed_decimal z ∷ []
instruction_words table (UnifyVoid n) = codes "UnifyVoid" ∷ decimal n ∷ []
instruction_words table (PutVariable r a) = codes "PutVariable" ∷ register_word r ∷ argument_word a ∷ []
instruction_words table (PutValue r a) = codes "PutValue" ∷ register_word r ∷ argument_word a ∷ []
instruction_words table (PutConstant c a) = codes "PutConstant" ∷ atom_number c ∷ argument_word a ∷ []
instruction_words table (PutInteger z a) = codes "PutInteger" ∷ signed_decimal z ∷ argument_word a ∷ []
instruction_words table (PutStructure f n a) = codes "PutStructure" ∷ atom_number f ∷ decimal n ∷ argument_word a ∷ []
instruction_words table (Allocate n) = codes "Allocate" ∷ decimal n ∷ []
instruction_words table Deallocate = codes "Deallocate" ∷ []
instruction_words table (Call e) = codes "Call" ∷ decimal e ∷ []
instruction_words table (Execute e) = codes "Execute" ∷ decimal e ∷ []
instruction_words table Proceed = codes "Proceed" ∷ []
instruction_words table (Jump to) = codes "Jump" ∷ decimal to ∷ []
instruction_words table FailNow = codes "FailNow" ∷ []
instruction_words table AnswerNow = codes "AnswerNow" ∷ []
instruction_words table (TryMeElse to) = codes "TryMeElse" ∷ decimal to ∷ []
instruction_words table (RetryMeElse to) = codes "RetryMeElse" ∷ decimal to ∷ []
instruction_words table TrustMe = codes "TrustMe" ∷ []
instruction_words table (Try to) = codes "Try" ∷ decimal to ∷ []
instruction_words table (Retry to) = codes "Retry" ∷ decimal to ∷ []
instruction_words table (Trust to) = codes "Trust" ∷ decimal to ∷ []
instruction_words table (SwitchOnTerm v c i s) = codes "SwitchOnTerm" ∷ decimal v ∷ decimal c ∷ decimal i ∷ decimal s ∷ []
instruction_words table (SwitchOnConstant t) = codes "SwitchOnConstant" ∷ map row_word table
instruction_words table (SwitchOnInteger t) = codes "SwitchOnInteger" ∷ map row_word table
instruction_words table (SwitchOnStructure t) = codes "SwitchOnStructure" ∷ map row_word table
instruction_words table (Either to) = codes "Either" ∷ decimal to ∷ []
instruction_words table (Builtin k) = codes "Builtin" ∷ builtin_word k ∷ []
instruction_words table (Constrain k) = codes "Constrain" ∷ constraint_word k ∷ []
instruction_words table (Label o) = codes "Label" ∷ order_word o ∷ []
instruction_words table (Best o least) = codes "Best" ∷ order_word o ∷ aim_word least ∷ []
instruction_words table (PostRange r n) = codes "PostRange" ∷ decimal r ∷ decimal n ∷ []
instruction_words table (code.Level n) = codes "Level" ∷ slot_word n ∷ []
instruction_words table (TestOnly n) = codes "TestOnly" ∷ slot_word n ∷ []
instruction_words table (EnterTest n m to) = codes "EnterTest" ∷ slot_word n ∷ slot_word m ∷ decimal to ∷ []
instruction_words table (CutTo n) = codes "CutTo" ∷ slot_word n ∷ []

-- a place: its state, and then its instruction
abbrev pub place_text : Table → State → Code → List ℕ
place_text table s i = words (registers_word s.regs ∷ frame_word s.frame ∷ decimal s.owed ∷ instruction_words table i)
