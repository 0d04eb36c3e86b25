-- Numbers that their types can hold.
use Rattle.std.specs.Prelude.{ℕ, ℤ, ◌<◌, ◌^◌, List, [], ◌∷◌, length, FitsSigned, All, IsUtf8}
use Rattle.std.specs.Int.{w64}
use Rattle.fd_language.specs.declared.range_node.RangeNode.{RangeNode}
use Rattle.fd_language.specs.declared.range_node.RangeNode.TheVariants as node
use Rattle.term_pool.specs.declared.AtomId.{AtomId}
use Rattle.wam_code.specs.declared.instruction.Register.{Register}
use Rattle.wam_code.specs.declared.instruction.Register.TheVariants.{X, Y}
use Rattle.wam_code.specs.declared.instruction.Key.{Key}
use Rattle.wam_code.specs.declared.instruction.Key.TheVariants as key
use Rattle.wam_code.specs.declared.instruction.Code.{Code}
use Rattle.wam_code.specs.declared.instruction.Code.TheVariants as code
use Rattle.wam_code.specs.declared.instruction.Code.TheVariants.{GetVariable, GetValue, GetConstant, GetInteger, GetStructure, UnifyVariable, UnifyValue}
use Rattle.wam_code.specs.declared.instruction.Code.TheVariants.{UnifyConstant, UnifyInteger, UnifyVoid, PutVariable, PutValue, PutConstant, PutInteger}
use Rattle.wam_code.specs.declared.instruction.Code.TheVariants.{PutStructure, Allocate, Deallocate, Call, Execute, Proceed, Jump, FailNow, AnswerNow}
use Rattle.wam_code.specs.declared.instruction.Code.TheVariants.{TryMeElse, RetryMeElse, TrustMe, Try, Retry, Trust, SwitchOnTerm, SwitchOnConstant}
use Rattle.wam_code.specs.declared.instruction.Code.TheVariants.{SwitchOnInteger, SwitchOnStructure, Either, Builtin, Constrain, Label, Best, PostRange}
use Rattle.wam_code.specs.declared.instruction.Code.TheVariants.{TestOnly, EnterTest, CutTo}
use Rattle.wam_code.specs.declared.parts.Entry.{Entry}
use Rattle.wam_code.specs.Area.{State, Span}
use Rattle.code_listing.specs.Listing.{Sheet}

-- a number, an arity and an integer of a type's size
abbrev pub IsNumber : ℕ → Type 0
IsNumber n = n < 2 ^ 64

abbrev pub IsArity : ℕ → Type 0
IsArity n = n < 2 ^ 8

abbrev pub IsInteger : ℤ → Type 0
IsInteger z = FitsSigned w64 z

abbrev pub HasSize : RangeNode → Type 0
HasSize (node.Int z) = IsInteger z
HasSize (node.Param y) = IsNumber y
HasSize (node.Min y) = IsNumber y
HasSize (node.Max y) = IsNumber y
HasSize (node.Val y) = IsNumber y
HasSize (node.Dom y) = IsNumber y
HasSize n = Unit {0}

abbrev pub IsSmall : Register → Type 0
IsSmall (X n) = IsNumber n
IsSmall (Y n) = IsNumber n

abbrev pub IsSmallKey : Key → Type 0
IsSmallKey (key.Atom c) = IsNumber c.number
IsSmallKey (key.Int z) = IsInteger z
IsSmallKey (key.Struct f n) = IsNumber f.number × IsArity n

abbrev pub IsSmallCode : Code → Type 0
IsSmallCode (GetVariable r a) = IsSmall r × IsNumber a
IsSmallCode (GetValue r a) = IsSmall r × IsNumber a
IsSmallCode (GetConstant c a) = IsNumber c.number × IsNumber a
IsSmallCode (GetInteger z a) = IsInteger z × IsNumber a
IsSmallCode (GetStructure f n a) = IsNumber f.number × IsArity n × IsNumber a
IsSmallCode (UnifyVariable r) = IsSmall r
IsSmallCode (UnifyValue r) = IsSmall r
IsSmallCode (UnifyConstant c) = IsNumber c.number
IsSmallCode (UnifyInteger z) = IsInteger z
IsSmallCode (UnifyVoid n) = IsNumber n
IsSmallCode (PutVariable r a) = IsSmall r × IsNumber a
IsSmallCode (PutValue r a) = IsSmall r × IsNumber a
IsSmallCode (PutConstant c a) = IsNumber c.number × IsNumber a
IsSmallCode (PutInteger z a) = IsInteger z × IsNumber a
IsSmallCode (PutStructure f n a) = IsNumber f.number × IsArity n × IsNumber a
IsSmallCode (Allocate n) = IsNumber n
IsSmallCode (Call e) = IsNumber e
IsSmallCode (Execute e) = IsNumber e
IsSmallCode (Jump to) = IsNumber to
IsSmallCode (TryMeElse to) = IsNumber to
IsSmallCode (RetryMeElse to) = IsNumber to
IsSmallCode (Try to) = IsNumber to
IsSmallCode (Retry to) = IsNumber to
IsSmallCode (Trust to) = IsNumber to
IsSmallCode (SwitchOnTerm v c i s) = IsNumber v × IsNumber c × IsNumber i × IsNumber s
IsSmallCode (Either to) = IsNumber to
IsSmallCode (PostRange r n) = IsNumber r × IsNumber n
IsSmallCode (code.Level n) = IsNumber n
IsSmallCode (TestOnly n) = IsNumber n
IsSmallCode (EnterTest n m to) = IsNumber n × IsNumber m × IsNumber to
IsSmallCode (CutTo n) = IsNumber n
IsSmallCode i = Unit {0}

abbrev pub IsSmallEntry : Entry → Type 0
IsSmallEntry e = IsNumber e.name.number × IsArity e.arity × IsNumber e.at

abbrev pub IsSmallSpan : Span → Type 0
IsSmallSpan q = IsNumber q.at × IsNumber q.end × All (λ c. IsNumber c.number) q.names

abbrev pub IsSmallState : State → Type 0
IsSmallState s = All IsNumber s.regs × IsNumber s.owed

-- All names are text, all numbers are ones that their types can hold, and no list is longer than a list can be.
pub record HasSizes (s : Sheet) : Type 0 where
  pub names : All IsUtf8 s.atoms
  pub nodes : All (All HasSize) s.ranges
  pub entries : All IsSmallEntry s.entries
  pub queries : All IsSmallSpan s.queries
  pub tables : All (All (λ row. IsSmallKey row.0 × IsNumber row.1)) s.tables
  pub states : All IsSmallState s.states
  pub code : All IsSmallCode s.code
  pub atom_count : IsNumber (length s.atoms)
  pub range_count : IsNumber (length s.ranges)
  pub entry_count : IsNumber (length s.entries)
  pub query_count : IsNumber (length s.queries)
  pub place_count : IsNumber (length s.code)
