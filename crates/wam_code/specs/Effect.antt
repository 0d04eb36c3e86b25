-- What an instruction needs of the state of its place, and the state that it hands on.
use Rattle.std.specs.Prelude.{ℕ, zero, suc, ◌-◌, nat_le, Bool, true, false, ◌&&◌, List, [], ◌∷◌, Option, Some, None, option_map, slice_get, slice_set}
use Rattle.std.specs.Prelude.{replicate}
use Rattle.fd_language.specs.Family.{has}
use Rattle.wam_code.specs.declared.instruction.Register.{Register}
use Rattle.wam_code.specs.declared.instruction.Register.TheVariants.{X, Y}
use Rattle.wam_code.specs.declared.instruction.Code.{Code}
use Rattle.wam_code.specs.declared.instruction.Code.TheVariants as code
use Rattle.wam_code.specs.declared.instruction.Code.TheVariants.{GetVariable, GetValue, GetConstant, GetInteger, GetStructure, UnifyVariable, UnifyValue}
use Rattle.wam_code.specs.declared.instruction.Code.TheVariants.{UnifyConstant, UnifyInteger, UnifyVoid, PutVariable, PutValue, PutConstant, PutInteger}
use Rattle.wam_code.specs.declared.instruction.Code.TheVariants.{PutStructure, Allocate, Deallocate, Call, Execute, Proceed, SwitchOnTerm, SwitchOnConstant}
use Rattle.wam_code.specs.declared.instruction.Code.TheVariants.{SwitchOnInteger, SwitchOnStructure, Builtin, Constrain, Label, Best, PostRange, TestOnly}
use Rattle.wam_code.specs.declared.instruction.Code.TheVariants.{EnterTest, CutTo}
use Rattle.wam_code.specs.declared.parts.Entry.{Entry}
use Rattle.wam_code.specs.Area.{Slot, Unset, Cell, Level, State}
use Rattle.fd_model.specs.Arities.{constraint_arity, builtin_arity}

-- ---- registers and frames

-- the slot with a number, from 1 on
abbrev pub slot_at : Option (List Slot) → ℕ → Option Slot
slot_at None n = None
slot_at (Some ss) zero = None
slot_at (Some ss) (suc n) = slice_get ss n

abbrev pub is_unset : Option Slot → Bool
is_unset (Some Unset) = true
is_unset _ = false

abbrev pub is_cell : Option Slot → Bool
is_cell (Some Cell) = true
is_cell _ = false

abbrev pub is_level : Option Slot → Bool
is_level (Some Level) = true
is_level _ = false

-- it may become a level
abbrev pub may_be_level : Option Slot → Bool
may_be_level (Some Unset) = true
may_be_level (Some Level) = true
may_be_level _ = false

-- the slots with a cell in that with a number
abbrev pub with_cell : ℕ → List Slot → List Slot
with_cell zero ss = ss
with_cell (suc n) ss = slice_set ss n Cell

-- and with a level
abbrev pub with_mark : ℕ → List Slot → List Slot
with_mark zero ss = ss
with_mark (suc n) ss = slice_set ss n Level

-- R is a cell
abbrev pub is_set : State → Register → Bool
is_set s (X n) = has s.regs n
is_set s (Y n) = is_cell (slot_at s.frame n)

-- R may become a cell: an argument register always, and a slot that is unset
abbrev pub is_free : State → Register → Bool
is_free s (X n) = true
is_free s (Y n) = is_unset (slot_at s.frame n)

-- R becomes a cell
abbrev pub with_set : State → Register → State
with_set s (X n) = record s { regs = n ∷ s.regs }
with_set s (Y n) = record s { frame = option_map (with_cell n) s.frame }

-- the slot becomes a level
abbrev pub with_level : State → ℕ → State
with_level s n = record s { frame = option_map (with_mark n) s.frame }

abbrev pub with_owed : State → ℕ → State
with_owed s n = record s { owed = n }

-- the argument registers from 1 to k are set
abbrev pub are_set : List ℕ → ℕ → Bool
are_set rs zero = true
are_set rs (suc k) = has rs (suc k) && are_set rs k

-- and the arguments of a predicate
abbrev pub are_given : State → Option Entry → Bool
are_given s None = false
are_given s (Some e) = are_set s.regs e.arity

abbrev pub has_frame : Option (List Slot) → Bool
has_frame None = false
has_frame (Some ss) = true

abbrev pub no_frame : Option (List Slot) → Bool
no_frame None = true
no_frame (Some ss) = false

-- ---- the instructions, each with its needs and its changes

abbrev pub when : Bool → State → Option State
when true s = Some s
when false s = None

-- Where nothing is owed: the state that an instruction hands on, or none where it misses what it needs.
abbrev pub plain_effect : List Entry → Code → State → Option State
plain_effect es (GetVariable r a) s = when (has s.regs a && is_free s r) (with_set s r)
plain_effect es (GetValue r a) s = when (has s.regs a && is_set s r) s
plain_effect es (GetConstant c a) s = when (has s.regs a) s
plain_effect es (GetInteger z a) s = when (has s.regs a) s
plain_effect es (GetStructure f n a) s = when (has s.regs a) (with_owed s n)
plain_effect es (PutVariable r a) s = when (is_free s r) (with_set (with_set s r) (X a))
plain_effect es (PutValue r a) s = when (is_set s r) (with_set s (X a))
plain_effect es (PutConstant c a) s = Some (with_set s (X a))
plain_effect es (PutInteger z a) s = Some (with_set s (X a))
plain_effect es (PutStructure f n a) s = Some (with_owed (with_set s (X a)) n)
plain_effect es (Allocate n) s = when (no_frame s.frame) (record s { frame = Some (replicate n Unset) })
plain_effect es Deallocate s = when (has_frame s.frame) (record s { frame = None })
plain_effect es (Call e) s = when (has_frame s.frame && are_given s (slice_get es e)) (record s { regs = [] })
plain_effect es (Execute e) s = when (no_frame s.frame && are_given s (slice_get es e)) s
plain_effect es Proceed s = when (no_frame s.frame) s
plain_effect es (SwitchOnTerm v c i t) s = when (has s.regs 1) s
plain_effect es (SwitchOnConstant t) s = when (has s.regs 1) s
plain_effect es (SwitchOnInteger t) s = when (has s.regs 1) s
plain_effect es (SwitchOnStructure t) s = when (has s.regs 1) s
plain_effect es (Builtin k) s = when (are_set s.regs (builtin_arity k)) s
plain_effect es (Constrain k) s = when (are_set s.regs (constraint_arity k)) s
plain_effect es (Label o) s = when (are_set s.regs 1) s
plain_effect es (PostRange r n) s = when (are_set s.regs n) s
plain_effect es (Best o least) s = when (are_set s.regs 2) s
plain_effect es (code.Level n) s = when (may_be_level (slot_at s.frame n)) (with_level s n)
plain_effect es (TestOnly n) s = when (may_be_level (slot_at s.frame n)) (with_level s n)
plain_effect es (EnterTest n m to) s = when (may_be_level (slot_at s.frame n) && may_be_level (slot_at s.frame m)) (with_level (with_level s n) m)
plain_effect es (CutTo n) s = when (is_level (slot_at s.frame n)) s
plain_effect es (UnifyVariable r) s = None
plain_effect es (UnifyValue r) s = None
plain_effect es (UnifyConstant c) s = None
plain_effect es (UnifyInteger z) s = None
plain_effect es (UnifyVoid n) s = None
plain_effect es _ s = Some s

-- And where some arguments are owed: the unify group alone goes on.
abbrev pub unify_effect : Code → State → Option State
unify_effect (UnifyVariable r) s = when (is_free s r) (with_set (with_owed s (s.owed - 1)) r)
unify_effect (UnifyValue r) s = when (is_set s r) (with_owed s (s.owed - 1))
unify_effect (UnifyConstant c) s = Some (with_owed s (s.owed - 1))
unify_effect (UnifyInteger z) s = Some (with_owed s (s.owed - 1))
unify_effect (UnifyVoid n) s = when (nat_le n s.owed) (with_owed s (s.owed - n))
unify_effect _ s = None

abbrev pub effect_by : ℕ → List Entry → Code → State → Option State
effect_by zero es i s = plain_effect es i s
effect_by (suc n) es i s = unify_effect i s

-- by the predicates of the code
abbrev pub effect : List Entry → Code → State → Option State
effect es i s = effect_by s.owed es i s
