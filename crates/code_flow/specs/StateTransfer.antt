-- What an instruction needs of its place's state and how it changes it, one apart from the other.
use Rattle.std.specs.Prelude.{◌≡◌, ℕ, zero, suc, ◌-◌, nat_le, Bool, true, false, ◌&&◌, List, [], Some, None, slice_get, replicate}
use Rattle.fd_language.specs.Family.{has}
use Rattle.fd_model.specs.Arities.{constraint_arity, builtin_arity}
use Rattle.wam_code.specs.declared.instruction.Register.TheVariants.{X}
use Rattle.wam_code.specs.declared.instruction.Code.{Code}
use Rattle.wam_code.specs.declared.instruction.Code.TheVariants as code
use Rattle.wam_code.specs.declared.instruction.Code.TheVariants.{GetVariable, GetValue, GetConstant, GetInteger, GetStructure, UnifyVariable, UnifyValue}
use Rattle.wam_code.specs.declared.instruction.Code.TheVariants.{UnifyConstant, UnifyInteger, UnifyVoid, PutVariable, PutValue, PutConstant, PutInteger}
use Rattle.wam_code.specs.declared.instruction.Code.TheVariants.{PutStructure, Allocate, Deallocate, Call, Execute, Proceed, SwitchOnTerm, SwitchOnConstant}
use Rattle.wam_code.specs.declared.instruction.Code.TheVariants.{SwitchOnInteger, SwitchOnStructure, Builtin, Constrain, Label, Best, PostRange, TestOnly}
use Rattle.wam_code.specs.declared.instruction.Code.TheVariants.{EnterTest, CutTo}
use Rattle.wam_code.specs.declared.parts.Entry.{Entry}
use Rattle.wam_code.specs.Area.{State, Unset}
use Rattle.wam_code.specs.Effect.{is_set, is_free, with_set, with_level, with_owed, are_set, are_given, slot_at, is_level, may_be_level, has_frame, no_frame}

-- ---- needs

abbrev pub plain_needs : List Entry → Code → State → Bool
plain_needs es (GetVariable r a) s = has s.regs a && is_free s r
plain_needs es (GetValue r a) s = has s.regs a && is_set s r
plain_needs es (GetConstant c a) s = has s.regs a
plain_needs es (GetInteger z a) s = has s.regs a
plain_needs es (GetStructure f n a) s = has s.regs a
plain_needs es (PutVariable r a) s = is_free s r
plain_needs es (PutValue r a) s = is_set s r
plain_needs es (Allocate n) s = no_frame s.frame
plain_needs es Deallocate s = has_frame s.frame
plain_needs es (Call e) s = has_frame s.frame && are_given s (slice_get es e)
plain_needs es (Execute e) s = no_frame s.frame && are_given s (slice_get es e)
plain_needs es Proceed s = no_frame s.frame
plain_needs es (SwitchOnTerm v c i t) s = has s.regs 1
plain_needs es (SwitchOnConstant t) s = has s.regs 1
plain_needs es (SwitchOnInteger t) s = has s.regs 1
plain_needs es (SwitchOnStructure t) s = has s.regs 1
plain_needs es (Builtin k) s = are_set s.regs (builtin_arity k)
plain_needs es (Constrain k) s = are_set s.regs (constraint_arity k)
plain_needs es (Label o) s = are_set s.regs 1
plain_needs es (PostRange r n) s = are_set s.regs n
plain_needs es (Best o least) s = are_set s.regs 2
plain_needs es (code.Level n) s = may_be_level (slot_at s.frame n)
plain_needs es (TestOnly n) s = may_be_level (slot_at s.frame n)
plain_needs es (EnterTest n m to) s = may_be_level (slot_at s.frame n) && may_be_level (slot_at s.frame m)
plain_needs es (CutTo n) s = is_level (slot_at s.frame n)
plain_needs es (UnifyVariable r) s = false
plain_needs es (UnifyValue r) s = false
plain_needs es (UnifyConstant c) s = false
plain_needs es (UnifyInteger z) s = false
plain_needs es (UnifyVoid n) s = false
plain_needs es _ s = true

abbrev pub unify_needs : Code → State → Bool
unify_needs (UnifyVariable r) s = is_free s r
unify_needs (UnifyValue r) s = is_set s r
unify_needs (UnifyConstant c) s = true
unify_needs (UnifyInteger z) s = true
unify_needs (UnifyVoid n) s = nat_le n s.owed
unify_needs _ s = false

abbrev pub needs_by : ℕ → List Entry → Code → State → Bool
needs_by zero es i s = plain_needs es i s
needs_by (suc n) es i s = unify_needs i s

abbrev pub needs : List Entry → Code → State → Bool
needs es i s = needs_by s.owed es i s

-- ---- changes

abbrev pub changed : Code → State → State
changed (GetVariable r a) s = with_set s r
changed (GetStructure f n a) s = with_owed s n
changed (PutVariable r a) s = with_set (with_set s r) (X a)
changed (PutValue r a) s = with_set s (X a)
changed (PutConstant c a) s = with_set s (X a)
changed (PutInteger z a) s = with_set s (X a)
changed (PutStructure f n a) s = with_owed (with_set s (X a)) n
changed (Allocate n) s = record s { frame = Some (replicate n Unset) }
changed Deallocate s = record s { frame = None }
changed (Call e) s = record s { regs = [] }
changed (code.Level n) s = with_level s n
changed (TestOnly n) s = with_level s n
changed (EnterTest n m to) s = with_level (with_level s n) m
changed (UnifyVariable r) s = with_set (with_owed s (s.owed - 1)) r
changed (UnifyValue r) s = with_owed s (s.owed - 1)
changed (UnifyConstant c) s = with_owed s (s.owed - 1)
changed (UnifyInteger z) s = with_owed s (s.owed - 1)
changed (UnifyVoid n) s = with_owed s (s.owed - n)
changed _ s = s

-- ---- the same state

-- The frame and the number owed are the same, and so is the set of registers, in whatever order they are told.
pub record IsSame (s t : State) : Type 0 where
  pub frame : s.frame ≡ t.frame
  pub owed : s.owed ≡ t.owed
  pub regs : (n : ℕ) → has s.regs n ≡ has t.regs n
