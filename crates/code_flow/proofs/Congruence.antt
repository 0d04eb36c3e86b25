-- What an instruction needs of a state and makes of it, it needs and makes of the same state.
use Rattle.std.proofs.Common.{◌≡◌, ℕ, zero, suc, ◌-◌, nat_le, Bool, ◌&&◌, List, Option, Some, None, slice_get, refl, ap, ◌∙◌}
use Rattle.fd_model.specs.Arities.{constraint_arity, builtin_arity}
use Rattle.wam_code.specs.declared.instruction.Register.{Register}
use Rattle.wam_code.specs.declared.instruction.Register.TheVariants.{X, Y}
use Rattle.wam_code.specs.declared.instruction.Code.{Code}
use Rattle.wam_code.specs.declared.instruction.Code.TheVariants as code
use Rattle.wam_code.specs.declared.instruction.Code.TheVariants.{GetVariable, GetValue, GetConstant, GetInteger, GetStructure, UnifyVariable, UnifyValue}
use Rattle.wam_code.specs.declared.instruction.Code.TheVariants.{UnifyConstant, UnifyInteger, UnifyVoid, PutVariable, PutValue, PutConstant, PutInteger}
use Rattle.wam_code.specs.declared.instruction.Code.TheVariants.{PutStructure, Allocate, Deallocate, Call, Execute, Proceed, SwitchOnTerm, SwitchOnConstant}
use Rattle.wam_code.specs.declared.instruction.Code.TheVariants.{SwitchOnInteger, SwitchOnStructure, Builtin, Constrain, Label, Best, PostRange, TestOnly}
use Rattle.wam_code.specs.declared.instruction.Code.TheVariants.{EnterTest, CutTo}
use Rattle.wam_code.specs.declared.parts.Entry.{Entry}
use Rattle.wam_code.specs.Area.{State}
use Rattle.wam_code.specs.Effect.{is_set, is_free, are_set, are_given, slot_at, is_cell, is_unset, is_level, may_be_level, has_frame, no_frame, with_owed}
use Rattle.wam_code.specs.Effect.{with_set, with_level}
use Rattle.code_flow.specs.StateTransfer.{plain_needs, unify_needs, needs_by, needs, changed, IsSame}
use Rattle.code_flow.proofs.StateEquivalence.{same_set, same_level, same_owed}

both : {a b c d : Bool} → a ≡ b → c ≡ d → (a && c) ≡ (b && d)
both {a} {b} {c} {d} e f = ap (λ x. x && c) e ∙ ap (λ x. b && x) f

module _ (s t : State) (h : IsSame s t) where
  set_same : (r : Register) → is_set s r ≡ is_set t r
  set_same (X n) = h.regs n
  set_same (Y n) = ap (λ f. is_cell (slot_at f n)) h.frame

  free_same : (r : Register) → is_free s r ≡ is_free t r
  free_same (X n) = refl
  free_same (Y n) = ap (λ f. is_unset (slot_at f n)) h.frame

  may_same : (n : ℕ) → may_be_level (slot_at s.frame n) ≡ may_be_level (slot_at t.frame n)
  may_same n = ap (λ f. may_be_level (slot_at f n)) h.frame

  are_same : (k : ℕ) → are_set s.regs k ≡ are_set t.regs k
  are_same zero = refl
  are_same (suc k) = both (h.regs (suc k)) (are_same k)

  given_same : (e : Option Entry) → are_given s e ≡ are_given t e
  given_same None = refl
  given_same (Some e) = are_same e.arity

  plain_same : (es : List Entry) (i : Code) → plain_needs es i s ≡ plain_needs es i t
  plain_same es (GetVariable r a) = both (h.regs a) (free_same r)
  plain_same es (GetValue r a) = both (h.regs a) (set_same r)
  plain_same es (GetConstant c a) = h.regs a
  plain_same es (GetInteger z a) = h.regs a
  plain_same es (GetStructure f n a) = h.regs a
  plain_same es (PutVariable r a) = free_same r
  plain_same es (PutValue r a) = set_same r
  plain_same es (Allocate n) = ap no_frame h.frame
  plain_same es Deallocate = ap has_frame h.frame
  plain_same es (Call e) = both (ap has_frame h.frame) (given_same (slice_get es e))
  plain_same es (Execute e) = both (ap no_frame h.frame) (given_same (slice_get es e))
  plain_same es Proceed = ap no_frame h.frame
  plain_same es (SwitchOnTerm v c i t) = h.regs 1
  plain_same es (SwitchOnConstant t) = h.regs 1
  plain_same es (SwitchOnInteger t) = h.regs 1
  plain_same es (SwitchOnStructure t) = h.regs 1
  plain_same es (Builtin k) = are_same (builtin_arity k)
  plain_same es (Constrain k) = are_same (constraint_arity k)
  plain_same es (Label o) = are_same 1
  plain_same es (PostRange r n) = are_same n
  plain_same es (Best o least) = are_same 2
  plain_same es (code.Level n) = may_same n
  plain_same es (TestOnly n) = may_same n
  plain_same es (EnterTest n m to) = both (may_same n) (may_same m)
  plain_same es (CutTo n) = ap (λ f. is_level (slot_at f n)) h.frame
  plain_same es i = refl

  unify_same : (i : Code) → unify_needs i s ≡ unify_needs i t
  unify_same (UnifyVariable r) = free_same r
  unify_same (UnifyValue r) = set_same r
  unify_same (UnifyVoid n) = ap (nat_le n) h.owed
  unify_same i = refl

  needs_at : (n : ℕ) (es : List Entry) (i : Code) → needs_by n es i s ≡ needs_by n es i t
  needs_at zero es i = plain_same es i
  needs_at (suc n) es i = unify_same i

  pub needs_same : (es : List Entry) (i : Code) → needs es i s ≡ needs es i t
  needs_same es i = needs_at s.owed es i ∙ ap (λ n. needs_by n es i t) h.owed

  paid : (n : ℕ) → IsSame (with_owed s (s.owed - n)) (with_owed t (t.owed - n))
  paid n = record { frame = h.frame; owed = ap (λ k. k - n) h.owed; regs = h.regs }

  pub changed_same : (i : Code) → IsSame (changed i s) (changed i t)
  changed_same (GetVariable r a) = same_set s t r h
  changed_same (GetStructure f n a) = same_owed s t n h
  changed_same (UnifyVariable r) = same_set (with_owed s (s.owed - 1)) (with_owed t (t.owed - 1)) r (paid 1)
  changed_same (UnifyValue r) = paid 1
  changed_same (UnifyConstant c) = paid 1
  changed_same (UnifyInteger z) = paid 1
  changed_same (UnifyVoid n) = paid n
  changed_same (PutVariable r a) = same_set (with_set s r) (with_set t r) (X a) (same_set s t r h)
  changed_same (PutValue r a) = same_set s t (X a) h
  changed_same (PutConstant c a) = same_set s t (X a) h
  changed_same (PutInteger z a) = same_set s t (X a) h
  changed_same (PutStructure f n a) = same_owed (with_set s (X a)) (with_set t (X a)) n (same_set s t (X a) h)
  changed_same (Allocate n) = record { frame = refl; owed = h.owed; regs = h.regs }
  changed_same Deallocate = record { frame = refl; owed = h.owed; regs = h.regs }
  changed_same (Call e) = record { frame = h.frame; owed = h.owed; regs = λ m. refl }
  changed_same (code.Level n) = same_level s t n h
  changed_same (TestOnly n) = same_level s t n h
  changed_same (EnterTest n m to) = same_level (with_level s n) (with_level t n) m (same_level s t n h)
  changed_same i = h
