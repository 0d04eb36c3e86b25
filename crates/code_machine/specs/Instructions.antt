-- Which instruction is of which kind.
use Rattle.std.specs.Prelude.{ℕ}
use Rattle.wam_code.specs.declared.instruction.Code.{Code}
use Rattle.wam_code.specs.declared.instruction.Code.TheVariants as step
use Rattle.wam_code.specs.Area.{Area, Holds}

-- none of a clause's terms or of its frame, no level, no jump, and no switch by kinds
abbrev pub IsOther : Code → Type 0
IsOther (step.GetVariable r a) = ⊥
IsOther (step.GetValue r a) = ⊥
IsOther (step.GetConstant c a) = ⊥
IsOther (step.GetInteger z a) = ⊥
IsOther (step.GetStructure f n a) = ⊥
IsOther (step.PutVariable r a) = ⊥
IsOther (step.PutValue r a) = ⊥
IsOther (step.PutConstant c a) = ⊥
IsOther (step.PutInteger z a) = ⊥
IsOther (step.PutStructure f n a) = ⊥
IsOther (step.Allocate n) = ⊥
IsOther step.Deallocate = ⊥
IsOther step.Proceed = ⊥
IsOther (step.Level n) = ⊥
IsOther (step.Jump to) = ⊥
IsOther (step.SwitchOnTerm v k i s) = ⊥
IsOther _ = Unit {0}

-- a goal that is no call, no disjunction, no test and no cut
abbrev pub IsGoal : Code → Type 0
IsGoal (step.Builtin k) = Unit {0}
IsGoal (step.Constrain k) = Unit {0}
IsGoal (step.Label o) = Unit {0}
IsGoal (step.Best o least) = Unit {0}
IsGoal (step.PostRange r n) = Unit {0}
IsGoal _ = ⊥

-- a call, a disjunction, a test or a cut
abbrev pub IsCall : Code → Type 0
IsCall (step.Call e) = Unit {0}
IsCall (step.Execute e) = Unit {0}
IsCall (step.Either to) = Unit {0}
IsCall (step.TestOnly n) = Unit {0}
IsCall (step.EnterTest n m to) = Unit {0}
IsCall (step.CutTo n) = Unit {0}
IsCall _ = ⊥

-- a choice, or a switch by keys
abbrev pub IsChoice : Code → Type 0
IsChoice step.FailNow = Unit {0}
IsChoice (step.TryMeElse to) = Unit {0}
IsChoice (step.RetryMeElse to) = Unit {0}
IsChoice step.TrustMe = Unit {0}
IsChoice (step.Try to) = Unit {0}
IsChoice (step.Retry to) = Unit {0}
IsChoice (step.Trust to) = Unit {0}
IsChoice (step.SwitchOnConstant t) = Unit {0}
IsChoice (step.SwitchOnInteger t) = Unit {0}
IsChoice (step.SwitchOnStructure t) = Unit {0}
IsChoice _ = ⊥

-- the code has a goal that is no call, no disjunction, no test and no cut
abbrev pub HasGoal : Area → Type 0
HasGoal area = (at : ℕ) × (i : Code) × Holds area at i × IsGoal i
