-- Why sentences are refused.
use Rattle.std.specs.Prelude.{◌≡◌, ℕ, ◌<◌, List, ◌++◌, length, Option, Some, None, codes}
use Rattle.fd_model.specs.Refusals as model
use Rattle.fd_model.specs.Refusals.{refused_at, functor_name}
use Rattle.term_pool.specs.Contents.{Contents, atom_name}
use Rattle.range_terms.specs.declared.RangeFault.{RangeFault}
use Rattle.range_terms.specs.declared.RangeFault.TheVariants as spelling
use Rattle.monotone_check.specs.declared.CheckFault.{CheckFault}
use Rattle.monotone_check.specs.declared.CheckFault.TheVariants as check
use Rattle.term_pool.specs.declared.AtomId.{AtomId}
use Rattle.clause_check.specs.declared.faults.Cause.{Cause}
use Rattle.clause_check.specs.declared.faults.Cause.TheVariants.{BadHead, BadGoal, Unknown, Redefines, ArityOver255, NotARange, Check}
use Rattle.clause_check.specs.declared.faults.Fault.{Fault}
use Rattle.clause_check.specs.declared.faults.Fault.TheVariants as fault
use Rattle.clause_check.specs.declared.faults.ProgramFault.{ProgramFault}
use Rattle.clause_check.specs.declared.faults.ProgramFault.TheVariants.{At, NoMemory}

abbrev pub functor_at : Contents → AtomId → ℕ → model.Functor
functor_at c name arity = model.functor (atom_name c name) arity

abbrev pub check_text : CheckFault → List ℕ
check_text (check.NotMonotone p) = codes "not monotone"
check_text (check.NotNatural p) = codes "not natural"
check_text (check.BadDivisor p) = codes "bad divisor"
check_text (check.TooWide p) = codes "too wide"
check_text check.NoMemory = codes ""

-- the reason that a refusal tells
abbrev pub cause_text : Contents → Cause → List ℕ
cause_text c BadHead = codes "bad head"
cause_text c BadGoal = codes "bad goal"
cause_text c (Unknown name arity) = codes "unknown " ++ functor_name (functor_at c name arity)
cause_text c (Redefines name arity) = codes "redefines " ++ functor_name (functor_at c name arity)
cause_text c ArityOver255 = codes "arity over 255"
cause_text c NotARange = codes "not a range"
cause_text c (Check f) = check_text f

-- a fault at this place, and no want of memory
abbrev pub IsCheckedAt : ℕ → CheckFault → Type 0
IsCheckedAt p (check.NotMonotone q) = q ≡ p
IsCheckedAt p (check.NotNatural q) = q ≡ p
IsCheckedAt p (check.BadDivisor q) = q ≡ p
IsCheckedAt p (check.TooWide q) = q ≡ p
IsCheckedAt p check.NoMemory = ⊥

-- the cause of a refusal at the place: its name is of the pool, and the place of the fault that it holds is that place
abbrev pub IsCauseAt : Contents → ℕ → Cause → Type 0
IsCauseAt c p BadHead = Unit {0}
IsCauseAt c p BadGoal = Unit {0}
IsCauseAt c p (Unknown name arity) = name.number < length c.names
IsCauseAt c p (Redefines name arity) = name.number < length c.names
IsCauseAt c p ArityOver255 = Unit {0}
IsCauseAt c p NotARange = Unit {0}
IsCauseAt c p (Check f) = IsCheckedAt p f

-- the refusal is this one, or memory was wanting
abbrev pub RefusedBy : Contents → Option model.Refusal → Fault → Type 0
RefusedBy c o (fault.Refused p cause) = IsCauseAt c p cause × (o ≡ Some (refused_at p (cause_text c cause)))
RefusedBy c o fault.NoMemory = Unit {0}

-- the same, with the pool handed back
abbrev pub Refuses : Contents → Option model.Refusal → ProgramFault → Type 0
Refuses c o (At p cause pool) = (pool ≡ c) × IsCauseAt c p cause × (o ≡ Some (refused_at p (cause_text c cause)))
Refuses c o NoMemory = Unit {0}

-- how a term that spells no range is refused
abbrev pub IsUnspelled : RangeFault → Fault → Type 0
IsUnspelled (spelling.NotARange p) f = f ≡ fault.Refused p NotARange
IsUnspelled spelling.NoMemory f = f ≡ fault.NoMemory

-- how the check refuses a range
abbrev pub IsOffence : CheckFault → Fault → Type 0
IsOffence (check.NotMonotone p) f = f ≡ fault.Refused p (Check (check.NotMonotone p))
IsOffence (check.NotNatural p) f = f ≡ fault.Refused p (Check (check.NotNatural p))
IsOffence (check.BadDivisor p) f = f ≡ fault.Refused p (Check (check.BadDivisor p))
IsOffence (check.TooWide p) f = f ≡ fault.Refused p (Check (check.TooWide p))
IsOffence check.NoMemory f = f ≡ fault.NoMemory

-- how a sentence is refused whose smallest place of a compound term with too many arguments is this one
abbrev pub IsWideRefusal : Option ℕ → Fault → Type 0
IsWideRefusal None f = ⊥
IsWideRefusal (Some p) f = f ≡ fault.Refused p ArityOver255

-- the same fault with the pool of the text
abbrev pub with_pool : Contents → Fault → ProgramFault
with_pool c (fault.Refused p cause) = At p cause c
with_pool c fault.NoMemory = NoMemory

-- the cause of the refusal o at the place p, where there is one
abbrev pub IsCauseOf : Contents → Option model.Refusal → ℕ → Option Cause → Type 0
IsCauseOf c o p None = o ≡ None
IsCauseOf c o p (Some k) = IsCauseAt c p k × (o ≡ Some (refused_at p (cause_text c k)))
