-- How a fault is seen.
use Rattle.std.specs.Prelude.{◌≡◌, Option, Some, None, MatchOption, MatchResult, Result, Ok, Err}
use Rattle.fd_model.specs.declared.kinds.QueryFault.{QueryFault}
use Rattle.linear_forms.specs.declared.LinearFault.{LinearFault}
use Rattle.linear_forms.specs.declared.LinearFault.TheVariants as linear
use Rattle.linear_forms.specs.LinearForm as form
pub use Rattle.product_bool.specs.Faults.{cause_of}
use Rattle.product_bool.specs.declared.faults.SplitFault.{SplitFault}
use Rattle.product_bool.specs.declared.faults.SplitFault.TheVariants as split
use Rattle.constraint_expand.specs.declared.faults.ExpandFault.{ExpandFault}
use Rattle.constraint_expand.specs.declared.faults.ExpandFault.TheVariants as fault

-- the fault of the definition. Want of memory is none.
abbrev pub fault_of : ExpandFault → Option QueryFault
fault_of (fault.Linear f) = form.fault_of f
fault_of (fault.BadList c) = Some (cause_of c)
fault_of fault.NoMemory = None

-- the definition meets this fault, or memory is wanting
abbrev pub IsFaultOf : {A : Type 0} → Result A QueryFault → ExpandFault → Type 0
IsFaultOf r f = MatchOption (fault_of f) (f ≡ fault.NoMemory) (λ q. r ≡ Err q)

-- what the definition gives, or its fault
abbrev pub Answers : {A B : Type 0} → (B → A) → Result A QueryFault → Result B ExpandFault → Type 0
Answers view d r = MatchResult r (λ b. d ≡ Ok (view b)) (IsFaultOf d)

-- the fault of a comparison's side
abbrev pub outer : LinearFault → ExpandFault
outer linear.Nonlinear = fault.Linear linear.Nonlinear
outer linear.NotANumber = fault.Linear linear.NotANumber
outer linear.Overflow = fault.Linear linear.Overflow
outer linear.NoMemory = fault.NoMemory

-- the fault of a product or a Boolean constraint
abbrev pub from_split : SplitFault → ExpandFault
from_split (split.Linear f) = outer f
from_split (split.BadArgument c) = fault.BadList c
from_split split.NoMemory = fault.NoMemory
