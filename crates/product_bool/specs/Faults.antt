-- How a fault is seen.
use Rattle.std.specs.Prelude.{◌≡◌, Option, Some, None, MatchOption, MatchResult, Result, Err}
use Rattle.fd_model.specs.declared.kinds.QueryFault.{QueryFault}
use Rattle.fd_model.specs.declared.kinds.QueryFault.TheVariants.{Instantiation, BadType}
use Rattle.fd_model.specs.declared.kinds.ListCause.{ListCause}
use Rattle.fd_model.specs.declared.kinds.ListCause.TheVariants as cause
use Rattle.linear_forms.specs.declared.LinearFault.{LinearFault}
use Rattle.linear_forms.specs.declared.LinearFault.TheVariants as linear
use Rattle.linear_forms.specs.LinearForm as form
use Rattle.product_bool.specs.declared.faults.SplitFault.{SplitFault}
use Rattle.product_bool.specs.declared.faults.SplitFault.TheVariants as fault

abbrev pub cause_of : ListCause → QueryFault
cause_of cause.Unbound = Instantiation
cause_of cause.Wrong = BadType

-- the fault of the definition. Want of memory is none.
abbrev pub fault_of : SplitFault → Option QueryFault
fault_of (fault.Linear f) = form.fault_of f
fault_of (fault.BadArgument c) = Some (cause_of c)
fault_of fault.NoMemory = None

-- the definition meets this fault, or memory is wanting
abbrev pub IsFaultOf : {A : Type 0} → Result A QueryFault → SplitFault → Type 0
IsFaultOf r f = MatchOption (fault_of f) (f ≡ fault.NoMemory) (λ q. r ≡ Err q)

-- the fault of a comparison's side
abbrev pub outer : LinearFault → SplitFault
outer linear.Nonlinear = fault.Linear linear.Nonlinear
outer linear.NotANumber = fault.Linear linear.NotANumber
outer linear.Overflow = fault.Linear linear.Overflow
outer linear.NoMemory = fault.NoMemory

-- what there is, or an overflow where there is nothing
abbrev pub IsOrOverflow : {A : Type 0} → Option A → Result A SplitFault → Type 0
IsOrOverflow found r = MatchResult r (λ value. found ≡ Some value) (λ f. (f ≡ fault.Linear linear.Overflow) × (found ≡ None))
