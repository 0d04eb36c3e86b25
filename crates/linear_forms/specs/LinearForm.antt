-- How a linear form and a fault are seen.
use Rattle.std.specs.Prelude.{◌≡◌, Option, Some, None, Result, Ok, Err, IfSome, MatchResult}
use Rattle.fd_model.specs.declared.kinds.QueryFault.{QueryFault}
use Rattle.fd_model.specs.declared.kinds.QueryFault.TheVariants.{BadType, Evaluation, Nonlinear}
use Rattle.fd_model.specs.Linear as linear
use Rattle.linear_forms.specs.declared.Linear.{Linear}
use Rattle.linear_forms.specs.declared.LinearFault.{LinearFault}
use Rattle.linear_forms.specs.declared.LinearFault.TheVariants as fault

-- the form of the definition
abbrev pub form_of : Linear → linear.Linear
form_of l = record { products = l.terms.items; constant = l.constant }

-- the fault of the definition. Want of memory is none.
abbrev pub fault_of : LinearFault → Option QueryFault
fault_of fault.Nonlinear = Some Nonlinear
fault_of fault.NotANumber = Some BadType
fault_of fault.Overflow = Some Evaluation
fault_of fault.NoMemory = None

-- a fault of the definition, and no want of memory
abbrev pub IsOwnFault : LinearFault → Type 0
IsOwnFault fault.Nonlinear = Unit {0}
IsOwnFault fault.NotANumber = Unit {0}
IsOwnFault fault.Overflow = Unit {0}
IsOwnFault fault.NoMemory = ⊥

-- the definition meets this fault
abbrev pub IsFaultOf : {A : Type 0} → Result A QueryFault → LinearFault → Type 0
IsFaultOf r f = IfSome (fault_of f) (λ q. r ≡ Err q)

-- the form of the definition, or its fault
abbrev pub Answers : Result linear.Linear QueryFault → Result Linear LinearFault → Type 0
Answers d r = MatchResult r (λ l. d ≡ Ok (form_of l)) (IsFaultOf d)
