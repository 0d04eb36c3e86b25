-- What an evaluation answers.
use Rattle.std.specs.Prelude.{◌≡◌, ◌<◌, ℤ, List, length, Option, Some, None, if◌then◌else◌, codes, MatchResult, Result, Ok, Err}
use Rattle.std.specs.Str.{bytes_eq}
use Rattle.fd_language.specs.Term.{Name}
use Rattle.term_pool.specs.declared.AtomId.{AtomId}
use Rattle.term_pool.specs.Contents.{name_in}
use Rattle.heap_cells.specs.Terms.{Naming}
use Rattle.builtin_calls.specs.declared.evaluation.EvalFault.{EvalFault}
use Rattle.builtin_calls.specs.declared.evaluation.EvalFault.TheVariants.{Unbound, NotANumber, Overflow, ZeroDivisor, NoMemory}
use Rattle.builtin_calls.specs.declared.evaluation.Named.{Named}
use Rattle.builtin_calls.specs.declared.operations.Operation.{Operation}
use Rattle.builtin_calls.specs.declared.operations.Operation.TheVariants.{Add, Subtract, Multiply, Divide, Modulo}
use Rattle.fd_model.specs.Arithmetic.{unbound, not_a_number, overflow, zero_divisor, Value, integer_sum, integer_difference, integer_product, quotient_of}
use Rattle.fd_model.specs.Arithmetic.{modulo_of}

-- the fault is that of the value; want of memory may come at any
abbrev pub IsFault : EvalFault → Value → Type 0
IsFault Unbound v = v ≡ Err unbound
IsFault NotANumber v = v ≡ Err not_a_number
IsFault Overflow v = v ≡ Err overflow
IsFault ZeroDivisor v = v ≡ Err zero_divisor
IsFault NoMemory v = Unit {0}

-- a fault of the term, and no want of memory
abbrev pub IsOwnFault : EvalFault → Type 0
IsOwnFault Unbound = Unit {0}
IsOwnFault NotANumber = Unit {0}
IsOwnFault Overflow = Unit {0}
IsOwnFault ZeroDivisor = Unit {0}
IsOwnFault NoMemory = ⊥

-- the operation that was found, or no number where there is none
abbrev pub IsKnown : Option Operation → Result Operation EvalFault → Type 0
IsKnown found r = MatchResult r (λ o. found ≡ Some o) (λ e. (e ≡ NotANumber) × (found ≡ None))

-- the answer is the value
abbrev pub Tells : Result ℤ EvalFault → Value → Type 0
Tells (Ok z) v = v ≡ Ok z
Tells (Err e) v = IsFault e v

-- each atom of a pool has its name there
abbrev pub IsNamedBy : List Name → Naming → Type 0
IsNamedBy names name = (a : AtomId) → a.number < length names → name a ≡ name_in names a

abbrev pub meaning : Operation → ℤ → ℤ → Value
meaning Add = integer_sum
meaning Subtract = integer_difference
meaning Multiply = integer_product
meaning Divide = quotient_of
meaning Modulo = modulo_of

-- the operation of two operands with a name
abbrev pub operation_of : Name → Option Operation
operation_of f =
    if bytes_eq f (codes "+") then Some Add else
    if bytes_eq f (codes "-") then Some Subtract else
    if bytes_eq f (codes "*") then Some Multiply else
    if bytes_eq f (codes "//") then Some Divide else
    if bytes_eq f (codes "mod") then Some Modulo else None

-- the operation is the one that its atom's name means
abbrev pub IsMeant : List Name → Named → Type 0
IsMeant names n = operation_of (name_in names n.name) ≡ Some n.operation

-- the value of the operation with a name
abbrev pub IsMeaning : Name → ℤ → ℤ → ℤ → Type 0
IsMeaning f a b z = (o : Operation) × (operation_of f ≡ Some o) × (meaning o a b ≡ Ok z)
