-- An evaluation under way: where it stands, and what waits for the value there, of which the last is the next.
use Rattle.std.specs.Prelude.{◌≡◌, ℕ, ◌+◌, ◌*◌, ◌<◌, ◌≤◌, ℤ, List, [], ◌∷◌, ◌++◌, ◌⊎◌, true, length, Some, codes, All, MatchResult, Result, Ok, Err}
use Rattle.std.specs.Str.{bytes_eq}
use Rattle.fd_language.specs.Family.{Family}
use Rattle.fd_language.specs.Term.{Name, Term, Comp}
use Rattle.term_pool.specs.Terms.{size}
use Rattle.heap_cells.specs.declared.Cell.{Cell}
use Rattle.heap_cells.specs.Cells.{Cells, IsOf}
use Rattle.heap_cells.specs.Terms.{Naming, terms_by}
use Rattle.heap_cells.specs.Atoms.{IsAtomBelow}
use Rattle.builtin_calls.specs.declared.evaluation.EvalFault.{EvalFault}
use Rattle.builtin_calls.specs.declared.evaluation.EvalFault.TheVariants as fault
use Rattle.builtin_calls.specs.declared.operations.Operation.{Operation}
use Rattle.builtin_calls.specs.declared.operations.OpenOperation.{OpenOperation}
use Rattle.builtin_calls.specs.declared.operations.OpenOperation.TheVariants.{Left, Right, Opposite}
use Rattle.builtin_calls.specs.declared.evaluation.Step.{Step}
use Rattle.builtin_calls.specs.declared.evaluation.Step.TheVariants.{Enter, Leave}
use Rattle.fd_model.specs.Arithmetic.{Value, not_a_number, value_of, value_of_both, value_of_one, opposite_of}
use Rattle.heap_cells.specs.SeenTerms.{seen_term}
use Rattle.builtin_calls.specs.Outcomes.{IsFault, IsNamedBy, meaning, operation_of}

-- the value once the value that is waited for is there, where each cell's term is given
abbrev pub after : (Cell → Term) → OpenOperation → Value → Value
after by (Left o c) v = value_of_both (meaning o) v (value_of (by c))
after by (Right o z) v = value_of_both (meaning o) (Ok z) v
after by Opposite v = value_of_one opposite_of v

abbrev pub resumed : (Cell → Term) → List OpenOperation → Value → Value
resumed by [] v = v
resumed by (w ∷ ws) v = after by w (resumed by ws v)

-- the value at a step
abbrev pub step_value : (Cell → Term) → Step → Value
step_value by (Enter c) = value_of (by c)
step_value by (Leave z) = Ok z

-- the cell is of the heap, and an atom is one of the first n
abbrev pub IsOwn : ℕ → Cells → Cell → Type 0
IsOwn n h c = IsOf h c × IsAtomBelow n c

abbrev pub IsOwnOperation : ℕ → Cells → OpenOperation → Type 0
IsOwnOperation n h (Left o c) = IsOwn n h c
IsOwnOperation n h (Right o z) = Unit {0}
IsOwnOperation n h Opposite = Unit {0}

-- a cell that waits is of the heap
abbrev pub IsOfHeap : Cells → OpenOperation → Type 0
IsOfHeap h (Left o c) = IsOf h c
IsOfHeap h (Right o z) = Unit {0}
IsOfHeap h Opposite = Unit {0}

abbrev pub IsOwnStep : ℕ → Cells → Step → Type 0
IsOwnStep n h (Enter c) = IsOwn n h c
IsOwnStep n h (Leave z) = Unit {0}

-- all atoms have one name
abbrev pub unnamed : Naming
unnamed a = []

-- how much is left to do
abbrev pub burden : (Cell → Term) → List OpenOperation → ℕ
burden by [] = 0
burden by (Left o c ∷ ws) = 2 * size (by c) + 1 + burden by ws
burden by (Right o z ∷ ws) = 1 + burden by ws
burden by (Opposite ∷ ws) = 1 + burden by ws

abbrev pub load : (Cell → Term) → List OpenOperation → Step → ℕ
load by ws (Enter c) = 2 * size (by c) + burden by ws
load by ws (Leave z) = 1 + burden by ws

-- one evaluation goes on as the other, and has less left to do
pub record GoesOn (names : List Name) (h : Cells) (G : Family) (old : List OpenOperation) (s : Step) (new : List OpenOperation) (t : Step) : Type 0 where
  pub value : (name : Naming) → IsNamedBy names name → resumed (seen_term name h G) old (step_value (seen_term name h G) s) ≡ resumed (seen_term name h G) new (step_value (seen_term name h G) t)
  pub own : IsOwnStep (length names) h s → All (IsOwnOperation (length names) h) old → IsOwnStep (length names) h t × All (IsOwnOperation (length names) h) new
  pub falls : load (seen_term unnamed h G) new t < load (seen_term unnamed h G) old s

-- an evaluation goes on, or its fault is told
abbrev pub TellsStep : List Name → Cells → Family → List OpenOperation → Step → Result Step EvalFault → List OpenOperation → Type 0
TellsStep names h G old s (Ok t) new = GoesOn names h G old s new t
TellsStep names h G old s (Err e) new = (name : Naming) → IsNamedBy names name → IsFault e (resumed (seen_term name h G) old (step_value (seen_term name h G) s))

-- one evaluation goes on as the other, or is the other
pub record Leads (names : List Name) (h : Cells) (G : Family) (old : List OpenOperation) (s : Step) (new : List OpenOperation) (t : Step) : Type 0 where
  pub value : (name : Naming) → IsNamedBy names name → resumed (seen_term name h G) old (step_value (seen_term name h G) s) ≡ resumed (seen_term name h G) new (step_value (seen_term name h G) t)
  pub own : IsOwnStep (length names) h s → All (IsOwnOperation (length names) h) old → IsOwnStep (length names) h t × All (IsOwnOperation (length names) h) new
  pub lighter : load (seen_term unnamed h G) new t ≤ load (seen_term unnamed h G) old s

-- the way down to an integer, or its fault
abbrev pub TellsDescent : List Name → Cells → Family → List OpenOperation → Cell → Result ℤ EvalFault → List OpenOperation → Type 0
TellsDescent names h G old c (Ok z) new = GoesOn names h G old (Enter c) new (Leave z)
TellsDescent names h G old c (Err e) new = (name : Naming) → IsNamedBy names name → IsFault e (resumed (seen_term name h G) old (value_of (seen_term name h G c)))

-- the way up with a value: to an operand, or to the end, where nothing waits; or its fault
abbrev pub TellsAscent : List Name → Cells → Family → List OpenOperation → ℤ → Result Step EvalFault → List OpenOperation → Type 0
TellsAscent names h G old z (Ok (Enter c)) new = Leads names h G old (Leave z) new (Enter c)
TellsAscent names h G old z (Ok (Leave y)) new = Leads names h G old (Leave z) [] (Leave y)
TellsAscent names h G old z (Err e) new = (name : Naming) → IsNamedBy names name → IsFault e (resumed (seen_term name h G) old (Ok z))

-- the operand of an opposite, or no number where it is none
abbrev pub HasOpposite : Name → List Cell → Result Cell EvalFault → Type 0
HasOpposite f args r = MatchResult r (λ c. (args ≡ c ∷ []) × (bytes_eq f (codes "-") ≡ true))
    (λ e. (e ≡ fault.NotANumber) × ((by : Cell → Term) → value_of (Comp f (terms_by by args)) ≡ Err not_a_number))

-- a compound term is entered at its first operand, or at the second one where the first has a value; or its fault is told
abbrev pub IsEntered : Cells → Family → Name → List Cell → List OpenOperation → Result Cell EvalFault → List OpenOperation → Type 0
IsEntered h G f args old (Ok t) new =
    ((c : Cell) × (args ≡ c ∷ []) × (bytes_eq f (codes "-") ≡ true) × (new ≡ old ++ Opposite ∷ []) × (t ≡ c))
    ⊎ (((c : Cell) × (d : Cell) × (o : Operation) × (args ≡ c ∷ d ∷ []) × (operation_of f ≡ Some o) × (new ≡ old ++ Left o d ∷ []) × (t ≡ c))
    ⊎ ((c : Cell) × (d : Cell) × (o : Operation) × (z : ℤ) × (args ≡ c ∷ d ∷ []) × (operation_of f ≡ Some o)
    × ((name : Naming) → value_of (seen_term name h G c) ≡ Ok z) × (new ≡ old ++ Right o z ∷ []) × (t ≡ d)))
IsEntered h G f args old (Err e) new = (by : Cell → Term) → IsFault e (value_of (Comp f (terms_by by args)))
