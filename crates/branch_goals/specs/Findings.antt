-- What built-in goals come to, by a branch's heap and sets.
use Rattle.std.specs.Prelude.{◌≡◌, ℕ, Bool, not, ℤ, pos, int_le, List, [], ◌∷◌, Result, Ok, Err}
use Rattle.std.specs.Ordering.{int_eq}
use Rattle.fd_language.specs.Term.{Name, Term}
use Rattle.fd_model.specs.Arithmetic.{query_fault, unbound, not_a_number, overflow, zero_divisor}
use Rattle.fd_model.specs.Builtins.{Finding, faulted, decided, equated, evaluated, compared, Numbers, one, those, numbers_of, least_number, greatest_number}
use Rattle.fd_model.specs.Builtins.{number_count, is_open, is_integer, is_atom, is_atomic, is_compound}
use Rattle.fd_model.specs.declared.kinds.BuiltinKind.{BuiltinKind}
use Rattle.fd_model.specs.declared.kinds.BuiltinKind.TheVariants as kind
use Rattle.fd_model.specs.declared.kinds.QueryFault.{QueryFault}
use Rattle.heap_cells.specs.declared.Cell.{Cell}
use Rattle.heap_cells.specs.Cells.{Cells}
use Rattle.heap_cells.specs.Terms.{Naming, IsOneToOne, term_of}
use Rattle.builtin_calls.specs.declared.evaluation.EvalFault.{EvalFault}
use Rattle.builtin_calls.specs.declared.evaluation.EvalFault.TheVariants as eval
use Rattle.builtin_calls.specs.Outcomes.{IsNamedBy}
use Rattle.range_code.specs.Frames.{family_of}
use Rattle.branch_meaning.specs.HeldBranches.{link_at}
use Rattle.branch_meaning.specs.AnswerTexts.{cell_set}
use Rattle.branch_lemmas.specs.Frames.{link_in}
use Rattle.branch_lemmas.specs.SeenHeap.{heap_finding}
use Rattle.branch_state.specs.States.{State, IsCell}
use Rattle.branch_goals.specs.declared.builtin_findings.Found.{Found}
use Rattle.branch_goals.specs.declared.builtin_findings.Found.TheVariants.{Fault, Decided, Equal}
use Rattle.branch_goals.specs.declared.builtin_findings.Numbers.{Numbers as Held}
use Rattle.branch_goals.specs.declared.builtin_findings.Numbers.TheVariants.{One, Those}
use Rattle.heap_cells.specs.SeenTerms.{seen_term}

-- the pool's names, and no two atoms have one name
abbrev pub IsNaming : List Name → Naming → Type 0
IsNaming names name = IsNamedBy names name × IsOneToOne name

-- the term of a cell of the branch, as its sets show it
abbrev pub seen_at : Naming → State → Cell → Term
seen_at name s c = seen_term name s.heaps.now (family_of s.levels.current.sets) c

-- what a goal comes to whose arguments are in the cells a and b
abbrev pub found_in : Naming → State → BuiltinKind → Cell → Cell → Finding
found_in name s k a b = heap_finding name s.heaps.now s.levels.current.posted
    (family_of s.levels.current.sets) k (term_of name s.heaps.now a) (term_of name s.heaps.now b)

abbrev pub Finds : Naming → State → BuiltinKind → Cell → Cell → Found → Type 0
Finds name s k a b (Fault f) = found_in name s k a b ≡ faulted f
Finds name s k a b (Decided holds) = found_in name s k a b ≡ decided holds
Finds name s k a b (Equal x y) = IsCell s x × IsCell s y
    × (found_in name s k a b ≡ equated (term_of name s.heaps.now x) (term_of name s.heaps.now y))

-- the query's fault for a fault of arithmetic
abbrev pub fault_is : EvalFault → QueryFault → Type 0
fault_is eval.Unbound f = f ≡ query_fault unbound
fault_is eval.NotANumber f = f ≡ query_fault not_a_number
fault_is eval.Overflow f = f ≡ query_fault overflow
fault_is eval.ZeroDivisor f = f ≡ query_fault zero_divisor
fault_is eval.NoMemory f = ⊥

abbrev pub IsValueAt : Naming → State → Cell → Result ℤ QueryFault → Type 0
IsValueAt name s c v = evaluated (seen_at name s c) ≡ v

-- both values, or the first fault of the two
abbrev pub AreValuesAt : Naming → State → Cell → Cell → Result (ℤ × ℤ) QueryFault → Type 0
AreValuesAt name s a b (Ok v) = (evaluated (seen_at name s a) ≡ Ok v.0)
    × (evaluated (seen_at name s b) ≡ Ok v.1)
AreValuesAt name s a b (Err f) = (holds : ℤ → ℤ → Bool)
    → compared holds (evaluated (seen_at name s a)) (evaluated (seen_at name s b)) ≡ faulted f

-- how two values are compared
abbrev pub holds_by : BuiltinKind → ℤ → ℤ → Bool
holds_by kind.NumEqual a b = int_eq a b
holds_by kind.NumDiffer a b = not (int_eq a b)
holds_by kind.NumLess a b = not (int_le b a)
holds_by kind.NumAtMost a b = int_le a b
holds_by kind.NumGreater a b = not (int_le a b)
holds_by _ a b = int_le b a

-- a comparison of values
abbrev pub IsComparison : BuiltinKind → Type 0
IsComparison kind.NumEqual = Unit {0}
IsComparison kind.NumDiffer = Unit {0}
IsComparison kind.NumLess = Unit {0}
IsComparison kind.NumAtMost = Unit {0}
IsComparison kind.NumGreater = Unit {0}
IsComparison kind.NumAtLeast = Unit {0}
IsComparison _ = ⊥

-- a question for a number of a domain
abbrev pub IsQuestion : BuiltinKind → Type 0
IsQuestion kind.FdMin = Unit {0}
IsQuestion kind.FdMax = Unit {0}
IsQuestion kind.FdSize = Unit {0}
IsQuestion _ = ⊥

-- the numbers, as the definitions have them
abbrev pub the_numbers : Held → Numbers
the_numbers (One z) = one z
the_numbers (Those d) = those d.now

abbrev pub told_by : BuiltinKind → Numbers → ℤ
told_by kind.FdMin ns = least_number ns
told_by kind.FdMax ns = greatest_number ns
told_by _ ns = number_count ns

-- the only number of a set, or all of it
abbrev pub numbers_in_set : List ℕ → Numbers
numbers_in_set (w ∷ []) = one (pos w)
numbers_in_set xs = those xs

-- of a term, where sets show it: an integer is one number, and a variable has those of its set
abbrev pub numbers_at : Naming → Cells → List (List ℕ) → Cell → Result Numbers QueryFault
numbers_at name h sets c =
    let G = family_of sets in
    numbers_of (λ d. cell_set G (link_at (link_in h d) G)) (seen_term name h (family_of sets) c)

abbrev pub AreNumbersAt : Naming → Cells → List (List ℕ) → Cell → Result Held QueryFault → Type 0
AreNumbersAt name h sets c (Ok n) = numbers_at name h sets c ≡ Ok (the_numbers n)
AreNumbersAt name h sets c (Err f) = numbers_at name h sets c ≡ Err f

-- the tests of types
abbrev pub passes_by : BuiltinKind → Term → Bool
passes_by kind.Var t = is_open t
passes_by kind.Nonvar t = not (is_open t)
passes_by kind.Integer t = is_integer t
passes_by kind.Atom t = is_atom t
passes_by kind.Atomic t = is_atomic t
passes_by _ t = is_compound t
