-- What a constraint gives: a fault, or its ranges.
use Rattle.std.specs.Prelude.{ℕ, ℤ, List, [], ◌∷◌, Option, Some, None, Result, Ok, Err}
use Rattle.fd_model.specs.declared.kinds.QueryFault.{QueryFault}
use Rattle.fd_model.specs.declared.kinds.QueryFault.TheVariants.{BadType}
use Rattle.fd_model.specs.declared.kinds.Relation.{Relation}
use Rattle.fd_model.specs.declared.kinds.ConstraintKind.{ConstraintKind}
use Rattle.fd_model.specs.declared.kinds.ConstraintKind.TheVariants.{Compare, AllDifferent, Element, Atmost}
use Rattle.fd_language.specs.Term.{Term, Terms, Var, Int, Comp, no_terms, term, apply}
use Rattle.fd_language.specs.Unifier.{Equation}
use Rattle.fd_model.specs.Linear.{of_one, of_both, collect, normal_form, comparison}
use Rattle.fd_model.specs.LinearRows.{Expansion, linear_rows}
use Rattle.fd_model.specs.Members.{as_member, as_integer, walk}
use Rattle.fd_model.specs.ListRows.{different_rows, element_rows, atmost_rows}
use Rattle.fd_model.specs.Splitting.{Split, joined, split}

abbrev pub arguments : Term → Terms
arguments (Comp f ts) = ts
arguments _ = no_terms

abbrev pub compare : Relation → Term → Term → ℕ → Result Expansion QueryFault
compare r s t n = of_one (λ l. Ok (linear_rows (comparison r) l.products l.constant n)) (of_one (normal_form r) (collect s t))

abbrev pub all_different : Term → ℕ → Result Expansion QueryFault
all_different l n = of_one (λ ms. Ok (different_rows ms n)) (walk as_member l)

abbrev pub pair : {A B : Type 0} → A → B → Result (A × B) QueryFault
pair a b = Ok (a, b)

-- the arguments from left to right
abbrev pub element : Term → Term → Term → ℕ → Result Expansion QueryFault
element i l x n = of_both (λ p y. Ok (element_rows p.0 p.1 y n)) (of_both pair (as_member i) (walk as_integer l)) (as_member x)

abbrev pub atmost : Term → Term → Term → ℕ → Result Expansion QueryFault
atmost m l v n = of_both (λ p w. Ok (atmost_rows p.0 p.1 w n)) (of_both pair (as_integer m) (walk as_member l)) (as_integer v)

-- A comparison, or a constraint on a list, of the seen arguments, where n is the next fresh number. A constraint always has as many as its row.
abbrev pub basic : ConstraintKind → Terms → ℕ → Result Expansion QueryFault
basic (Compare r) (term s (term t no_terms)) n = compare r s t n
basic AllDifferent (term l no_terms) n = all_different l n
basic Element (term i (term l (term x no_terms))) n = element i l x n
basic Atmost (term m (term l (term v no_terms))) n = atmost m l v n
basic _ _ n = Err BadType

abbrev pub joined_split : Split → Result Expansion QueryFault
joined_split s = Ok (joined s)

abbrev pub by_split : Option (Result Split QueryFault) → Result Expansion QueryFault → Result Expansion QueryFault
by_split None r = r
by_split (Some q) r = of_one joined_split q

-- A constraint of the seen arguments. Products are looked at before a comparison's sides are collected.
abbrev pub expand : ℕ → ConstraintKind → Terms → ℕ → Result Expansion QueryFault
expand M kind ts n = by_split (split M kind ts n) (basic kind ts n)

-- the goal is seen as a whole
abbrev pub constrain : ℕ → (ℕ → Term) → ConstraintKind → Term → ℕ → Result Expansion QueryFault
constrain M look kind t n = expand M kind (arguments (apply look t)) n

abbrev pub equations : List (ℕ × ℤ) → List Equation
equations [] = []
equations (e ∷ es) = record { left = Var e.0; right = Int e.1 } ∷ equations es
