-- List arguments, as they are seen.
use Rattle.std.specs.Prelude.{ℕ, suc, ℤ, if◌then◌else◌, List, [], ◌∷◌, codes, Result, Ok, Err}
use Rattle.std.specs.Str.{bytes_eq}
use Rattle.fd_model.specs.declared.kinds.QueryFault.{QueryFault}
use Rattle.fd_model.specs.declared.kinds.QueryFault.TheVariants.{Instantiation, BadType}
use Rattle.fd_language.specs.Term.{Term, Var, Int, Atom, Comp, no_terms, term}
use Rattle.fd_model.specs.Linear.{of_both}

-- an open variable or an integer
pub data Member : Type 0 where
  Open : ℕ → Member
  Known : ℤ → Member

abbrev pub as_member : Term → Result Member QueryFault
as_member (Var x) = Ok (Open x)
as_member (Int z) = Ok (Known z)
as_member (Atom a) = Err BadType
as_member (Comp f ts) = Err BadType

-- an integer alone
abbrev pub as_integer : Term → Result ℤ QueryFault
as_integer (Var x) = Err Instantiation
as_integer (Int z) = Ok z
as_integer (Atom a) = Err BadType
as_integer (Comp f ts) = Err BadType

abbrev pub prepend : {A : Type 0} → A → List A → Result (List A) QueryFault
prepend x xs = Ok (x ∷ xs)

-- The list is walked from the front, and each element is looked at when it is met.
abbrev pub walk : {A : Type 0} → (Term → Result A QueryFault) → Term → Result (List A) QueryFault
walk read (Var x) = Err Instantiation
walk read (Int z) = Err BadType
walk read (Atom a) = if bytes_eq a (codes "[]") then Ok [] else Err BadType
walk read (Comp f no_terms) = Err BadType
walk read (Comp f (term h no_terms)) = Err BadType
walk read (Comp f (term h (term t no_terms))) = if bytes_eq f (codes ".") then of_both prepend (read h) (walk read t) else Err BadType
walk read (Comp f (term h (term t (term u us)))) = Err BadType

-- A fresh variable stands for an integer. The variable of a member, where n is the next fresh number, and the next one after it.
abbrev pub place_of : ℕ → Member → ℕ
place_of n (Open x) = x
place_of n (Known z) = n

abbrev pub after : ℕ → Member → ℕ
after n (Open x) = n
after n (Known z) = suc n

-- those of a list
abbrev pub placed : ℕ → List Member → List ℕ
placed n [] = []
placed n (m ∷ ms) = place_of n m ∷ placed (after n m) ms

abbrev pub fresh_after : ℕ → List Member → ℕ
fresh_after n [] = n
fresh_after n (m ∷ ms) = fresh_after (after n m) ms

-- the fresh ones with their integers
abbrev pub equated_from : ℕ → List Member → List (ℕ × ℤ)
equated_from n [] = []
equated_from n (Open x ∷ ms) = equated_from n ms
equated_from n (Known z ∷ ms) = (n, z) ∷ equated_from (suc n) ms
