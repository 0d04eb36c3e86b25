-- Variables and integers, as the code keeps them.
use Rattle.std.specs.Prelude.{ℕ, ℤ, pos, Bool, true, false, List, [], ◌∷◌, map, Option, Some, None, if◌then◌else◌, codes}
use Rattle.std.specs.Str.{bytes_eq}
use Rattle.fd_language.specs.Term.{Term, Var, Int, Atom, Comp, no_terms, term}
use Rattle.fd_model.specs.Members as model
use Rattle.fd_model.specs.Satisfaction.{Assignment}
use Rattle.answer_check.specs.declared.members.Member.{Member}
use Rattle.answer_check.specs.declared.members.Member.TheVariants.{Open, Known}

-- the same in the definitions
abbrev pub model_of : Member → model.Member
model_of (Open x) = model.Open x
model_of (Known z) = model.Known z

abbrev pub is_known : Member → Bool
is_known (Open x) = false
is_known (Known z) = true

-- the integer that it is under an assignment
abbrev pub worth_of : Assignment → Member → ℤ
worth_of a (Open x) = pos (a x)
worth_of a (Known z) = z

abbrev pub worths_of : Assignment → List Member → List ℤ
worths_of a ms = map (worth_of a) ms

-- that of a term
abbrev pub member_in : Term → Option Member
member_in (Var x) = Some (Open x)
member_in (Int z) = Some (Known z)
member_in _ = None

abbrev pub is_nil : Term → Bool
is_nil (Atom a) = bytes_eq a (codes "[]")
is_nil _ = false

-- the first element and the rest
abbrev pub cell_in : Term → Option (Term × Term)
cell_in (Comp f (term h (term t no_terms))) = if bytes_eq f (codes ".") then Some (h, t) else None
cell_in _ = None

abbrev pub onto : Option Member → Option (List Member) → Option (List Member)
onto None o = None
onto (Some m) None = None
onto (Some m) (Some ms) = Some (m ∷ ms)

-- the members of a closed list of variables and integers
abbrev pub members_in : Term → Option (List Member)
members_in (Atom a) = if bytes_eq a (codes "[]") then Some [] else None
members_in (Comp f (term h (term t no_terms))) = if bytes_eq f (codes ".") then onto (member_in h) (members_in t) else None
members_in _ = None

-- an integer alone
abbrev pub known_in : Term → Option Member
known_in (Int z) = Some (Known z)
known_in _ = None

-- the variables among members, each where it stands
abbrev pub open_in : List Member → List ℕ
open_in [] = []
open_in (Open x ∷ ms) = x ∷ open_in ms
open_in (Known z ∷ ms) = open_in ms
