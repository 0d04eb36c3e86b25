-- Labelling: the list as it is seen, the variable that is picked, and its values.
use Rattle.std.specs.Prelude.{ℕ, ltb, if◌then◌else◌, List, [], ◌∷◌, length, Option, Some, None, Result}
use Rattle.fd_model.specs.declared.kinds.QueryFault.{QueryFault}
use Rattle.fd_model.specs.declared.kinds.Order.{Order}
use Rattle.fd_model.specs.declared.kinds.Order.TheVariants.{Leftmost, FirstFail}
use Rattle.fd_language.specs.Term.{Term}
use Rattle.fd_language.specs.Family.{universe}
use Rattle.fd_model.specs.Members.{Member, Open, Known, as_member, walk}

-- the list as it is walked from the front
abbrev pub read_list : Term → Result (List Member) QueryFault
read_list t = walk as_member t

-- a variable's values: those of its set where it is constrained, and else all from 0 to N
abbrev pub values_by : ℕ → Option (List ℕ) → List ℕ
values_by N None = universe N
values_by N (Some xs) = xs

abbrev pub first_open : List Member → Option ℕ
first_open [] = None
first_open (Known z ∷ ms) = first_open ms
first_open (Open x ∷ ms) = Some x

-- x, unless the other has fewer values
abbrev pub unless_fewer : (ℕ → List ℕ) → ℕ → Option ℕ → ℕ
unless_fewer values x None = x
unless_fewer values x (Some y) = if ltb (length (values y)) (length (values x)) then y else x

-- one with the fewest values, and the first of these
abbrev pub fewest : (ℕ → List ℕ) → List Member → Option ℕ
fewest values [] = None
fewest values (Known z ∷ ms) = fewest values ms
fewest values (Open x ∷ ms) = Some (unless_fewer values x (fewest values ms))

-- the open member that is taken next, where there is one
abbrev pub pick : Order → (ℕ → List ℕ) → List Member → Option ℕ
pick Leftmost values ms = first_open ms
pick FirstFail values ms = fewest values ms

-- the open members, each where it stands
abbrev pub open_ones : List Member → List ℕ
open_ones [] = []
open_ones (Known z ∷ ms) = open_ones ms
open_ones (Open x ∷ ms) = x ∷ open_ones ms
