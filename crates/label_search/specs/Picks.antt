-- A list that is labelled, and the place of the member that is picked.
use Rattle.std.specs.Prelude.{◌≡◌, ℕ, ◌<◌, ◌≤◌, pos, List, [], ◌∷◌, length, slice_index_or, slice_get, Option, Some, None, MatchOption, All}
use Rattle.fd_language.specs.Family.{universe}
use Rattle.fd_language.specs.declared.TheConstants.{INFINITY}
use Rattle.fd_model.specs.declared.kinds.Order.{Order}
use Rattle.fd_model.specs.Members as seen
use Rattle.fd_model.specs.Labelling.{pick}
use Rattle.label_search.specs.declared.Member.{Member}
use Rattle.label_search.specs.declared.Member.TheVariants.{Fixed, Var, Free}

-- how many values a member has by the sets of the store, where N is the greatest value that a variable may have
abbrev pub value_count : ℕ → List (List ℕ) → Member → ℕ
value_count N sets (Fixed z) = 1
value_count N sets (Var k) = length (slice_index_or sets k (universe INFINITY))
value_count N sets Free = length (universe N)

-- the member at a place, and the integer 0 where there is none
abbrev pub member_at : List Member → ℕ → Member
member_at list i = slice_index_or list i (Fixed (pos 0))

-- a variable of the store is one of the first n
abbrev pub IsThere : ℕ → Member → Type 0
IsThere n (Fixed z) = Unit {0}
IsThere n (Var k) = k < n
IsThere n Free = Unit {0}

abbrev pub AreThere : ℕ → List Member → Type 0
AreThere n list = All (IsThere n) list

-- a member with at most one value counts as an integer, and another one as an open variable with as many values
abbrev pub IsSeenAs : ℕ → List (List ℕ) → (ℕ → List ℕ) → Member → seen.Member → Type 0
IsSeenAs N sets values m (seen.Known z) = value_count N sets m ≤ 1
IsSeenAs N sets values m (seen.Open x) = (1 < value_count N sets m) × (length (values x) ≡ value_count N sets m)

-- the members, each as it is seen
abbrev pub AreSeenAs : ℕ → List (List ℕ) → (ℕ → List ℕ) → List Member → List seen.Member → Type 0
AreSeenAs N sets values [] [] = Unit {0}
AreSeenAs N sets values [] (s ∷ ss) = ⊥
AreSeenAs N sets values (m ∷ ms) [] = ⊥
AreSeenAs N sets values (m ∷ ms) (s ∷ ss) = IsSeenAs N sets values m s × AreSeenAs N sets values ms ss

-- the variable's place among the members, where there is a variable
abbrev pub IsPlaceOf : List seen.Member → Option ℕ → Option ℕ → Type 0
IsPlaceOf ss None None = Unit {0}
IsPlaceOf ss None (Some i) = ⊥
IsPlaceOf ss (Some x) None = ⊥
IsPlaceOf ss (Some x) (Some i) = slice_get ss i ≡ Some (seen.Open x)

-- the place of the variable that the order picks, however the members are seen
abbrev pub IsPicked : ℕ → Order → List (List ℕ) → List Member → Option ℕ → Type 0
IsPicked N o sets list place = (values : ℕ → List ℕ) (ss : List seen.Member) → AreSeenAs N sets values list ss → IsPlaceOf ss (pick o values ss) place

-- the place of a member with more than one value, and none where no member has more than one
abbrev pub HasSeveral : ℕ → List (List ℕ) → List Member → Option ℕ → Type 0
HasSeveral N sets list place = MatchOption place (All (λ m. value_count N sets m ≤ 1) list) (λ i. (i < length list) × (1 < value_count N sets (member_at list i)))
