-- The first best leaf of posted lists: of those with the least cost, or the greatest, the first in order.
use Rattle.std.specs.Prelude.{◌≡◌, ℕ, Bool, IsTrue, ℤ, List, [], ◌∷◌, ◌++◌, map, Option, Some, None}
use Rattle.fd_model.specs.declared.kinds.Order.{Order}
use Rattle.fd_language.specs.Family.{Family, has}
use Rattle.fd_language.specs.Lists.{Each}
use Rattle.fd_language.specs.Range.{Indexical}
use Rattle.fd_model.specs.Labelling.{open_ones}
use Rattle.fd_model.specs.PostedLeaves.{AreLeft, PostedLeaves, seen_in}
use Rattle.fd_model.specs.Members.{Member, Open, Known}
use Rattle.fd_model.specs.Leaves.{IsBetter, IsAsGood}

-- the cost is an integer or one of the members
abbrev pub IsCostOf : List Member → Member → Type 0
IsCostOf ms (Known z) = Unit {0}
IsCostOf ms (Open x) = IsTrue (has (open_ones ms) x)

-- the cost is seen as this integer where these ranges are posted
pub record Costs (M : ℕ) (c : Member) (ps : List Indexical) (z : ℤ) : Type 0 where
  pub family : Family
  pub left : AreLeft M ps family
  pub seen : seen_in family c ≡ Known z

-- each of the posted lists has such a cost
abbrev pub EachCosts : ℕ → Member → (ℤ → Type 0) → List (List Indexical) → Type 0
EachCosts M c Is ls = Each (λ l. (z : ℤ) × Costs M c l z × Is z) ls

-- The first of the leaves that have the best cost z: it is better than those before it, and as good as those behind it.
pub record IsBestPosted (M : ℕ) (least : Bool) (c : Member) (ls : List (List Indexical)) (b : List Indexical) (z : ℤ) : Type 0 where
  pub before : List (List Indexical)
  pub behind : List (List Indexical)
  pub among : ls ≡ before ++ b ∷ behind
  pub costs : Costs M c b z
  pub earlier : EachCosts M c (IsBetter least z) before
  pub later : EachCosts M c (IsAsGood least z) behind

-- each of the variables xs has one value where these ranges are posted, and these are ns
pub record HaveValues (M : ℕ) (xs : List ℕ) (ps : List Indexical) (ns : List ℕ) : Type 0 where
  pub family : Family
  pub left : AreLeft M ps family
  pub values : map family xs ≡ map (λ n. n ∷ []) ns

-- none without leaves, and else the values of the variables in the first best leaf
abbrev pub BestValues : ℕ → Bool → Member → List ℕ → List (List Indexical) → Option (List ℕ) → Type 0
BestValues M least c xs ls None = ls ≡ []
BestValues M least c xs ls (Some ns) = (l : List Indexical) × (z : ℤ) × IsBestPosted M least c ls l z × HaveValues M xs l ns

-- What a search for the least or the greatest cost finds from the posted list ps on: the values of the open members in the first best of its leaves.
pub record SoughtValues (M : ℕ) (o : Order) (ms : List Member) (c : Member) (least : Bool) (ps : List Indexical) (found : Option (List ℕ)) : Type 0 where
  pub leaves : List (List Indexical)
  pub all : PostedLeaves M o ms (ps ∷ []) leaves
  pub best : BestValues M least c (open_ones ms) leaves found
