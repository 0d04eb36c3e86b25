-- Leaves of a labelling over posted lists: `x in n..n` is posted for `x = n`.
use Rattle.std.specs.Prelude.{◌≡◌, ℕ, pos, IsTrue, ◌↔◌, List, [], ◌∷◌, ◌++◌, map, Option, Some, None, ◌⊎◌}
use Rattle.fd_model.specs.declared.kinds.Order.{Order}
use Rattle.fd_language.specs.Family.{Family, has, IsFamily}
use Rattle.fd_language.specs.Range.{Indexical, Span, Number}
use Rattle.fd_language.specs.SingleValues.{only}
use Rattle.fd_model.specs.Domains.{Domains}
use Rattle.fd_model.specs.Labelling.{pick}
use Rattle.fd_model.specs.Members.{Member, Open, Known}
use Rattle.fd_model.specs.BranchViews.{IsConsistent}

-- the sets that posted ranges leave to the variables: the family that Domains gives
pub record AreLeft (M : ℕ) (ps : List Indexical) (D : Family) : Type 0 where
  pub family : IsFamily M D
  pub domains : (x n : ℕ) → IsTrue (has (D x) n) ↔ Domains M M [] ps x n

abbrev pub open_unless : ℕ → Option ℕ → Member
open_unless x None = Open x
open_unless x (Some n) = Known (pos n)

-- a member as it is seen where the variables have these sets: a variable of one value is that integer
abbrev pub seen_in : Family → Member → Member
seen_in D (Known z) = Known z
seen_in D (Open x) = open_unless x (only (D x))

-- the variable that is taken next, where not all members are seen as integers
abbrev pub picked_in : Order → Family → List Member → Option ℕ
picked_in o D ms = pick o D (map (seen_in D) ms)

-- x in n..n
abbrev pub exactly : ℕ → ℕ → Indexical
exactly x n = record { target = x; range = Span (Number (pos n)) (Number (pos n)) }

-- x has the value n, too
abbrev pub with_value : List Indexical → ℕ → ℕ → List Indexical
with_value ps x n = ps ++ exactly x n ∷ []

-- the consistent ones among posted lists, in order
abbrev pub KeptLists : ℕ → List (List Indexical) → List (List Indexical) → Type 0
KeptLists M [] cs = cs ≡ []
KeptLists M (b ∷ bs) cs = (IsConsistent M M [] b × ((ds : List (List Indexical)) × (cs ≡ b ∷ ds) × KeptLists M bs ds)) ⊎ ((IsConsistent M M [] b → ⊥) × KeptLists M bs cs)

-- Leaves of posted lists under a labelling of the members ms, put together in order. A list with which all members are seen as integers is a
-- leaf itself. Another has the leaves of its children, of which there is one for each value of the picked variable, ascending, unless it isn't consistent.
pub data PostedLeaves (M : ℕ) (o : Order) (ms : List Member) : List (List Indexical) → List (List Indexical) → Type 0 where
  no_leaves : PostedLeaves M o ms [] []
  leaf : {b : List Indexical} {bs ls : List (List Indexical)} (D : Family) → AreLeft M b D → picked_in o D ms ≡ None → PostedLeaves M o ms bs ls → PostedLeaves M o ms (b ∷ bs) (b ∷ ls)
  grows : {b : List Indexical} {bs ls : List (List Indexical)} (D : Family) (x : ℕ) (cs : List (List Indexical)) → AreLeft M b D → picked_in o D ms ≡ Some x
      → KeptLists M (map (with_value b x) (D x)) cs → PostedLeaves M o ms (cs ++ bs) ls → PostedLeaves M o ms (b ∷ bs) ls
