-- Leaves of a labelling, and the best of them.
use Rattle.std.specs.Prelude.{◌≡◌, ℕ, Bool, true, false, ℤ, ◌<ℤ◌, ◌≤ℤ◌, List, [], ◌∷◌, ◌++◌, map, Some, None, Ok}
use Rattle.fd_model.specs.declared.kinds.Order.{Order}
use Rattle.fd_language.specs.Term.{Term, Int, Substitution, apply}
use Rattle.fd_language.specs.Family.{Family}
use Rattle.fd_language.specs.Lists.{Each}
use Rattle.fd_model.specs.Goal.{Goal, Label, Branch}
use Rattle.fd_model.specs.BranchViews.{IsView}
use Rattle.fd_model.specs.Members.{Member}
use Rattle.fd_model.specs.Labelling.{read_list, pick, values_by}
use Rattle.fd_model.specs.Branches.{with_goals, by_value, Kept, look_in, sets_in}

-- Leaves of branches under a labelling of the list t, put together in order. A branch in which all members are seen as integers is a leaf itself. Another has
-- the leaves of its children, of which there is one for each value of the picked variable, unless it isn't consistent.
pub data Leaves (M N : ℕ) (o : Order) (t : Term) : List Branch → List Branch → Type 0 where
  no_leaves : Leaves M N o t [] []
  leaf : {b : Branch} {bs ls : List Branch} (s : Substitution) (D : Family) (ms : List Member) → IsView M N b.equations b.posted s D → read_list (apply (look_in b s D) t) ≡ Ok ms
      → pick o (λ y. values_by N (sets_in b s D y)) ms ≡ None → Leaves M N o t bs ls → Leaves M N o t (b ∷ bs) (b ∷ ls)
  grows : {b : Branch} {bs ls : List Branch} (s : Substitution) (D : Family) (ms : List Member) (x : ℕ) (cs : List Branch) → IsView M N b.equations b.posted s D
      → read_list (apply (look_in b s D) t) ≡ Ok ms
      → pick o (λ y. values_by N (sets_in b s D y)) ms ≡ Some x → Kept M N (map (by_value b b.goals x) (values_by N (sets_in b s D x))) cs → Leaves M N o t (cs ++ bs) ls → Leaves M N o t (b ∷ bs) ls

-- the term is seen as this integer in the branch
pub record IsSeenAs (M N : ℕ) (b : Branch) (t : Term) (z : ℤ) : Type 0 where
  pub unifier : Substitution
  pub family : Family
  pub view : IsView M N b.equations b.posted unifier family
  pub seen : apply (look_in b unifier family) t ≡ Int z

-- the cost z is better than w: less where the least is wanted, and else greater
abbrev pub IsBetter : Bool → ℤ → ℤ → Type 0
IsBetter true z w = z <ℤ w
IsBetter false z w = w <ℤ z

-- and no worse
abbrev pub IsAsGood : Bool → ℤ → ℤ → Type 0
IsAsGood true z w = z ≤ℤ w
IsAsGood false z w = w ≤ℤ z

-- The first of the leaves that have the best cost: it is better than those before it, and as good as those behind it.
pub record IsBest (M N : ℕ) (least : Bool) (c : Term) (ls : List Branch) (b : Branch) : Type 0 where
  pub before : List Branch
  pub behind : List Branch
  pub among : ls ≡ before ++ b ∷ behind
  pub cost : ℤ
  pub costs : IsSeenAs M N b c cost
  pub earlier : Each (λ d. (z : ℤ) × IsSeenAs M N d c z × IsBetter least cost z) before
  pub later : Each (λ d. (z : ℤ) × IsSeenAs M N d c z × IsAsGood least cost z) behind

-- none without leaves, and else the first best leaf, which goes on with these goals
abbrev pub BestLeaf : ℕ → ℕ → Bool → Term → List Goal → List Branch → List Branch → Type 0
BestLeaf M N least c rest [] cs = cs ≡ []
BestLeaf M N least c rest (l ∷ ls) cs = (d : Branch) × IsBest M N least c (l ∷ ls) d × (cs ≡ with_goals d rest ∷ [])

-- the leaves of the labelling of t in the branch, and the best of them
abbrev pub SoughtLeaf : ℕ → ℕ → Branch → List Goal → Order → Bool → Term → Term → List Branch → Type 0
SoughtLeaf M N b rest o least t c cs = (ls : List Branch) × Leaves M N o t (with_goals b (Label o t ∷ []) ∷ []) ls × BestLeaf M N least c rest ls cs
