-- A search for the best leaf of a labelling in a machine's store: its members, and the leaf that it finds.
use Rattle.std.specs.Prelude.{◌≡◌, ℕ, suc, ◌<◌, ◌≤◌, ◌==◌, length, Bool, false, IsTrue, if◌then◌else◌, List, [], ◌∷◌, ◌++◌, Option, Some, None, Result, Ok, Err}
use Rattle.fd_language.specs.Family.{Family, has, IsInside}
use Rattle.fd_language.specs.Monotonicity.{IsMonotone}
use Rattle.fd_language.specs.Range.{Indexical}
use Rattle.fd_language.specs.SingleValues.{value_at}
use Rattle.fd_language.specs.Term.{Term, Var, Substitution, apply}
use Rattle.fd_model.specs.declared.kinds.Order.{Order}
use Rattle.fd_model.specs.declared.kinds.QueryFault.{QueryFault}
use Rattle.fd_model.specs.BestPosted.{IsCostOf}
use Rattle.fd_model.specs.Branches.{with_goals, by_value, look_in, sets_in}
use Rattle.fd_model.specs.Children.{cost_fault}
use Rattle.fd_model.specs.ClosedFamilies.{AllPosted, constrained}
use Rattle.fd_model.specs.Goal.{Goal, Label, Branch}
use Rattle.fd_model.specs.Labelling.{read_list, pick, values_by, open_ones}
use Rattle.fd_model.specs.Leaves.{SoughtLeaf}
use Rattle.fd_model.specs.Members.{Member, Open, Known, as_member}
use Rattle.fd_model.specs.Models.{IsModel}
use Rattle.fd_model.specs.BranchViews.{IsConsistent, IsView}
use Rattle.branch_lemmas.specs.VariableBounds.{IsBounded, AreBounds}
use Rattle.branch_meaning.specs.Heap.{after, Below}
use Rattle.branch_meaning.specs.Store.{IsStored}

-- a member as the store has it, where own gives each open cell a variable of the store
abbrev pub owned : (ℕ → ℕ) → Member → Member
owned own (Open c) = Open (own c)
owned own (Known z) = Known z

-- the fault of a search, by its list and its cost as they are shown: that of the list comes first
abbrev pub search_fault : Result (List Member) QueryFault → Term → Option QueryFault
search_fault (Err f) c = Some f
search_fault (Ok ms) c = cost_fault ms c

-- The store's variables of these cells: a linked cell has the one to which it is linked, and each other has one of its own that no posted range names.
pub record AreOwned (link : ℕ → Option ℕ) (qs : List Indexical) (own : ℕ → ℕ) (cs : List ℕ) : Type 0 where
  pub linked : (c k : ℕ) → IsTrue (has cs c) → link c ≡ Some k → own c ≡ k
  pub new : (c : ℕ) → IsTrue (has cs c) → link c ≡ None → has (constrained qs) (own c) ≡ false
  pub apart : (c d : ℕ) → IsTrue (has cs c) → IsTrue (has cs d) → link c ≡ None → link d ≡ None → own c ≡ own d → c ≡ d

-- What a search begins with: the store's ranges, and behind them bounds. Unless a variable may have each number of the universe, each variable of the ranges
-- and of these cells has its bound.
pub record IsBegun (M N : ℕ) (link : ℕ → Option ℕ) (qs : List Indexical) (own : ℕ → ℕ) (cs : List ℕ) (ls : List Indexical) : Type 0 where
  pub bounds : List Indexical
  pub are : AreBounds N bounds
  pub behind : ls ≡ qs ++ bounds
  pub each : (x : ℕ) → IsTrue (has (constrained qs) x) → (N ≡ M → ⊥) → IsBounded N qs x
  pub new : (c : ℕ) → IsTrue (has cs c) → link c ≡ None → (N ≡ M → ⊥) → IsBounded N ls (own c)

-- a branch's term as the heap and the store's sets show it: a linked cell whose set has one value is that integer
abbrev pub shown_by : (ℕ → Option ℕ) → Family → Substitution → Substitution
shown_by link G look = after (λ d. value_at (link d) G d) look

-- A heap of h cells and a store with the ranges qs, which leave the sets G, stand for the consistent branch b. As they show it, the list t has the members ms,
-- and the cost c is this one of them, or an integer. The search begins with the ranges ls.
pub record IsSearched (M N : ℕ) (b : Branch) (t c : Term) (h : ℕ) (look : Substitution) (link : ℕ → Option ℕ) (slot : ℕ → ℕ) (qs : List Indexical) (G : Family) (ms : List Member)
    (cost : Member) (own : ℕ → ℕ) (ls : List Indexical) : Type 0 where
  pub within : N ≤ M
  pub stored : IsStored M N b.equations b.posted (λ v. v < b.fresh) h look link slot qs
  pub consistent : IsConsistent M N b.equations b.posted
  pub monotone : AllPosted (λ p. IsMonotone M p.range) b.posted
  pub store : AllPosted (λ p. IsMonotone M p.range) qs
  pub list : Below b.fresh t
  pub known : Below b.fresh c
  pub model : IsModel M N [] qs G
  pub most : (R : Family) → IsModel M N [] qs R → IsInside R G
  pub members : read_list (apply (shown_by link G look) t) ≡ Ok ms
  pub costs : as_member (apply (shown_by link G look) c) ≡ Ok cost
  pub among : IsCostOf ms cost
  pub owned : AreOwned link qs own (open_ones ms)
  pub begun : IsBegun M N link qs own (open_ones ms) ls

-- the number found for a cell: that at its first place
abbrev pub found_at : List ℕ → List ℕ → ℕ → ℕ
found_at (c ∷ cs) (n ∷ ns) d = if c == d then n else found_at cs ns d
found_at _ _ d = 0

abbrev pub cell_of : Term → ℕ
cell_of (Var c) = c
cell_of _ = 0

-- From the first branch on, the labelling of the list t gives each variable that it picks this value, so many of them, and the other branch is the leaf where
-- it ends.
pub data Takes (M N : ℕ) (o : Order) (t : Term) (value : ℕ → ℕ) : ℕ → Branch → Branch → Type 0 where
  ends : {b : Branch} (s : Substitution) (D : Family) (ms : List Member) → IsView M N b.equations b.posted s D → read_list (apply (look_in b s D) t) ≡ Ok ms
      → pick o (λ y. values_by N (sets_in b s D y)) ms ≡ None → Takes M N o t value 0 b b
  gives : {j : ℕ} {b d : Branch} (s : Substitution) (D : Family) (ms : List Member) (x : ℕ) → IsView M N b.equations b.posted s D → read_list (apply (look_in b s D) t) ≡ Ok ms
      → pick o (λ y. values_by N (sets_in b s D y)) ms ≡ Some x
      → IsConsistent M N (by_value b b.goals x (value x)).equations b.posted → Takes M N o t value j (by_value b b.goals x (value x)) d → Takes M N o t value (suc j) b d

-- What was found: no leaf, or the one to which the numbers found lead, each taken by the variable that its cell is. No cell takes one twice.
abbrev pub IsFound : ℕ → ℕ → Branch → List Goal → Order → Bool → Term → Term → Substitution → List ℕ → Option (List ℕ) → Type 0
IsFound M N b rest o least t c look cs None = SoughtLeaf M N b rest o least t c []
IsFound M N b rest o least t c look cs (Some ns) =
    (d : Branch) × SoughtLeaf M N b rest o least t c (with_goals d rest ∷ []) × (j : ℕ) × (j ≤ length cs) × Takes M N o t (λ x. found_at cs ns (cell_of (look x))) j (with_goals b (Label o t ∷ [])) d
