-- The statements of the laws on leaves of posted lists.
use Rattle.std.specs.Prelude.{◌≡◌, ℕ, ◌≤◌, Bool, IsTrue, ℤ, pos, List, [], ◌∷◌, map, Option, Some, None, ◌⊎◌}
use Rattle.fd_model.specs.declared.kinds.Order.{Order}
use Rattle.fd_language.specs.Family.{Family, has}
use Rattle.fd_language.specs.Lists.{Each}
use Rattle.fd_language.specs.Monotonicity.{IsMonotone}
use Rattle.fd_language.specs.Range.{Indexical, set_of}
use Rattle.fd_language.specs.SingleValues.{only}
use Rattle.fd_model.specs.Answers.{Somewhere, Settles, InOrder, Comes}
use Rattle.fd_model.specs.ClosedFamilies.{AllPosted, constrained}
use Rattle.fd_model.specs.Labelling.{open_ones}
use Rattle.fd_model.specs.Members.{Member, Open, Known}
use Rattle.fd_model.specs.PostedLeaves.{AreLeft, PostedLeaves}
use Rattle.fd_model.specs.Leaves.{IsAsGood}
use Rattle.fd_model.specs.BestPosted.{IsCostOf, HaveValues, SoughtValues}
use Rattle.fd_model.specs.Satisfaction.{Assignment, singles}
use Rattle.fd_model.specs.BranchViews.{IsConsistent}

-- numbers up to M that put each target inside each posted range
pub record Keeps (M : ℕ) (ps : List Indexical) (a : Assignment) : Type 0 where
  pub bounded : (x : ℕ) → a x ≤ M
  pub posted : AllPosted (λ p. IsTrue (has (set_of M (singles a) p.range) (a p.target))) ps

-- each constrained variable, those in ws aside, is a member or has one value
pub record AreCovered (M : ℕ) (ms : List Member) (ps : List Indexical) (ws : List ℕ) : Type 0 where
  pub family : Family
  pub left : AreLeft M ps family
  pub covered : (w : ℕ) → IsTrue (has (constrained ps) w) → IsTrue (has ws w) ⊎ IsTrue (has (open_ones ms) w) ⊎ ((n : ℕ) × (only (family w) ≡ Some n))

-- a labelling that gives all constrained variables their values: those in ws, which aren't labelled, follow the others
pub record IsWhole (M : ℕ) (ms : List Member) (ps : List Indexical) (ws : List ℕ) : Type 0 where
  pub monotone : AllPosted (λ p. IsMonotone M p.range) ps
  pub consistent : IsConsistent M M [] ps
  pub covered : AreCovered M ms ps ws
  pub settles : Settles M ps ws

-- In each leaf of such a labelling the members have the values of an assignment that keeps the posted ranges.
abbrev pub LeavesAreKept : Type 0
LeavesAreKept =
    (M : ℕ) (o : Order) (ms : List Member) (ps : List Indexical) (ws : List ℕ) (ls : List (List Indexical)) → IsWhole M ms ps ws → PostedLeaves M o ms (ps ∷ []) ls
    → Each (λ l. (a : Assignment) × Keeps M ps a × HaveValues M (open_ones ms) l (map a (open_ones ms))) ls

-- Of any labelling: whatever assignment keeps the posted ranges, in some leaf the members have its values.
abbrev pub KeptAreLeaves : Type 0
KeptAreLeaves =
    (M : ℕ) (o : Order) (ms : List Member) (ps : List Indexical) (ls : List (List Indexical)) → PostedLeaves M o ms (ps ∷ []) ls
    → (a : Assignment) → Keeps M ps a → Somewhere (λ l. HaveValues M (open_ones ms) l (map a (open_ones ms))) ls

-- the cost that an assignment gives
abbrev pub cost_by : Assignment → Member → ℤ
cost_by a (Known z) = z
cost_by a (Open x) = pos (a x)

-- what is found has the best cost of all assignments that keep the posted ranges, and nothing is found where there is none
abbrev pub IsBestKept : ℕ → Bool → Member → List ℕ → List Indexical → Option (List ℕ) → Type 0
IsBestKept M least c xs ps None = (a : Assignment) → Keeps M ps a → ⊥
IsBestKept M least c xs ps (Some ns) = (a : Assignment) × Keeps M ps a × (ns ≡ map a xs) × ((b : Assignment) → Keeps M ps b → IsAsGood least (cost_by a c) (cost_by b c))

abbrev pub BestCost : Type 0
BestCost =
    (M : ℕ) (o : Order) (ms : List Member) (c : Member) (least : Bool) (ps : List Indexical) (ws : List ℕ) (found : Option (List ℕ)) → IsWhole M ms ps ws → IsCostOf ms c
    → SoughtValues M o ms c least ps found → IsBestKept M least c (open_ones ms) ps found

-- the values of xs in the one come before those in the other, by the order of the labelling
abbrev pub ComesBefore : ℕ → Order → List ℕ → List Indexical → List Indexical → Type 0
ComesBefore M o xs l k = (ns ks : List ℕ) → HaveValues M xs l ns → HaveValues M xs k ks → Comes o ns ks

-- No two leaves have the same values of the members, and where the leftmost is taken first the values rise.
abbrev pub LeavesInOrder : Type 0
LeavesInOrder =
    (M : ℕ) (o : Order) (ms : List Member) (ps : List Indexical) (ls : List (List Indexical)) → AllPosted (λ p. IsMonotone M p.range) ps → IsConsistent M M [] ps → PostedLeaves M o ms (ps ∷ []) ls
    → InOrder (ComesBefore M o (open_ones ms)) ls

-- What is found is the first of those with its cost.
abbrev pub FirstOfBest : Type 0
FirstOfBest =
    (M : ℕ) (o : Order) (ms : List Member) (c : Member) (least : Bool) (ps : List Indexical) (ns : List ℕ) → AllPosted (λ p. IsMonotone M p.range) ps → IsConsistent M M [] ps → IsCostOf ms c
    → SoughtValues M o ms c least ps (Some ns) → (a b : Assignment) → Keeps M ps a → Keeps M ps b → ns ≡ map a (open_ones ms) → cost_by b c ≡ cost_by a c
    → (map b (open_ones ms) ≡ ns) ⊎ Comes o ns (map b (open_ones ms))

-- There is one answer, and no other.
abbrev pub OneSought : Type 0
OneSought =
    (M : ℕ) (o : Order) (ms : List Member) (c : Member) (least : Bool) (ps : List Indexical) → AllPosted (λ p. IsMonotone M p.range) ps → IsConsistent M M [] ps → IsCostOf ms c
    → (found : Option (List ℕ)) × SoughtValues M o ms c least ps found × ((other : Option (List ℕ)) → SoughtValues M o ms c least ps other → other ≡ found)
