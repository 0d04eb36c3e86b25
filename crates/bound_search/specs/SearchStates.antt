-- A search under way: the open nodes, what of them is still to be tried, and the best leaf so far.
use Rattle.std.specs.Prelude.{◌≡◌, ℕ, Bool, false, nat_le, ℤ, IsTrue, List, [], ◌∷◌, ◌++◌, map, filter, length, reverse, Option, Some, None, ◌⊎◌}
use Rattle.fd_language.specs.Family.{has}
use Rattle.fd_language.specs.declared.TheConstants.{INFINITY}
use Rattle.fd_language.specs.Range.{Indexical}
use Rattle.fd_language.specs.Monotonicity.{IsMonotone}
use Rattle.fd_model.specs.declared.kinds.Order.{Order}
use Rattle.fd_model.specs.ClosedFamilies.{AllPosted}
use Rattle.fd_model.specs.Labelling.{open_ones}
use Rattle.fd_model.specs.Levels.{Level, Levels}
use Rattle.fd_model.specs.Members as seen
use Rattle.fd_model.specs.PostedLeaves.{with_value, KeptLists, PostedLeaves}
use Rattle.fd_model.specs.BestPosted.{Costs, IsBestPosted, HaveValues}
use Rattle.range_code.specs.Frames.{family_of}
use Rattle.propagate_queue.specs.PropagationInvariant.{AreDomains}
use Rattle.bound_search.specs.declared.search.Node.{Node}
use Rattle.bound_search.specs.declared.best_leaf.SoFar.{SoFar}
use Rattle.bound_search.specs.Members.{Improves, IsNoBetter}

-- the order of the labelling, its members, the cost, and whether the least is wanted
pub record Wanted : Type 0 where
  pub order : Order
  pub members : List seen.Member
  pub cost : seen.Member
  pub least : Bool

-- all levels, the current one first
abbrev pub all_levels : Levels → List Level
all_levels s = s.current ∷ s.below

-- the levels, the open nodes, the newest first, and the best leaf so far
pub record Progress : Type 0 where
  pub levels : List Level
  pub nodes : List Node
  pub best : SoFar

abbrev pub progress : List Level → List Node → SoFar → Progress
progress ls nodes best = record { levels = ls; nodes = reverse nodes; best = best }

-- a level with so many variables that hasn't failed
pub record IsNode (count : ℕ) (l : Level) : Type 0 where
  pub failed : l.failed ≡ false
  pub domains : AreDomains l.posted l.sets
  pub monotone : AllPosted (λ p. IsMonotone INFINITY p.range) l.posted
  pub vars : length l.sets ≡ count

-- the values of an open node's variable that weren't tried yet
abbrev pub values_left : Level → Node → List ℕ
values_left l n = filter (λ k. nat_le n.from k) (family_of l.sets n.variable)

module _ (w : Wanted) where
  -- an open node: the values of one of the members are tried
  pub record IsOpen (count : ℕ) (l : Level) (n : Node) : Type 0 where
    pub node : IsNode count l
    pub member : IsTrue (has (open_ones w.members) n.variable)

  -- Open nodes, the newest first, each with a level of its own, on those of the base; cs are the posted lists that are still to be tried.
  abbrev pub AreOpen : ℕ → List Level → List Node → List Level → List (List Indexical) → Type 0
  AreOpen count base [] ls cs = (ls ≡ base) × (cs ≡ [])
  AreOpen count base (n ∷ ns) [] cs = ⊥
  AreOpen count base (n ∷ ns) (l ∷ ls) cs =
      IsOpen count l n
      × ((ks : List (List Indexical)) × (ds : List (List Indexical)) × (cs ≡ ks ++ ds)
      × KeptLists INFINITY (map (with_value l.posted n.variable) (values_left l n)) ks × AreOpen count base ns ls ds)

  -- the best leaf among these: its cost and its values
  abbrev pub IsBestAmong : List (List Indexical) → Option ℤ → List ℕ → Type 0
  IsBestAmong ls None values = ls ≡ []
  IsBestAmong ls (Some z) values = (l : List Indexical) × IsBestPosted INFINITY w.least w.cost ls l z × HaveValues INFINITY (open_ones w.members) l values

  -- What becomes of the best so far by leaves, one after the other: each that is better takes its place.
  abbrev pub Becomes : Option ℤ → List ℕ → List (List Indexical) → Option ℤ → List ℕ → Type 0
  Becomes c ns [] d ks = (c ≡ d) × (ns ≡ ks)
  Becomes c ns (l ∷ ls) d ks =
      (z : ℤ) × Costs INFINITY w.cost l z
      × ((Improves w.least z c × ((vs : List ℕ) × HaveValues INFINITY (open_ones w.members) l vs × Becomes (Some z) vs ls d ks)) ⊎ (IsNoBetter w.least z c × Becomes c ns ls d ks))

  -- the best leaf of the labelling of a posted list
  abbrev pub IsBestOf : List Indexical → Option ℤ → List ℕ → Type 0
  IsBestOf root cost values = (ls : List (List Indexical)) × PostedLeaves INFINITY w.order w.members (root ∷ []) ls × IsBestAmong ls cost values

  -- A search from the posted list root on, where the new posted lists stand in front of those that are still to be tried. What becomes of the best so far by
  -- their leaves is the best leaf of the root. Those lists may have a bound on the cost: the leaves without it that they don't have are no better.
  pub record IsSearching (count : ℕ) (root : List Indexical) (base : List Level) (p : Progress) (new : List (List Indexical)) : Type 0 where
    pub untried : List (List Indexical)
    pub nodes : AreOpen count base p.nodes p.levels untried
    pub rest : List (List Indexical)
    pub to_come : PostedLeaves INFINITY w.order w.members (new ++ untried) rest
    pub sought : (cost : Option ℤ) (values : List ℕ) → Becomes p.best.cost p.best.values.items rest cost values → IsBestOf root cost values

  -- from wherever the search begins, it goes on
  abbrev pub Continues : ℕ → Progress → List (List Indexical) → Progress → Type 0
  Continues count p new q = (root : List Indexical) (base : List Level) → IsSearching count root base p new → IsSearching count root base q []
