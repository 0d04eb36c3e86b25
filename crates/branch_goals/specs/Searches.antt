-- What a search for the best leaf of a labelling comes to, by a branch's heap and sets.
use Rattle.std.specs.Prelude.{◌≡◌, ◌⊎◌, ℕ, suc, ◌<◌, ◌≤◌, ◌==◌, Bool, true, false, if◌then◌else◌, List, [], ◌∷◌, map, length, Option, Some, None, Result, Ok}
use Rattle.std.specs.Prelude.{Err}
use Rattle.fd_language.specs.declared.TheConstants.{INFINITY}
use Rattle.fd_language.specs.Family.{has}
use Rattle.fd_language.specs.Monotonicity.{IsMonotone}
use Rattle.fd_language.specs.Range.{Indexical}
use Rattle.fd_language.specs.Term as language
use Rattle.fd_language.specs.Term.{Term}
use Rattle.fd_model.specs.declared.kinds.Order.{Order}
use Rattle.fd_model.specs.declared.kinds.QueryFault.{QueryFault}
use Rattle.fd_model.specs.BestPosted.{IsCostOf, SoughtValues}
use Rattle.fd_model.specs.Children.{cost_fault}
use Rattle.fd_model.specs.ClosedFamilies.{AllPosted}
use Rattle.fd_model.specs.Labelling.{read_list, open_ones}
use Rattle.fd_model.specs.Members as seen
use Rattle.fd_model.specs.Members.{as_member}
use Rattle.heap_cells.specs.declared.Cell.{Cell}
use Rattle.heap_cells.specs.declared.Cell.TheVariants as cell
use Rattle.heap_cells.specs.Cells.{Cells}
use Rattle.heap_cells.specs.Terms.{Naming, term_of}
use Rattle.heap_cells.specs.SeenTerms.{seen_term}
use Rattle.range_code.specs.Frames.{family_of}
use Rattle.branch_lemmas.specs.Frames.{link_in}
pub use Rattle.sought_leaves.specs.LeafSearch.{search_fault}
use Rattle.sought_leaves.specs.LeafSearch.{owned, AreOwned, IsBegun}
use Rattle.bound_search.specs.Members.{AreOwn, member_of, members_of}
use Rattle.label_search.specs.declared.Member.{Member}
use Rattle.label_search.specs.declared.Member.TheVariants.{Fixed, Var, Free}
use Rattle.branch_state.specs.States.{State}
use Rattle.branch_goals.specs.declared.searches.Named.{Named}
use Rattle.branch_goals.specs.declared.searches.Prepared.{Prepared}
use Rattle.branch_goals.specs.declared.searches.Sought.{Sought}
use Rattle.branch_goals.specs.declared.searches.Sought.TheVariants.{Nothing, Leaf, Fault}

-- an open variable of the heap
abbrev pub IsOpenCell : Naming → Cells → ℕ → Type 0
IsOpenCell name h c = (c < length h.slots) × (term_of name h (cell.Ref c) ≡ language.Var c)

-- The list in a cell has the members ms, and the cost in another one is c, an integer or an open member. own gives each open member a variable of the store.
-- The search begins with the ranges ls.
pub record IsSearch (name : Naming) (s : State) (list cost : Cell) (ms : List seen.Member)
    (c : seen.Member) (own : ℕ → ℕ) (ls : List Indexical) : Type 0 where
  pub members : read_list (seen_term name s.heaps.now (family_of s.levels.current.sets) list)
      ≡ Ok ms
  pub costs : as_member (seen_term name s.heaps.now (family_of s.levels.current.sets) cost) ≡ Ok c
  pub among : IsCostOf ms c
  pub owned : AreOwned (link_in s.heaps.now) s.levels.current.posted own (open_ones ms)
  pub begun : IsBegun INFINITY s.infinity (link_in s.heaps.now) s.levels.current.posted own
      (open_ones ms) ls
  pub cells : (d : ℕ) → has (open_ones ms) d ≡ true → IsOpenCell name s.heaps.now d
  pub monotone : AllPosted (λ p. IsMonotone INFINITY p.range) s.levels.current.posted

-- and the search finds this
pub record IsSought (name : Naming) (s : State) (o : Order) (least : Bool) (list cost : Cell)
    (ms : List seen.Member) (found : Option (List ℕ)) : Type 0 where
  pub cost_member : seen.Member
  pub own : ℕ → ℕ
  pub ranges : List Indexical
  pub search : IsSearch name s list cost ms cost_member own ranges
  pub values : SoughtValues INFINITY o (map (owned own) ms) (owned own cost_member) least ranges
      found

abbrev pub firsts : {B : Type 0} → List (ℕ × B) → List ℕ
firsts ps = map (λ p. p.0) ps

abbrev pub seconds : List (ℕ × ℕ) → List ℕ
seconds ps = map (λ p. p.1) ps

-- The fault, or what is found: nothing, or each open member's variable of the heap with its value, in the order of the list.
abbrev pub Seeks : Naming → State → Order → Bool → Cell → Cell → Sought → Type 0
Seeks name s o least list cost (Fault f) = let G = family_of s.levels.current.sets in
    search_fault (read_list (seen_term name s.heaps.now G list)) (seen_term name s.heaps.now G cost)
    ≡ Some f
Seeks name s o least list cost Nothing = (ms : List seen.Member)
    × IsSought name s o least list cost ms None
Seeks name s o least list cost (Leaf ps) = (ms : List seen.Member) × (firsts ps.items ≡ open_ones ms)
    × IsSought name s o least list cost ms (Some (seconds ps.items))

-- the variable of the store that a variable of the heap has first among these
abbrev pub own_by : List (ℕ × ℕ) → ℕ → ℕ
own_by [] c = 0
own_by (p ∷ ps) c = if p.0 == c then p.1 else own_by ps c

-- The members ms as the store has them for a search, where n variables are its own: each open one has a variable of the store, which is a new one where the
-- heap's isn't linked, and the next new one is the last of these numbers.
pub record AreNamed (name : Naming) (h : Cells) (n : ℕ) (ms : List seen.Member)
    (list : List Member) (ps : List (ℕ × ℕ)) (next : ℕ) : Type 0 where
  pub open_are : firsts ps ≡ open_ones ms
  pub members : members_of list ≡ map (owned (own_by ps)) ms
  pub more : n ≤ next
  pub own : AreOwn next list
  pub linked : (c k : ℕ) → has (open_ones ms) c ≡ true → link_in h c ≡ Some k → own_by ps c ≡ k
  pub new : (c : ℕ) → has (open_ones ms) c ≡ true → link_in h c ≡ None
      → (n ≤ own_by ps c) × (own_by ps c < next)
  pub apart : (c d : ℕ) → has (open_ones ms) c ≡ true → has (open_ones ms) d ≡ true
      → link_in h c ≡ None → link_in h d ≡ None → own_by ps c ≡ own_by ps d → c ≡ d
  pub cells : (c : ℕ) → has (open_ones ms) c ≡ true → IsOpenCell name h c

abbrev pub IsNamed : Naming → Cells → ℕ → List seen.Member → Named → Type 0
IsNamed name h n ms named = AreNamed name h n ms named.members.items named.open_ones.items named.next

-- The variable of the store that a member in a variable of the heap gets: its own, the one that the variable has among these, or the next.
abbrev pub Numbers : Member → ℕ → Named → Option ℕ → Named → Type 0
Numbers (Fixed z) c old None new = new ≡ old
Numbers (Var k) c old (Some j) new = (j ≡ k) × (new ≡ old)
Numbers Free c old (Some j) new = ((has (firsts old.open_ones.items) c ≡ true)
    × (j ≡ own_by old.open_ones.items c) × (new ≡ old))
    ⊎ ((has (firsts old.open_ones.items) c ≡ false) × (j ≡ old.next)
    × (new ≡ record old { next = suc old.next }))
Numbers m c old o new = ⊥

-- the cost in a cell among the members that are named, or its fault
abbrev pub IsCostIn : Naming → Cells → List (List ℕ) → List seen.Member → Named → Cell
    → Result Member QueryFault → Type 0
IsCostIn name h sets ms named cost (Err f) = cost_fault ms (seen_term name h (family_of sets) cost)
    ≡ Some f
IsCostIn name h sets ms named cost (Ok m) = (c : seen.Member)
    × (as_member (seen_term name h (family_of sets) cost) ≡ Ok c) × IsCostOf ms c
    × (member_of m ≡ owned (own_by named.open_ones.items) c)

-- what a search is begun with, or the fault
abbrev pub IsPreparedIn : Naming → Cells → List (List ℕ) → Cell → Cell
    → Result Prepared QueryFault → Type 0
IsPreparedIn name h sets list cost (Err f) = search_fault
    (read_list (seen_term name h (family_of sets) list)) (seen_term name h (family_of sets) cost)
    ≡ Some f
IsPreparedIn name h sets list cost (Ok p) = (ms : List seen.Member)
    × (read_list (seen_term name h (family_of sets) list) ≡ Ok ms)
    × IsNamed name h (length sets) ms p.named × IsCostIn name h sets ms p.named cost (Ok p.cost)

abbrev pub IsPrepared : Naming → State → Cell → Cell → Result Prepared QueryFault → Type 0
IsPrepared name s list cost r = IsPreparedIn name s.heaps.now s.levels.current.sets list cost r
