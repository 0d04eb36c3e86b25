-- Propagation under way: each agent that isn't on the agenda is at rest.
use Rattle.std.specs.Prelude.{◌≡◌, ℕ, ◌<◌, Bool, false, List, [], length, filter, slice_index_or, IsTrue, ◌↔◌}
use Rattle.fd_language.specs.declared.TheConstants.{INFINITY}
use Rattle.fd_language.specs.Family.{has, IsFamily, IsSubset}
use Rattle.fd_language.specs.Range.{Indexical, set_of, is_none_left}
use Rattle.fd_model.specs.ClosedFamilies.{AllPosted}
use Rattle.fd_model.specs.Domains.{Domains}
use Rattle.fd_model.specs.Laws.{ContainsDomains}
use Rattle.range_code.specs.Frames.{family_of}
use Rattle.domain_trail.specs.Stores.{Stores}
use Rattle.domain_trail.specs.Cuts.{IsCut}
use Rattle.domain_trail.specs.declared.Cut.{Cut}
use Rattle.propagate_queue.specs.Queues.{flag_at}

-- one more activation doesn't narrow the target
abbrev pub IsAtRest : List (List ℕ) → Indexical → Type 0
IsAtRest sets p = IsSubset (family_of sets p.target) (set_of INFINITY (family_of sets) p.range)

-- the target's set after an activation
abbrev pub narrowed : Indexical → List (List ℕ) → List ℕ
narrowed p sets = filter (has (set_of INFINITY (family_of sets) p.range)) (family_of sets p.target)

-- the target's set is intersected with that of the range
abbrev pub Activated : Indexical → Stores → Stores → Cut → Type 0
Activated p old new cut = IsCut (set_of INFINITY (family_of old.current) p.range) p.target old new cut

pub record IsRunning (ps : List Indexical) (sets : List (List ℕ)) (flags : List Bool) : Type 0 where
  pub family : IsFamily INFINITY (family_of sets)
  pub contains : ContainsDomains INFINITY ps (family_of sets)
  pub some : (x : ℕ) → is_none_left (family_of sets x) ≡ false
  pub rest : (a : ℕ) (d : Indexical) → a < length ps → flag_at flags a ≡ false → IsAtRest sets (slice_index_or ps a d)

-- the family is the greatest one that is closed under what is posted, and no set is empty
pub record AreDomains (ps : List Indexical) (sets : List (List ℕ)) : Type 0 where
  pub family : IsFamily INFINITY (family_of sets)
  pub domains : (x n : ℕ) → IsTrue (has (family_of sets x) n) ↔ Domains INFINITY INFINITY [] ps x n
  pub closed : AllPosted (IsAtRest sets) ps
  pub some : (x : ℕ) → is_none_left (family_of sets x) ≡ false

-- what is posted leaves some variable no value
abbrev pub HasNone : List Indexical → ℕ → Type 0
HasNone ps count = (x : ℕ) × (x < count) × ((n : ℕ) → Domains INFINITY INFINITY [] ps x n → ⊥)
