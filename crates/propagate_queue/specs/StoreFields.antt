-- The levels that a store's fields stand for.
use Rattle.std.specs.Prelude.{◌≡◌, ℕ, ◌<◌, ◌≤◌, Bool, true, false, List, [], ◌∷◌, ◌++◌, length, take, filter, nat_lt, replicate, All}
use Rattle.fd_language.specs.declared.TheConstants.{INFINITY}
use Rattle.fd_language.specs.Family.{universe}
use Rattle.fd_language.specs.Range.{Indexical}
use Rattle.fd_model.specs.Weights.{weights, whole_weights}
use Rattle.range_code.specs.Frames.{family_of}
use Rattle.fd_model.specs.ClosedFamilies.{AllPosted}
use Rattle.fd_language.specs.Monotonicity.{IsMonotone}
use Rattle.dependency_chains.specs.AgentReads.{AgentRead, AgentReads}
use Rattle.domain_trail.specs.Stores.{Stores}
use Rattle.propagate_queue.specs.declared.store.Posted.{Posted}
use Rattle.propagate_queue.specs.declared.store.Posted.TheVariants.{Kept, Failed}
use Rattle.propagate_queue.specs.Postings.{Posting, ranges_of, IsPosting, AreReaders}
use Rattle.propagate_queue.specs.Queues.{AreQueued}
use Rattle.propagate_queue.specs.PropagationInvariant.{AreDomains, HasNone}
use Rattle.fd_model.specs.Levels.{Level, Levels}

-- how many ranges were posted at each mark, the newest first, with the sets there
abbrev pub levels_below : List ℕ → List (List (List ℕ)) → List Indexical → List Level
levels_below (m ∷ ms) (s ∷ ss) ps = record { posted = take m ps; sets = s; failed = false } ∷ levels_below ms ss ps
levels_below _ _ ps = []

-- each level below is settled, and its ranges speak of its own variables
abbrev pub AreBelow : List Posting → List AgentRead → ℕ → ℕ → List ℕ → List (List (List ℕ)) → Type 0
AreBelow is reads posted vars [] [] = Unit {0}
AreBelow is reads posted vars (m ∷ ms) (s ∷ ss) =
    (m ≤ posted)
    × (length s ≤ vars)
    × All (IsPosting (length s)) (take m is)
    × All (λ r. r.var < length s) (filter (λ r. nat_lt r.agent m) reads)
    × AreDomains (ranges_of (take m is)) s
    × AreBelow is reads m (length s) ms ss
AreBelow is reads posted vars [] (s ∷ ss) = ⊥
AreBelow is reads posted vars (m ∷ ms) [] = ⊥

pub record IsStore (is : List Posting) (flags : List Bool) (agenda : List ℕ) (spare : ℕ) (readings : AgentReads) (trail : Stores) (ms : List ℕ) (lost spent : Bool) : Type 0 where
  pub instances : All (IsPosting (length trail.current)) is
  pub monotone : AllPosted (λ p. IsMonotone INFINITY p.range) (ranges_of is)
  pub readers : AreReaders (ranges_of is) readings.reads
  pub vars : length trail.current ≤ readings.vars
  pub same_vars : spent ≡ false → readings.vars ≡ length trail.current
  pub within : All (λ r. r.var < length trail.current) readings.reads
  pub flagged : length flags ≡ length is
  pub quiet : spent ≡ false → AreQueued flags agenda spare × (agenda ≡ [])
  pub settled : spent ≡ false → lost ≡ false → AreDomains (ranges_of is) trail.current
  pub failed : spent ≡ false → lost ≡ true → HasNone (ranges_of is) (length trail.current)
  pub below : AreBelow is readings.reads (length is) (length trail.current) ms trail.below

-- nothing is posted, and there are no variables
abbrev pub no_levels : Levels
no_levels = record { current = record { posted = []; sets = []; failed = false }; below = []; spent = false }

-- so many marks wait: as many copies of the current level are below it, before the others
abbrev pub with_waiting : Levels → ℕ → Levels
with_waiting l n = record l { below = replicate n l.current ++ l.below }

-- one more variable, which may have any value
abbrev pub with_variable : Level → Level
with_variable l = record l { sets = l.sets ++ universe INFINITY ∷ [] }

-- what the change of the sets from one level to a later one weighs, for all that is posted on the later one
abbrev pub step_weight : Level → Level → ℕ
step_weight old new = weights new.posted (family_of old.sets) (family_of new.sets)

-- the most that the change may weigh where these are posted on a level, whatever becomes of the sets
abbrev pub whole_weight_of_post : Level → List Indexical → ℕ
whole_weight_of_post old new = whole_weights (old.posted ++ new) (family_of old.sets)

-- how a post leaves the current level
abbrev pub IsPosted : Posted → Level → Type 0
IsPosted Kept l = (l.failed ≡ false) × AreDomains l.posted l.sets
IsPosted Failed l = (l.failed ≡ true) × HasNone l.posted (length l.sets)
