-- What each kind of node takes from what waits, and what it puts there.
use Rattle.std.specs.Prelude.{◌≡◌, ℕ, List, [], ◌∷◌, ◌++◌}
use Rattle.fd_language.specs.declared.range_node.RangeNode.{RangeNode}
use Rattle.fd_language.specs.declared.TheConstants.{INFINITY}
use Rattle.monotone_check.specs.declared.summary.TermCheck.{TermCheck}
use Rattle.monotone_check.specs.declared.summary.RangeCheck.{RangeCheck}
use Rattle.monotone_check.specs.declared.pending_checks.Pending.{Pending}
use Rattle.monotone_check.specs.Summary.{IsLeaf, IsOperated, IsSpan, IsSingle, IsDomain, IsCombined, IsComplement, IsPointwise}

abbrev pub PushesLeaf : RangeNode → ℕ → Pending → Pending → Type 0
PushesLeaf n place old new = (s : TermCheck) × (new.terms.items ≡ old.terms.items ++ s ∷ []) × (new.ranges.items ≡ old.ranges.items) × IsLeaf INFINITY n place s

abbrev pub PushesOperated : RangeNode → ℕ → Pending → Pending → Type 0
PushesOperated n place old new = (front : List TermCheck) (a b : TermCheck) → old.terms.items ≡ (front ++ a ∷ []) ++ b ∷ [] →
    (s : TermCheck) × (new.terms.items ≡ front ++ s ∷ []) × (new.ranges.items ≡ old.ranges.items) × IsOperated INFINITY n a b place s

abbrev pub PushesSpan : Pending → Pending → Type 0
PushesSpan old new = (front : List TermCheck) (a b : TermCheck) → old.terms.items ≡ (front ++ a ∷ []) ++ b ∷ [] →
    (s : RangeCheck) × (new.terms.items ≡ front) × (new.ranges.items ≡ old.ranges.items ++ s ∷ []) × IsSpan a b s

abbrev pub PushesSingle : Pending → Pending → Type 0
PushesSingle old new = (front : List TermCheck) (a : TermCheck) → old.terms.items ≡ front ++ a ∷ [] →
    (s : RangeCheck) × (new.terms.items ≡ front) × (new.ranges.items ≡ old.ranges.items ++ s ∷ []) × IsSingle a s

abbrev pub PushesDomain : ℕ → Pending → Pending → Type 0
PushesDomain place old new = (s : RangeCheck) × (new.terms.items ≡ old.terms.items) × (new.ranges.items ≡ old.ranges.items ++ s ∷ []) × IsDomain place s

abbrev pub PushesCombined : Pending → Pending → Type 0
PushesCombined old new = (front : List RangeCheck) (r q : RangeCheck) → old.ranges.items ≡ (front ++ r ∷ []) ++ q ∷ [] →
    (s : RangeCheck) × (new.terms.items ≡ old.terms.items) × (new.ranges.items ≡ front ++ s ∷ []) × IsCombined r q s

abbrev pub PushesComplement : Pending → Pending → Type 0
PushesComplement old new = (front : List RangeCheck) (r : RangeCheck) → old.ranges.items ≡ front ++ r ∷ [] →
    (s : RangeCheck) × (new.terms.items ≡ old.terms.items) × (new.ranges.items ≡ front ++ s ∷ []) × IsComplement r s

abbrev pub PushesPointwise : RangeNode → ℕ → Pending → Pending → Type 0
PushesPointwise n place old new = (before : List TermCheck) (front : List RangeCheck) (r : RangeCheck) (c : TermCheck) → old.terms.items ≡ before ++ c ∷ [] → old.ranges.items ≡ front ++ r ∷ [] →
    (s : RangeCheck) × (new.terms.items ≡ before) × (new.ranges.items ≡ front ++ s ∷ []) × IsPointwise INFINITY n r c place s
