-- What each kind of node takes from what waits, and what it puts there.
use Rattle.std.specs.Prelude.{◌≡◌, ℕ, ◌||◌, not, ℤ, neg_ℤ, List, [], ◌∷◌, ◌++◌, filter}
use Rattle.fd_language.specs.declared.range_node.RangeNode.{RangeNode}
use Rattle.fd_language.specs.declared.range_node.RangeNode.TheVariants as node
use Rattle.fd_language.specs.declared.TheConstants.{INFINITY}
use Rattle.fd_language.specs.Family.{has, universe}
use Rattle.domain_ranges.specs.Sets.{is_shifted, is_scaled, is_quotient}
use Rattle.domain_ranges.specs.Narrowing.{between}
use Rattle.range_code.specs.declared.work.Work.{Work}
use Rattle.range_code.specs.Work.{operated}

abbrev pub PushesValue : ℤ → Work → Work → Type 0
PushesValue z old new = (new.values.items ≡ old.values.items ++ z ∷ []) × (new.sets ≡ old.sets)

abbrev pub PushesSet : List ℕ → Work → Work → Type 0
PushesSet s old new = (new.values.items ≡ old.values.items) × (new.sets.sets ≡ s ∷ old.sets.sets)

abbrev pub Operates : RangeNode → Work → Work → Type 0
Operates n old new = (front : List ℤ) (a b : ℤ) → old.values.items ≡ (front ++ a ∷ []) ++ b ∷ [] →
    (new.values.items ≡ front ++ operated n a b ∷ []) × (new.sets ≡ old.sets)

abbrev pub Spans : Work → Work → Type 0
Spans old new = (front : List ℤ) (a b : ℤ) → old.values.items ≡ (front ++ a ∷ []) ++ b ∷ [] →
    (new.values.items ≡ front) × (new.sets.sets ≡ between a b ∷ old.sets.sets)

abbrev pub Singles : Work → Work → Type 0
Singles old new = (front : List ℤ) (a : ℤ) → old.values.items ≡ front ++ a ∷ [] →
    (new.values.items ≡ front) × (new.sets.sets ≡ between a a ∷ old.sets.sets)

-- the union, and the intersection
abbrev pub either : List ℕ → List ℕ → List ℕ
either r q = filter (λ n. has r n || has q n) (universe INFINITY)

abbrev pub Joins : Work → Work → Type 0
Joins old new = (rest : List (List ℕ)) (r q : List ℕ) → old.sets.sets ≡ q ∷ r ∷ rest →
    (new.values.items ≡ old.values.items) × (new.sets.sets ≡ either r q ∷ rest)

abbrev pub Meets : Work → Work → Type 0
Meets old new = (rest : List (List ℕ)) (r q : List ℕ) → old.sets.sets ≡ q ∷ r ∷ rest →
    (new.values.items ≡ old.values.items) × (new.sets.sets ≡ filter (has q) r ∷ rest)

abbrev pub outside : List ℕ → List ℕ
outside r = filter (λ n. not (has r n)) (universe INFINITY)

abbrev pub Complements : Work → Work → Type 0
Complements old new = (rest : List (List ℕ)) (r : List ℕ) → old.sets.sets ≡ r ∷ rest →
    (new.values.items ≡ old.values.items) × (new.sets.sets ≡ outside r ∷ rest)

-- a pointwise operator of a set and an integer
abbrev pub moved : RangeNode → List ℕ → ℤ → List ℕ
moved node.Plus r c = filter (is_shifted INFINITY r c) (universe INFINITY)
moved node.Minus r c = filter (is_shifted INFINITY r (neg_ℤ c)) (universe INFINITY)
moved node.Times r c = filter (is_scaled INFINITY r c) (universe INFINITY)
moved node.Over r c = filter (is_quotient INFINITY r c) (universe INFINITY)
moved n r c = []

abbrev pub Moves : RangeNode → Work → Work → Type 0
Moves n old new = (before : List ℤ) (rest : List (List ℕ)) (r : List ℕ) (c : ℤ) → old.values.items ≡ before ++ c ∷ [] → old.sets.sets ≡ r ∷ rest →
    (new.values.items ≡ before) × (new.sets.sets ≡ moved n r c ∷ rest)
