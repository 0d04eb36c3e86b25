-- Public lemmas: the parts of a compound, where their number is told.
use Rattle.std.proofs.Common.{◌≡◌, ◌<◌, ◌≤◌, List, [], ◌∷◌, length, get_or, refl, arith}
use Rattle.term_pool.specs.declared.TermId.{TermId}

-- one part, and two, as they are matched
pub one_part : (ts : List TermId) (d : TermId) → 1 ≤ length ts → length ts < 2 → ts ≡ get_or ts 0 d ∷ []
one_part [] d l h = absurd (omega arith)
one_part (t ∷ []) d l h = refl
one_part (t ∷ u ∷ ts) d l h = absurd (omega arith)

pub two_parts : (ts : List TermId) (d e : TermId) → 2 ≤ length ts → length ts < 3 → ts ≡ get_or ts 0 d ∷ get_or ts 1 e ∷ []
two_parts [] d e l h = absurd (omega arith)
two_parts (t ∷ []) d e l h = absurd (omega arith)
two_parts (t ∷ u ∷ []) d e l h = refl
two_parts (t ∷ u ∷ v ∷ ts) d e l h = absurd (omega arith)
