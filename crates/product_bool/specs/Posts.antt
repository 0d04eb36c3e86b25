-- Ranges as they are posted, each behind its target.
use Rattle.std.specs.Prelude.{◌≡◌, ℕ, List, [], ◌∷◌, ◌++◌, IsTrue}
use Rattle.fd_language.specs.Range.{Range, Indexical}
use Rattle.fd_language.specs.RangeVerdict.{is_accepted}
use Rattle.fd_language.specs.declared.TheConstants.{INFINITY}
use Rattle.fd_model.specs.ClosedFamilies.{AllPosted}

abbrev pub pairs_of : List Indexical → List (ℕ × Range)
pairs_of [] = []
pairs_of (p ∷ ps) = (p.target, p.range) ∷ pairs_of ps

abbrev pub indexicals : List (ℕ × Range) → List Indexical
indexicals [] = []
indexicals (p ∷ ps) = record { target = p.0; range = p.1 } ∷ indexicals ps

-- the ranges are posted behind the others
abbrev pub Posts : List Indexical → List (ℕ × Range) → List (ℕ × Range) → Type 0
Posts ps old new = new ≡ old ++ pairs_of ps

-- the check accepts the ranges
abbrev pub Accepted : List Indexical → Type 0
Accepted ps = AllPosted (λ p. IsTrue (is_accepted INFINITY p.range)) ps
