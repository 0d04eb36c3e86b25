-- A list of tokens has one verdict.
use Rattle.std.proofs.Common.{◌≡◌, ℕ, ◌<◌, ◌≤◌, ◌+◌, ◌⊎◌, inl, inr, List, ◌++◌, sym, subst, arith, take, drop, append_assoc}
use Rattle.std.proofs.lemmas.List.{take-append-drop, take-take}
use Rattle.std.proofs.lemmas.Bool.{cases_lt}
use Rattle.fd_language.specs.PlacedTerm.{PlacedTerm}
use Rattle.fd_language.specs.Terminals.{Terminal}
use Rattle.fd_language.specs.Grammar.{IsText, Begins}
use Rattle.fd_language.specs.GrammarFaults.{IsRead, IsSyntaxFault, IsTooDeep}

-- what begins a text begins so with fewer tokens
begins_front : (a b : List Terminal) → Begins (a ++ b) → Begins a
begins_front a b h = (b ++ h.0, h.1, subst (λ (l : List Terminal). IsText l h.1) (append_assoc a b h.0) h.2)

begins_take : (ts : List Terminal) (j k : ℕ) → j ≤ k → Begins (take k ts) → Begins (take j ts)
begins_take ts j k le h =
    let split : take j (take k ts) ++ drop j (take k ts) ≡ take k ts = take-append-drop j (take k ts) in
    subst Begins (take-take j k ts le) (begins_front (take j (take k ts)) (drop j (take k ts)) (subst Begins (sym split) h))

-- the texts that are read are no faults
pub read_no_fault : (ts : List Terminal) (terms : List PlacedTerm) (k : ℕ) → IsRead ts terms → IsSyntaxFault ts k → ⊥
read_no_fault ts terms k r f = f.whole terms r.text

pub read_not_deep : (ts : List Terminal) (terms : List PlacedTerm) (k : ℕ) → IsRead ts terms → IsTooDeep ts k → ⊥
read_not_deep ts terms k r f = omega (arith, r.shallow (k + 1) (omega (arith, f.within)), f.deep)

-- there is one place of a fault of the syntax
pub one_syntax_place : (ts : List Terminal) (j k : ℕ) → IsSyntaxFault ts j → IsSyntaxFault ts k → j < k → ⊥
one_syntax_place ts j k f g lt =
    let at_end = f.ends (begins_take ts (j + 1) k (omega arith) g.fits) in
    omega (arith, at_end, g.within)

pub one_deep_place : (ts : List Terminal) (j k : ℕ) → IsTooDeep ts j → IsTooDeep ts k → j < k → ⊥
one_deep_place ts j k f g lt = omega (arith, f.deep, g.shallow (j + 1) (omega arith))

-- and no list has both
pub not_both : (ts : List Terminal) (j k : ℕ) → IsSyntaxFault ts j → IsTooDeep ts k → ⊥
not_both ts j k f g = go (cases_lt k j)
  where
    go : (k < j) ⊎ (j ≤ k) → ⊥
    go (inl lt) = omega (arith, g.deep, f.shallow (k + 1) (omega arith))
    go (inr le) = let at_end = f.ends (begins_take ts (j + 1) (k + 1) (omega arith) g.fits) in omega (arith, at_end, g.within)
