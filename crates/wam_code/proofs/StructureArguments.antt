-- The arguments of a structure, one unify instruction after the other.
use Rattle.std.proofs.Common.{◌≡◌, ℕ, suc, Some, sym, ◌∙◌, subst}
use Rattle.fd_language.specs.Term.{Term, Terms, term}
use Rattle.wam_code.specs.declared.instruction.Code.{Code}
use Rattle.wam_code.specs.Area.{Area, Holds}
use Rattle.wam_code.specs.Places.{Places}
use Rattle.wam_code.specs.CodeMeaning.{UnifyRule, Owed}

-- For a machine: while a term is owed, the instruction that stands there gives it.
pub at_unify : (area : Area) (at : ℕ) (p : Places) (t : Term) (ts : Terms) (next : ℕ) (q : Places) (i : Code) → Holds area at i
    → Owed area 0 at p (term t ts) next q → (voids : ℕ) × (mid : Places) × UnifyRule area i p t voids mid × Owed area voids (suc at) mid ts next q
at_unify area at p t ts next q i f h =
    let same : h.0 ≡ i = let e : Some h.0 ≡ Some i = sym h.3 ∙ f in cc in
    (h.1, h.2, subst (λ j. UnifyRule area j p t h.1 h.2) same h.4, h.5)
