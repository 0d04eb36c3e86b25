-- Choices and switches without the bound, and the clauses that a goal needn't try.
use Rattle.std.proofs.Common.{◌≡◌, ℕ, zero, suc, ◌+◌, List, [], ◌∷◌, Some, sym, ◌∙◌, subst, inl, inr, arith}
use Rattle.fd_model.specs.Goal.{Clause}
use Rattle.wam_code.specs.declared.instruction.Code.{Code}
use Rattle.wam_code.specs.declared.instruction.Code.TheVariants.{Jump, FailNow, TryMeElse, RetryMeElse, TrustMe, Try, Retry, Trust, SwitchOnTerm}
use Rattle.wam_code.specs.declared.instruction.Code.TheVariants.{SwitchOnConstant, SwitchOnInteger, SwitchOnStructure}
use Rattle.wam_code.specs.Area.{Area, Table, Holds, table_at}
use Rattle.wam_code.specs.Tries.{Shape, Rows, Both, TryRule, TriesWithin, Tries}

module _ (area : Area) (s : Shape) where
  rows_grow : (R S : ℕ → List Clause → Type 0) → ((at : ℕ) (cs : List Clause) → R at cs → S at cs) → (table : Table) (cs : List Clause) → Rows area R s table cs → Rows area S s table cs
  rows_grow R S k [] cs h = h
  rows_grow R S k (row ∷ rows) cs (inl h) = inl (h.0, k _ _ h.1)
  rows_grow R S k (row ∷ rows) cs (inr h) = inr (h.0, rows_grow R S k rows cs h.1)

  grow : (R S : ℕ → List Clause → Type 0) → ((at : ℕ) (cs : List Clause) → R at cs → S at cs) → (i : Code) (at : ℕ) (cs : List Clause) → TryRule area R s i at cs → TryRule area S s i at cs
  grow R S k (TryMeElse to) at cs h = (h.0, h.1, h.2, k _ _ h.3, k _ _ h.4)
  grow R S k (RetryMeElse to) at cs h = (h.0, h.1, h.2, k _ _ h.3, k _ _ h.4)
  grow R S k TrustMe at cs h = k _ _ h
  grow R S k (Try to) at cs h = (h.0, h.1, h.2, k _ _ h.3, k _ _ h.4)
  grow R S k (Retry to) at cs h = (h.0, h.1, h.2, k _ _ h.3, k _ _ h.4)
  grow R S k (Trust to) at cs h = k _ _ h
  grow R S k (Jump to) at cs h = k _ _ h
  grow R S k FailNow at cs h = h
  grow R S k (SwitchOnTerm v c i t) at cs h = k _ _ h
  grow R S k (SwitchOnConstant t) at cs h = rows_grow R S k (table_at area t) cs h
  grow R S k (SwitchOnInteger t) at cs h = rows_grow R S k (table_at area t) cs h
  grow R S k (SwitchOnStructure t) at cs h = rows_grow R S k (table_at area t) cs h
  grow R S k _ at cs h = h

  more : (n : ℕ) (at : ℕ) (cs : List Clause) → TriesWithin area s n at cs → TriesWithin area s (suc n) at cs
  more zero at cs h = absurd h
  more (suc n) at cs h = (h.0, h.1, grow (TriesWithin area s n) (TriesWithin area s (suc n)) (more n) h.0 at cs h.2)

  lots : (n m : ℕ) (at : ℕ) (cs : List Clause) → TriesWithin area s n at cs → TriesWithin area s (n + m) at cs
  lots n zero at cs h = let e : n ≡ n + 0 = omega arith in subst (λ k. TriesWithin area s k at cs) e h
  lots n (suc m) at cs h = let e : suc (n + m) ≡ n + suc m = omega arith in subst (λ k. TriesWithin area s k at cs) e (more (n + m) at cs (lots n m at cs h))

  both_bounded : (a b : ℕ) (cs : List Clause) → Both (Tries area s) a b cs → (n : ℕ) × Both (TriesWithin area s n) a b cs
  both_bounded a b cs h =
      let e : h.4.0 + h.3.0 ≡ h.3.0 + h.4.0 = omega arith in
      (h.3.0 + h.4.0, (h.0, h.1, h.2, lots h.3.0 h.4.0 a h.0 h.3.1, subst (λ k. TriesWithin area s k b h.1) e (lots h.4.0 h.3.0 b h.1 h.4.1)))

  rows_bounded : (table : Table) (cs : List Clause) → Rows area (Tries area s) s table cs → (n : ℕ) × Rows area (TriesWithin area s n) s table cs
  rows_bounded [] cs h = (zero, h)
  rows_bounded (row ∷ rows) cs (inl h) = (h.1.0, inl (h.0, h.1.1))
  rows_bounded (row ∷ rows) cs (inr h) = let r = rows_bounded rows cs h.1 in (r.0, inr (h.0, r.1))

  rule_bounded : (i : Code) (at : ℕ) (cs : List Clause) → TryRule area (Tries area s) s i at cs → (n : ℕ) × TryRule area (TriesWithin area s n) s i at cs
  rule_bounded (TryMeElse to) at cs h = both_bounded (suc at) to cs h
  rule_bounded (RetryMeElse to) at cs h = both_bounded (suc at) to cs h
  rule_bounded TrustMe at cs h = h
  rule_bounded (Try to) at cs h = both_bounded to (suc at) cs h
  rule_bounded (Retry to) at cs h = both_bounded to (suc at) cs h
  rule_bounded (Trust to) at cs h = h
  rule_bounded (Jump to) at cs h = h
  rule_bounded FailNow at cs h = (zero, h)
  rule_bounded (SwitchOnTerm v c i t) at cs h = h
  rule_bounded (SwitchOnConstant t) at cs h = rows_bounded (table_at area t) cs h
  rule_bounded (SwitchOnInteger t) at cs h = rows_bounded (table_at area t) cs h
  rule_bounded (SwitchOnStructure t) at cs h = rows_bounded (table_at area t) cs h
  rule_bounded _ at cs h = (zero, h)

  -- For a compiler: a place tries what the rule of its instruction says.
  pub try_from_rule : (i : Code) (at : ℕ) (cs : List Clause) → Holds area at i → TryRule area (Tries area s) s i at cs → Tries area s at cs
  try_from_rule i at cs f h = let b = rule_bounded i at cs h in (suc b.0, (i, f, b.1))

-- For a machine: what a place tries is what the rule of the instruction that stands there says.
pub at_try : (area : Area) (s : Shape) (i : Code) (at : ℕ) (cs : List Clause) → Holds area at i → Tries area s at cs → TryRule area (Tries area s) s i at cs
at_try area s i at cs f (zero, w) = absurd w
at_try area s i at cs f (suc n, w) =
    let same : w.0 ≡ i = let e : Some w.0 ≡ Some i = sym w.1 ∙ f in cc in
    subst (λ j. TryRule area (Tries area s) s j at cs) same (grow area s (TriesWithin area s n) (Tries area s) (λ a ds h. (n, h)) w.0 at cs w.2)
