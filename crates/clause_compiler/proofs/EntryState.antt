-- The state in which a predicate begins.
use Rattle.std.proofs.Common.{◌≡◌, ◌≢◌, ℕ, zero, suc, ◌≤◌, Bool, true, false, ◌||◌, ◌==◌, IsTrue, List, Some, refl, ap, sym, inl, inr, ◌⊎◌, arith}
use Rattle.std.proofs.lemmas.Bool.Decides.{nat_tests}
use Rattle.clause_compiler.proofs.Lists.{never}
use Rattle.fd_language.specs.Family.{has}
use Rattle.wam_code.specs.declared.instruction.Code.{Code}
use Rattle.wam_code.specs.declared.instruction.Code.TheVariants.{Jump, FailNow, Try, Retry, Trust, SwitchOnTerm, SwitchOnConstant, SwitchOnInteger}
use Rattle.wam_code.specs.declared.instruction.Code.TheVariants.{SwitchOnStructure}
use Rattle.wam_code.specs.declared.parts.Entry.{Entry}
use Rattle.wam_code.specs.Area.{State}
use Rattle.wam_code.specs.Effect.{when, effect}
use Rattle.wam_code.specs.VerifiedCode.{Covers, IsFirst}
use Rattle.clause_compiler.specs.EntryState.{up_to, given}
use Rattle.clause_compiler.specs.Layout.{is_switch, is_listing}

pub up_to_has : (k n : ℕ) → 1 ≤ n → n ≤ k → has (up_to k) n ≡ true
up_to_has zero n low high = absurd (omega (arith, low, high))
up_to_has (suc k) n low high = by (suc k == n) refl (λ h. up_to_has k n low h)
  where
    by : (b : Bool) → suc k == n ≡ b → (n ≤ k → has (up_to k) n ≡ true) → b || has (up_to k) n ≡ true
    by true e rest = refl
    by false e rest = let no : suc k ≢ n = grind (arith, nat_tests) in rest (omega (arith, no, high))

pub up_to_only : (k n : ℕ) → has (up_to k) n ≡ true → (1 ≤ n) × (n ≤ k)
up_to_only zero n h = never h
up_to_only (suc k) n h = by (suc k == n) refl h (up_to_only k n)
  where
    by : (b : Bool) → suc k == n ≡ b → b || has (up_to k) n ≡ true → (has (up_to k) n ≡ true → (1 ≤ n) × (n ≤ k)) → (1 ≤ n) × (n ≤ suc k)
    by true e g rest = let same : suc k ≡ n = grind (arith, nat_tests) in (omega (arith, same), omega (arith, same))
    by false e g rest = let w = rest g in (w.0, (let m = w.1 in omega (arith, m)))

pub given_first : (k : ℕ) → IsFirst k (given k)
given_first k = record { regs = λ n. (up_to_only k n, λ h. up_to_has k n h.0 h.1); frame = refl; owed = refl }

-- It covers each state with the same arguments.
pub given_covers : (k j : ℕ) (s : State) → j ≡ k → IsFirst j s → Covers (given k) s
given_covers k j s e f = record {
  frame = sym f.frame;
  owed = sym f.owed;
  regs = λ n h. let w = (f.regs n).0 h in up_to_has k n w.0 (let m = w.1 in omega (arith, m, e));
}

-- Choices leave it as it is.
module _ (es : List Entry) (k : ℕ) where
  listing_keeps : (i : Code) → IsTrue (is_listing i) → effect es i (given k) ≡ Some (given k)
  listing_keeps (Jump to) h = refl
  listing_keeps FailNow h = refl
  listing_keeps (Try to) h = refl
  listing_keeps (Retry to) h = refl
  listing_keeps (Trust to) h = refl
  listing_keeps _ h = never h

  switch_keeps : (i : Code) → IsTrue (is_switch i) → 1 ≤ k → effect es i (given k) ≡ Some (given k)
  switch_keeps (SwitchOnTerm v c i s) h l = ap (λ b. when b (given k)) (up_to_has k 1 (omega arith) l)
  switch_keeps (SwitchOnConstant t) h l = ap (λ b. when b (given k)) (up_to_has k 1 (omega arith) l)
  switch_keeps (SwitchOnInteger t) h l = ap (λ b. when b (given k)) (up_to_has k 1 (omega arith) l)
  switch_keeps (SwitchOnStructure t) h l = ap (λ b. when b (given k)) (up_to_has k 1 (omega arith) l)
  switch_keeps _ h l = never h

  pub choice_keeps : (i : Code) → IsTrue (is_switch i) ⊎ IsTrue (is_listing i) → (IsTrue (is_switch i) → 1 ≤ k) → effect es i (given k) ≡ Some (given k)
  choice_keeps i (inl h) l = switch_keeps i h (l h)
  choice_keeps i (inr h) l = listing_keeps i h
