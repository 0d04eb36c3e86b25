-- The same state, with its registers in whatever order.
use Rattle.std.proofs.Common.{◌≡◌, ℕ, zero, suc, ◌<◌, Bool, true, false, ◌||◌, nat_eq, cond, List, [], ◌∷◌, ◌++◌, ◌+◌, length, take, get_or, Option, option_map}
use Rattle.std.proofs.Common.{refl, sym, ap, ◌∙◌, subst, arith}
use Rattle.std.proofs.lemmas.Bool.{eqb-true, eq-eqb}
use Rattle.std.proofs.lemmas.List.{take_more}
use Rattle.std.specs.List.{list_any}
use Rattle.fd_language.specs.Family.{has}
use Rattle.wam_code.specs.declared.instruction.Register.{Register}
use Rattle.wam_code.specs.declared.instruction.Register.TheVariants.{X, Y}
use Rattle.wam_code.specs.Area.{Slot, State}
use Rattle.wam_code.specs.Effect.{with_set, with_cell, with_level, with_mark, with_owed}
use Rattle.wam_code.specs.VerifiedCode.{Covers}
use Rattle.code_flow.specs.StateTransfer.{IsSame}
use Rattle.range_code.proofs.Lemmas.{any_has}

abbrev pub with_frame : State → Option (List Slot) → State
with_frame s f = record s { frame = f }

pub same_self : (s : State) → IsSame s s
same_self s = record { frame = refl; owed = refl; regs = λ n. refl }

pub same_then : (s t u : State) → IsSame s t → IsSame t u → IsSame s u
same_then s t u h g = record { frame = h.frame ∙ g.frame; owed = h.owed ∙ g.owed; regs = λ n. h.regs n ∙ g.regs n }

pub same_turned : (s t : State) → IsSame s t → IsSame t s
same_turned s t h = record { frame = sym h.frame; owed = sym h.owed; regs = λ n. sym (h.regs n) }

pub same_set : (s t : State) (r : Register) → IsSame s t → IsSame (with_set s r) (with_set t r)
same_set s t (X m) h = record { frame = h.frame; owed = h.owed; regs = λ n. ap (λ b. nat_eq m n || b) (h.regs n) }
same_set s t (Y m) h = record { frame = ap (option_map (with_cell m)) h.frame; owed = h.owed; regs = h.regs }

pub same_level : (s t : State) (n : ℕ) → IsSame s t → IsSame (with_level s n) (with_level t n)
same_level s t n h = record { frame = ap (option_map (with_mark n)) h.frame; owed = h.owed; regs = h.regs }

pub same_owed : (s t : State) (n : ℕ) → IsSame s t → IsSame (with_owed s n) (with_owed t n)
same_owed s t n h = record { frame = h.frame; owed = refl; regs = h.regs }

-- ---- a number among others, put at the end where it is missing

has_end : (ks : List ℕ) (v n : ℕ) → has (ks ++ v ∷ []) n ≡ has (v ∷ ks) n
has_end [] v n = refl
has_end (k ∷ ks) v n = ap (λ b. nat_eq k n || b) (has_end ks v n) ∙ turned (nat_eq k n) (nat_eq v n) (has ks n)
  where
    turned : (a b c : Bool) → (a || (b || c)) ≡ (b || (a || c))
    turned true true c = refl
    turned true false c = refl
    turned false b c = refl

same_number : (v n : ℕ) → nat_eq v n ≡ true → v ≡ n
same_number v n h = eqb-true v n h

or_is : (b c : Bool) → cond b true c ≡ (b || c)
or_is true c = refl
or_is false c = refl

-- a set with one number more
pub inserted : (old new : List ℕ) (v : ℕ) → ((q : ℕ) → list_any (nat_eq q) new ≡ cond (nat_eq v q) true (list_any (nat_eq q) old)) → (n : ℕ) → has new n ≡ has (v ∷ old) n
inserted old new v h n = sym (any_has new n) ∙ h n ∙ or_is (nat_eq v n) (list_any (nat_eq n) old) ∙ ap (λ b. nat_eq v n || b) (any_has old n)

module _ (xs : List ℕ) (i d : ℕ) (h : i < length xs) where
  has_more : (n : ℕ) → has (take (i + 1) xs) n ≡ has (get_or xs i d ∷ take i xs) n
  has_more n = ap (λ l. has l n) (take_more xs i d h) ∙ has_end (take i xs) (get_or xs i d) n

  pub set_step : (old new : List ℕ) → ((n : ℕ) → has old n ≡ has (take i xs) n) → ((n : ℕ) → has new n ≡ has (get_or xs i d ∷ old) n) → (n : ℕ) → has new n ≡ has (take (i + 1) xs) n
  set_step old new f g n = g n ∙ ap (λ b. nat_eq (get_or xs i d) n || b) (f n) ∙ sym (has_more n)

  pub all_step : (P : ℕ → Type 0) → ((n : ℕ) → has (take i xs) n ≡ true → P n) → P (get_or xs i d) → (n : ℕ) → has (take (i + 1) xs) n ≡ true → P n
  all_step P f here n e = go (nat_eq (get_or xs i d) n) refl
    where
      go : (b : Bool) → nat_eq (get_or xs i d) n ≡ b → P n
      go true g = subst P (same_number (get_or xs i d) n g) here
      go false g = f n (sym (ap (λ b. b || has (take i xs) n) g) ∙ sym (has_more n) ∙ e)

eq_self : (n : ℕ) → nat_eq n n ≡ true
eq_self n = eq-eqb n n refl

pub has_at : (xs : List ℕ) (i d : ℕ) → i < length xs → has xs (get_or xs i d) ≡ true
has_at [] i d h = absurd (omega (arith, h))
has_at (x ∷ xs) zero d h = ap (λ b. b || has xs x) (eq_self x)
has_at (x ∷ xs) (suc i) d h = ap (λ b. nat_eq x (get_or xs i d) || b) (has_at xs i d (omega (arith, h))) ∙ or_true (nat_eq x (get_or xs i d))
  where
    or_true : (b : Bool) → (b || true) ≡ true
    or_true true = refl
    or_true false = refl

-- ---- covering

-- what one state covers, the same one does
pub same_covers : (s t u : State) → IsSame s t → Covers s u → Covers t u
same_covers s t u h c = record { frame = sym h.frame ∙ c.frame; owed = sym h.owed ∙ c.owed; regs = λ n e. sym (h.regs n) ∙ c.regs n e }
