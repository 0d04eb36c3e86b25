-- Agents come on the agenda and are taken.
use Rattle.std.proofs.Common.{◌≡◌, ℕ, zero, suc, ◌+◌, ◌<◌, ◌≤◌, Bool, true, false, cond, ◌||◌, ◌==◌, List, [], ◌∷◌, ◌++◌, length, set, refl, ap, sym, ◌∙◌, inl}
use Rattle.std.proofs.Common.{inr, arith, eqb-true, eq-eqb}
use Rattle.std.proofs.lemmas.Bool.{cases_Bool, true≢false, eqb-false, or_left, or_right}
use Rattle.std.proofs.lemmas.List.{length-set, get_or-set_same, get_or-set_other}
use Rattle.domain_ranges.proofs.Lemmas.{has_append}
use Rattle.fd_language.specs.Family.{has}
use Rattle.propagate_queue.specs.Queues.{times, flag_at, flagged, AreQueued}

pub flag_within : (flags : List Bool) (a : ℕ) → flag_at flags a ≡ true → a < length flags
flag_within [] a h = absurd (true≢false (sym h))
flag_within (b ∷ bs) zero h = omega arith
flag_within (b ∷ bs) (suc a) h = omega (arith, flag_within bs a h)

pub flag_set : (flags : List Bool) (a k : ℕ) (b : Bool) → a < length flags → flag_at (set flags a b) k ≡ cond (a == k) b (flag_at flags k)
flag_set flags a k b h = elim (cases_Bool (a == k)) [
  | inl e ↦ ap (λ j. flag_at (set flags a b) j) (sym (eqb-true a k e)) ∙ get_or-set_same flags a b false h ∙ sym (ap (λ c. cond c b (flag_at flags k)) e)
  | inr e ↦ get_or-set_other flags a k b false (λ q. eqb-false a k e (sym q)) ∙ sym (ap (λ c. cond c b (flag_at flags k)) e)
]

pub flagged_below : (flags : List Bool) → flagged flags ≤ length flags
flagged_below [] = omega arith
flagged_below (true ∷ bs) = omega (arith, flagged_below bs)
flagged_below (false ∷ bs) = omega (arith, flagged_below bs)

flagged_less : (flags : List Bool) (a : ℕ) → a < length flags → flag_at flags a ≡ false → flagged flags < length flags
flagged_less [] a h e = absurd (omega (arith, h))
flagged_less (true ∷ bs) zero h e = absurd (true≢false e)
flagged_less (false ∷ bs) zero h e = omega (arith, flagged_below bs)
flagged_less (true ∷ bs) (suc a) h e = omega (arith, flagged_less bs a (omega (arith, h)) e)
flagged_less (false ∷ bs) (suc a) h e = omega (arith, flagged_less bs a (omega (arith, h)) e)

pub flagged_on : (flags : List Bool) (a : ℕ) → a < length flags → flag_at flags a ≡ false → flagged (set flags a true) ≡ suc (flagged flags)
flagged_on [] a h e = absurd (omega (arith, h))
flagged_on (true ∷ bs) zero h e = absurd (true≢false e)
flagged_on (false ∷ bs) zero h e = omega arith
flagged_on (true ∷ bs) (suc a) h e = omega (arith, flagged_on bs a (omega (arith, h)) e)
flagged_on (false ∷ bs) (suc a) h e = omega (arith, flagged_on bs a (omega (arith, h)) e)

pub flagged_off : (flags : List Bool) (a : ℕ) → flag_at flags a ≡ true → suc (flagged (set flags a false)) ≡ flagged flags
flagged_off [] a e = absurd (true≢false (sym e))
flagged_off (true ∷ bs) zero e = omega arith
flagged_off (false ∷ bs) zero e = absurd (true≢false (sym e))
flagged_off (true ∷ bs) (suc a) e = omega (arith, flagged_off bs a e)
flagged_off (false ∷ bs) (suc a) e = omega (arith, flagged_off bs a e)

pub has_room : (flags : List Bool) (agents : List ℕ) (spare a : ℕ) → AreQueued flags agents spare → a < length flags → flag_at flags a ≡ false → 0 < spare
has_room flags agents spare a q h e = omega (arith, q.room, q.all, flagged_less flags a h e)

-- one that isn't there is put on it
pub was_put : (flags : List Bool) (agents agents' : List ℕ) (spare spare' a : ℕ) → AreQueued flags agents spare → a < length flags → flag_at flags a ≡ false
    → ((k : ℕ) → times k agents' ≡ times k (a ∷ agents)) → length agents' ≡ length agents + 1 → spare ≤ spare' + 1 → AreQueued (set flags a true) agents' spare'
was_put flags agents agents' spare spare' a q h e counts len room = record {
  once = λ k. counts k ∙ step (a == k) k (flag_at flags k) (times k agents) (q.once k) (λ f. ap (flag_at flags) (sym (eqb-true a k f)) ∙ e) ∙ ap (λ b. cond b 1 0) (sym (flag_set flags a k true h));
  all = omega (arith, len, q.all, flagged_on flags a h e);
  room = omega (arith, q.room, len, room, length-set flags a true);
} where
  step : (b : Bool) (k : ℕ) (f : Bool) (n : ℕ) → n ≡ cond f 1 0 → (b ≡ true → f ≡ false) → cond b (suc n) n ≡ cond (cond b true f) 1 0
  step true k true n e g = absurd (true≢false (g refl))
  step true k false n e g = ap suc e
  step false k f n e g = e

-- one is taken
pub was_there : (flags : List Bool) (agents agents' : List ℕ) (spare a : ℕ) → AreQueued flags agents spare → ((k : ℕ) → times k agents ≡ times k (a ∷ agents')) → flag_at flags a ≡ true
was_there flags agents agents' spare a q counts = on (flag_at flags a) (sym (q.once a) ∙ counts a ∙ ap (λ b. cond b (suc (times a agents')) (times a agents')) (eq-eqb a a refl)) where
  on : (f : Bool) → ◌≡◌ {A = ℕ} (cond f 1 0) (suc (times a agents')) → f ≡ true
  on true e = refl
  on false e = absurd (omega (arith, e))

pub was_taken : (flags : List Bool) (agents agents' : List ℕ) (spare spare' a : ℕ) → AreQueued flags agents spare
    → ((k : ℕ) → times k agents ≡ times k (a ∷ agents')) → length agents ≡ length agents' + 1 → spare + 1 ≤ spare'
    → AreQueued (set flags a false) agents' spare'
was_taken flags agents agents' spare spare' a q counts len room =
    let there = was_there flags agents agents' spare a q counts in
    let within = flag_within flags a there in
    record {
      once = λ k. step (a == k) k (flag_at flags k) (times k agents') (sym (q.once k) ∙ counts k) ∙ ap (λ b. cond b 1 0) (sym (flag_set flags a k false within));
      all = omega (arith, len, q.all, flagged_off flags a there);
      room = omega (arith, q.room, len, room, length-set flags a false);
    }
  where
    step : (b : Bool) (k : ℕ) (f : Bool) (n : ℕ) → cond f 1 0 ≡ cond b (suc n) n → n ≡ cond (cond b false f) 1 0
    step true k true n e = omega (arith, e)
    step true k false n e = absurd (omega (arith, e))
    step false k f n e = sym e

pub none_left : (flags : List Bool) (agents agents' : List ℕ) (spare spare' : ℕ) → AreQueued flags agents spare → agents ≡ [] → agents' ≡ [] → spare ≤ spare' → AreQueued flags agents' spare'
none_left flags agents agents' spare spare' q e f room = record {
  once = λ k. ap (times k) (f ∙ sym e) ∙ q.once k;
  all = ap length (f ∙ sym e) ∙ q.all;
  room = omega (arith, q.room, room, ap length e, ap length f);
}

pub no_flags : (flags : List Bool) (agents : List ℕ) (spare : ℕ) → AreQueued flags agents spare → agents ≡ [] → (a : ℕ) → flag_at flags a ≡ false
no_flags flags agents spare q e a = off (flag_at flags a) (sym (q.once a) ∙ ap (times a) e) where
  off : (f : Bool) → ◌≡◌ {A = ℕ} (cond f 1 0) 0 → f ≡ false
  off true h = absurd (omega (arith, h))
  off false h = refl

-- the flags while agents wake
pub woke : (flags : List Bool) (a k : ℕ) (rest woken : List ℕ) → a < length flags → woken ≡ a ∷ rest → (flag_at (set flags a true) k || has rest k) ≡ (flag_at flags k || has woken k)
woke flags a k rest woken h e = ap (λ b. b || has rest k) (flag_set flags a k true h) ∙ swap (a == k) (flag_at flags k) (has rest k) ∙ ap (λ l. flag_at flags k || has l k) (sym e) where
  swap : (b f r : Bool) → (cond b true f || r) ≡ (f || (b || r))
  swap b f r = grind arith

pub awake : (flags : List Bool) (a k : ℕ) (rest woken : List ℕ) → flag_at flags a ≡ true → woken ≡ a ∷ rest → (flag_at flags k || has rest k) ≡ (flag_at flags k || has woken k)
awake flags a k rest woken h e = there (a == k) (flag_at flags k) (has rest k) (λ q. ap (flag_at flags) (sym (eqb-true a k q)) ∙ h) ∙ ap (λ l. flag_at flags k || has l k) (sym e) where
  there : (b f r : Bool) → (b ≡ true → f ≡ true) → (f || r) ≡ (f || (b || r))
  there true true r g = refl
  there true false r g = absurd (true≢false (sym (g refl)))
  there false f r g = refl

pub in_rest : (a k : ℕ) (rest woken : List ℕ) → woken ≡ a ∷ rest → has rest k ≡ true → has woken k ≡ true
in_rest a k rest woken e h = ap (λ l. has l k) e ∙ or_right (a == k) (has rest k) h

pub in_first : (a : ℕ) (rest woken : List ℕ) → woken ≡ a ∷ rest → has woken a ≡ true
in_first a rest woken e = ap (λ l. has l a) e ∙ or_left (a == a) (has rest a) (eq-eqb a a refl)

-- the agents of four chains
pub record AreFour (woken dom min max val : List ℕ) : Type 0 where
  pub each : (k : ℕ) → has woken k ≡ (has dom k || (has min k || (has max k || has val k)))

pub four_chains : (woken dom min max val : List ℕ) → woken ≡ dom ++ (min ++ (max ++ val)) → AreFour woken dom min max val
four_chains woken dom min max val e = record {
  each = λ k. ap (λ l. has l k) e ∙ has_append dom (min ++ (max ++ val)) k ∙ ap (λ b. has dom k || b) (has_append min (max ++ val) k ∙ ap (λ b. has min k || b) (has_append max val k));
}

module _ (woken dom min max val : List ℕ) (f : AreFour woken dom min max val) (k : ℕ) where
  pub by_dom : has dom k ≡ true → has woken k ≡ true
  by_dom h = f.each k ∙ so (has dom k) (has min k) (has max k) (has val k) h where
    so : (a b c d : Bool) → a ≡ true → (a || (b || (c || d))) ≡ true
    so a b c d h = grind arith

  pub by_min : has min k ≡ true → has woken k ≡ true
  by_min h = f.each k ∙ so (has dom k) (has min k) (has max k) (has val k) h where
    so : (a b c d : Bool) → b ≡ true → (a || (b || (c || d))) ≡ true
    so a b c d h = grind arith

  pub by_max : has max k ≡ true → has woken k ≡ true
  by_max h = f.each k ∙ so (has dom k) (has min k) (has max k) (has val k) h where
    so : (a b c d : Bool) → c ≡ true → (a || (b || (c || d))) ≡ true
    so a b c d h = grind arith

  pub by_val : has val k ≡ true → has woken k ≡ true
  by_val h = f.each k ∙ so (has dom k) (has min k) (has max k) (has val k) h where
    so : (a b c d : Bool) → d ≡ true → (a || (b || (c || d))) ≡ true
    so a b c d h = grind arith

  -- the flags once the agents of all four were put
  pub all_put : (f0 f1 f2 f3 f4 : Bool) → f1 ≡ (f0 || has dom k) → f2 ≡ (f1 || has min k) → f3 ≡ (f2 || has max k) → f4 ≡ (f3 || has val k) → f4 ≡ (f0 || has woken k)
  all_put f0 f1 f2 f3 f4 h1 h2 h3 h4 = h4 ∙ ap (λ b. b || has val k) (h3 ∙ ap (λ b. b || has max k) (h2 ∙ ap (λ b. b || has min k) h1))
      ∙ regroup f0 (has dom k) (has min k) (has max k) (has val k) ∙ ap (λ b. f0 || b) (sym (f.each k)) where
        regroup : (e a b c d : Bool) → ((((e || a) || b) || c) || d) ≡ (e || (a || (b || (c || d))))
        regroup e a b c d = grind arith

-- at the end of a list, an agent stands on it once more
pub times_last : (k a : ℕ) (xs : List ℕ) → times k (xs ++ a ∷ []) ≡ times k (a ∷ xs)
times_last k a [] = refl
times_last k a (x ∷ xs) = ap (λ n. cond (x == k) (suc n) n) (times_last k a xs) ∙ swap (x == k) (a == k) (times k xs) where
  swap : (b c : Bool) (n : ℕ) → cond b (suc (cond c (suc n) n)) (cond c (suc n) n) ≡ cond c (suc (cond b (suc n) n)) (cond b (suc n) n)
  swap true true n = refl
  swap true false n = refl
  swap false true n = refl
  swap false false n = refl
