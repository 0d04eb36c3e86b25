-- What the tests of a range say of the variables' domains.
use Rattle.std.proofs.Common.{◌≡◌, ℕ, suc, ◌+◌, ◌<◌, ◌≤◌, Bool, true, false, cond, not, ◌||◌, ◌==◌, nat_eq, List, [], ◌∷◌, ◌++◌, map, filter, flat_map, ◌&&◌}
use Rattle.std.proofs.Common.{length, Option, Some, None, refl, sym, ◌∙◌, ap, subst, inl, inr, ◌⊎◌, arith, eqb-true, eq-eqb}
use Rattle.std.specs.List.{All, list_any, position_or_len}
use Rattle.std.proofs.lemmas.Bool.{cases_Bool, true≢false, or_left, or_right, or_cases}
use Rattle.std.proofs.lemmas.List.Elements.{All-nil, All-cons, All-head, All-tail}
use Rattle.std.specs.Cmp.{both_ways}
use Rattle.fd_language.specs.declared.range_node.Need.{Need}
use Rattle.fd_language.specs.declared.TheConstants.{INFINITY}
use Rattle.fd_language.specs.Family.{Family, IsRising, has}
use Rattle.fd_language.specs.Range.{Range, Leaf, leaves, reads, params, read_at, param_at, is_parameter_role, is_none_left, is_several}
use Rattle.fd_language.specs.Occurrences.{range_occurrences, occurrence_at}
use Rattle.fd_language.specs.Needs.{once, need_of}
use Rattle.fd_language.specs.RangeVerdict.{has_one_use}
use Rattle.fd_language.specs.Features.{features_of}
use Rattle.fd_language.proofs.Lemmas.{has_kept, has_once, any_from, any_to, map_has, has_map, reads_map, range_leaves}
use Rattle.range_code.specs.Slots.{slots_of, slot_of, slot_needs, need_at, in_slots}
use Rattle.range_code.specs.ValSlots.{val_slots}
use Rattle.range_code.proofs.Standings.{any_read}
use Rattle.range_code.proofs.Frames.{no_parameter, reads_occur}
use Rattle.range_code.specs.declared.instr.RangeInstr.{RangeInstr}
use Rattle.range_code.specs.declared.instr.RangeInstr.TheVariants as instr
use Rattle.range_code.specs.declared.frame.Arg.{Arg}
use Rattle.range_code.specs.declared.frame.Arg.TheVariants.{Var, Int}
use Rattle.range_code.specs.declared.frame.Standing.{Standing}
use Rattle.range_code.specs.declared.frame.Standing.TheVariants.{Empty, Open, Settled}
use Rattle.range_code.specs.Frames.{AreArgs, arg_at, variable_of}
use Rattle.range_code.specs.Nodes.{IsSeen}
use Rattle.range_code.specs.Instructions.{without_need, tests_of}
use Rattle.range_code.specs.Standings.{tested, IsTestSeen, TestRises}

-- the tests in their order
abbrev pub by_slots : Family → List ℕ → List ℕ → Standing
by_slots S some vals = cond (list_any (λ s. is_none_left (S s)) some) Empty (cond (list_any (λ s. is_several (S s)) vals) Open Settled)

tested_vals : (S : Family) (vals : List ℕ) → tested S (map instr.NeedFixed vals) ≡ cond (list_any (λ s. is_several (S s)) vals) Open Settled
tested_vals S [] = refl
tested_vals S (v ∷ vs) = elim (cases_Bool (is_several (S v))) [
  | inl e ↦ ap (λ b. cond b Open (tested S (map instr.NeedFixed vs))) e ∙ sym (ap (λ b. cond (b || list_any (λ s. is_several (S s)) vs) Open Settled) e)
  | inr e ↦ ap (λ b. cond b Open (tested S (map instr.NeedFixed vs))) e ∙ (tested_vals S vs ∙ sym (ap (λ b. cond (b || list_any (λ s. is_several (S s)) vs) Open Settled) e))
]

pub tested_is : (S : Family) (some vals : List ℕ) → tested S (map instr.NeedSome some ++ map instr.NeedFixed vals) ≡ by_slots S some vals
tested_is S [] vals = tested_vals S vals
tested_is S (x ∷ xs) vals = elim (cases_Bool (is_none_left (S x))) [
  | inl e ↦ ap (λ b. cond b Empty (tested S (map instr.NeedSome xs ++ map instr.NeedFixed vals))) e
      ∙ sym (ap (λ b. cond (b || list_any (λ s. is_none_left (S s)) xs) Empty (cond (list_any (λ s. is_several (S s)) vals) Open Settled)) e)
  | inr e ↦ ap (λ b. cond b Empty (tested S (map instr.NeedSome xs ++ map instr.NeedFixed vals))) e
      ∙ (tested_is S xs vals ∙ sym (ap (λ b. cond (b || list_any (λ s. is_none_left (S s)) xs) Empty
      (cond (list_any (λ s. is_several (S s)) vals) Open Settled)) e))
]

-- each slot of a test has a variable
module _ (count : ℕ) (args : List Arg) where
  abbrev Seen : ℕ → Type 0
  Seen s = IsSeen count args s

  pub tests_seen : (some vals : List ℕ) → All (IsSeen count args) some → All (IsSeen count args) vals → All (IsTestSeen count args) (map instr.NeedSome some ++ map instr.NeedFixed vals)
  tests_seen [] vals h k = fixed vals k where
    fixed : (vs : List ℕ) → All (IsSeen count args) vs → All (IsTestSeen count args) (map instr.NeedFixed vs)
    fixed [] h = All-nil (IsTestSeen count args)
    fixed (v ∷ vs) h = All-cons (IsTestSeen count args) (instr.NeedFixed v) (map instr.NeedFixed vs) (All-head Seen v vs h) (fixed vs (All-tail Seen v vs h))
  tests_seen (x ∷ xs) vals h k = All-cons (IsTestSeen count args) (instr.NeedSome x) (map instr.NeedSome xs ++ map instr.NeedFixed vals) (All-head Seen x xs h)
      (tests_seen xs vals (All-tail Seen x xs h) k)

-- the first slots have the first arguments
seen_from : (count : ℕ) (all args : List Arg) (n : ℕ) (ns : List (Option Need)) → ((i : ℕ) → arg_at all (n + i) ≡ arg_at args i) → n + length args ≤ length all
    → AreArgs count ns args → All (IsSeen count all) (without_need n ns)
seen_from count all args n [] same l h = All-nil (IsSeen count all)
seen_from count all [] n (m ∷ ns) same l h = absurd h
seen_from count all (a ∷ args) n (Some m ∷ ns) same l h = seen_from count all args (suc n) ns (λ i. ap (arg_at all) (let e : suc n + i ≡ n + suc i = omega arith in e) ∙ same (suc i)) (omega arith) h.1
seen_from count all (Int z ∷ args) n (None ∷ ns) same l h = absurd h.0
seen_from count all (Var k ∷ args) n (None ∷ ns) same l h =
    let here : arg_at all n ≡ Var k = ap (arg_at all) (let e : n ≡ n + 0 = omega arith in e) ∙ same 0 in
    All-cons (IsSeen count all) n (without_need (suc n) ns)
    (omega arith, subst (λ a. variable_of a < count) (sym here) h.0, subst (λ a. a ≡ Var (variable_of a)) (sym here) refl)
    (seen_from count all args (suc n) ns (λ i. ap (arg_at all) (let e : suc n + i ≡ n + suc i = omega arith in e) ∙ same (suc i)) (omega arith) h.1)

pub some_seen : (count : ℕ) (args : List Arg) (ns : List (Option Need)) → AreArgs count ns args → All (IsSeen count args) (without_need 0 ns)
some_seen count args ns h = seen_from count args args 0 ns (λ i. ap (arg_at args) (let e : 0 + i ≡ i = omega arith in e)) (omega arith) h

-- the slot of a variable that needs nothing is one of a test, and the variable of such a slot needs nothing
in_without : (need : ℕ → Option Need) (xs : List ℕ) (y n : ℕ) → has xs y ≡ true → need y ≡ None → has (without_need n (map need xs)) (n + position_or_len (nat_eq y) xs) ≡ true
in_without need [] y n h e = absurd (true≢false (sym h))
in_without need (x ∷ xs) y n h e = elim (cases_Bool (nat_eq y x)) [
  | inl i ↦
      subst (λ o. has (without_need n (o ∷ map need xs)) (n + position_or_len (nat_eq y) (x ∷ xs)) ≡ true) (sym (ap need (sym (eqb-true y x i)) ∙ e))
      (or_left (n == (n + position_or_len (nat_eq y) (x ∷ xs))) (has (without_need (suc n) (map need xs)) (n + position_or_len (nat_eq y) (x ∷ xs)))
      (eq-eqb n (n + position_or_len (nat_eq y) (x ∷ xs)) (let z : position_or_len (nat_eq y) (x ∷ xs) ≡ 0 = ap (λ c. cond (not c) (1 + position_or_len (nat_eq y) xs) 0) i in omega arith)))
  | inr i ↦
      let z : suc n + position_or_len (nat_eq y) xs ≡ n + position_or_len (nat_eq y)
      (x ∷ xs) = (let k : position_or_len (nat_eq y) (x ∷ xs) ≡ 1 + position_or_len (nat_eq y) xs = ap
      (λ c. cond (not c) (1 + position_or_len (nat_eq y) xs) 0) i in omega arith) in
      more (need x) (n + position_or_len (nat_eq y) (x ∷ xs)) (subst (λ m. has (without_need (suc n) (map need xs)) m ≡ true) z (in_without need xs y (suc n) (later i h) e))
] where
  later : nat_eq y x ≡ false → ((x == y) || has xs y) ≡ true → has xs y ≡ true
  later i g = elim (or_cases (x == y) (has xs y) g) [ inl j ↦ absurd (true≢false (sym (eq-eqb y x (sym (eqb-true x y j))) ∙ i)) | inr j ↦ j ]

  more : (o : Option Need) (m : ℕ) → has (without_need (suc n) (map need xs)) m ≡ true → has (without_need n (o ∷ map need xs)) m ≡ true
  more None m g = or_right (n == m) (has (without_need (suc n) (map need xs)) m) g
  more (Some d) m g = g

-- each variable has one slot
abbrev AreApart : List ℕ → Type 0
AreApart [] = Unit {0}
AreApart (x ∷ xs) = (has xs x ≡ false) × AreApart xs

apart_kept : (q : ℕ → Bool) (xs : List ℕ) → AreApart xs → AreApart (filter q xs)
apart_kept q [] h = tt
apart_kept q (x ∷ xs) h = elim (cases_Bool (q x)) [
  | inl e ↦ subst (λ b. AreApart (cond b (x ∷ filter q xs) (filter q xs))) (sym e) (has_kept q xs x ∙ ap (λ b. b && q x) h.0, apart_kept q xs h.1)
  | inr e ↦ subst (λ b. AreApart (cond b (x ∷ filter q xs) (filter q xs))) (sym e) (apart_kept q xs h.1)
]

apart_once : (xs : List ℕ) → AreApart (once xs)
apart_once [] = tt
apart_once (x ∷ xs) = (has_kept (λ z. not (z == x)) (once xs) x ∙ none (has (once xs) x) (x == x) (eq-eqb x x refl), apart_kept (λ z. not (z == x)) (once xs) (apart_once xs)) where
  none : (a b : Bool) → b ≡ true → (a && not b) ≡ false
  none a b h = grind arith

record IsOfSlot (need : ℕ → Option Need) (xs : List ℕ) (n s : ℕ) : Type 0 where
  variable : ℕ
  there : has xs variable ≡ true
  free : need variable ≡ None
  slot : s ≡ n + position_or_len (nat_eq variable) xs

not_first : (x y : ℕ) (xs : List ℕ) → has xs x ≡ false → has xs y ≡ true → (nat_eq y x ≡ true) ⊎ (nat_eq y x ≡ false) → nat_eq y x ≡ false
not_first x y xs h t (inl e) = absurd (true≢false (sym t ∙ (ap (has xs) (eqb-true y x e) ∙ h)))
not_first x y xs h t (inr e) = e

further : (need : ℕ → Option Need) (x : ℕ) (xs : List ℕ) (n s : ℕ) → has xs x ≡ false → IsOfSlot need xs (suc n) s → IsOfSlot need (x ∷ xs) n s
further need x xs n s h k =
    let other : nat_eq k.variable x ≡ false = not_first x k.variable xs h k.there (cases_Bool (nat_eq k.variable x)) in
    let z : position_or_len (nat_eq k.variable) (x ∷ xs) ≡ 1 + position_or_len (nat_eq k.variable) xs = ap (λ c. cond (not c) (1 + position_or_len (nat_eq k.variable) xs) 0) other in
    let e : s ≡ suc n + position_or_len (nat_eq k.variable) xs = k.slot in
    let f : s ≡ n + (1 + position_or_len (nat_eq k.variable) xs) = omega arith in
    record { variable = k.variable; there = or_right (x == k.variable) (has xs k.variable) k.there; free = k.free; slot = f ∙ ap (λ m. n + m) (sym z) }

here_is : (need : ℕ → Option Need) (x : ℕ) (xs : List ℕ) (n s : ℕ) → n ≡ s → need x ≡ None → IsOfSlot need (x ∷ xs) n s
here_is need x xs n s i e =
    let z : position_or_len (nat_eq x) (x ∷ xs) ≡ 0 = ap (λ c. cond (not c) (1 + position_or_len (nat_eq x) xs) 0) (eq-eqb x x refl) in
    let f : s ≡ n + 0 = omega arith in
    record { variable = x; there = or_left (x == x) (has xs x) (eq-eqb x x refl); free = e; slot = f ∙ ap (λ m. n + m) (sym z) }

by_need : (need : ℕ → Option Need) (x : ℕ) (xs : List ℕ) (n s : ℕ) → has xs x ≡ false
    → (has (without_need (suc n) (map need xs)) s ≡ true → IsOfSlot need xs (suc n) s) → (o : Option Need) → need x ≡ o
    → has (without_need n (o ∷ map need xs)) s ≡ true → IsOfSlot need (x ∷ xs) n s
by_need need x xs n s h k (Some d) e f = further need x xs n s h (k f)
by_need need x xs n s h k None e f = elim (or_cases (n == s) (has (without_need (suc n) (map need xs)) s) f) [
  | inl i ↦ here_is need x xs n s (eqb-true n s i) e
  | inr i ↦ further need x xs n s h (k i)
]

of_slot : (need : ℕ → Option Need) (xs : List ℕ) (n s : ℕ) → AreApart xs → has (without_need n (map need xs)) s ≡ true → IsOfSlot need xs n s
of_slot need [] n s h g = absurd (true≢false (sym g))
of_slot need (x ∷ xs) n s h g = by_need need x xs n s h.0 (of_slot need xs (suc n) s h.1) (need x) refl g

-- a variable of the range is read, or it is a parameter
split_leaf : (b : Bool) (v y : ℕ) (rs ps : List ℕ) (t : Bool) → (t ≡ true → (has rs y ≡ true) ⊎ (has ps y ≡ true)) → ((v == y) || t) ≡ true
    → (has (cond b [] (v ∷ []) ++ rs) y ≡ true) ⊎ (has (cond b (v ∷ []) [] ++ ps) y ≡ true)
split_leaf true v y rs ps t f h = elim (or_cases (v == y) t h) [ inl e ↦ inr (or_left (v == y) (has ps y) e) | inr e ↦ elim (f e) [ inl k ↦ inl k | inr k ↦ inr (or_right (v == y) (has ps y) k) ] ]
split_leaf false v y rs ps t f h = elim (or_cases (v == y) t h) [ inl e ↦ inl (or_left (v == y) (has rs y) e) | inr e ↦ elim (f e) [ inl k ↦ inl (or_right (v == y) (has rs y) k) | inr k ↦ inr k ] ]

split_leaves : (ls : List Leaf) (y : ℕ) → has (map (λ q. q.variable) (flat_map occurrence_at ls)) y ≡ true → (has (flat_map read_at ls) y ≡ true) ⊎ (has (flat_map param_at ls) y ≡ true)
split_leaves [] y h = absurd (true≢false (sym h))
split_leaves (l ∷ ls) y h = split_leaf (is_parameter_role l.role) l.variable y (flat_map read_at ls) (flat_map param_at ls)
    (has (map (λ q. q.variable) (flat_map occurrence_at ls)) y) (split_leaves ls y) h

read_or_param : (r : Range) (y : ℕ) → has (map (λ q. q.variable) (range_occurrences r)) y ≡ true → (has (reads r) y ≡ true) ⊎ (has (params r) y ≡ true)
read_or_param r y h = elim (split_leaves (leaves r) y (sym (ap (λ ps. has (map (λ q. q.variable) ps) y) (range_leaves occurrence_at r)) ∙ h)) [
  | inl e ↦ inl (ap (λ xs. has xs y) (range_leaves read_at r) ∙ e)
  | inr e ↦ inr (ap (λ xs. has xs y) (range_leaves param_at r) ∙ e)
]

need_free : (r : Range) (y : ℕ) → need_at r y ≡ None → has (params r) y ≡ false
need_free r y h = by (has (params r) y) refl h where
  by : (b : Bool) → has (params r) y ≡ b → cond b (Some (need_of r y)) None ≡ None → has (params r) y ≡ false
  by true e f = absurd cc
  by false e f = e

module _ (r : Range) (one : has_one_use r ≡ true) where
  free_need : (y : ℕ) → has (reads r) y ≡ true → need_at r y ≡ None
  free_need y h = ap (λ b. cond b (Some (need_of r y)) None) (no_parameter (params r) (reads r) y one h)

  abbrev some_slots : List ℕ
  some_slots = without_need 0 (slot_needs r)

  -- the slot of a variable that is read is tested
  pub read_tested : (y : ℕ) → has (reads r) y ≡ true → has (without_need 0 (slot_needs r)) (slot_of r y) ≡ true
  read_tested y h = ap (has some_slots) (let e : slot_of r y ≡ 0 + slot_of r y = omega arith in
      e) ∙ in_without (need_at r) (slots_of r) y 0 (has_once (map (λ q. q.variable) (range_occurrences r)) y ∙ reads_occur r y h) (free_need y h)

  tested_read : (s : ℕ) → has (without_need 0 (slot_needs r)) s ≡ true → has (reads (in_slots r)) s ≡ true
  tested_read s h =
      let k = of_slot (need_at r) (slots_of r) 0 s (apart_once (map (λ q. q.variable) (range_occurrences r))) h in
      let placed : has (map (λ q. q.variable) (range_occurrences r)) k.variable ≡ true = sym (has_once (map (λ q. q.variable) (range_occurrences r)) k.variable) ∙ k.there in
      let same : s ≡ 0 + slot_of r k.variable = k.slot in
      let e : slot_of r k.variable ≡ s = omega arith in
      elim (read_or_param r k.variable placed) [
        | inl i ↦ ap (λ xs. has xs s) (reads_map (slot_of r) r) ∙ subst (λ z. has (map (slot_of r) (reads r)) z ≡ true) e (has_map (slot_of r) (reads r) k.variable i)
        | inr i ↦ absurd (true≢false (sym i ∙ need_free r k.variable k.free))
      ]

  -- some slot of a test passes where some variable that is read does
  pub any_tested : (t : ℕ → Bool) → list_any t (without_need 0 (slot_needs r)) ≡ list_any (λ d. t d.0) (features_of (in_slots r))
  any_tested t = both_ways (list_any t some_slots) (list_any (λ d. t d.0) (features_of (in_slots r)))
      (λ g. let k = any_from t some_slots g in any_read t (in_slots r) ∙ any_to t (reads (in_slots r)) k.0 (tested_read k.0 k.1) k.2)
      (λ g.
      let k = any_from t (reads (in_slots r)) (sym (any_read t (in_slots r)) ∙ g) in
      let j = map_has (slot_of r) (reads r) k.0 (sym (ap (λ xs. has xs k.0) (reads_map (slot_of r) r)) ∙ k.1) in
      any_to t some_slots k.0 (ap (has some_slots) (sym j.2) ∙ read_tested j.0 j.1) k.2)

-- what rises where all tests pass
rises_at : (S : Family) (some : List ℕ) (is : List RangeInstr) (s : ℕ) → All (TestRises S) (map instr.NeedSome some ++ is) → has some s ≡ true → IsRising 0 INFINITY (S s)
rises_at S [] is s h g = absurd (true≢false (sym g))
rises_at S (x ∷ xs) is s h g = elim (or_cases (x == s) (has xs s) g) [
  | inl e ↦ subst (λ z. IsRising 0 INFINITY (S z)) (eqb-true x s e) (All-head (TestRises S) (instr.NeedSome x) (map instr.NeedSome xs ++ is) h)
  | inr e ↦ rises_at S xs is s (All-tail (TestRises S) (instr.NeedSome x) (map instr.NeedSome xs ++ is) h) e
]

pub reads_rise : (S : Family) (r : Range) → has_one_use r ≡ true → All (TestRises S) (tests_of r) → (y : ℕ) → has (reads r) y ≡ true → IsRising 0 INFINITY (S (slot_of r y))
reads_rise S r one h y g = rises_at S (without_need 0 (slot_needs r)) (map instr.NeedFixed (val_slots r)) (slot_of r y) h (read_tested r one y g)
