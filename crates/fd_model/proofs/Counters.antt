-- fd_atmost and its rows.
use Rattle.std.proofs.Common.{◌≡◌, ℕ, suc, ◌+◌, ◌*◌, ◌≤◌, ◌<◌, Bool, true, false, cond, not, ◌&&◌, ◌||◌, ◌==◌, ℤ, pos, ◌+ℤ◌, ◌-ℤ◌, ◌*ℤ◌, ◌≤ℤ◌, int_le, List, []}
use Rattle.std.proofs.Common.{◌∷◌, length, refl, ap, sym, ◌∙◌, subst, inl, inr, ◌⊎◌, arith, eqb-true, Ok}
use Rattle.std.specs.Ordering.{int_eq}
use Rattle.std.proofs.Math.IntN.{zero-*ℤ}
use Rattle.std.proofs.lemmas.Int.{ints}
use Rattle.std.proofs.lemmas.Bool.{cases_Bool}
use Rattle.fd_language.proofs.Lemmas.{int_le_true}
use Rattle.fd_language.specs.Family.{has}
use Rattle.fd_language.specs.Term.{Term, no_terms, term}
use Rattle.fd_language.specs.Variables.{TermBelow}
use Rattle.fd_model.specs.declared.kinds.ConstraintKind.TheVariants.{Atmost}
use Rattle.fd_language.specs.Range.{Union, set_of}
use Rattle.fd_model.specs.Linear.{of_both, IsAtMost}
use Rattle.fd_model.specs.LinearRows.{Expansion, linear_rows}
use Rattle.fd_model.specs.Members.{Member, Open, Known, as_member, as_integer, walk, placed, fresh_after, equated_from}
use Rattle.fd_model.specs.ListRows.{where_is, where_other, counter, counted, counts, units, atmost_rows}
use Rattle.fd_model.specs.ConstraintExpansion.{pair, atmost}
use Rattle.fd_model.specs.Satisfaction.{Assignment, singles, worth, worths, AreNumbers, occurrences}
use Rattle.fd_model.specs.ConstraintLaws.{total, AllEquated, IsRewritten}
use Rattle.fd_model.proofs.CollectedSums.{both_ok}
use Rattle.fd_model.proofs.Singles.{up_to, set_singles, Inside, inside_append, inside_left, inside_right}
use Rattle.fd_model.proofs.LinearForms.{NoneZero}
use Rattle.fd_model.proofs.ComparisonRows.{form_fits, form_holds}
use Rattle.fd_model.proofs.FreshVariables.{integer_read, values_at, members_read, MembersBelow, known_numbers, placed_worths, changed, changed_here}
use Rattle.fd_model.proofs.FreshVariables.{below_other, changed_other, changed_small, filled, filled_below, filled_small, filled_equated, equated_agree, fresh_grows}
use Rattle.fd_model.proofs.AllDifferentRows.{are_numbers}
use Rattle.fd_model.proofs.ElementRows.{where_is_test, other_is}

-- 1 where z is v, and else 0
abbrev pub unit : ℤ → ℤ → ℕ
unit v z = cond (int_eq z v) 1 0

-- the range on a counted variable of the number n, whose counter is c
at_value : (v z p : ℤ) → p ≡ pos 0 → z ≡ v → (int_le v z && int_le z (v +ℤ p)) ≡ true
at_value v z p h e = grind (arith, ints)

above_value : (v z q m : ℤ) → q ≡ pos 0 → (z ≡ v → ⊥) → v ≤ℤ z → z ≤ℤ m → (int_le ((v +ℤ pos 1) +ℤ q) z && int_le z m) ≡ true
above_value v z q m h f g k = both_le ((v +ℤ pos 1) +ℤ q) z m (let l = strict v z f g in omega (arith, ints)) k where
  both_le : (a b c : ℤ) → a ≤ℤ b → b ≤ℤ c → (int_le a b && int_le b c) ≡ true
  both_le a b c h g = grind (arith, ints)

  strict : (v z : ℤ) → (z ≡ v → ⊥) → v ≤ℤ z → (v +ℤ pos 1) ≤ℤ z
  strict v z f g = omega (arith, ints, f)

below_value : (v q : ℤ) (n : ℕ) → q ≡ pos 0 → (pos n ≡ v → ⊥) → pos n ≤ℤ v → (int_le (pos 0) (pos n) && int_le (pos n) ((v -ℤ pos 1) -ℤ q)) ≡ true
below_value v q n h f g = both_le (pos 0) (pos n) ((v -ℤ pos 1) -ℤ q) (omega (arith, ints)) (let l = strict v (pos n) f g in omega (arith, ints)) where
  both_le : (a b c : ℤ) → a ≤ℤ b → b ≤ℤ c → (int_le a b && int_le b c) ≡ true
  both_le a b c h g = grind (arith, ints)

  strict : (v z : ℤ) → (z ≡ v → ⊥) → z ≤ℤ v → z ≤ℤ (v -ℤ pos 1)
  strict v z f g = omega (arith, ints, f)

less_one : (c : ℕ) (k : ℤ) → c ≡ 1 → (pos c -ℤ pos 1) *ℤ k ≡ pos 0
less_one c k h = subst (λ z. z *ℤ k ≡ pos 0) (zero_left c h) (zero-*ℤ k) where
  zero_left : (c : ℕ) → c ≡ 1 → pos 0 ≡ pos c -ℤ pos 1
  zero_left c h = omega (arith, ints)

no_times : (c : ℕ) (k : ℤ) → c ≡ 0 → pos c *ℤ k ≡ pos 0
no_times c k h = subst (λ n. pos n *ℤ k ≡ pos 0) (sym h) (zero-*ℤ k)

-- what a counter is where its variable has the number z
count_test : (v z : ℤ) (c : ℕ) → c ≡ unit v z → ((int_eq v z && int_eq (pos 1) (pos c)) || (not (int_eq v z) && int_eq (pos 0) (pos c))) ≡ true
count_test v z c h = grind (arith, ints)

pub test_count : (v z : ℤ) (c : ℕ) → ((int_eq v z && int_eq (pos 1) (pos c)) || (not (int_eq v z) && int_eq (pos 0) (pos c))) ≡ true → c ≡ unit v z
test_count v z c h = grind (arith, ints)

is_unit : (v z : ℤ) (c : ℕ) → c ≡ unit v z → ((c ≡ 1) × (z ≡ v)) ⊎ ((c ≡ 0) × (z ≡ v → ⊥))
is_unit v z c h = elim (cases_Bool (int_eq z v)) [ inl e ↦ inl (one v z c h e) | inr e ↦ inr (none v z c h e) ] where
  one : (v z : ℤ) (c : ℕ) → c ≡ unit v z → int_eq z v ≡ true → (c ≡ 1) × (z ≡ v)
  one v z c h e = (grind (arith, ints), grind (arith, ints))

  none : (v z : ℤ) (c : ℕ) → c ≡ unit v z → int_eq z v ≡ false → (c ≡ 0) × (z ≡ v → ⊥)
  none v z c h e = (grind (arith, ints), λ f. absurd (no v z e f)) where
    no : (v z : ℤ) → int_eq z v ≡ false → z ≡ v → ⊥
    no v z e f = grind (arith, ints)

either_side : (a b : ℤ) → (a ≤ℤ b) ⊎ (b ≤ℤ a)
either_side a b = by_test (int_le a b) refl where
  by_test : (c : Bool) → int_le a b ≡ c → (a ≤ℤ b) ⊎ (b ≤ℤ a)
  by_test true e = inl (yes a b e) where
    yes : (a b : ℤ) → int_le a b ≡ true → a ≤ℤ b
    yes a b e = grind (arith, ints)
  by_test false e = inr (no a b e) where
    no : (a b : ℤ) → int_le a b ≡ false → b ≤ℤ a
    no a b e = grind (arith, ints)

first_of : (p q r : Bool) → p ≡ true → ((p || q) || r) ≡ true
first_of p q r h = grind arith

second_of : (p q r : Bool) → q ≡ true → ((p || q) || r) ≡ true
second_of p q r h = grind arith

third_of : (p q r : Bool) → r ≡ true → ((p || q) || r) ≡ true
third_of p q r h = grind arith

counted_test : (M n c : ℕ) (v : ℤ) → n ≤ M → c ≡ unit v (pos n)
    → (((int_le v (pos n) && int_le (pos n) (v +ℤ ((pos c -ℤ pos 1) *ℤ (pos M +ℤ pos 1))))
    || (int_le ((v +ℤ pos 1) +ℤ (pos c *ℤ (pos M +ℤ pos 1))) (pos n) && int_le (pos n) (pos M)))
    || (int_le (pos 0) (pos n) && int_le (pos n) ((v -ℤ pos 1) -ℤ (pos c *ℤ (pos M +ℤ pos 1))))) ≡ true
counted_test M n c v l h =
    let p : Bool = int_le v (pos n) && int_le (pos n) (v +ℤ ((pos c -ℤ pos 1) *ℤ (pos M +ℤ pos 1))) in
    let q : Bool = int_le ((v +ℤ pos 1) +ℤ (pos c *ℤ (pos M +ℤ pos 1))) (pos n) && int_le (pos n) (pos M) in
    let r : Bool = int_le (pos 0) (pos n) && int_le (pos n) ((v -ℤ pos 1) -ℤ (pos c *ℤ (pos M +ℤ pos 1))) in
    elim (is_unit v (pos n) c h) [
      | inl e ↦ first_of p q r (at_value v (pos n) ((pos c -ℤ pos 1) *ℤ (pos M +ℤ pos 1)) (less_one c (pos M +ℤ pos 1) e.0) e.1)
      | inr e ↦ elim (either_side v (pos n)) [
        | inl g ↦ second_of p q r (above_value v (pos n) (pos c *ℤ (pos M +ℤ pos 1)) (pos M) (no_times c (pos M +ℤ pos 1) e.0) e.1 g (omega (arith, ints)))
        | inr g ↦ third_of p q r (below_value v (pos c *ℤ (pos M +ℤ pos 1)) n (no_times c (pos M +ℤ pos 1) e.0) e.1 g)
      ]
    ]

-- the counters of xs are numbered from m on
abbrev pub AllCounts : Assignment → ℤ → List ℕ → ℕ → Type 0
AllCounts b v [] m = Unit {0}
AllCounts b v (x ∷ xs) m = (b m ≡ unit v (pos (b x))) × AllCounts b v xs (suc m)

module _ (M : ℕ) (b : Assignment) (small : (v : ℕ) → b v ≤ M) where
  counter_is : (v : ℤ) (x c : ℕ) → has (set_of M (singles b) (counter v x c).range)
      (b c) ≡ ((int_eq v (pos (b x)) && int_eq (pos 1) (pos (b c))) || (not (int_eq v (pos (b x))) && int_eq (pos 0) (pos (b c))))
  counter_is v x c =
      let e = where_is_test M b small v x (pos 1) (b c) in
      let f = other_is M b small v x (b c) in
      set_singles M b (Union (where_is v x (pos 1)) (where_other v x)) (b c) (small c) ∙ two e f where
        two : {p q r s : Bool} → p ≡ q → r ≡ s → (p || r) ≡ (q || s)
        two e f = cc

  counts_inside : (v : ℤ) (xs : List ℕ) (m : ℕ) → AllCounts b v xs m → Inside M b (counts v xs m)
  counts_inside v [] m h = tt
  counts_inside v (x ∷ xs) m h = (
    counter_is v x m ∙ count_test v (pos (b x)) (b m) h.0,
    (
      set_singles M b (counted v x m).range (b x) (small x) ∙ counted_test M (b x) (b m) v (small x) h.0,
      counts_inside v xs (suc m) h.1,
    ),
  )

  inside_counts : (v : ℤ) (xs : List ℕ) (m : ℕ) → Inside M b (counts v xs m) → AllCounts b v xs m
  inside_counts v [] m h = tt
  inside_counts v (x ∷ xs) m h = (test_count v (pos (b x)) (b m) (sym (counter_is v x m) ∙ h.0), inside_counts v xs (suc m) h.1.1)

-- their sum is the number of occurrences
total_units : (b : Assignment) (v : ℤ) (xs : List ℕ) (m : ℕ) → AllCounts b v xs m → total b (units xs m) ≡ pos (occurrences (values_at b xs) v)
total_units b v [] m h = refl
total_units b v (x ∷ xs) m h = more v (pos (b x)) (b m) (occurrences (values_at b xs) v) (total b (units xs (suc m))) h.0 (total_units b v xs (suc m) h.1) where
  more : (v z : ℤ) (c k : ℕ) (t : ℤ) → c ≡ unit v z → t ≡ pos k → (pos 1 *ℤ pos c) +ℤ t ≡ pos (cond (int_eq z v) (suc k) k)
  more v z c k t h g = by_test (int_eq z v) h where
    by_test : (q : Bool) → c ≡ cond q 1 0 → (pos 1 *ℤ pos c) +ℤ t ≡ pos (cond q (suc k) k)
    by_test true e = let f : 1 * c ≡ 1 = omega arith in omega (arith, ints)
    by_test false e = let f : 1 * c ≡ 0 = omega arith in omega (arith, ints)

pub units_nonzero : (xs : List ℕ) (m : ℕ) → NoneZero (units xs m)
units_nonzero [] m = tt
units_nonzero (x ∷ xs) m = ((λ e. absurd (one e)), units_nonzero xs (suc m)) where
  one : pos 1 ≡ pos 0 → ⊥
  one e = omega (arith, ints)

-- all below m
abbrev pub AllLess : ℕ → List ℕ → Type 0
AllLess m [] = Unit {0}
AllLess m (x ∷ xs) = (x < m) × AllLess m xs

less_more : (xs : List ℕ) (m k : ℕ) → m ≤ k → AllLess m xs → AllLess k xs
less_more [] m k h l = tt
less_more (x ∷ xs) m k h l = (omega (arith, l.0), less_more xs m k h l.1)

pub placed_below : (n : ℕ) (ms : List Member) (k : ℕ) → n ≤ k → MembersBelow n ms → AllLess (fresh_after k ms) (placed k ms)
placed_below n [] k h m = tt
placed_below n (Open x ∷ ms) k h m = (let e = fresh_grows ms k in let f = m.0 in omega arith, placed_below n ms k h m.1)
placed_below n (Known z ∷ ms) k h m = (let e = fresh_grows ms (suc k) in omega arith, placed_below n ms (suc k) (omega arith) m.1)

-- a with the counts of xs at the added variables
abbrev counting : Assignment → ℤ → List ℕ → ℕ → Assignment
counting a v [] m = a
counting a v (x ∷ xs) m = counting (changed a m (unit v (pos (a x)))) v xs (suc m)

counting_below : (xs : List ℕ) (a : Assignment) (v : ℤ) (m w : ℕ) → w < m → counting a v xs m w ≡ a w
counting_below [] a v m w h = refl
counting_below (x ∷ xs) a v m w h = counting_below xs (changed a m (unit v (pos (a x)))) v (suc m) w (omega arith) ∙ changed_other a m (unit v (pos (a x))) w (λ e. absurd (omega arith))

unit_small : (M : ℕ) (v z : ℤ) → 0 < M → unit v z ≤ M
unit_small M v z h = elim (int_eq z v) as (λ c. cond c 1 0 ≤ M) [ true ↦ omega arith | false ↦ omega arith ]

counting_small : (M : ℕ) → 0 < M → (xs : List ℕ) (a : Assignment) (v : ℤ) (m : ℕ) → ((w : ℕ) → a w ≤ M) → (w : ℕ) → counting a v xs m w ≤ M
counting_small M p [] a v m s w = s w
counting_small M p (x ∷ xs) a v m s w = counting_small M p xs (changed a m (unit v (pos (a x)))) v (suc m) (changed_small M a m (unit v (pos (a x))) (unit_small M v (pos (a x)) p) s) w

counting_counts : (xs : List ℕ) (a : Assignment) (v : ℤ) (m : ℕ) → AllLess m xs → AllCounts (counting a v xs m) v xs m
counting_counts [] a v m l = tt
counting_counts (x ∷ xs) a v m l =
    let c = changed a m (unit v (pos (a x))) in
    let e : counting c v xs (suc m) m ≡ unit v (pos (a x)) = counting_below xs c v (suc m) m (omega arith) ∙ changed_here a m (unit v (pos (a x))) in
    let f : counting c v xs (suc m) x ≡ a x = counting_below xs c v (suc m) x (let k = l.0 in omega arith) ∙ changed_other a m (unit v (pos (a x))) x (λ i. absurd (let k = l.0 in omega arith)) in
    (e ∙ ap (λ k. unit v (pos k)) (sym f), counting_counts xs c v (suc m) (less_more xs m (suc m) (omega arith) l.1))

-- two that agree below m and count agree at the counters
counts_agree : (xs : List ℕ) (v : ℤ) (m : ℕ) (b c : Assignment) → AllLess m xs → ((w : ℕ) → w < m → b w ≡ c w) → AllCounts b v xs m → AllCounts c v xs m → (w : ℕ) → w < m + length xs → b w ≡ c w
counts_agree [] v m b c l s h g w k = s w (omega arith)
counts_agree (x ∷ xs) v m b c l s h g w k =
    counts_agree xs v (suc m) b c (less_more xs m (suc m) (omega arith) l.1)
    (λ u i. elim (cases_Bool (u == m)) [ inl e ↦ subst (λ y. b y ≡ c y) (sym (eqb-true u m e)) (h.0 ∙ (ap (λ y. unit v (pos y)) (s x l.0) ∙ sym g.0)) | inr e ↦ s u (below_other u m e i) ])
    h.1 g.1 w (omega arith)

-- the parts of an fd_atmost
pub record IsAtmostGoal (m l v : Term) (n : ℕ) (x : Expansion) : Type 0 where
  pub limit : ℤ
  pub members : List Member
  pub value : ℤ
  pub from_limit : as_integer m ≡ Ok limit
  pub from_list : walk as_member l ≡ Ok members
  pub from_value : as_integer v ≡ Ok value
  pub rows : atmost_rows limit members value n ≡ x

pub atmost_ok : (m l v : Term) (n : ℕ) (x : Expansion) → atmost m l v n ≡ Ok x → IsAtmostGoal m l v n x
atmost_ok m l v n x h =
    let k = both_ok (λ p w. Ok (atmost_rows p.0 p.1 w n)) (of_both pair (as_integer m) (walk as_member l)) (as_integer v) x h in
    let j = both_ok pair (as_integer m) (walk as_member l) k.left k.from_left in
    let g : (j.left, j.right) ≡ k.left = cc (j.both) in
    let f : atmost_rows k.left.0 k.left.1 k.right n ≡ x = cc (k.both) in
    record {
      limit = j.left;
      members = j.right;
      value = k.right;
      from_limit = j.from_left;
      from_list = j.from_right;
      from_value = k.from_right;
      rows = subst (λ p. atmost_rows p.0 p.1 k.right n ≡ x) (sym g) f;
    }

values_same : (m : ℕ) (b c : Assignment) → ((w : ℕ) → w < m → b w ≡ c w) → (xs : List ℕ) → AllLess m xs → values_at b xs ≡ values_at c xs
values_same m b c s [] l = refl
values_same m b c s (x ∷ xs) l = let e = s x l.0 in let f = values_same m b c s xs l.1 in cc

pub equated_same : (ms : List Member) (k : ℕ) (b c : Assignment) → ((w : ℕ) → w < fresh_after k ms → b w ≡ c w) → AllEquated b (equated_from k ms) → AllEquated c (equated_from k ms)
equated_same [] k b c s e = tt
equated_same (Open x ∷ ms) k b c s e = equated_same ms k b c s e
equated_same (Known z ∷ ms) k b c s e = (let f = s k (let g = fresh_grows ms (suc k) in omega arith) in let h = e.0 in omega (arith, ints), equated_same ms (suc k) b c s e.1)

to_le : (a b : ℤ) → a ≤ℤ b → int_le a b ≡ true
to_le a b h = grind (arith, ints)

pub at_most : (M N : ℕ) → N ≤ M → (m l v : Term) (n : ℕ) (x : Expansion) (a : Assignment) → 0 < N → TermBelow n l → ((w : ℕ) → a w ≤ N) → atmost m l v n ≡ Ok x
    → IsRewritten M N Atmost (term m (term l (term v no_terms))) n x a
at_most M N up m l v n x a p bl small h =
    let g = atmost_ok m l v n x h in
    let ms = g.members in
    let xs = placed n ms in
    let k = fresh_after n ms in
    let r = members_read n a l ms g.from_list in
    let wm = integer_read a m g.limit g.from_limit in
    let wv = integer_read a v g.value g.from_value in
    let less = placed_below n ms n (omega arith) (r.below bl) in
    subst (λ y. IsRewritten M N Atmost (term m (term l (term v no_terms))) n y a) g.rows (record {
      one = λ sat.
          let known = known_numbers N a ms (subst (AreNumbers N) r.worths sat.0) in
          let c = filled a n ms in
          let b = counting c g.value xs k in
          let c_small = filled_small N ms a n known small in
          let b_small = counting_small N p xs c g.value k c_small in
          let b_within = up_to M N up b b_small in
          let same : (w : ℕ) → w < k → b w ≡ c w = λ w i. counting_below xs c g.value k w i in
          let equated = filled_equated N ms a n known in
          let all = counting_counts xs c g.value k less in
          let w : values_at b xs ≡ worths a l = values_same k b c same xs less ∙ (placed_worths n a c (filled_below ms a n) ms n (r.below bl) equated ∙ sym r.worths) in
          let t : total b (units xs k) ≡ pos (occurrences (worths a l) (worth a v)) = total_units b g.value xs k all
          ∙ (ap (λ zs. pos (occurrences zs g.value)) w ∙ ap (λ z. pos (occurrences (worths a l) z)) (sym wv)) in
          let f = form_fits M (k + length xs) IsAtMost (units xs k) g.limit b b_within (units_nonzero xs k) (to_le (total b (units xs k)) g.limit (rw (t, ← wm) sat.1)) in
          record {
            extension = b;
            extends = record { within = b_small; same = λ u i. same u (let j = fresh_grows ms n in omega arith) ∙ filled_below ms a n u i };
            fits = record {
              equated = equated_same ms n c b (λ u i. sym (same u i)) equated;
              inside = inside_append M b (counts g.value xs k) (linear_rows IsAtMost (units xs k) g.limit (k + length xs)).ranges (counts_inside M b b_within g.value xs k all) f.0.inside;
            };
            only = λ d e i u j.
                counts_agree xs g.value k d b less
                (λ q o. equated_agree ms n d c (λ s z. e.same s z ∙ sym (filled_below ms a n s z)) i.equated equated q o ∙ sym (same q o))
                (inside_counts M d (up_to M N up d e.within) g.value xs k (inside_left M d (counts g.value xs k) (linear_rows IsAtMost (units xs k) g.limit (k + length xs)).ranges i.inside)) all
                u (subst (λ y. u < y) f.1 j);
          };
      satisfied = λ b e f.
          let left = inside_left M b (counts g.value xs k) (linear_rows IsAtMost (units xs k) g.limit (k + length xs)).ranges f.inside in
          let right = inside_right M b (counts g.value xs k) (linear_rows IsAtMost (units xs k) g.limit (k + length xs)).ranges f.inside in
          let w : values_at b xs ≡ worths a l = placed_worths n a b e.same ms n (r.below bl) f.equated ∙ sym r.worths in
          let within = up_to M N up b e.within in
          let all = inside_counts M b within g.value xs k left in
          let t : total b (units xs k) ≡ pos (occurrences (worths a l) (worth a v)) = total_units b g.value xs k all
          ∙ (ap (λ zs. pos (occurrences zs g.value)) w ∙ ap (λ z. pos (occurrences (worths a l) z)) (sym wv)) in
          let s = int_le_true (total b (units xs k)) g.limit (form_holds M (k + length xs) IsAtMost (units xs k) g.limit b within (units_nonzero xs k) right) in
          (subst (AreNumbers N) w (are_numbers N b e.within xs), subst (λ z. z ≤ℤ worth a m) t (subst (λ z. total b (units xs k) ≤ℤ z) (sym wm) s));
    })
