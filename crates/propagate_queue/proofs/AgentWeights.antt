-- Each agent that wakes adds to the weights.
use Rattle.std.proofs.Common.{◌≡◌, ℕ, zero, suc, ◌+◌, ◌-◌, ◌<◌, ◌≤◌, Bool, true, false, cond, ◌||◌, ◌&&◌, not, ◌==◌, List, [], ◌∷◌, map, length, get_or, refl}
use Rattle.std.proofs.Common.{ap, sym, ◌∙◌, subst, inl, inr, arith, eqb-true}
use Rattle.std.proofs.lemmas.Bool.{true≢false, or_cases}
use Rattle.std.specs.List.{list_any}
use Rattle.propagate_queue.proofs.StoreFields.{sum_whole}
use Rattle.fd_language.specs.declared.range_node.Feature.{Feature}
use Rattle.fd_language.specs.declared.range_node.Feature.TheVariants as feature
use Rattle.fd_language.specs.Family.{Family, has}
use Rattle.fd_language.specs.Features.{is_val, range_features}
use Rattle.fd_language.specs.Needs.{once}
use Rattle.fd_language.specs.Range.{Indexical, Range, reads, is_several}
use Rattle.fd_language.proofs.Lemmas.{has_once, reads_of_features}
use Rattle.dependency_chains.specs.declared.Change.{Change}
use Rattle.dependency_chains.specs.WokenAgents.{change_of, wakes, is_woken}
use Rattle.fd_model.specs.Weights.{reads_more, weight, sum_over, weights}
use Rattle.propagate_queue.specs.Queues.{flag_at, flagged}

-- the variables that are read are those of the features
abbrev firsts : List (ℕ × Feature) → List ℕ
firsts ds = map (λ d. d.0) ds

woken_reads : (c : Change) (x : ℕ) (ds : List (ℕ × Feature)) → is_woken c x ds ≡ true → has (firsts ds) x ≡ true
woken_reads c x [] h = h
woken_reads c x (d ∷ ds) h = step (d.0 == x) (wakes c d.1) (is_woken c x ds) (has (firsts ds) x) h (woken_reads c x ds) where
  step : (a b e f : Bool) → ((a && b) || e) ≡ true → (e ≡ true → f ≡ true) → (a || f) ≡ true
  step true b e f h g = refl
  step false b e f h g = g h

pub read_once : (c : Change) (x : ℕ) (r : Range) → is_woken c x (range_features r) ≡ true → has (once (reads r)) x ≡ true
read_once c x r h = has_once (reads r) x ∙ (ap (λ l. has l x) (reads_of_features r) ∙ woken_reads c x (range_features r) h)

-- who reads the value alone is woken where one value is left
by_value : (c : Change) (x : ℕ) (ds : List (ℕ × Feature)) → is_woken c x ds ≡ true → list_any (λ d. (d.0 == x) && not (is_val d.1)) ds ≡ false → c.fixed ≡ true
by_value c x [] h k = absurd (true≢false (sym h))
by_value c x ((y, feature.Val) ∷ ds) h k = step (y == x) c.fixed (is_woken c x ds) (list_any (λ d. (d.0 == x) && not (is_val d.1)) ds) h k (by_value c x ds) where
  step : (a b e f : Bool) → ((a && b) || e) ≡ true → ((a && false) || f) ≡ false → (e ≡ true → f ≡ false → b ≡ true) → b ≡ true
  step a true e f h k g = refl
  step a false e f h k g = g (off a e h) (off2 a f k) where
    off : (a e : Bool) → ((a && false) || e) ≡ true → e ≡ true
    off a e h = grind arith

    off2 : (a f : Bool) → ((a && false) || f) ≡ false → f ≡ false
    off2 a f h = grind arith
by_value c x ((y, feature.Min) ∷ ds) h k = more (y == x) c.min (is_woken c x ds) (list_any (λ d. (d.0 == x) && not (is_val d.1)) ds) c.fixed h k (by_value c x ds) where
  more : (a b e f z : Bool) → ((a && b) || e) ≡ true → ((a && true) || f) ≡ false → (e ≡ true → f ≡ false → z ≡ true) → z ≡ true
  more true b e f z h k g = absurd (true≢false k)
  more false b e f z h k g = g h k
by_value c x ((y, feature.Max) ∷ ds) h k = more (y == x) c.max (is_woken c x ds) (list_any (λ d. (d.0 == x) && not (is_val d.1)) ds) c.fixed h k (by_value c x ds) where
  more : (a b e f z : Bool) → ((a && b) || e) ≡ true → ((a && true) || f) ≡ false → (e ≡ true → f ≡ false → z ≡ true) → z ≡ true
  more true b e f z h k g = absurd (true≢false k)
  more false b e f z h k g = g h k
by_value c x ((y, feature.Dom) ∷ ds) h k = more (y == x) true (is_woken c x ds) (list_any (λ d. (d.0 == x) && not (is_val d.1)) ds) c.fixed h k (by_value c x ds) where
  more : (a b e f z : Bool) → ((a && b) || e) ≡ true → ((a && true) || f) ≡ false → (e ≡ true → f ≡ false → z ≡ true) → z ≡ true
  more true b e f z h k g = absurd (true≢false k)
  more false b e f z h k g = g h k

several_longer : (xs ys : List ℕ) → length ys ≤ length xs → is_several ys ≡ true → is_several xs ≡ true
several_longer xs [] l s = absurd (true≢false (sym s))
several_longer xs (a ∷ []) l s = absurd (true≢false (sym s))
several_longer [] (a ∷ b ∷ bs) l s = absurd (omega (arith, l))
several_longer (c ∷ []) (a ∷ b ∷ bs) l s = absurd (omega (arith, l))
several_longer (c ∷ d ∷ ds) (a ∷ b ∷ bs) l s = refl

-- a smaller set weighs no less
weight_grows : (b s0 s s' : Bool) (n0 n n' : ℕ) → n' ≤ n → n ≤ n0 → (s' ≡ true → s ≡ true) → cond b (n0 - n) (cond (s0 && not s) 1 0) ≤ cond b (n0 - n') (cond (s0 && not s') 1 0)
weight_grows true s0 s s' n0 n n' h l k = omega (arith, h, l)
weight_grows false true true true n0 n n' h l k = omega arith
weight_grows false true true false n0 n n' h l k = omega arith
weight_grows false true false true n0 n n' h l k = absurd (true≢false (sym (k refl)))
weight_grows false true false false n0 n n' h l k = omega arith
weight_grows false false s s' n0 n n' h l k = omega arith

weight_jumps : (b s0 s s' : Bool) (n0 n n' : ℕ) → n' < n → n ≤ n0 → (b ≡ false → (s ≡ true) × (s' ≡ false)) → (s ≡ true → s0 ≡ true)
    → cond b (n0 - n) (cond (s0 && not s) 1 0) < cond b (n0 - n') (cond (s0 && not s') 1 0)
weight_jumps true s0 s s' n0 n n' h l k m = omega (arith, h, l)
weight_jumps false true true true n0 n n' h l k m = absurd (true≢false (k refl).1)
weight_jumps false true true false n0 n n' h l k m = omega arith
weight_jumps false true false s' n0 n n' h l k m = absurd (true≢false (sym (k refl).0))
weight_jumps false false true s' n0 n n' h l k m = absurd (true≢false (sym (m refl)))
weight_jumps false false false s' n0 n n' h l k m = absurd (true≢false (sym (k refl).0))

sum_jumps : (ys : List ℕ) (f g : ℕ → ℕ) (x : ℕ) → ((y : ℕ) → f y ≤ g y) → has ys x ≡ true → f x < g x → sum_over ys f < sum_over ys g
sum_jumps [] f g x h i l = absurd (true≢false (sym i))
sum_jumps (y ∷ ys) f g x h i l = elim (or_cases (y == x) (has ys x) i) [
  | inl e ↦ let here : f y < g y = subst (λ z. f z < g z) (sym (eqb-true y x e)) l in omega (arith, here, sum_whole ys f g h)
  | inr e ↦ omega (arith, h y, sum_jumps ys f g x h e l)
]

split_and : (a b : Bool) → (a && not b) ≡ true → (a ≡ true) × (b ≡ false)
split_and a b h = grind arith

-- from the sets at the start, S is where propagation stands, and T has fewer values of x
module _ (start S T : Family) (x : ℕ) (shorter : (y : ℕ) → length (S y) ≤ length (start y)) (less : (y : ℕ) → length (T y) ≤ length (S y)) (here : length (T x) < length (S x)) where
  each_grows : (r : Range) (y : ℕ) → weight r start S y ≤ weight r start T y
  each_grows r y = weight_grows (reads_more r y) (is_several (start y)) (is_several (S y)) (is_several (T y)) (length (start y)) (length (S y)) (length (T y))
      (less y) (shorter y) (several_longer (S y) (T y) (less y))

  woken_jumps : (r : Range) → is_woken (change_of (S x) (T x)) x (range_features r) ≡ true → sum_over (once (reads r)) (weight r start S) < sum_over (once (reads r)) (weight r start T)
  woken_jumps r h = sum_jumps (once (reads r)) (weight r start S) (weight r start T) x (each_grows r) (read_once (change_of (S x) (T x)) x r h)
      (weight_jumps (reads_more r x) (is_several (start x)) (is_several (S x)) (is_several (T x)) (length (start x)) (length (S x)) (length (T x)) here (shorter x)
      (λ e. split_and (is_several (S x)) (is_several (T x)) (by_value (change_of (S x) (T x)) x (range_features r) h e))
      (several_longer (start x) (S x) (shorter x)))

  -- those that were put on the agenda are paid for
  pub paid : (ps : List Indexical) (flags flags' : List Bool) (woken : ℕ → Bool) → length flags ≡ length ps → length flags' ≡ length ps → ((k : ℕ) → flag_at flags' k ≡ (flag_at flags k || woken k))
      → ((k : ℕ) (d : Indexical) → k < length ps → woken k ≡ true → is_woken (change_of (S x) (T x)) x (range_features (get_or ps k d).range) ≡ true)
      → flagged flags' + weights ps start S ≤ flagged flags + weights ps start T
  paid [] [] [] woken l m f w = omega arith
  paid [] (b ∷ bs) fs woken l m f w = absurd (omega (arith, l))
  paid [] [] (c ∷ cs) woken l m f w = absurd (omega (arith, m))
  paid (p ∷ ps) [] fs woken l m f w = absurd (omega (arith, l))
  paid (p ∷ ps) (b ∷ bs) [] woken l m f w = absurd (omega (arith, m))
  paid (p ∷ ps) (b ∷ bs) (c ∷ cs) woken l m f w =
      let later = paid ps bs cs (λ k. woken (suc k)) (omega (arith, l)) (omega (arith, m)) (λ k. f (suc k)) (λ k d h e. w (suc k) d (omega (arith, h)) e) in
      let grows : sum_over (once (reads p.range)) (weight p.range start S) ≤ sum_over (once (reads p.range)) (weight p.range start T) = sum_whole
      (once (reads p.range)) (weight p.range start S) (weight p.range start T) (each_grows p.range) in
      first b c (woken zero) (sum_over (once (reads p.range)) (weight p.range start S)) (sum_over (once (reads p.range)) (weight p.range start T)) (flagged bs)
      (flagged cs) (weights ps start S) (weights ps start T) (f zero) later grows (λ e. woken_jumps p.range (w zero p (omega arith) e))
    where
      first : (b c w : Bool) (s t n m u v : ℕ) → c ≡ (b || w) → m + u ≤ n + v → s ≤ t → (w ≡ true → s < t) → (cond c 1 0 + m) + (s + u) ≤ (cond b 1 0 + n) + (t + v)
      first true true w s t n m u v e h g k = omega (arith, h, g)
      first true false w s t n m u v e h g k = absurd (true≢false (sym e))
      first false true true s t n m u v e h g k = omega (arith, h, k refl)
      first false false true s t n m u v e h g k = absurd (true≢false (sym e))
      first false true false s t n m u v e h g k = absurd (true≢false e)
      first false false false s t n m u v e h g k = omega (arith, h, g)
