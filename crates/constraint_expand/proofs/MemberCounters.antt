-- Counters of members, one by one.
use Rattle.std.proofs.Common.{◌≡◌, ℕ, zero, suc, ◌+◌, ◌<◌, ◌≤◌, ◌^◌, Bool, true, false, cond, ℤ, pos, ◌<ℤ◌, List, [], ◌∷◌, ◌++◌, length, drop, get_or, refl}
use Rattle.std.proofs.Common.{sym, ap, subst, ◌∙◌, arith, append_assoc, append-nil, Ok}
use Rattle.std.specs.Prelude.{IfOk}
use Rattle.std.proofs.lemmas.Int.{ints}
use Rattle.std.proofs.lemmas.List.{drop_all, drop_more}
use Rattle.fd_language.specs.Term.{Term}
use Rattle.fd_language.specs.Range.{Indexical}
use Rattle.fd_model.specs.Linear.{Comparison, IsAtMost, of_both}
use Rattle.fd_model.specs.LinearRows.{Expansion, linear_rows, compares, no_number}
use Rattle.fd_model.specs.Members.{Member, as_member, as_integer, walk, placed, equated_from, fresh_after}
use Rattle.fd_model.specs.ListRows.{counts, units, atmost_rows}
use Rattle.fd_model.specs.ConstraintExpansion.{pair, atmost}
use Rattle.constraint_expand.specs.declared.members.Placed.{Placed}
use Rattle.constraint_expand.specs.Lists.{AllPlaced}
use Rattle.constraint_expand.specs.Nodes.{CanTurn}
use Rattle.linear_forms.specs.IntegerSums.{AreIntegers}
use Rattle.constraint_expand.proofs.DifferentVariables.{made}

-- a counter more in the sum
pub sum_turns : (xs : List ℕ) (n : ℕ) (made more : List (ℕ × ℤ)) (i : ℕ) → i < length xs → made ++ units (drop i xs) (n + i) ≡ units xs n
    → more ≡ made ++ (n + i, pos 1) ∷ [] → more ++ units (drop (i + 1) xs) (n + (i + 1)) ≡ units xs n
sum_turns xs n made more i h f e =
    let rest = units (drop (i + 1) xs) (n + (i + 1)) in
    let count : suc (n + i) ≡ n + (i + 1) = omega arith in
    let terms : units (drop i xs) (n + i) ≡ (n + i, pos 1) ∷ rest = ap (λ ys. units ys (n + i)) (drop_more xs i 0 h) ∙ ap (λ k. (n + i, pos 1) ∷ units (drop (i + 1) xs) k) count in
    ap (λ ts. ts ++ rest) e ∙ append_assoc made ((n + i, pos 1) ∷ []) rest ∙ ap (λ ts. made ++ ts) (sym terms) ∙ f

pub sum_ends : (xs : List ℕ) (n : ℕ) (made : List (ℕ × ℤ)) (i : ℕ) → length xs ≤ i → made ++ units (drop i xs) (n + i) ≡ units xs n → made ≡ units xs n
sum_ends xs n made i h f = sym (append-nil made) ∙ ap (λ ys. made ++ units ys (n + i)) (sym (drop_all i xs h)) ∙ f

-- The coefficients of the sum are 1.
pub units_integers : (xs : List ℕ) (n : ℕ) → AreIntegers (units xs n)
units_integers [] n = refl
units_integers (x ∷ xs) n = units_integers xs (suc n)

pub units_turn : (xs : List ℕ) (n : ℕ) (z : ℤ) → CanTurn (units xs n) z
units_turn xs n z i h = absurd (by xs n i h) where
  by : (xs : List ℕ) (n i : ℕ) → (get_or (units xs n) i (0, pos 0)).1 <ℤ pos 0 → ⊥
  by [] n i h = omega (arith, ints)
  by (x ∷ xs) n zero h = omega (arith, ints)
  by (x ∷ xs) n (suc i) h = by xs (suc n) i h

pub length_units : (xs : List ℕ) (n : ℕ) → length (units xs n) ≡ length xs
length_units [] n = refl
length_units (x ∷ xs) n = ap suc (length_units xs (suc n))

rows_grow : (k : Comparison) (ts : List (ℕ × ℤ)) (c : ℤ) (n : ℕ) → n ≤ (linear_rows k ts c n).fresh
rows_grow k [] c n = by (compares k (pos 0) c) where
  by : (b : Bool) → (let x : Expansion = cond b (record { equated = []; ranges = []; fresh = n })
      (record { equated = []; ranges = record { target = n; range = no_number } ∷ []; fresh = suc n }) in n ≤ x.fresh)
  by true = omega arith
  by false = omega arith
rows_grow k (t ∷ ts) c n = omega arith

pub counters_fit : (n : ℕ) (ms : List Member) (p : Placed) (xs : List ℕ) → AllPlaced n ms p → xs ≡ p.variables.items → fresh_after n ms + length (placed n ms) < 2 ^ 64 → p.fresh + length xs < 2 ^ 64
counters_fit n ms p xs a e h =
    let f = a.fresh in
    let g : length xs ≡ length (placed n ms) = ap length (e ∙ a.variables) in
    omega arith

-- the terms of the sum, as they are made of the placed members
pub record Summing (n : ℕ) (ms : List Member) (p : Placed) (xs : List ℕ) (us ts : List (ℕ × ℤ)) : Type 0 where
  pub placed_all : AllPlaced n ms p
  pub variables : xs ≡ p.variables.items
  pub made : us ≡ units xs p.fresh
  pub terms : ts ≡ us

module _ (n : ℕ) (ms : List Member) (p : Placed) (xs : List ℕ) (us ts : List (ℕ × ℤ)) (s : Summing n ms p xs us ts) where
  pub sum_terms : ts ≡ units (placed n ms) (fresh_after n ms)
  sum_terms = s.terms ∙ s.made ∙ (λ i. units ((s.variables ∙ s.placed_all.variables) i) (s.placed_all.fresh i))

  pub sum_next : (k : ℕ) → k ≡ length us → p.fresh + k ≡ fresh_after n ms + length (placed n ms)
  sum_next k e =
      let f = s.placed_all.fresh in
      let g : length us ≡ length (placed n ms) = ap length (sym s.terms ∙ sum_terms) ∙ length_units (placed n ms) (fresh_after n ms) in
      omega arith

-- the parts of the constraint, as they are read
module _ (m l v : Term) (n : ℕ) (z : ℤ) (ms : List Member) (w : ℤ) (e : as_integer m ≡ Ok z) (f : walk as_member l ≡ Ok ms) (g : as_integer v ≡ Ok w) where
  pub atmost_is : atmost m l v n ≡ Ok (atmost_rows z ms w n)
  atmost_is = λ i. of_both (λ p y. Ok (atmost_rows p.0 p.1 y n)) (of_both pair (e i) (f i)) (g i)

  -- The counters end below the end of the fresh numbers.
  pub atmost_ends : IfOk (atmost m l v n) (λ x. x.fresh < 2 ^ 64) → fresh_after n ms + length (placed n ms) < 2 ^ 64
  atmost_ends h =
      let k : (atmost_rows z ms w n).fresh < 2 ^ 64 = subst (λ r. IfOk r (λ x. x.fresh < 2 ^ 64)) atmost_is h in
      let j = rows_grow IsAtMost (units (placed n ms) (fresh_after n ms)) z (fresh_after n ms + length (placed n ms)) in
      omega arith

  pub rows_end : IfOk (atmost m l v n) (λ x. x.fresh < 2 ^ 64) → (atmost_rows z ms w n).fresh < 2 ^ 64
  rows_end h = subst (λ r. IfOk r (λ x. x.fresh < 2 ^ 64)) atmost_is h

  -- What is listed is what the definition gives.
  pub atmost_expands : (p : Placed) → AllPlaced n ms p → (us : List (ℕ × ℤ)) → us ≡ units (placed n ms) (fresh_after n ms) → (k : ℕ)
      → k ≡ fresh_after n ms + length (placed n ms) → (ps : List Indexical)
      → ps ≡ (linear_rows IsAtMost us z k).ranges → (added : ℕ) → added ≡ (linear_rows IsAtMost us z k).fresh → (x : Expansion) → x.equated ≡ p.equated.items
      → x.ranges ≡ counts w p.variables.items p.fresh ++ ps → x.fresh ≡ added
      → atmost m l v n ≡ Ok x
  atmost_expands p a us u k count ps r added b x e ranges f =
      let xs = placed n ms in
      let first = fresh_after n ms in
      let same : linear_rows IsAtMost us z k ≡ linear_rows IsAtMost (units xs first) z (first + length xs) = λ i. linear_rows IsAtMost (u i) z (count i) in
      let all : counts w p.variables.items p.fresh ++ ps ≡ counts w xs first ++ (linear_rows IsAtMost (units xs first) z (first + length xs)).ranges =
      (λ i. counts w (a.variables i) (a.fresh i) ++ r i) ∙ ap (λ (y : Expansion). counts w xs first ++ y.ranges) same in
      atmost_is ∙ ap Ok (made x (equated_from n ms) (counts w xs first ++ (linear_rows IsAtMost (units xs first) z (first + length xs)).ranges)
      (linear_rows IsAtMost (units xs first) z (first + length xs)).fresh (e ∙ a.equated) (ranges ∙ all) (f ∙ b ∙ ap (λ (y : Expansion). y.fresh) same))
