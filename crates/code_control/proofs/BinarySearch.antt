-- Search by halves in a table whose keys rise.
use Rattle.std.proofs.Common.{◌≡◌, ◌⊎◌, ℕ, zero, suc, ◌+◌, ◌<◌, ◌≤◌, [], ◌∷◌, length, Some, slice_get, slice_index_or, ◌-◌, ◌/◌, refl, ap, sym, ◌∙◌, subst, inl}
use Rattle.std.proofs.Common.{inr, arith}
use Rattle.std.proofs.lemmas.Option.{slice_get_within, same_Some}
use Rattle.std.specs.Cmp.{int_chain}
use Rattle.std.specs.Int.Signed.{<ℤ_irrefl}
use Rattle.term_pool.proofs.Lemmas.{slice_get_found}
use Rattle.heap_cells.specs.declared.Seen.{Seen}
use Rattle.heap_cells.specs.declared.Seen.TheVariants as seen
use Rattle.wam_code.specs.declared.instruction.Key.{Key}
use Rattle.wam_code.specs.declared.instruction.Key.TheVariants.{Atom, Int, Struct}
use Rattle.wam_code.specs.Area.{Table}
use Rattle.wam_code.specs.Keys.{IsBelow, Rises}
use Rattle.code_safety.specs.declared.instruction_outcomes.Went.TheVariants.{On, Back}
use Rattle.code_control.specs.Rows.{IsKeyOf, IsKeyBelow, IsFirstRow, HasNoKey, Finds, LiesBetween}

-- ---- the order

not_itself : (k : Key) → IsBelow k k → ⊥
not_itself (Atom c) l = omega (arith, l)
not_itself (Int z) l = <ℤ_irrefl l
not_itself (Struct f n) (inl l) = omega (arith, l)
not_itself (Struct f n) (inr l) = let m = l.1 in omega (arith, m)

further : (a b c : Key) → IsBelow a b → IsBelow b c → IsBelow a c
further (Atom a) (Atom b) (Atom c) l m = omega (arith, l, m)
further (Atom a) (Atom b) (Int z) l m = absurd m
further (Atom a) (Atom b) (Struct g n) l m = absurd m
further (Atom a) (Int y) c l m = absurd l
further (Atom a) (Struct f n) c l m = absurd l
further (Int x) (Int y) (Int z) l m = int_chain x y z l m
further (Int x) (Int y) (Atom c) l m = absurd m
further (Int x) (Int y) (Struct g n) l m = absurd m
further (Int x) (Atom b) c l m = absurd l
further (Int x) (Struct f n) c l m = absurd l
further (Struct f n) (Struct g m) (Struct h k) l b = structs l b
  where
    structs : (f.number < g.number) ⊎ ((f.number ≡ g.number) × (n < m)) → (g.number < h.number) ⊎ ((g.number ≡ h.number) × (m < k)) → (f.number < h.number) ⊎ ((f.number ≡ h.number) × (n < k))
    structs (inl l) (inl b) = inl (omega (arith, l, b))
    structs (inl l) (inr b) = let e = b.0 in inl (omega (arith, l, e))
    structs (inr l) (inl b) = let e = l.0 in inl (omega (arith, e, b))
    structs (inr l) (inr b) = let d = l.1 in let e = b.1 in inr (l.0 ∙ b.0, omega (arith, d, e))
further (Struct f n) (Struct g m) (Atom c) l b = absurd b
further (Struct f n) (Struct g m) (Int z) l b = absurd b
further (Struct f n) (Atom c) k l b = absurd l
further (Struct f n) (Int z) k l b = absurd l

module _ (rows : Table) (rises : Rises rows) where
  -- a row is below all later ones
  later_above : (d i : ℕ) (p q : Key × ℕ) → slice_get rows i ≡ Some p → slice_get rows (suc (i + d)) ≡ Some q → IsBelow p.0 q.0
  later_above zero i p q f g = rises i p q f (subst (λ j. slice_get rows (suc j) ≡ Some q) (omega arith) g)
  later_above (suc d) i p q f g =
      let low : suc (i + d) < length rows = (let l = slice_get_within rows (suc (i + suc d)) q g in omega (arith, l)) in
      let r = slice_get_found rows (suc (i + d)) low in
      further p.0 r.0.0 q.0 (later_above d i p r.0 f r.1) (rises (suc (i + d)) r.0 q r.1 (subst (λ j. slice_get rows j ≡ Some q) (omega arith) g))

  far : (i j : ℕ) → i < j → (p q : Key × ℕ) → slice_get rows i ≡ Some p → slice_get rows j ≡ Some q → IsBelow p.0 q.0
  far i j l p q f g = let d : j ≡ suc (i + (j - suc i)) = omega (arith, l) in later_above (j - suc i) i p q f (subst (λ n. slice_get rows n ≡ Some q) d g)

-- ---- what is seen

-- The key of what is seen is this one.
record IsSeenAs (x : Seen) (q : Key) : Type 0 where
  pub same : (k : Key) → IsKeyOf x k → k ≡ q
  pub below : (k : Key) → IsKeyBelow x k → IsBelow k q
  pub beneath : (k : Key) → IsBelow k q → IsKeyBelow x k

seen_as : (x : Seen) → ((q : Key) × IsSeenAs x q) ⊎ ((k : Key) → IsKeyOf x k → ⊥)
seen_as (seen.Open i) = inr (λ k e. e)
seen_as (seen.Constrained i j) = inr (λ k e. e)
seen_as (seen.Atom a) = inl (Atom a, record { same = atom_same; below = λ k l. l; beneath = λ k l. l })
  where
    atom_same : (k : Key) → IsKeyOf (seen.Atom a) k → k ≡ Atom a
    atom_same (Atom b) e = ap Atom e
    atom_same (Int z) e = absurd e
    atom_same (Struct g n) e = absurd e
seen_as (seen.Int y) = inl (Int y, record { same = int_same; below = λ k l. l; beneath = λ k l. l })
  where
    int_same : (k : Key) → IsKeyOf (seen.Int y) k → k ≡ Int y
    int_same (Atom b) e = absurd e
    int_same (Int z) e = ap Int e
    int_same (Struct g n) e = absurd e
seen_as (seen.Struct f args) = inl (Struct f (length args.now), record { same = struct_same; below = λ k l. l; beneath = λ k l. l })
  where
    struct_same : (k : Key) → IsKeyOf (seen.Struct f args) k → k ≡ Struct f (length args.now)
    struct_same (Atom b) e = absurd e
    struct_same (Int z) e = absurd e
    struct_same (Struct g n) e = ap (λ h. Struct h n) e.0 ∙ ap (Struct f) e.1

-- ---- halves

abbrev pub middle : ℕ → ℕ → ℕ
middle low high = low + (high - low) / 2

abbrev pub no_row : Key × ℕ
no_row = (Atom (record { number = 0 }), 0)

pub row_there : (rows : Table) (i : ℕ) → i < length rows → slice_get rows i ≡ Some (slice_index_or rows i no_row)
row_there [] i l = absurd (omega (arith, l))
row_there (row ∷ rows) zero l = refl
row_there (row ∷ rows) (suc i) l = row_there rows i (omega (arith, l))

order : (i j : ℕ) → (i < j) ⊎ (i ≡ j) ⊎ (j < i)
order zero zero = inr (inl refl)
order zero (suc j) = inl (omega arith)
order (suc i) zero = inr (inr (omega arith))
order (suc i) (suc j) = elim (order i j) [
  | inl l ↦ inl (omega (arith, l))
  | inr (inl e) ↦ inr (inl (ap suc e))
  | inr (inr l) ↦ inr (inr (omega (arith, l)))
]

module _ (x : Seen) (rows : Table) (rises : Rises rows) (m : ℕ) (r : Key × ℕ) (there : slice_get rows m ≡ Some r) where
  row_at : (i : ℕ) (p : Key × ℕ) → slice_get rows i ≡ Some p → i ≡ m → p ≡ r
  row_at i p f e = same_Some p r (sym f ∙ ap (slice_get rows) e ∙ there)

  module _ (q : Key) (like : IsSeenAs x q) where
    not_under : IsKeyBelow x r.0 → (i : ℕ) (p : Key × ℕ) → slice_get rows i ≡ Some p → IsKeyOf x p.0 → m < i
    not_under low i p f k = elim (order i m) [
      | inl l ↦ absurd (not_itself q (further q r.0 q (subst (λ a. IsBelow a r.0) (like.same p.0 k) (far rows rises i m l p r f there)) (like.below r.0 low)))
      | inr (inl e) ↦ absurd (not_itself q (subst (λ a. IsBelow a q) (sym (ap (λ (z : Key × ℕ). z.0) (row_at i p f e)) ∙ like.same p.0 k) (like.below r.0 low)))
      | inr (inr l) ↦ l
    ]

    not_over : (IsKeyOf x r.0 → ⊥) → (IsKeyBelow x r.0 → ⊥) → (i : ℕ) (p : Key × ℕ) → slice_get rows i ≡ Some p → IsKeyOf x p.0 → i < m
    not_over other high i p f k = elim (order i m) [
      | inl l ↦ l
      | inr (inl e) ↦ absurd (other (subst (λ (z : Key × ℕ). IsKeyOf x z.0) (row_at i p f e) k))
      | inr (inr l) ↦ absurd (high (like.beneath r.0 (subst (IsBelow r.0) (like.same p.0 k) (far rows rises m i l r p there f))))
    ]

    not_before : IsKeyOf x r.0 → (i : ℕ) (p : Key × ℕ) → i < m → slice_get rows i ≡ Some p → IsKeyOf x p.0 → ⊥
    not_before here i p l f k = not_itself q (subst (λ a. IsBelow a q) (like.same p.0 k) (subst (IsBelow p.0) (like.same r.0 here) (far rows rises i m l p r f there)))

  pub upper_half : (low high n : ℕ) → n ≡ suc m → LiesBetween x rows low high → IsKeyBelow x r.0 → LiesBetween x rows n high
  upper_half low high n e between under i p f k = elim (seen_as x) [
    | inl w ↦ ((let l = not_under w.0 w.1 under i p f k in omega (arith, l, e)), (between i p f k).1)
    | inr none ↦ absurd (none p.0 k)
  ]

  pub lower_half : (low high : ℕ) → LiesBetween x rows low high → (IsKeyOf x r.0 → ⊥) → (IsKeyBelow x r.0 → ⊥) → LiesBetween x rows low m
  lower_half low high between other over i p f k = elim (seen_as x) [
    | inl w ↦ ((between i p f k).0, not_over w.0 w.1 other over i p f k)
    | inr none ↦ absurd (none p.0 k)
  ]

  first_row : (rows : Table) (m : ℕ) → slice_get rows m ≡ Some r → IsKeyOf x r.0 → ((i : ℕ) (p : Key × ℕ) → i < m → slice_get rows i ≡ Some p → IsKeyOf x p.0 → ⊥) → IsFirstRow x rows r.1
  first_row [] m e k none = absurd (cc)
  first_row (row ∷ rows) zero e k none = let same = same_Some row r e in inl (subst (λ (z : Key × ℕ). IsKeyOf x z.0) (sym same) k, ap (λ (z : Key × ℕ). z.1) same)
  first_row (row ∷ rows) (suc m) e k none = inr (none 0 row (omega arith) refl, first_row rows m e k (λ i p l f. none (suc i) p (omega (arith, l)) f))

  pub found_here : IsKeyOf x r.0 → Finds x rows (On r.1)
  found_here here = elim (seen_as x) [
    | inl w ↦ first_row rows m there here (not_before w.0 w.1 here)
    | inr none ↦ absurd (none r.0 here)
  ]

no_key : (x : Seen) (rows : Table) → ((i : ℕ) (p : Key × ℕ) → slice_get rows i ≡ Some p → IsKeyOf x p.0 → ⊥) → HasNoKey x rows
no_key x [] none = tt
no_key x (row ∷ rows) none = (none 0 row refl, no_key x rows (λ i p f. none (suc i) p f))

-- Nothing lies between.
pub found_nowhere : (x : Seen) (rows : Table) (low high : ℕ) → high ≤ low → LiesBetween x rows low high → Finds x rows Back
found_nowhere x rows low high l between = no_key x rows (λ i p f k. (let b = between i p f k in let c = b.0 in let d = b.1 in omega (arith, c, d, l)))
