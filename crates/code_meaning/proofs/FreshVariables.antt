-- Fresh variables that are equated with integers.
use Rattle.std.proofs.Common.{◌≡◌, ℕ, suc, ◌+◌, ◌<◌, ◌≤◌, true, cond, ◌==◌, ℤ, List, [], ◌∷◌, ◌++◌, length, refl, ap, sym, ◌∙◌, inl, inr, arith, eqb-true}
use Rattle.std.proofs.Common.{eq-eqb}
use Rattle.std.proofs.lemmas.Bool.{cases_Bool, cases_eq, or_left, or_right}
use Rattle.fd_language.specs.Family.{has}
use Rattle.fd_language.specs.Range.{Indexical}
use Rattle.fd_language.specs.Term.{Var, Int, Substitution}
use Rattle.fd_language.specs.Unifier.{Equation, Unifies}
use Rattle.fd_model.specs.ConstraintExpansion.{equations}
use Rattle.fd_model.specs.Posting.{slot, integer_of}
use Rattle.fd_model.proofs.Lemmas.{join_both, split_both}
use Rattle.heap_cells.specs.Cells.{Cells}
use Rattle.branch_meaning.specs.Heap.{EquationsOf}
use Rattle.branch_meaning.specs.Rows.{slot_numbers}
use Rattle.branch_meaning.proofs.Lemmas.{more_each, below_both, AreConsecutive, Or, with_one}
use Rattle.branch_lemmas.specs.Frames.{IsKept}
use Rattle.branch_lemmas.proofs.Lemmas.{kept_known, kept_place, kept_forget, one_here, one_else}

-- each of these variables as its integer
abbrev pub numbered : List (ℕ × ℤ) → Substitution → Substitution
numbered [] s = s
numbered (d ∷ ds) s = numbered ds (with_one d.0 (Int d.1) s)

pub numbered_low : (n : ℕ) (ds : List (ℕ × ℤ)) (s : Substitution) (v : ℕ) → AreConsecutive n ds → v < n → numbered ds s v ≡ s v
numbered_low n [] s v a l = refl
numbered_low n (d ∷ ds) s v a l = numbered_low (suc n) ds (with_one d.0 (Int d.1) s) v a.1 (omega (arith, l)) ∙ one_else d.0 (Int d.1) s v (λ e. (let i = a.0 in omega (arith, e, i, l)))

pub numbered_high : (n : ℕ) (ds : List (ℕ × ℤ)) (v : ℕ) → AreConsecutive n ds → n ≤ v → v < n + length ds → (z : ℤ) × ((s : Substitution) → numbered ds s v ≡ Int z)
numbered_high n [] v a l k = absurd (omega (arith, l, k))
numbered_high n (d ∷ ds) v a l k = elim (cases_eq v n) [
  | inl e ↦ (d.1, λ s. numbered_low (suc n) ds (with_one d.0 (Int d.1) s) v a.1 (omega (arith, e)) ∙ ap (with_one d.0 (Int d.1) s) (e ∙ sym a.0) ∙ one_here d.0 (Int d.1) s)
  | inr e ↦ let more = numbered_high (suc n) ds v a.1 (omega (arith, l, e)) (omega (arith, k)) in (more.0, λ s. more.1 (with_one d.0 (Int d.1) s))
]

-- a variable in the place of an integer is seen as that integer, and others are seen as they were
pub slot_seen : (look : Substitution) (n : ℕ) (ys : List ℕ) → ((y : ℕ) → has ys y ≡ true → look y ≡ Int (integer_of (look y))) → (s : Substitution) (y : ℕ)
    → y < n → s y ≡ look y → AreConsecutive n (slot_numbers look n ys) → numbered (slot_numbers look n ys) s (slot n ys y) ≡ look y
slot_seen look n [] ints s y l e a = e
slot_seen look n (x ∷ xs) ints s y l e a = elim (cases_Bool (x == y)) [
  | inl t ↦
      let same : x ≡ y = eqb-true x y t in
      ap (λ b. numbered (slot_numbers look (suc n) xs) rest (cond b n (slot (suc n) xs y))) t ∙ numbered_low (suc n) (slot_numbers look (suc n) xs) rest n a.1 (omega arith)
      ∙ one_here n (Int (integer_of (look x))) s ∙ sym (ints x (or_left (x == x) (has xs x) (eq-eqb x x refl))) ∙ ap look same
  | inr t ↦
      ap (λ b. numbered (slot_numbers look (suc n) xs) rest (cond b n (slot (suc n) xs y))) t
      ∙ slot_seen look (suc n) xs (λ z i. ints z (or_right (x == z) (has xs z) i)) rest y (omega (arith, l)) (one_else n (Int (integer_of (look x))) s y (λ i. omega (arith, i, l)) ∙ e) a.1
]
  where
    rest : Substitution
    rest = with_one n (Int (integer_of (look x))) s

-- the equations, from the last one on, and the other way round
abbrev placed : List (ℕ × ℤ) → List Equation → List Equation
placed [] es = es
placed (d ∷ ds) es = placed ds (record { left = Int d.1; right = Var d.0 } ∷ es)

placed_there : (u : Substitution) (ds : List (ℕ × ℤ)) (es : List Equation) → Unifies u (placed ds es) → Unifies u (equations ds ++ es)
placed_there u [] es k = k
placed_there u (d ∷ ds) es k =
    let more = placed_there u ds (record { left = Int d.1; right = Var d.0 } ∷ es) k in
    let b = split_both u (equations ds) (record { left = Int d.1; right = Var d.0 } ∷ es) more in
    (sym b.1.0, join_both u (equations ds) es b.0 b.1.1)

placed_back : (u : Substitution) (ds : List (ℕ × ℤ)) (es : List Equation) → Unifies u (equations ds ++ es) → Unifies u (placed ds es)
placed_back u [] es k = k
placed_back u (d ∷ ds) es k =
    let b = split_both u (equations ds) es k.1 in
    placed_back u ds (record { left = Int d.1; right = Var d.0 } ∷ es) (join_both u (equations ds) (record { left = Int d.1; right = Var d.0 } ∷ es) b.0 (sym k.0, b.1))

module _ (M N : ℕ) (h : Cells) (qs : List Indexical) (ps : List Indexical) where
  kept_placed : (n : ℕ) (ds : List (ℕ × ℤ)) (es : List Equation) (look : Substitution) → AreConsecutive n ds → IsKept M N h qs es ps (λ v. v < n) look
      → IsKept M N h qs (placed ds es) ps (λ v. v < n + length ds) (numbered ds look)
  kept_placed n [] es look a k = kept_known M N h qs es ps (λ v. v < n) look k (λ v. v < n + 0) (λ v l. omega (arith, l)) (λ v l. omega (arith, l))
  kept_placed n (d ∷ ds) es look a k =
      let first = a.0 in
      let one = kept_place M N h qs es ps (λ v. v < n) look k d.0 (λ l. omega (arith, first, l)) (Int d.1) tt in
      let next = kept_known M N h qs (record { left = Int d.1; right = Var d.0 } ∷ es) ps (Or (λ v. v < n) d.0) (with_one d.0 (Int d.1) look) one (λ v. v < suc n)
      (λ v o. elim o [ inl e ↦ omega (arith, e, first) | inr l ↦ omega (arith, l) ]) (λ v l. elim (cases_eq v d.0) [ inl e ↦ inl e | inr e ↦ inr (omega (arith, l, e, first)) ]) in
      let more = kept_placed (suc n) ds (record { left = Int d.1; right = Var d.0 } ∷ es) (with_one d.0 (Int d.1) look) a.1 next in
      kept_known M N h qs (placed (d ∷ ds) es) ps (λ v. v < suc n + length ds) (numbered (d ∷ ds) look) more (λ v. v < n + suc (length ds)) (λ v l. omega (arith, l)) (λ v l. omega (arith, l))

  equations_low : (n : ℕ) (ds : List (ℕ × ℤ)) → AreConsecutive n ds → EquationsOf (λ v. v < n + length ds) (equations ds)
  equations_low n [] a = tt
  equations_low n (d ∷ ds) a = (
    ((let e = a.0 in omega (arith, e)), tt),
    more_each (λ v. v < suc n + length ds) (λ v. v < n + suc (length ds)) (λ v l. omega (arith, l)) (equations ds) (equations_low (suc n) ds a.1),
  )

  -- The heap stands for the branch with fresh variables that are integers.
  pub kept_numbered : (n : ℕ) (ds : List (ℕ × ℤ)) (es : List Equation) (look : Substitution) → AreConsecutive n ds → IsKept M N h qs es ps (λ v. v < n) look
      → IsKept M N h qs (equations ds ++ es) ps (λ v. v < n + length ds) (numbered ds look)
  kept_numbered n ds es look a k =
      let P : ℕ → Type 0 = λ v. v < n + length ds in
      let wide = kept_placed n ds es look a k in
      kept_forget M N h qs (placed ds es) ps P (numbered ds look) wide (equations ds ++ es) P (λ v c. wide.stored.used v c) (λ v l. l)
      (record { there = λ u i. placed_there u ds es i; back = λ u i. (u, placed_back u ds es i, λ x l. refl) })
      (below_both P (equations ds) es (equations_low n ds a) (more_each (λ v. v < n) P (λ v l. omega (arith, l)) es k.stored.heap.scoped))
