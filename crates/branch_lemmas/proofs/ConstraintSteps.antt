-- The steps from a constraint: its row by the heap and the store's sets, whose fresh variables are the next variables of the heap.
use Rattle.std.proofs.Common.{◌≡◌, ℕ, ◌+◌, ◌-◌, ◌<◌, ◌≤◌, true, false, cond, nat_lt, ℤ, List, [], ◌∷◌, ◌++◌, length, Option, refl, ap, sym, ◌∙◌, subst, inl}
use Rattle.std.proofs.Common.{inr, ◌⊎◌, arith}
use Rattle.std.proofs.lemmas.Bool.{cases_Bool}
use Rattle.std.proofs.lemmas.Bool.Decides.{nat_tests}
use Rattle.fd_language.specs.Term.{Var, Int, Substitution}
use Rattle.fd_language.specs.Unifier.{Equation}
use Rattle.fd_language.specs.Family.{has}
use Rattle.fd_language.specs.Range.{Indexical}
use Rattle.fd_language.proofs.Lemmas.{two}
use Rattle.fd_model.specs.ClosedFamilies.{constrained}
use Rattle.fd_model.specs.ConstraintLaws.{AllFresh}
use Rattle.fd_model.specs.ConstraintExpansion.{equations}
use Rattle.fd_model.specs.LinearRows.{Expansion}
use Rattle.heap_cells.specs.Cells.{Cells}
use Rattle.branch_meaning.specs.Heap.{after, applied_each, EquationsOf}
use Rattle.branch_meaning.specs.Rows.{rename_products, rename_expansion}
use Rattle.branch_meaning.specs.Store.{Touch, posts, IsStored, IsUnified}
use Rattle.branch_meaning.proofs.Lemmas.{place_from, place_above, stored_posts, posted_each, unified}
use Rattle.branch_lemmas.specs.Frames.{link_in, IsKept}
use Rattle.branch_lemmas.proofs.BuiltTerms.{stored_spread}
use Rattle.branch_lemmas.specs.Posting.{IsRowLinked}

module _ (M N : ℕ) (h now : Cells) (qs : List Indexical) (es : List Equation) (ps : List Indexical) (fresh : ℕ) (look : Substitution)
    (s : IsKept M N h qs es ps (λ x. x < fresh) look) (cell : ℕ → ℕ) (x : Expansion) (grows : fresh ≤ x.fresh)
    (all_fresh : AllFresh fresh x.fresh x.ranges x.equated)
    (named : (v : ℕ) → has (constrained x.ranges) v ≡ true → ((v < fresh) × (look v ≡ Var (place_from fresh (length h.slots) cell v))) ⊎ ((fresh ≤ v) × (v < x.fresh)))
    (link' : ℕ → Option ℕ) (qs' : List Indexical) (new : Substitution) (ts : List Touch) (l : IsRowLinked h now qs (rename_expansion (place_from fresh (length h.slots) cell) x) link' qs' new ts) where
  abbrev H : ℕ
  H = length h.slots

  abbrev on_heap : ℕ → ℕ
  on_heap = place_from fresh H cell

  abbrev top : ℕ
  top = on_heap x.fresh

  top_is : top ≡ H + (x.fresh - fresh)
  top_is = place_above fresh H cell x.fresh grows

  abbrev look1 : Substitution
  look1 v = cond (nat_lt v fresh) (look v) (Var (H + (v - fresh)))

  pub look_old : (v : ℕ) → v < fresh → look1 v ≡ look v
  look_old v k = let t : nat_lt v fresh ≡ true = grind (arith, nat_tests) in ap (λ b. cond b (look v) (Var (H + (v - fresh)))) t

  look_new : (v : ℕ) → fresh ≤ v → look1 v ≡ Var (on_heap v)
  look_new v k = let t : nat_lt v fresh ≡ false = grind (arith, nat_tests) in ap (λ b. cond b (look v) (Var (H + (v - fresh)))) t ∙ ap Var (sym (place_above fresh H cell v k))

  abbrev P : ℕ → Type 0
  P v = v < x.fresh

  wide : IsStored M N es ps P top look1 (link_in h) s.slot qs
  wide = stored_spread M N es ps (λ v. v < fresh) H look (link_in h) s.slot qs s.stored top (let e = top_is in
      omega (arith, e)) P look1 (λ i. fresh + (i - H)) (λ v k. omega (arith, k, grows)) (λ v k. sym (look_old v k)) (λ v k. elim (cases_Bool (nat_lt v fresh)) [
        | inl t ↦ inl (grind (arith, nat_tests))
        | inr t ↦
            let i : fresh ≤ v = grind (arith, nat_tests) in
            let a = place_above fresh H cell v i in
            let e = top_is in
            inr (on_heap v, look_new v i, omega (arith, a), omega (arith, a, e, i, k), omega (arith, a, i))
      ])

  placed : (v : ℕ) → has (constrained x.ranges) v ≡ true → P v × (look1 v ≡ Var (on_heap v))
  placed v c = elim (named v c) [
    | inl a ↦ ((let i = a.0 in omega (arith, i, grows)), look_old v a.0 ∙ a.1)
    | inr a ↦ (a.1, look_new v a.0)
  ]

  applied_are : (ds : List (ℕ × ℤ)) → AllFresh fresh x.fresh x.ranges ds → applied_each look1 (equations ds) ≡ equations (rename_products on_heap ds)
  applied_are [] f = refl
  applied_are (d ∷ ds) f = two (λ t k. record { left = t; right = Int d.1 } ∷ k) (look_new d.0 f.0.0) (applied_are ds f.1)

  equations_low : (ds : List (ℕ × ℤ)) → AllFresh fresh x.fresh x.ranges ds → EquationsOf P (equations ds)
  equations_low [] f = tt
  equations_low (d ∷ ds) f = ((f.0.1, tt), equations_low ds f.1)

  abbrev pub row_look : Substitution
  row_look = after new look1

  -- The row's ranges and equations are the branch's.
  pub kept_row : IsKept M N now (qs' ++ posts ts) (equations x.equated ++ es) (x.ranges ++ ps) P row_look
  kept_row =
      let p = posted_each M N es P top look1 on_heap x.ranges placed ps (link_in h) s.slot qs wide link' qs' l.joined in
      let ranged = stored_posts M N es P top look1 link' p.0 qs' x.ranges ps (link_in h) s.slot qs wide p.1 in
      let one = unified M N es (x.ranges ++ ps) P top look1 link' p.0 qs' ranged (equations x.equated) (equations_low x.equated all_fresh) new (link_in now) ts
      (subst (λ e. IsUnified top link' e new (link_in now) ts) (sym (applied_are x.equated all_fresh)) l.unified) in
      record {
        slot = p.0;
        stored = subst (λ n. IsStored M N (equations x.equated ++ es) (x.ranges ++ ps) P n row_look (link_in now) p.0 (qs' ++ posts ts)) (sym l.size) one;
      }
