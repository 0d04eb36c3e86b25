-- Rows of constraints on terms of a pool: their fresh numbers and integers have 64 bits.
use Rattle.std.proofs.Common.{◌≡◌, ℕ, zero, suc, ◌<◌, ◌≤◌, ◌^◌, List, [], ◌∷◌, length, get_or, Option, Some, None, Result, Ok, Err, refl, ap, sym, ◌∙◌, subst}
use Rattle.std.proofs.Common.{arith}
use Rattle.std.specs.Prelude.{slice_get, option_map, All, IfOk}
use Rattle.std.proofs.lemmas.Option.{slice_get-get_or, none-some}
use Rattle.fd_language.specs.declared.TheConstants.{INFINITY}
use Rattle.fd_language.specs.Term.{Comp}
use Rattle.fd_model.specs.declared.kinds.ConstraintKind.{ConstraintKind}
use Rattle.fd_model.specs.declared.kinds.QueryFault.{QueryFault}
use Rattle.fd_model.specs.ConstraintLaws.{cells}
use Rattle.fd_model.specs.ConstraintExpansion.{expand}
use Rattle.fd_model.specs.LinearRows.{Expansion}
use Rattle.term_pool.specs.declared.TermId.{TermId}
use Rattle.term_pool.specs.Contents.{Contents, Entry, Shape, var, int, atom, comp, name_in}
use Rattle.term_pool.specs.Terms.{term_of, terms_by, shape_term}
use Rattle.term_pool.specs.PoolInvariant.{IsPool, IsWithin, AreStorable}
use Rattle.term_pool.proofs.Lemmas.{term_of_shape, term_is_storable}
use Rattle.constraint_expand.specs.declared.faults.ExpandFault.{ExpandFault}
use Rattle.constraint_expand.specs.Views.{Expands}
use Rattle.heap_cells.proofs.Lemmas.{head_of, tail_of}
use Rattle.branch_state.specs.Constraints.{AreWords}
use Rattle.branch_state.proofs.ConstraintRows.{AllShort}
use Rattle.branch_state.proofs.SplitRows.{row_end, equated_words}

module _ (c : Contents) (pool : IsPool c) where
  abbrev LowTo : ℕ → Type 0
  LowTo n = (t : TermId) → t.number < n → t.number < length c.entries → cells (term_of c t) ≤ t.number

  low_shape : (n : ℕ) → LowTo n → n < length c.entries → (s : Shape) → IsWithin (length c.names) n s → cells (shape_term c s) ≤ n
  low_shape n low own (var x) w = omega arith
  low_shape n low own (int z) w = omega arith
  low_shape n low own (atom a) w = omega arith
  low_shape n low own (comp f ts) w = by_parts ts w.1 where
    by_parts : (ts : List TermId) → All (λ t. t.number < n) ts → cells (Comp (name_in c.names f) (terms_by (term_of c) ts)) ≤ n
    by_parts [] a = omega arith
    by_parts (h ∷ []) a = omega arith
    by_parts (h ∷ t ∷ []) a =
        let l = head_of (λ t. t.number < n) t [] (tail_of (λ t. t.number < n) h (t ∷ []) a) in
        let k = low t l (omega (arith, l, own)) in
        omega (arith, l, k)
    by_parts (h ∷ t ∷ u ∷ us) a = omega arith

  low_to : (n : ℕ) → LowTo n
  low_to zero t l own = absurd (omega (arith, l))
  low_to (suc n) t l own = by_entry (λ s k o. low_to n s (omega (arith, k, l)) o) (slice_get c.entries t.number) refl where
    by_entry : LowTo t.number → (o : Option Entry) → slice_get c.entries t.number ≡ o → cells (term_of c t) ≤ t.number
    by_entry low (Some e) i =
        subst (λ u. cells u ≤ t.number) (sym (term_of_shape c pool t e.shape (ap (option_map (λ e. e.shape)) i)))
        (low_shape t.number low own e.shape (pool.within t.number e i))
    by_entry low None i = absurd (none-some (get_or c.entries t.number (record { shape = var 0; place = 0 })) (sym i ∙ slice_get-get_or c.entries t.number (record { shape = var 0; place = 0 }) own))

  -- a list of a pool has no more cells than there are terms before it
  pub cells_low : (t : TermId) → t.number < length c.entries → cells (term_of c t) ≤ t.number
  cells_low t own = low_to (suc t.number) t (omega arith) own

  pub all_short : (m : ℕ) (ts : List TermId) → All (λ t. t.number < length c.entries) ts → All (λ t. t.number < m) ts → AllShort m (terms_by (term_of c) ts)
  all_short m [] own low = tt
  all_short m (t ∷ ts) own low = (
    (let a = cells_low t (head_of (λ t. t.number < length c.entries) t ts own) in let b = head_of (λ t. t.number < m) t ts low in omega (arith, a, b)),
    all_short m ts (tail_of (λ t. t.number < length c.entries) t ts own) (tail_of (λ t. t.number < m) t ts low),
  )

  -- A row's fresh variables have numbers of 64 bits where neither the fresh numbers nor the terms are many.
  pub row_ends : (kind : ConstraintKind) (ts : List TermId) (n m : ℕ) → n < 2 ^ 60 → m < 2 ^ 60 → All (λ t. t.number < length c.entries) ts
      → All (λ t. t.number < m) ts → IfOk (expand INFINITY kind (terms_by (term_of c) ts) n) (λ x. x.fresh < 2 ^ 64)
  row_ends kind ts n m few small own low = by_row (expand INFINITY kind (terms_by (term_of c) ts) n) refl where
    by_row : (r : Result Expansion QueryFault) → expand INFINITY kind (terms_by (term_of c) ts) n ≡ r → IfOk r (λ x. x.fresh < 2 ^ 64)
    by_row (Ok x) e = let l = row_end m INFINITY kind (terms_by (term_of c) ts) n x (all_short m ts own low) e in omega (arith, l, few, small)
    by_row (Err f) e = tt

-- The integers of a row have 64 bits too.
pub all_storable : (c : Contents) → IsPool c → (ts : List TermId) → All (λ t. t.number < length c.entries) ts → AreStorable (terms_by (term_of c) ts)
all_storable c pool [] own = tt
all_storable c pool (t ∷ ts) own = (term_is_storable c pool t (head_of (λ t. t.number < length c.entries) t ts own), all_storable c pool ts (tail_of (λ t. t.number < length c.entries) t ts own))

pub answer_words : (c : Contents) → IsPool c → (ts : List TermId) → All (λ t. t.number < length c.entries) ts
    → (kind : ConstraintKind) (n : ℕ) (r : Result Expansion ExpandFault) → Expands (expand INFINITY kind (terms_by (term_of c) ts) n) r
    → IfOk r (λ x. AreWords x.equated)
answer_words c pool ts own kind n (Ok x) e = equated_words INFINITY kind (terms_by (term_of c) ts) n x (all_storable c pool ts own) e
answer_words c pool ts own kind n (Err f) e = tt
