-- Rows of a table: the first one whose key is a shape, and the terms that clash with it.
use Rattle.std.proofs.Common.{◌≡◌, ◌⊎◌, ℕ, zero, suc, ◌<◌, Bool, true, false, not, ◌||◌, ◌==◌, leb, if◌then◌else◌, IsTrue, List, [], ◌∷◌, option_map, Option}
use Rattle.std.proofs.Common.{Some, None, length, slice_get, refl, ap, ap₂, sym, ◌∙◌, subst, inl, inr}
use Rattle.std.proofs.lemmas.Bool.{eqb-true, cases_eq, not-false}
use Rattle.fd_language.proofs.Lemmas.{decide_name, decide_int}
use Rattle.clause_compiler.proofs.Lists.{never, no}
use Rattle.fd_language.specs.Family.{has}
use Rattle.fd_model.specs.Goal.{Clause}
use Rattle.term_pool.specs.declared.TermId.{TermId}
use Rattle.term_pool.specs.Contents.{Entry, Shape, var, int, atom, comp, shape_at}
use Rattle.term_pool.specs.Terms.{term_of, shape_term}
use Rattle.term_pool.specs.PoolInvariant.{IsPool, IsWithin}
use Rattle.wam_code.specs.declared.instruction.Key.{Key}
use Rattle.wam_code.specs.declared.instruction.Key.TheVariants as key
use Rattle.wam_code.specs.Area.{Area, Table, name_of}
use Rattle.wam_code.specs.VerifiedCode.{arms, IsKey}
use Rattle.wam_code.specs.Tries as tries
use Rattle.wam_code.specs.Tries.{Clash, IsShape, Rows}
use Rattle.clause_code.proofs.Lemmas.{count_terms}
use Rattle.clause_compiler.specs.Keys.{shape_key, some_key, term_key, argument_key}
use Rattle.clause_compiler.specs.ClauseKeys.{same_key, may_have}
use Rattle.clause_compiler.proofs.ClauseKeys.{same_means, same_itself}

-- ---- where a table leads

-- A place that a table names is that of a row.
pub row_of : (table : Table) (to : ℕ) → IsTrue (has (arms table) to) → (r : ℕ) × (x : Key) × (slice_get table r ≡ Some (x, to))
row_of [] to h = never h
row_of ((x, n) ∷ rows) to h = by (n == to) refl h (row_of rows to)
  where
    by : (b : Bool) → (n == to) ≡ b → (b || has (arms rows) to) ≡ true → (IsTrue (has (arms rows) to) → (r : ℕ) × (y : Key) × (slice_get rows r ≡ Some (y, to)))
        → (r : ℕ) × (y : Key) × (slice_get ((x, n) ∷ rows) r ≡ Some (y, to))
    by true e g rest = (0, x, ap (λ m. Some (x, m)) (eqb-true n to e))
    by false e g rest = let w = rest g in (suc w.0, w.1, w.2)

-- ---- the first row with a key

both : {A B : Type 0} → A ⊎ (A → ⊥) → B ⊎ (B → ⊥) → (A × B) ⊎ (A × B → ⊥)
both (inl x) (inl y) = inl (x, y)
both (inl x) (inr h) = inr (λ z. h z.1)
both (inr h) (inl y) = inr (λ z. h z.0)
both (inr h) (inr g) = inr (λ z. h z.0)

-- it is another key than this one, or none
abbrev pub may_be_other : Key → Option Key → Bool
may_be_other x None = true
may_be_other x (Some y) = not (same_key x y)

module _ (a : Area) where
  is_shape : (x : Key) (s : tries.Shape) → IsShape a x s ⊎ (IsShape a x s → ⊥)
  is_shape (key.Atom b) (tries.is_atom n) = decide_name (name_of a b) n
  is_shape (key.Int y) (tries.is_integer z) = decide_int y z
  is_shape (key.Struct f n) (tries.is_structure g m) = both (decide_name (name_of a f) g) (cases_eq n m)
  is_shape (key.Atom b) tries.is_open = inr (λ h. h)
  is_shape (key.Atom b) (tries.is_integer z) = inr (λ h. h)
  is_shape (key.Atom b) (tries.is_structure g m) = inr (λ h. h)
  is_shape (key.Int y) tries.is_open = inr (λ h. h)
  is_shape (key.Int y) (tries.is_atom n) = inr (λ h. h)
  is_shape (key.Int y) (tries.is_structure g m) = inr (λ h. h)
  is_shape (key.Struct f n) tries.is_open = inr (λ h. h)
  is_shape (key.Struct f n) (tries.is_atom m) = inr (λ h. h)
  is_shape (key.Struct f n) (tries.is_integer z) = inr (λ h. h)

  module _ (s : tries.Shape) (rest : ℕ → List Clause → Type 0) where
    -- the first row whose key is the shape
    pub record FirstRow (table : Table) : Type 0 where
      pub r : ℕ
      pub x : Key
      pub to : ℕ
      pub there : slice_get table r ≡ Some (x, to)
      pub is : IsShape a x s
      pub rows : (cs : List Clause) → rest to cs → Rows a rest s table cs

    -- no row's key is
    pub record NoRow (table : Table) : Type 0 where
      pub none : (r : ℕ) (x : Key) (to : ℕ) → slice_get table r ≡ Some (x, to) → IsShape a x s → ⊥
      pub rows : Rows a rest s table []

    -- Either there is one, or there is none.
    pub first_row : (table : Table) → FirstRow table ⊎ NoRow table
    first_row [] = inr (record { none = λ r x to e. absurd cc; rows = refl })
    first_row ((x, to) ∷ rows) = by (is_shape x s) (first_row rows)
      where
        not_here : (IsShape a x s → ⊥) → ((r : ℕ) (y : Key) (n : ℕ) → slice_get rows r ≡ Some (y, n) → IsShape a y s → ⊥) → (r : ℕ) (y : Key) (n : ℕ)
            → slice_get ((x, to) ∷ rows) r ≡ Some (y, n) → IsShape a y s → ⊥
        not_here h g zero y n e f = let pair : ◌≡◌ {A = Key × ℕ} (x, to) (y, n) = cc in let same : x ≡ y = ap (λ z. z.0) pair in h (subst (λ k. IsShape a k s) (sym same) f)
        not_here h g (suc r) y n e f = g r y n e f

        by : IsShape a x s ⊎ (IsShape a x s → ⊥) → FirstRow rows ⊎ NoRow rows → FirstRow ((x, to) ∷ rows) ⊎ NoRow ((x, to) ∷ rows)
        by (inl h) w = inl (record { r = 0; x = x; to = to; there = refl; is = h; rows = λ cs g. inl (h, g) })
        by (inr h) (inl w) = inl (record { r = suc w.r; x = w.x; to = w.to; there = w.there; is = w.is; rows = λ cs g. inr (h, w.rows cs g) })
        by (inr h) (inr w) = inr (record { none = not_here h w.none; rows = inr (h, w.rows) })

  -- ---- keys of a pool
  shape_within : (n m : ℕ) (q : Shape) (x : Key) → n ≡ length a.pool.names → IsWithin n m q → shape_key q ≡ Some x → IsKey a x
  shape_within n m (var y) x l w e = absurd cc
  shape_within n m (int z) x l w e = let same : key.Int z ≡ x = cc in subst (IsKey a) same tt
  shape_within n m (atom b) x l w e = let same : key.Atom b ≡ x = cc in subst (IsKey a) same (subst (λ k. b.number < k) l w)
  shape_within n m (comp f ts) x l w e = by (leb (length ts) 255) e
    where
      by : (b : Bool) → (if b then Some (key.Struct f (length ts)) else None) ≡ Some x → IsKey a x
      by true g = let same : key.Struct f (length ts) ≡ x = cc in subst (IsKey a) same (subst (λ k. f.number < k) l w.0)
      by false g = absurd cc

  module _ (v : IsPool a.pool) where
    -- The key of a term of the pool is there.
    pub term_within : (t : TermId) (x : Key) → term_key a.pool t ≡ Some x → IsKey a x
    term_within t x e = by (slice_get a.pool.entries t.number) refl e
      where
        by : (o : Option Entry) → slice_get a.pool.entries t.number ≡ o → some_key (option_map (λ (d : Entry). d.shape) o) ≡ Some x → IsKey a x
        by None f g = absurd cc
        by (Some d) f g = shape_within (length a.pool.names) t.number d.shape x refl (v.within t.number d f) g

    -- So is that of a first argument.
    pub key_within : (o : Option Shape) (x : Key) → argument_key a.pool o ≡ Some x → IsKey a x
    key_within None x e = absurd cc
    key_within (Some (var y)) x e = absurd cc
    key_within (Some (int z)) x e = absurd cc
    key_within (Some (atom b)) x e = absurd cc
    key_within (Some (comp f [])) x e = absurd cc
    key_within (Some (comp f (t ∷ ts))) x e = term_within t x e

    one_key : (s : tries.Shape) (x y : Key) → IsKey a x → IsKey a y → IsShape a x s → IsShape a y s → x ≡ y
    one_key (tries.is_atom n) (key.Atom b) (key.Atom c) h k e f = ap key.Atom (v.distinct b c h k (e ∙ sym f))
    one_key (tries.is_atom n) (key.Atom b) (key.Int z) h k e f = absurd f
    one_key (tries.is_atom n) (key.Atom b) (key.Struct g m) h k e f = absurd f
    one_key (tries.is_atom n) (key.Int z) y h k e f = absurd e
    one_key (tries.is_atom n) (key.Struct g m) y h k e f = absurd e
    one_key (tries.is_integer z) (key.Int b) (key.Int c) h k e f = ap key.Int (e ∙ sym f)
    one_key (tries.is_integer z) (key.Int b) (key.Atom c) h k e f = absurd f
    one_key (tries.is_integer z) (key.Int b) (key.Struct g m) h k e f = absurd f
    one_key (tries.is_integer z) (key.Atom b) y h k e f = absurd e
    one_key (tries.is_integer z) (key.Struct g m) y h k e f = absurd e
    one_key (tries.is_structure g m) (key.Struct b i) (key.Struct c j) h k e f = ap₂ key.Struct (v.distinct b c h k (e.0 ∙ sym f.0)) (e.1 ∙ sym f.1)
    one_key (tries.is_structure g m) (key.Struct b i) (key.Atom c) h k e f = absurd f
    one_key (tries.is_structure g m) (key.Struct b i) (key.Int z) h k e f = absurd f
    one_key (tries.is_structure g m) (key.Atom b) y h k e f = absurd e
    one_key (tries.is_structure g m) (key.Int z) y h k e f = absurd e
    one_key tries.is_open (key.Atom b) y h k e f = absurd e
    one_key tries.is_open (key.Int z) y h k e f = absurd e
    one_key tries.is_open (key.Struct g m) y h k e f = absurd e

  -- ---- clashes
  module _ (s : tries.Shape) (closed : s ≡ tries.is_open → ⊥) where
    -- A term with a key that isn't the shape clashes with it.
    pub key_clash : (x : Key) (r : Shape) → shape_key r ≡ Some x → (IsShape a x s → ⊥) → Clash s (shape_term a.pool r)
    key_clash x r e h = by s refl r e
      where
        by : (u : tries.Shape) → s ≡ u → (r : Shape) → shape_key r ≡ Some x → Clash u (shape_term a.pool r)
        by tries.is_open same r e = absurd (closed same)
        by (tries.is_atom n) same (var y) e = absurd cc
        by (tries.is_atom n) same (int z) e = tt
        by (tries.is_atom n) same (atom b) e = λ f. let k : key.Atom b ≡ x = cc in h (subst (λ y. IsShape a y s) k (subst (IsShape a (key.Atom b)) (sym same) (sym f)))
        by (tries.is_atom n) same (comp f ts) e = tt
        by (tries.is_integer z) same (var y) e = absurd cc
        by (tries.is_integer z) same (int y) e = λ f. let k : key.Int y ≡ x = cc in h (subst (λ y. IsShape a y s) k (subst (IsShape a (key.Int y)) (sym same) (sym f)))
        by (tries.is_integer z) same (atom b) e = tt
        by (tries.is_integer z) same (comp f ts) e = tt
        by (tries.is_structure g m) same (var y) e = absurd cc
        by (tries.is_structure g m) same (int z) e = tt
        by (tries.is_structure g m) same (atom b) e = tt
        by (tries.is_structure g m) same (comp f ts) e = on (leb (length ts) 255) e (cases_eq (length ts) m)
          where
            on : (b : Bool) → (if b then Some (key.Struct f (length ts)) else None) ≡ Some x → (length ts ≡ m) ⊎ (length ts ≡ m → ⊥) → Clash (tries.is_structure g m) (shape_term a.pool (comp f ts))
            on true d (inl l) = inl (λ i. let k : key.Struct f (length ts) ≡ x = cc in h (subst (λ y. IsShape a y s) k (subst (IsShape a (key.Struct f (length ts))) (sym same) (sym i, l))))
            on true d (inr l) = inr (λ i. l (sym (count_terms (term_of a.pool) ts) ∙ sym i))
            on false d l = absurd cc

    -- ---- tests that fail at what clashes
    module _ (v : IsPool a.pool) (x : Key) where
      -- A key that may not have the row's clashes, where the row's is the shape.
      pub row_clash : IsKey a x → IsShape a x s → (t : TermId) (r : Shape) → shape_at a.pool t ≡ Some r → may_have x (shape_key r) ≡ false → Clash s (shape_term a.pool r)
      row_clash own is t r at e = by (shape_key r) refl e
        where
          by : (o : Option Key) → shape_key r ≡ o → may_have x o ≡ false → Clash s (shape_term a.pool r)
          by None f g = no g
          by (Some y) f g =
              let there = term_within v t y (ap some_key at ∙ f) in
              key_clash y r f (λ h. no (sym (same_itself x) ∙ ap (same_key x) (one_key v s x y own there is h) ∙ g))

      -- A term with the key clashes, where the key isn't the shape.
      pub other_clash : (IsShape a x s → ⊥) → (t : TermId) (r : Shape) → shape_at a.pool t ≡ Some r → may_be_other x (shape_key r) ≡ false → Clash s (shape_term a.pool r)
      other_clash not_is t r at e = by (shape_key r) refl e
        where
          by : (o : Option Key) → shape_key r ≡ o → may_be_other x o ≡ false → Clash s (shape_term a.pool r)
          by None f g = no g
          by (Some y) f g = key_clash x r (f ∙ ap (λ z. Some z) (sym (same_means x y (not-false (same_key x y) g)))) not_is
