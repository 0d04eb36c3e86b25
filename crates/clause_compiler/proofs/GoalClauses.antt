-- Which clauses fit a goal of a predicate.
use Rattle.std.proofs.Common.{◌≡◌, ℕ, zero, suc, ◌+◌, ◌<◌, Bool, true, false, cond, ◌&&◌, ◌==◌, List, [], ◌∷◌, filter, Some, option_map, length, get_or}
use Rattle.std.proofs.Common.{slice_get, refl, ap, ap₂, sym, ◌∙◌, subst, arith, bytes_eq, All}
use Rattle.std.specs.List.{range_with_len}
use Rattle.std.proofs.lemmas.Bool.{true≢false, eqb-true, eq-eqb, and_parts, and_right}
use Rattle.std.proofs.lemmas.Bool.Decides.{nat_tests}
use Rattle.std.proofs.lemmas.Slice.Eq.{bytes_eq-Decides}
use Rattle.std.proofs.lemmas.List.FromFn.{get_or-range_with_len, length-range_with_len}
use Rattle.std.proofs.lemmas.Option.{slice_get-get_or, get_or_from_slice_get}
use Rattle.fd_language.specs.Term.{Term, Terms, Atom, Comp, no_terms, term, term_count}
use Rattle.fd_model.specs.Children.{same_count, fits_head}
use Rattle.fd_model.specs.ConstraintExpansion.{arguments}
use Rattle.term_pool.specs.declared.AtomId.{AtomId}
use Rattle.term_pool.specs.declared.TermId.{TermId}
use Rattle.term_pool.specs.Contents.{Contents, Entry, Shape, var, int, atom, comp, atom_name, shape_at}
use Rattle.term_pool.specs.Terms.{term_of, shape_term, terms_by}
use Rattle.term_pool.specs.PoolInvariant.{IsPool, IsWithin}
use Rattle.term_pool.proofs.Lemmas.{term_of_shape}
use Rattle.clause_check.specs.Programs.{FlatProgram, clause_at, no_clause, IsProgram}
use Rattle.wam_code.specs.Places.{made}
use Rattle.clause_code.specs.Pieces.{Predicate}
use Rattle.clause_code.specs.Predicates.{ArePredicates}
use Rattle.clause_compiler.specs.Groups.{shape_predicate, some_predicate, head_predicate, is_predicate, numbers_of}
use Rattle.clause_compiler.proofs.Lists.{get_there, never}
use Rattle.clause_compiler.proofs.ClauseFilters.{sifted_in}

-- ---- numbers that pass a test
filtered : (t : ℕ → Bool) (a n k x : ℕ) → slice_get (filter t (range_with_len a n)) k ≡ Some x → (x < a + n) × (t x ≡ true)
filtered t a zero k x e = absurd cc
filtered t a (suc n) k x e = by (t a) refl k e (λ j f. let w = filtered t (a + 1) n j x f in (let h = w.0 in omega (arith, h), w.1))
  where
    by : (b : Bool) → t a ≡ b → (k : ℕ) → slice_get (cond b (a ∷ filter t (range_with_len (a + 1) n)) (filter t (range_with_len (a + 1) n))) k ≡ Some x
        → ((j : ℕ) → slice_get (filter t (range_with_len (a + 1) n)) j ≡ Some x → (x < a + suc n) × (t x ≡ true)) → (x < a + suc n) × (t x ≡ true)
    by true h zero f rest = let same : a ≡ x = cc in (omega (arith, same), subst (λ y. t y ≡ true) same h)
    by true h (suc k) f rest = rest k f
    by false h k f rest = rest k f

pub is_number : (p : FlatProgram) (n k x : ℕ) (s : Predicate) → slice_get (numbers_of p n s) k ≡ Some x → (x < n) × (is_predicate s (head_predicate p x) ≡ true)
is_number p n k x s e = let w = filtered (λ c. is_predicate s (head_predicate p c)) 0 n k x e in (let h = w.0 in omega (arith, h), w.1)

-- A clause of the predicate is among its numbers.
pub number_there : (p : FlatProgram) (n x : ℕ) (s : Predicate) → x < n → is_predicate s (head_predicate p x) ≡ true → (k : ℕ) × (slice_get (numbers_of p n s) k ≡ Some x)
number_there p n x s l e =
    let long = length-range_with_len 0 n in
    let one : get_or (range_with_len 0 n) x 0 ≡ x = get_or-range_with_len 0 n x 0 l ∙ (let z : 0 + x ≡ x = omega arith in z) in
    sifted_in (λ c. is_predicate s (head_predicate p c)) (range_with_len 0 n) x x (slice_get-get_or (range_with_len 0 n) x 0 (omega (arith, l, long)) ∙ ap (λ y. Some y) one) e

pub numbers_within : (p : FlatProgram) (n : ℕ) (s : Predicate) → All (λ c. c < n) (numbers_of p n s)
numbers_within p n s k d l = let x = get_there (numbers_of p n s) k l in subst (λ y. y < n) (sym (get_or_from_slice_get (numbers_of p n s) k x.0 d x.1)) (is_number p n k x.0 s x.1).0

-- ---- names and counts
module _ (c : Contents) (v : IsPool c) where
  same_names : (a b : AtomId) → a.number < length c.names → b.number < length c.names → bytes_eq (atom_name c a) (atom_name c b) ≡ (a.number == b.number)
  same_names a b h k = by (bytes_eq (atom_name c a) (atom_name c b)) (a.number == b.number) refl refl
    where
      by : (x y : Bool) → bytes_eq (atom_name c a) (atom_name c b) ≡ x → (a.number == b.number) ≡ y → x ≡ y
      by true true p q = refl
      by true false p q = absurd (true≢false (sym (eq-eqb a.number b.number (ap (λ (z : AtomId). z.number) (v.distinct a b h k ((bytes_eq-Decides (atom_name c a) (atom_name c b)).0 p)))) ∙ q))
      by false true p q =
          let n : a.number ≡ b.number = eqb-true a.number b.number q in
          absurd (true≢false (sym ((bytes_eq-Decides (atom_name c a) (atom_name c b)).1 (ap (λ (m : ℕ). atom_name c (record { number = m })) n)) ∙ p))
      by false false p q = refl

  same_counts : (ts : Terms) (part : TermId → Term) (us : List TermId) → same_count ts (terms_by part us) ≡ (term_count ts == length us)
  same_counts no_terms part [] = refl
  same_counts no_terms part (u ∷ us) = grind (arith, nat_tests)
  same_counts (term t ts) part [] = grind (arith, nat_tests)
  same_counts (term t ts) part (u ∷ us) = same_counts ts part us ∙ grind (arith, nat_tests)

  and_all : (b d : Bool) → d ≡ true → (b && d) ≡ b
  and_all true d e = e
  and_all false d e = refl

  -- a structure of a pool that has an argument
  IsFull : Shape → Type 0
  IsFull (var x) = Unit {0}
  IsFull (int z) = Unit {0}
  IsFull (atom a) = Unit {0}
  IsFull (comp f us) = 0 < length us

  fits_shape : (s : Predicate) (ts : Terms) → s.name.number < length c.names → term_count ts ≡ s.arity → (m : ℕ) (r : Shape) → IsWithin (length c.names) m r
      → IsFull r → fits_head (made (atom_name c s.name) ts) (shape_term c r) ≡ is_predicate s (shape_predicate r)
  unfolding IsFull
  fits_shape s no_terms h size m (var x) w full = refl
  fits_shape s (term t ts) h size m (var x) w full = refl
  fits_shape s no_terms h size m (int x) w full = refl
  fits_shape s (term t ts) h size m (int x) w full = refl
  fits_shape s no_terms h size m (atom b) w full = same_names s.name b h w ∙ sym (and_all (s.name.number == b.number) (s.arity == 0) (grind (arith, nat_tests)))
  fits_shape s (term t ts) h size m (atom b) w full = sym (and_right (s.name.number == b.number) (s.arity == 0) (grind (arith, nat_tests)))
  fits_shape s no_terms h size m (comp g us) w full = sym (and_right (s.name.number == g.number) (s.arity == length us) (grind (arith, nat_tests)))
  fits_shape s (term t ts) h size m (comp g us) w full = ap₂ (λ (x y : Bool). x && y) (same_names s.name g h w.0) (same_counts (term t ts) (term_of c) us ∙ ap (λ n. n == length us) size)

  counted : (part : TermId → Term) (us : List TermId) → term_count (terms_by part us) ≡ length us
  counted part [] = refl
  counted part (u ∷ us) = ap suc (counted part us)

  shape_arity : (s : Predicate) (r : Shape) → is_predicate s (shape_predicate r) ≡ true → term_count (arguments (shape_term c r)) ≡ s.arity
  shape_arity s (var x) e = never e
  shape_arity s (int z) e = never e
  shape_arity s (atom a) e = sym (eqb-true s.arity 0 (and_parts (s.name.number == a.number) (s.arity == 0) e).1)
  shape_arity s (comp f us) e = counted (term_of c) us ∙ sym (eqb-true s.arity (length us) (and_parts (s.name.number == f.number) (s.arity == length us) e).1)

entry_there : (es : List Entry) (i : ℕ) → i < length es → (e : Entry) × (slice_get es i ≡ Some e)
entry_there [] i h = absurd (omega (arith, h))
entry_there (e ∷ es) i h = (get_or (e ∷ es) i e, slice_get-get_or (e ∷ es) i e h)

module _ (p : FlatProgram) (v : IsProgram p) (ps : List Predicate) (q : ArePredicates p ps) (n : ℕ) (l : n < length p.clauses) where
  full_head : (r : Shape) → term_of p.pool (clause_at p n).head ≡ shape_term p.pool r → IsFull p.pool v.pool r
  unfolding IsFull
  full_head (var x) e = tt
  full_head (int z) e = tt
  full_head (atom a) e = tt
  full_head (comp f []) e =
      let own = q.heads n l in
      let args : arguments (term_of p.pool (clause_at p n).head) ≡ no_terms = ap arguments e in
      let bare : Comp (atom_name p.pool f) no_terms ≡ Atom (atom_name p.pool (own.1).name) = sym e ∙ own.3.name ∙ ap (made (atom_name p.pool (own.1).name)) args in
      absurd cc
  full_head (comp f (u ∷ us)) e = omega arith

  the_head : (e : Entry) × (slice_get p.pool.entries ((clause_at p n).head).number ≡ Some e)
  the_head = entry_there p.pool.entries ((clause_at p n).head).number (v.clauses n no_clause l).head

  is_term : term_of p.pool (clause_at p n).head ≡ shape_term p.pool (the_head.0).shape
  is_term = term_of_shape p.pool v.pool (clause_at p n).head (the_head.0).shape (ap (option_map (λ (e : Entry). e.shape)) the_head.1)

  is_shape : head_predicate p n ≡ shape_predicate (the_head.0).shape
  is_shape = ap (λ o. some_predicate (option_map (λ (e : Entry). e.shape) o)) the_head.1

  -- A goal of the predicate fits the heads of the predicate's clauses, and no others.
  pub fits_predicate : (s : Predicate) (ts : Terms) → s.name.number < length p.pool.names → term_count ts ≡ s.arity
      → fits_head (made (atom_name p.pool s.name) ts) (term_of p.pool (clause_at p n).head) ≡ is_predicate s (head_predicate p n)
  fits_predicate s ts h size =
      ap (fits_head (made (atom_name p.pool s.name) ts)) is_term
      ∙ fits_shape p.pool v.pool s ts h size ((clause_at p n).head).number (the_head.0).shape (v.pool.within ((clause_at p n).head).number the_head.0 the_head.1) (full_head (the_head.0).shape is_term)
      ∙ ap (is_predicate s) (sym is_shape)

  pub head_arity : (s : Predicate) → is_predicate s (head_predicate p n) ≡ true → term_count (arguments (term_of p.pool (clause_at p n).head)) ≡ s.arity
  head_arity s e = ap (λ t. term_count (arguments t)) is_term ∙ shape_arity p.pool v.pool s (the_head.0).shape (ap (is_predicate s) (sym is_shape) ∙ e)

  -- The head is a term of this shape.
  pub head_shape : (r : Shape) × (shape_at p.pool (clause_at p n).head ≡ Some r) × (term_of p.pool (clause_at p n).head ≡ shape_term p.pool r)
  head_shape = ((the_head.0).shape, ap (option_map (λ (e : Entry). e.shape)) the_head.1, is_term)
