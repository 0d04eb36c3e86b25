-- Which clauses the first argument tells apart.
use Rattle.std.proofs.Common.{◌≡◌, ◌≢◌, ℕ, zero, suc, ◌<◌, ◌≤◌, Bool, true, ◌&&◌, leb, if◌then◌else◌, List, [], ◌∷◌, Some, None, is_some, option_map, length}
use Rattle.std.proofs.Common.{slice_get, refl, ap, ap₂, sym, ◌∙◌, subst, arith}
use Rattle.std.specs.List.{list_any, list_all}
use Rattle.std.proofs.lemmas.Bool.{and_parts}
use Rattle.std.proofs.lemmas.Bool.Decides.{nat_tests}
use Rattle.std.proofs.lemmas.Slice.Eq.{bytes_eq-Decides}
use Rattle.fd_language.specs.Term.{Name, Term, Terms, no_terms, term, term_count}
use Rattle.fd_model.specs.Goal.{Clause}
use Rattle.fd_model.specs.Children.{same_count, fits_head}
use Rattle.fd_model.specs.ConstraintExpansion.{arguments}
use Rattle.term_pool.specs.declared.TermId.{TermId}
use Rattle.term_pool.specs.Contents.{Contents, Entry, Shape, var, int, atom, comp, shape_at}
use Rattle.term_pool.specs.Terms.{term_of, terms_by, shape_term}
use Rattle.term_pool.specs.PoolInvariant.{IsPool}
use Rattle.term_pool.proofs.Lemmas.{term_of_shape, shape_within}
use Rattle.clause_check.specs.Codable.{IsNarrow, ClausesCodable}
use Rattle.clause_check.specs.Programs.{FlatProgram}
use Rattle.wam_code.specs.Places.{made}
use Rattle.wam_code.specs.declared.instruction.Key.{Key}
use Rattle.wam_code.specs.declared.instruction.Key.TheVariants as key
use Rattle.clause_compiler.specs.declared.tables.Label.{Label}
use Rattle.clause_compiler.specs.Keys.{have_keys, key_of, shape_key, some_key, argument_key, is_switched}
use Rattle.clause_compiler.specs.ClauseKeys.{AreKeyedBy}
use Rattle.clause_compiler.specs.PredicateSwitches.{ShowsKind}
use Rattle.clause_compiler.proofs.Lists.{get_there}

-- ---- by how many there are

-- Where clauses are told apart, there is an argument.
pub switched_some : (p : FlatProgram) (arity : ℕ) (ns : List ℕ) → is_switched p arity ns ≡ true → 1 ≤ arity
switched_some p arity ns h = let some = (and_parts (leb 1 arity) (leb 2 (length ns) && list_any (λ n. is_some (key_of p n)) ns) h).0 in grind (arith, nat_tests, some)

-- They are told apart where there are two, and one of them has a key.
pub switched_by : (p : FlatProgram) (arity : ℕ) (ns : List ℕ) → 1 ≤ arity → 2 ≤ length ns → list_any (λ n. is_some (key_of p n)) ns ≡ true → is_switched p arity ns ≡ true
switched_by p arity ns h g e =
    let a : leb 1 arity ≡ true = grind (arith, nat_tests, h) in
    let b : leb 2 (length ns) ≡ true = grind (arith, nat_tests, g) in
    ap₂ (λ (x y : Bool). x && y) a (ap₂ (λ (x y : Bool). x && y) b e)

-- A list with two that differ is long enough.
pub two_there : (ns : List ℕ) (i j n m : ℕ) → slice_get ns i ≡ Some n → slice_get ns j ≡ Some m → n ≢ m → 2 ≤ length ns
two_there [] i j n m e f differ = absurd cc
two_there (x ∷ []) zero zero n m e f differ = absurd (differ (let g : Some n ≡ Some m = sym e ∙ f in cc))
two_there (x ∷ []) zero (suc j) n m e f differ = absurd cc
two_there (x ∷ []) (suc i) j n m e f differ = absurd cc
two_there (x ∷ y ∷ ns) i j n m e f differ = omega arith

-- ---- heads

same_count_itself : (ts : Terms) → same_count ts ts ≡ true
same_count_itself no_terms = refl
same_count_itself (term t ts) = same_count_itself ts

-- A head fits itself.
pub fits_itself : (n : Name) (ts : Terms) → fits_head (made n ts) (made n ts) ≡ true
fits_itself n no_terms = (bytes_eq-Decides n n).1 refl
fits_itself n (term t ts) = ap₂ (λ (x y : Bool). x && y) ((bytes_eq-Decides n n).1 refl) (same_count_itself ts)

pub made_arguments : (n : Name) (ts : Terms) → arguments (made n ts) ≡ ts
made_arguments n no_terms = refl
made_arguments n (term t ts) = refl

-- What shows a kind is there.
pub shown_some : (ts : Terms) → ShowsKind ts → 1 ≤ term_count ts
shown_some no_terms h = absurd h
shown_some (term t ts) h = omega arith

-- The heads of a program's clauses are narrow.
pub narrow_head : (cs : List Clause) (n : ℕ) (c : Clause) → ClausesCodable cs → slice_get cs n ≡ Some c → IsNarrow c.head
narrow_head [] n c h e = absurd cc
narrow_head (d ∷ cs) zero c h e = let same : d ≡ c = cc in subst (λ (x : Clause). IsNarrow x.head) same h.0.0
narrow_head (d ∷ cs) (suc n) c h e = narrow_head cs n c h.1 e

module _ (c : Contents) (v : IsPool c) where
  counted : (part : TermId → Term) (us : List TermId) → term_count (terms_by part us) ≡ length us
  counted part [] = refl
  counted part (u ∷ us) = ap suc (counted part us)

  shape_shown : (r : Shape) (ts : Terms) → IsNarrow (shape_term c r) → ShowsKind (term (shape_term c r) ts) → is_some (shape_key r) ≡ true
  shape_shown (var x) ts h g = absurd g
  shape_shown (int z) ts h g = refl
  shape_shown (atom a) ts h g = refl
  shape_shown (comp f us) ts h g =
      let long = counted (term_of c) us in
      let few = h.1 in
      let fits : leb (length us) 255 ≡ true = grind (arith, nat_tests, long, few) in
      ap (λ (b : Bool). is_some (if b then Some (key.Struct f (length us)) else None)) fits

  -- A first argument that is no variable has a key.
  pub shown_key : (h : TermId) → h.number < length c.entries → (r : Shape) → shape_at c h ≡ Some r → IsNarrow (shape_term c r)
      → ShowsKind (arguments (shape_term c r)) → is_some (argument_key c (Some r)) ≡ true
  shown_key h inside (var x) at narrow shown = absurd shown
  shown_key h inside (int z) at narrow shown = absurd shown
  shown_key h inside (atom a) at narrow shown = absurd shown
  shown_key h inside (comp f []) at narrow shown = absurd shown
  shown_key h inside (comp f (t ∷ ts)) at narrow shown =
      let below = (shape_within c v h (comp f (t ∷ ts)) at).1 0 t (omega arith) in
      let x = get_there c.entries t.number (omega (arith, below, inside)) in
      let own : shape_at c t ≡ Some (x.0).shape = ap (option_map (λ (e : Entry). e.shape)) x.1 in
      let same = term_of_shape c v t (x.0).shape own in
      ap (λ o. is_some (some_key o)) own
      ∙ shape_shown (x.0).shape (terms_by (term_of c) ts) (subst IsNarrow same narrow.2.0) (subst (λ u. ShowsKind (term u (terms_by (term_of c) ts))) same shown)

-- ---- keys of all

all_some : (p : FlatProgram) (ns : List ℕ) → ((i n : ℕ) → slice_get ns i ≡ Some n → is_some (key_of p n) ≡ true) → list_all (λ n. is_some (key_of p n)) ns ≡ true
all_some p [] h = refl
all_some p (n ∷ ns) h = ap₂ (λ (x y : Bool). x && y) (h 0 n refl) (all_some p ns (λ i. h (suc i)))

-- clauses that are told apart by their keys have keys
pub keyed_all : (p : FlatProgram) (ns : List ℕ) (looked : List Label) (keys : List Key) (groups : List (List ℕ)) → AreKeyedBy p ns looked keys groups → have_keys p ns ≡ true
keyed_all p ns looked keys groups w = all_some p ns (λ i n e. ap is_some (w.each i n e).3)
