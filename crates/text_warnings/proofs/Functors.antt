-- Functors by the numbers of their names, and their places in a list.
use Rattle.std.proofs.Common.{◌≡◌, ℕ, suc, ◌+◌, ◌<◌, Bool, true, false, cond, List, [], ◌∷◌, ◌++◌, Some, None, length, refl, sym, ap, ap₂}
use Rattle.std.proofs.Common.{◌∙◌, arith, true≢false}
use Rattle.std.specs.Prelude.{◌==◌, ◌&&◌, ◌||◌, not, nat_lt, position}
use Rattle.std.specs.List.{list_any, position_or_len, AllByRecursion}
use Rattle.std.specs.Str.{bytes_eq}
use Rattle.std.proofs.lemmas.Bool.{and_parts, eqb-true, eq-eqb, lt-ltb}
use Rattle.std.proofs.lemmas.Slice.Eq.{bytes_eq-Decides}
use Rattle.std.proofs.lemmas.List.Folds.{list_any-append}
use Rattle.std.proofs.Math.Bool.{or-false}
use Rattle.fd_model.specs.Refusals as refusals
use Rattle.fd_model.specs.Refusals.{same_functor}
use Rattle.term_pool.specs.declared.AtomId.{AtomId}
use Rattle.term_pool.specs.Contents.{Contents}
use Rattle.term_pool.specs.PoolInvariant.{IsPool}
use Rattle.term_pool.proofs.Lemmas.{same_text}
use Rattle.indexmap.specs.IndexSet.{insert_key}
use Rattle.text_warnings.specs.declared.terms.Functor.{Functor}
use Rattle.text_warnings.specs.Terms.{functor_in, same_numbers, same_filed, filed_in}
use Rattle.text_warnings.specs.Files.{same_predicate}
use Rattle.text_warnings.specs.declared.terms.Filed.{Filed}
use Rattle.text_warnings.specs.Graphs.{number_in}
use Rattle.term_pool.proofs.Lemmas.{same_id, same_names}

-- Two functors of a pool are the same where their names have one number.
pub same_in : (c : Contents) → IsPool c → (f g : Functor) → f.name.number < length c.names → g.name.number < length c.names → same_numbers f g ≡ same_functor (functor_in c f) (functor_in c g)
same_in c v f g h k = ap (λ (b : Bool). b && (f.arity == g.arity)) (same_names c v f.name g.name h k)

abbrev made : AtomId → ℕ → Functor
made a n = record { name = a; arity = n }

abbrev made_filed : ℕ → Functor → Filed
made_filed n f = record { file = n; functor = f }

pub equal : (f g : Functor) → same_numbers f g ≡ true → f ≡ g
equal f g e =
    let both = and_parts (f.name.number == g.name.number) (f.arity == g.arity) e in
    ap₂ made (same_id f.name g.name (eqb-true f.name.number g.name.number both.0)) (eqb-true f.arity g.arity both.1)

pub same_itself : (f : Functor) → same_numbers f f ≡ true
same_itself f = ap₂ (λ (a b : Bool). a && b) (eq-eqb f.name.number f.name.number refl) (eq-eqb f.arity f.arity refl)

pub same_turned : (f g : Functor) → same_numbers f g ≡ same_numbers g f
same_turned f g = by (same_numbers f g) (same_numbers g f) refl refl
  where
    by : (a b : Bool) → same_numbers f g ≡ a → same_numbers g f ≡ b → same_numbers f g ≡ same_numbers g f
    by true b e k = let same = equal f g e in ap₂ same_numbers same (sym same)
    by false true e k = let same = equal g f k in ap₂ same_numbers (sym same) same
    by false false e k = e ∙ sym k

-- The same of the definition's functors.
pub equal_functor : (f g : refusals.Functor) → same_functor f g ≡ true → f ≡ g
equal_functor f g e =
    let both = and_parts (bytes_eq f.name g.name) (f.arity == g.arity) e in
    ap₂ refusals.functor (same_text f.name g.name both.0) (eqb-true f.arity g.arity both.1)

pub same_functor_itself : (f : refusals.Functor) → same_functor f f ≡ true
same_functor_itself f = ap₂ (λ (a b : Bool). a && b) ((bytes_eq-Decides f.name f.name).1 refl) (eq-eqb f.arity f.arity refl)

-- ---- predicates in files

pub equal_filed : (f g : Filed) → same_filed f g ≡ true → f ≡ g
equal_filed f g e =
    let both = and_parts (f.file == g.file) (same_numbers f.functor g.functor) e in
    ap₂ (λ (n : ℕ) (h : Functor). made_filed n h) (eqb-true f.file g.file both.0) (equal f.functor g.functor both.1)

pub same_filed_in : (c : Contents) → IsPool c → (f g : Filed) → f.functor.name.number < length c.names → g.functor.name.number < length c.names
    → same_filed f g ≡ same_predicate (filed_in c f) (filed_in c g)
same_filed_in c v f g h k = ap (λ (b : Bool). (f.file == g.file) && b) (same_in c v f.functor g.functor h k)

-- What is among keys when one more is put to them.
module _ {F : Type 0} (same : F → F → Bool) (alike : (f g : F) → same f g ≡ true → f ≡ g) where
  inserted : (heads : List F) (f g : F) → list_any (same f) (insert_key same heads g) ≡ (same f g || list_any (same f) heads)
  inserted heads f g = pick (list_any (same g) heads) refl
    where
      turned : (a b : Bool) → (a || b) ≡ (b || a)
      turned true true = refl
      turned true false = refl
      turned false true = refl
      turned false false = refl

      among : list_any (same g) heads ≡ true → (b : Bool) → same f g ≡ b → list_any (same f) heads ≡ (b || list_any (same f) heads)
      among h true e = ap (λ (x : F). list_any (same x) heads) (alike f g e) ∙ h
      among h false e = refl

      pick : (b : Bool) → list_any (same g) heads ≡ b → list_any (same f) (cond b heads (heads ++ g ∷ [])) ≡ (same f g || list_any (same f) heads)
      pick true e = among e (same f g) refl
      pick false e =
          list_any-append (same f) heads (g ∷ []) ∙ ap (λ (b : Bool). list_any (same f) heads || b) (or-false (same f g))
          ∙ turned (list_any (same f) heads) (same f g)

pub any_insert : (heads : List Functor) (f g : Functor) → list_any (same_numbers f) (insert_key same_numbers heads g) ≡ (same_numbers f g || list_any (same_numbers f) heads)
any_insert heads f g = inserted same_numbers equal heads f g

pub any_inserted : (heads : List Filed) (f g : Filed) → list_any (same_filed f) (insert_key same_filed heads g) ≡ (same_filed f g || list_any (same_filed f) heads)
any_inserted heads f g = inserted same_filed equal_filed heads f g

-- ---- places

module _ {X : Type 0} where
  prefix_same : (p q : X → Bool) (xs : List X) → AllByRecursion (λ x. p x ≡ q x) xs → position_or_len p xs ≡ position_or_len q xs
  prefix_same p q [] all = refl
  prefix_same p q (x ∷ xs) all = ap₂ (λ (b : Bool) (n : ℕ). cond (not b) (1 + n) 0) all.0 (prefix_same p q xs all.1)

  pub position_same : (p q : X → Bool) (xs : List X) → AllByRecursion (λ x. p x ≡ q x) xs → position p xs ≡ position q xs
  position_same p q xs all = ap (λ (n : ℕ). cond (nat_lt n (length xs)) (Some n) None) (prefix_same p q xs all)

  below_by : (p : X → Bool) (x : X) (xs : List X) (b : Bool) → p x ≡ b → (b || list_any p xs) ≡ true → (list_any p xs ≡ true → position_or_len p xs < length xs)
      → position_or_len p (x ∷ xs) < suc (length xs)
  below_by p x xs true h k next = rw h (omega arith)
  below_by p x xs false h k next = let later = next k in rw h (omega arith)

  below : (p : X → Bool) (xs : List X) → list_any p xs ≡ true → position_or_len p xs < length xs
  below p [] e = absurd (true≢false (sym e))
  below p (x ∷ xs) e = below_by p x xs (p x) refl e (λ h. below p xs h)

  -- where one passes there is a first place
  pub position_found : (p : X → Bool) (xs : List X) → list_any p xs ≡ true → (i : ℕ) × (position p xs ≡ Some i)
  position_found p xs e = (position_or_len p xs, ap (λ (b : Bool). cond b (Some (position_or_len p xs)) None) (lt-ltb (position_or_len p xs) (length xs) (below p xs e)))

-- the number of a predicate, by the numbers of names
pub number_same : (c : Contents) → IsPool c → (keys : List Functor) (f : Functor) → f.name.number < length c.names → AllByRecursion (λ g. g.name.number < length c.names) keys
    → position (same_numbers f) keys ≡ number_in c keys (functor_in c f)
number_same c v keys f h own = position_same (same_numbers f) (λ g. same_functor (functor_in c f) (functor_in c g)) keys (tests keys own)
  where
    tests : (gs : List Functor) → AllByRecursion (λ g. g.name.number < length c.names) gs → AllByRecursion (λ g. same_numbers f g ≡ same_functor (functor_in c f) (functor_in c g)) gs
    tests [] all = tt
    tests (g ∷ gs) all = (same_in c v f g h all.0, tests gs all.1)
