-- Functors, and the numbers of predicates.
use Rattle.std.proofs.Common.{◌≡◌, ℕ, zero, suc, ◌+◌, ◌<◌, Bool, true, false, cond, not, ◌&&◌, ◌==◌, nat_lt, List, [], ◌∷◌, map, Option, Some, None, option_map}
use Rattle.std.proofs.Common.{length, slice_get, get_or, position, IfSome, IfNone, refl, ap, ap₂, sym, ◌∙◌, arith}
use Rattle.std.specs.List.{position_or_len}
use Rattle.std.proofs.lemmas.Bool.{true≢false, eqb-true, eq-eqb, and_parts}
use Rattle.std.proofs.lemmas.Bool.Decides.{nat_tests}
use Rattle.std.proofs.lemmas.List.Quantifiers.{position-Some}
use Rattle.std.proofs.lemmas.Option.{slice_get-map, slice_get-get_or}
use Rattle.clause_code.specs.declared.predicates.Functor.{Functor}
use Rattle.clause_code.specs.Pieces.{Predicate}
use Rattle.clause_code.specs.Predicates.{predicate_in}

abbrev pub same_functor : Functor → Functor → Bool
same_functor f g = (f.name.number == g.name.number) && (f.arity == g.arity)

abbrev functor_by : ℕ → ℕ → Functor
functor_by n k = record { name = record { number = n }; arity = k }

pub same_means : (f g : Functor) → same_functor f g ≡ true → f ≡ g
same_means f g e =
    let both = and_parts (f.name.number == g.name.number) (f.arity == g.arity) e in
    ap₂ functor_by (eqb-true f.name.number g.name.number both.0) (eqb-true f.arity g.arity both.1)

pub functor_itself : (f : Functor) → same_functor f f ≡ true
functor_itself f = ap₂ (λ (a b : Bool). a && b) (eq-eqb f.name.number f.name.number refl) (eq-eqb f.arity f.arity refl)

-- ---- the first element that passes
module _ {X : Type 0} where
  none_there : (p : X → Bool) (xs : List X) → position_or_len p xs ≡ length xs → (k : ℕ) (x : X) → slice_get xs k ≡ Some x → p x ≡ false
  none_there p [] e k x f = absurd cc
  none_there p (y ∷ ys) e k x f = by (p y) refl e k f (λ g j. none_there p ys g j x)
    where
      by : (b : Bool) → p y ≡ b → cond (not b) (1 + position_or_len p ys) 0 ≡ suc (length ys) → (k : ℕ) → slice_get (y ∷ ys) k ≡ Some x
          → (position_or_len p ys ≡ length ys → (j : ℕ) → slice_get ys j ≡ Some x → p x ≡ false) → p x ≡ false
      by true h e k f rest = absurd (omega (arith, e))
      by false h e zero f rest = let same : y ≡ x = cc in ap p (sym same) ∙ h
      by false h e (suc k) f rest = rest (omega (arith, e)) k f

  place_within : (p : X → Bool) (xs : List X) → position_or_len p xs < suc (length xs)
  place_within p [] = omega arith
  place_within p (x ∷ xs) = more (p x) (position_or_len p xs) (length xs) (place_within p xs)
    where
      more : (c : Bool) (m n : ℕ) → m < suc n → cond (not c) (1 + m) 0 < suc (suc n)
      more true m n h = omega arith
      more false m n h = omega arith

  pub position_none : (p : X → Bool) (xs : List X) → position p xs ≡ None → (k : ℕ) (x : X) → slice_get xs k ≡ Some x → p x ≡ false
  position_none p xs e = by (nat_lt (position_or_len p xs) (length xs)) refl e
    where
      by : (c : Bool) → nat_lt (position_or_len p xs) (length xs) ≡ c → cond c (Some (position_or_len p xs)) None ≡ None → (k : ℕ) (x : X) → slice_get xs k ≡ Some x → p x ≡ false
      by true f g = absurd cc
      by false f g = none_there p xs (let w = place_within p xs in grind (arith, nat_tests, w, f))

-- ---- numbers
pub number_found : (keys : List Functor) (f : Functor) (n : ℕ) → position (same_functor f) keys ≡ Some n → slice_get (map predicate_in keys) n ≡ Some (predicate_in f)
number_found keys f n e =
    let w = position-Some (same_functor f) keys n f e in
    let same : f ≡ get_or keys n f = same_means f (get_or keys n f) w.1 in
    slice_get-map predicate_in keys n ∙ ap (option_map predicate_in) (slice_get-get_or keys n f w.0) ∙ ap (λ g. Some (predicate_in g)) (sym same)

pub number_absent : (keys : List Functor) (f : Functor) → position (same_functor f) keys ≡ None → (n : ℕ) → slice_get (map predicate_in keys) n ≡ Some (predicate_in f) → ⊥
number_absent keys f e n h = by (slice_get keys n) refl (sym (slice_get-map predicate_in keys n) ∙ h)
  where
    by : (o : Option Functor) → slice_get keys n ≡ o → option_map predicate_in o ≡ Some (predicate_in f) → ⊥
    by None g k = cc
    by (Some x) g k =
        let one : predicate_in x ≡ predicate_in f = cc in
        let names : (x.name).number ≡ (f.name).number = ap (λ (s : Predicate). s.name.number) one in
        let arities : x.arity ≡ f.arity = ap (λ (s : Predicate). s.arity) one in
        let same : x ≡ f = ap₂ functor_by names arities in
        true≢false (sym (functor_itself f) ∙ ap (same_functor f) (sym same) ∙ position_none (same_functor f) keys e n x g)

pub if_found : (r : Option ℕ) (keys : List Functor) (f : Functor) (ps : List Predicate) → ps ≡ map predicate_in keys → r ≡ position (same_functor f) keys
    → IfSome r (λ n. slice_get ps n ≡ Some (predicate_in f))
if_found None keys f ps e h = tt
if_found (Some n) keys f ps e h = ap (λ l. slice_get l n) e ∙ number_found keys f n (sym h)

pub if_absent : (r : Option ℕ) (keys : List Functor) (f : Functor) (ps : List Predicate) → ps ≡ map predicate_in keys → r ≡ position (same_functor f) keys
    → IfNone r ((n : ℕ) → slice_get ps n ≡ Some (predicate_in f) → ⊥)
if_absent None keys f ps e h = λ n g. number_absent keys f (sym h) n (ap (λ l. slice_get l n) (sym e) ∙ g)
if_absent (Some n) keys f ps e h = tt
