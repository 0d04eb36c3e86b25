-- Closed families are those that pass a test which grows with the family.
use Rattle.std.proofs.Common.{◌≡◌, ℕ, Bool, true, false, not, ◌||◌, ◌&&◌, ◌==◌, leb, le-leb, leb-true, ℤ, pos, List, [], ◌∷◌, ◌++◌, refl, ap, sym, ◌∙◌, subst}
use Rattle.std.proofs.Common.{inl, inr, arith, eqb-true, eq-eqb}
use Rattle.std.proofs.lemmas.Bool.{or_cases, or_left, or_right, true≢false}
use Rattle.std.specs.Ordering.{int_eq}
use Rattle.std.proofs.lemmas.Int.{ints}
use Rattle.std.specs.Cmp.{first_so, second_so}
use Rattle.fd_language.specs.Term.{Term, Terms, Var, Int, Atom, Comp, Name, Substitution, apply}
use Rattle.fd_language.specs.Unifier.{Equation, IsMostGeneral}
use Rattle.fd_language.specs.Family.{has, IsSubset, universe, Family, IsFamily, IsInside}
use Rattle.fd_language.specs.Range.{Indexical, set_of, reads}
use Rattle.fd_model.specs.ClosedFamilies.{IsClosed, AllPosted, constrained}
use Rattle.fd_language.specs.Monotonicity.{IsMonotone}
use Rattle.fd_model.specs.Laws.{GreatestFamily}
use Rattle.fd_language.proofs.Lemmas.{rising_same, universe_rising, rising_inside, IsGreatest, greatest_there, in_right}

abbrev posted_test : ℕ → Family → List Indexical → ℕ → ℕ → Bool
posted_test M S [] x n = true
posted_test M S (p ∷ ps) x n = (not (p.target == x) || has (set_of M S p.range) n) && posted_test M S ps x n

abbrev value_test : Term → ℕ → Bool
value_test (Var y) n = true
value_test (Int z) n = int_eq (pos n) z
value_test (Atom a) n = false
value_test (Comp f ts) n = false

abbrev same_test : Term → Term → Bool
same_test (Var x) (Var y) = x == y
same_test _ _ = false

abbrev same_all : Substitution → Family → List ℕ → ℕ → ℕ → Bool
same_all s S [] x n = true
same_all s S (v ∷ vs) x n = (not (same_test (s x) (s v)) || has (S v) n) && same_all s S vs x n

abbrev fits : ℕ → ℕ → Substitution → List Indexical → Family → ℕ → ℕ → Bool
fits M N s ps S x n = posted_test M S ps x n && (not (has (constrained ps) x) || ((value_test (s x) n && leb n N) && same_all s S (constrained ps) x n))

-- tests with larger parts
grow_one : (t a b a' b' : Bool) → (a ≡ true → a' ≡ true) → (b ≡ true → b' ≡ true) → ((not t || a) && b) ≡ true → ((not t || a') && b') ≡ true
grow_one t a b a' b' f g h = grind (arith, f, g)

grow_last : (p p' c v w w' : Bool) → (p ≡ true → p' ≡ true) → (w ≡ true → w' ≡ true) → (p && (not c || (v && w))) ≡ true → (p' && (not c || (v && w'))) ≡ true
grow_last p p' c v w w' f g h = grind (arith, f, g)

-- the tests grow
posted_grows : (M : ℕ) (S S' : Family) (ps : List Indexical) → IsFamily M S → IsFamily M S' → IsInside S S' → AllPosted (λ p. IsMonotone M p.range) ps
    → (x n : ℕ) → posted_test M S ps x n ≡ true → posted_test M S' ps x n ≡ true
posted_grows M S S' [] f g i m x n h = refl
posted_grows M S S' (p ∷ ps) f g i m x n h =
    grow_one (p.target == x) (has (set_of M S p.range) n) (posted_test M S ps x n) (has (set_of M S' p.range) n) (posted_test M S' ps x n)
    ((m.0.grows S S' f g i).each n) (posted_grows M S S' ps f g i m.1 x n) h

same_grows : (s : Substitution) (S S' : Family) (vs : List ℕ) → IsInside S S' → (x n : ℕ) → same_all s S vs x n ≡ true → same_all s S' vs x n ≡ true
same_grows s S S' [] i x n h = refl
same_grows s S S' (v ∷ vs) i x n h =
    grow_one (same_test (s x) (s v)) (has (S v) n) (same_all s S vs x n) (has (S' v) n) (same_all s S' vs x n) ((i.at v).each n) (same_grows s S S' vs i x n) h

fits_grows : (M N : ℕ) (s : Substitution) (ps : List Indexical) → AllPosted (λ p. IsMonotone M p.range) ps → (S S' : Family) → IsFamily M S → IsFamily M S'
    → IsInside S S' → (x n : ℕ) → fits M N s ps S x n ≡ true → fits M N s ps S' x n ≡ true
fits_grows M N s ps m S S' f g i x n h =
    grow_last (posted_test M S ps x n) (posted_test M S' ps x n) (has (constrained ps) x) (value_test (s x) n && leb n N) (same_all s S (constrained ps) x n) (same_all s S' (constrained ps) x n)
    (posted_grows M S S' ps f g i m x n) (same_grows s S S' (constrained ps) i x n) h

-- a variable that is not constrained passes
pub outside_one : (t r c a b : Bool) → (c ≡ true → r ≡ true) → (t || r) ≡ false → (c ≡ false → b ≡ true) → ((not t || a) && b) ≡ true
outside_one t r c a b f h g = grind (arith, f, g)

posted_outside : (M : ℕ) (S : Family) (ps : List Indexical) (x n : ℕ) → has (constrained ps) x ≡ false → posted_test M S ps x n ≡ true
posted_outside M S [] x n h = refl
posted_outside M S (p ∷ ps) x n h =
    outside_one (p.target == x) (has (reads p.range ++ constrained ps) x) (has (constrained ps) x) (has (set_of M S p.range) n) (posted_test M S ps x n)
    (in_right (reads p.range) (constrained ps) x) h (posted_outside M S ps x n)

outside_last : (p c v : Bool) → p ≡ true → c ≡ false → (p && (not c || v)) ≡ true
outside_last p c v h g = grind arith

fits_outside : (M N : ℕ) (s : Substitution) (ps : List Indexical) (S : Family) (x n : ℕ) → has (constrained ps) x ≡ false → fits M N s ps S x n ≡ true
fits_outside M N s ps S x n h = outside_last (posted_test M S ps x n) (has (constrained ps) x) ((value_test (s x) n && leb n N) && same_all s S (constrained ps) x n) (posted_outside M S ps x n h) h

-- from the tests to the family
pub first_passes : (t a b : Bool) → ((not t || a) && b) ≡ true → t ≡ true → a ≡ true
first_passes t a b h g = grind arith

pub later_passes : (t a b : Bool) → ((not t || a) && b) ≡ true → b ≡ true
later_passes t a b h = grind arith

last_passes : (p c v w : Bool) → (p && (not c || (v && w))) ≡ true → c ≡ true → (v ≡ true) × (w ≡ true)
last_passes p c v w h g = grind arith

both_so : (a b : Bool) → a ≡ true → b ≡ true → a && b ≡ true
both_so a b h g = grind arith

posted_from : (M : ℕ) (S : Family) (ps : List Indexical) → ((x n : ℕ) → has (S x) n ≡ true → posted_test M S ps x n ≡ true) → AllPosted (λ p. IsSubset (S p.target) (set_of M S p.range)) ps
posted_from M S [] h = tt
posted_from M S (p ∷ ps) h = (
  record { each = λ n g. first_passes (p.target == p.target) (has (set_of M S p.range) n) (posted_test M S ps p.target n) (h p.target n g) (eq-eqb p.target p.target refl) },
  posted_from M S ps (λ x n g. later_passes (p.target == x) (has (set_of M S p.range) n) (posted_test M S ps x n) (h x n g)),
)

pub int_same : (n : ℕ) (z : ℤ) → int_eq (pos n) z ≡ true → pos n ≡ z
int_same n z h = grind (arith, ints)

value_at : (t : Term) (z : ℤ) (n : ℕ) → t ≡ Int z → value_test t n ≡ true → pos n ≡ z
value_at t z n e h = int_same n z (subst (λ u. value_test u n ≡ true) e h)

same_at : (s : Substitution) (S : Family) (vs : List ℕ) (x n w : ℕ) → same_all s S vs x n ≡ true → has vs w ≡ true → same_test (s x) (s w) ≡ true → has (S w) n ≡ true
same_at s S [] x n w h m e = grind arith
same_at s S (v ∷ vs) x n w h m e =
    elim (or_cases (v == w) (has vs w) m) [
      | inl g ↦ subst (λ y. has (S y) n ≡ true) (eqb-true v w g)
          (first_passes (same_test (s x) (s v)) (has (S v) n) (same_all s S vs x n) h (subst (λ y. same_test (s x) (s y) ≡ true) (sym (eqb-true v w g)) e))
      | inr g ↦ same_at s S vs x n w (later_passes (same_test (s x) (s v)) (has (S v) n) (same_all s S vs x n) h) g e
    ]

same_var : (t u : Term) (x : ℕ) → t ≡ Var x → u ≡ Var x → same_test t u ≡ true
same_var t u x e g = subst (λ a. same_test a u ≡ true) (sym e) (subst (λ b. same_test (Var x) b ≡ true) (sym g) (eq-eqb x x refl))

empty_from : (xs : List ℕ) → ((n : ℕ) → has xs n ≡ true → ⊥) → xs ≡ []
empty_from [] h = refl
empty_from (x ∷ xs) h = absurd (h x (or_left (x == x) (has xs x) (eq-eqb x x refl)))

closed_from : (M N : ℕ) (s : Substitution) (ps : List Indexical) (S : Family) → IsFamily M S → ((x n : ℕ) → has (S x) n ≡ true → fits M N s ps S x n ≡ true) → IsClosed M N s ps S
closed_from M N s ps S f h =
    let parts : (x n : ℕ) → has (constrained ps) x ≡ true → has (S x) n ≡ true → (value_test (s x) n && leb n N ≡ true) × (same_all s S (constrained ps) x n ≡ true) =
    λ x n c g. last_passes (posted_test M S ps x n) (has (constrained ps) x) (value_test (s x) n && leb n N) (same_all s S (constrained ps) x n) (h x n g) c in
    let worth : (x n : ℕ) → has (constrained ps) x ≡ true → has (S x) n ≡ true → value_test (s x) n ≡ true = λ x n c g. first_so (value_test (s x) n) (leb n N) (parts x n c g).0 in
    let into : (v w x : ℕ) → has (constrained ps) v ≡ true → has (constrained ps) w ≡ true → s v ≡ Var x → s w ≡ Var x → IsSubset (S v) (S w) =
    λ v w x c d e g. record { each = λ n m. same_at s S (constrained ps) v n w (parts v n c m).1 d (same_var (s v) (s w) x e g) } in
    record {
      family = f;
      posted = posted_from M S ps (λ x n g. first_so (posted_test M S ps x n) _ (h x n g));
      values = λ v z n c e g. value_at (s v) z n e (worth v n c g);
      same = λ v w x c d e g. rising_same 0 M (S v) (S w) (f.rising v) (f.rising w) (into v w x c d e g) (into w v x d c g e);
      atoms = λ v a c e. empty_from (S v) (λ n m. absurd (true≢false (sym (subst (λ u. value_test u n ≡ true) e (worth v n c m)))));
      within = λ v n c g. leb-true n N (second_so (value_test (s v) n) (leb n N) (parts v n c g).0);
      compounds = λ v a ts c e. empty_from (S v) (λ n m. absurd (true≢false (sym (subst (λ u. value_test u n ≡ true) e (worth v n c m)))));
    }

-- from the family to the tests
pub build_one : (t a b : Bool) → (t ≡ true → a ≡ true) → b ≡ true → ((not t || a) && b) ≡ true
build_one t a b f g = grind (arith, f)

build_last : (p c v w : Bool) → p ≡ true → (c ≡ true → v ≡ true) → (c ≡ true → w ≡ true) → (p && (not c || (v && w))) ≡ true
build_last p c v w h f g = grind (arith, f, g)

posted_to : (M : ℕ) (S : Family) (ps : List Indexical) → AllPosted (λ p. IsSubset (S p.target) (set_of M S p.range)) ps → (x n : ℕ) → has (S x) n ≡ true → posted_test M S ps x n ≡ true
posted_to M S [] h x n m = refl
posted_to M S (p ∷ ps) h x n m =
    build_one (p.target == x) (has (set_of M S p.range) n) (posted_test M S ps x n)
    (λ e. h.0.each n (subst (λ y. has (S y) n ≡ true) (sym (eqb-true p.target x e)) m)) (posted_to M S ps h.1 x n m)

pub int_same_back : (n : ℕ) (z : ℤ) → pos n ≡ z → int_eq (pos n) z ≡ true
int_same_back n z e = grind (arith, ints)

value_to : (t : Term) (n : ℕ) → ((z : ℤ) → t ≡ Int z → pos n ≡ z) → ((a : Name) → t ≡ Atom a → ⊥) → ((g : Name) (ts : Terms) → t ≡ Comp g ts → ⊥) → value_test t n ≡ true
value_to (Var y) n f g h = refl
value_to (Int z) n f g h = int_same_back n z (f z refl)
value_to (Atom a) n f g h = absurd (g a refl)
value_to (Comp a ts) n f g h = absurd (h a ts refl)

same_back : (t u : Term) → same_test t u ≡ true → (y : ℕ) × (t ≡ Var y) × (u ≡ Var y)
same_back (Var x) (Var y) h = (y, ap Var (eqb-true x y h), refl)
same_back _ _ h = absurd (true≢false (sym h))

same_to : (s : Substitution) (S : Family) (vs : List ℕ) (x n : ℕ) → ((v : ℕ) → has vs v ≡ true → same_test (s x) (s v) ≡ true → has (S v) n ≡ true) → same_all s S vs x n ≡ true
same_to s S [] x n h = refl
same_to s S (v ∷ vs) x n h =
    build_one (same_test (s x) (s v)) (has (S v) n) (same_all s S vs x n) (h v (or_left (v == v) (has vs v) (eq-eqb v v refl)))
    (same_to s S vs x n (λ w m. h w (or_right (v == w) (has vs w) m)))

pub not_in_empty : (xs : List ℕ) (n : ℕ) → xs ≡ [] → has xs n ≡ true → ⊥
not_in_empty xs n e h = true≢false (sym (subst (λ l. has l n ≡ true) e h))

passes_from : (M N : ℕ) (s : Substitution) (ps : List Indexical) (S : Family) → IsClosed M N s ps S → (x n : ℕ) → has (S x) n ≡ true → fits M N s ps S x n ≡ true
passes_from M N s ps S c x n m =
    build_last (posted_test M S ps x n) (has (constrained ps) x) (value_test (s x) n && leb n N) (same_all s S (constrained ps) x n)
    (posted_to M S ps c.posted x n m)
    (λ k. both_so (value_test (s x) n) (leb n N) (value_to (s x) n (λ z e. c.values x z n k e m) (λ a e. not_in_empty (S x) n (c.atoms x a k e) m)
    (λ g ts e. not_in_empty (S x) n (c.compounds x g ts k e) m)) (le-leb n N (c.within x n k m)))
    (λ k. same_to s S (constrained ps) x n (λ v d e. let both = same_back (s x) (s v) e in subst (λ l. has l n ≡ true) (c.same x v both.0 k d both.1 both.2) m))

-- the greatest family for one unifier
pub greatest_for : (M N : ℕ) (s : Substitution) (ps : List Indexical) → AllPosted (λ p. IsMonotone M p.range) ps
    → (D : Family) × IsClosed M N s ps D × ((S : Family) → IsClosed M N s ps S → IsInside S D)
greatest_for M N s ps m =
    let full : Family = λ x. universe M in
    let g : (D : Family) × IsGreatest M (fits M N s ps) full D =
    greatest_there M (constrained ps) (fits M N s ps) (fits_grows M N s ps m) (fits_outside M N s ps) full (record { rising = λ x. universe_rising M }) in (
      g.0,
      closed_from M N s ps g.0 g.1.family g.1.passes,
      λ S c. g.1.contains S c.family (record { at = λ x. rising_inside M (S x) (c.family.rising x) }) (passes_from M N s ps S c),
    )

-- the choice of the unifier makes no difference
module _ (es : List Equation) (s u : Substitution) (g : IsMostGeneral es s) (h : IsMostGeneral es u) where
  through : (v : ℕ) (t : Term) → s v ≡ t → u v ≡ apply u t
  through v t e = sym (g.general u v h.unifies) ∙ ap (apply u) e

  back : (v : ℕ) → apply s (u v) ≡ s v
  back v = h.general s v g.unifies

pub var_from : (s : Substitution) (t : Term) (x : ℕ) → apply s t ≡ Var x → (y : ℕ) × (t ≡ Var y)
var_from s (Var y) x e = (y, refl)
var_from s _ x e = absurd (cc)

pub closed_either : (M N : ℕ) (es : List Equation) (s u : Substitution) (ps : List Indexical) (S : Family) → IsMostGeneral es s → IsMostGeneral es u → IsClosed M N u ps S → IsClosed M N s ps S
closed_either M N es s u ps S g h c = record {
  family = c.family;
  posted = c.posted;
  values = λ v z n k e m. c.values v z n k (through es s u g h v (Int z) e) m;
  same = λ v w x k l d e.
      let first = var_from s (u v) x (back es s u g h v ∙ d) in
      c.same v w first.0 k l first.1 (through es s u g h w (Var x) e ∙ sym (through es s u g h v (Var x) d) ∙ first.1);
  atoms = λ v a k e. c.atoms v a k (through es s u g h v (Atom a) e);
  compounds = λ v f ts k e. c.compounds v f _ k (through es s u g h v (Comp f ts) e);
  within = c.within;
}

pub greatest_family : GreatestFamily
greatest_family M N es s ps g m =
    let d = greatest_for M N s ps m in (
      d.0,
      record {
        closed = d.1;
        contains = d.2;
        domains = λ x n. (
          λ i. record { unifier = s; general = g; family = d.0; closed = d.1; member = i },
          λ i. ((d.2 i.family (closed_either M N es s i.unifier ps i.family g i.general i.closed)).at x).each n i.member,
        );
      },
    )
