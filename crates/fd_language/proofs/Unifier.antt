-- Each list of equations has a most general unifier, or none unifies it.
use Rattle.std.proofs.Common.{◌≡◌, ℕ, zero, suc, ◌+◌, ◌<◌, ◌≤◌, Bool, true, false, cond, ◌||◌, ◌==◌, not, filter, ℤ, pos, negsuc, List, [], ◌∷◌, ◌++◌, length}
use Rattle.std.proofs.Common.{refl, ap, sym, ◌∙◌, subst, inl, inr, ◌⊎◌, arith, eqb-true, eq-eqb, ne_eqb}
use Rattle.std.proofs.lemmas.Bool.{cases_Bool, or_cases, true≢false, cases_eq, eqb-false, not_from_true, not_from_false, or_parts, or_left, or_right}
use Rattle.fd_language.specs.Term.{Term, Terms, Var, Int, Atom, Comp, Name, Substitution, apply, apply_all, after, no_terms, term}
use Rattle.fd_language.specs.Variables.{variables_of, variables_of_all, occurs, occurs_any}
use Rattle.fd_language.specs.Unifier.{Equation, IsMostGeneral, Unifies}
use Rattle.fd_language.specs.Family.{has}
use Rattle.fd_language.proofs.Substitutions.{after_is, identity, through_term}
use Rattle.fd_language.proofs.Sets.{has-filter, has-filter_back}
use Rattle.fd_language.proofs.GreatestFamily.{shorter_or_same}
use Rattle.fd_language.proofs.Monotone.{in_left, in_right}

-- the size of a term, at least 1
mutual
  size : Term → ℕ
  size (Comp f ts) = suc (sizes ts)
  size _ = 1

  sizes : Terms → ℕ
  sizes no_terms = 0
  sizes (term t ts) = size t + sizes ts

-- x goes to t, and each other variable to itself
bind : ℕ → Term → Substitution
bind x t y = cond (y == x) t (Var y)

-- a term without x is left as it is
mutual
  unfolding bind

  bind_other : (x : ℕ) (t u : Term) → occurs x u ≡ false → apply (bind x t) u ≡ u
  bind_other x t (Var y) h = rw h refl
  bind_other x t (Int z) h = refl
  bind_other x t (Atom a) h = refl
  bind_other x t (Comp f us) h = ap (Comp f) (bind_others x t us h)

  bind_others : (x : ℕ) (t : Term) (us : Terms) → occurs_any x us ≡ false → apply_all (bind x t) us ≡ us
  bind_others x t no_terms h = refl
  bind_others x t (term u us) h = let a = bind_other x t u ((or_parts (occurs x u) (occurs_any x us) h).0) in let b = bind_others x t us ((or_parts (occurs x u) (occurs_any x us) h).1) in cc

pub bound_at : (b : Bool) (u : Substitution) (x y : ℕ) (t : Term) → u x ≡ apply u t → (b ≡ true → y ≡ x) → apply u (cond b t (Var y)) ≡ u y
bound_at true u x y t e f = sym e ∙ ap u (sym (f refl))
bound_at false u x y t e f = refl

-- a unifier of x and t goes through the binding
through_bind : (u : Substitution) (x : ℕ) (t : Term) → u x ≡ apply u t → (r : Term) → apply u (apply (bind x t) r) ≡ apply u r
unfolding bind
through_bind u x t e r = through_term (bind x t) u (λ y. bound_at (y == x) u x y t e (eqb-true y x)) r

-- the equations with the binding applied
bind_all : ℕ → Term → List Equation → List Equation
bind_all x t [] = []
bind_all x t (e ∷ es) = record { left = apply (bind x t) e.left; right = apply (bind x t) e.right } ∷ bind_all x t es

bound_to : (u : Substitution) (x : ℕ) (t : Term) (es : List Equation) → u x ≡ apply u t → Unifies u es → Unifies u (bind_all x t es)
unfolding bind_all
bound_to u x t [] e h = tt
bound_to u x t (q ∷ es) e h = (through_bind u x t e q.left ∙ h.0 ∙ sym (through_bind u x t e q.right), bound_to u x t es e h.1)

after_unifies : (s : Substitution) (x : ℕ) (t : Term) (es : List Equation) → Unifies s (bind_all x t es) → Unifies (after s (bind x t)) es
unfolding bind_all
after_unifies s x t [] h = tt
after_unifies s x t (q ∷ es) h = (after_is s (bind x t) q.left ∙ h.0 ∙ sym (after_is s (bind x t) q.right), after_unifies s x t es h.1)

bind_self : (x : ℕ) (t : Term) → bind x t x ≡ t
unfolding bind
bind_self x t = rw (eq-eqb x x refl) refl

-- the equation of a variable with a term without it, in front
eliminate : (x : ℕ) (t : Term) (es : List Equation) (s : Substitution) → occurs x t ≡ false → IsMostGeneral (bind_all x t es) s
    → IsMostGeneral (record { left = Var x; right = t } ∷ es) (after s (bind x t))
eliminate x t es s o g = record {
  unifies = (ap (apply s) (bind_self x t) ∙ sym (after_is s (bind x t) t ∙ ap (apply s) (bind_other x t t o)), after_unifies s x t es g.unifies);
  general = λ u y h. through_term s u (λ z. g.general u z (bound_to u x t es h.0 h.1)) (bind x t y) ∙ through_bind u x t h.0 (Var y);
}

eliminate_none : (x : ℕ) (t : Term) (es : List Equation) → ((u : Substitution) → Unifies u (bind_all x t es) → ⊥) → (u : Substitution) → Unifies u (record { left = Var x; right = t } ∷ es) → ⊥
eliminate_none x t es n u h = n u (bound_to u x t es h.0 h.1)

-- a variable's term is no larger than a term that the variable occurs in, and smaller than a compound
mutual
  unfolding size

  occurs_size : (u : Substitution) (x : ℕ) (t : Term) → occurs x t ≡ true → size (u x) ≤ size (apply u t)
  occurs_size u x (Var y) h = let e : y ≡ x = eqb-true y x h in omega (arith, ap (λ z. size (u z)) e)
  occurs_size u x (Int z) h = absurd (true≢false (sym h))
  occurs_size u x (Atom a) h = absurd (true≢false (sym h))
  occurs_size u x (Comp f ts) h = let l : size (u x) ≤ sizes (apply_all u ts) = occurs_sizes u x ts h in omega arith

  occurs_sizes : (u : Substitution) (x : ℕ) (ts : Terms) → occurs_any x ts ≡ true → size (u x) ≤ sizes (apply_all u ts)
  occurs_sizes u x no_terms h = absurd (true≢false (sym h))
  occurs_sizes u x (term t ts) h = elim (or_cases (occurs x t) (occurs_any x ts) h) [
    | inl a ↦ let l : size (u x) ≤ size (apply u t) = occurs_size u x t a in omega arith
    | inr a ↦ let l : size (u x) ≤ sizes (apply_all u ts) = occurs_sizes u x ts a in omega arith
  ]

pub occurs_check : (u : Substitution) (x : ℕ) (f : Name) (ts : Terms) → occurs_any x ts ≡ true → u x ≡ Comp f (apply_all u ts) → ⊥
unfolding size
occurs_check u x f ts h e = let l = occurs_sizes u x ts h in let k : size (u x) ≡ suc (sizes (apply_all u ts)) = ap size e in omega arith

-- names and integers are equal or not
pub decide_name : (a b : Name) → (a ≡ b) ⊎ (a ≡ b → ⊥)
decide_name [] [] = inl refl
decide_name [] (b ∷ bs) = inr (λ e. cc)
decide_name (a ∷ as') [] = inr (λ e. cc)
decide_name (a ∷ as') (b ∷ bs) = elim (cases_eq a b) [
  | inl e ↦ elim (decide_name as' bs) [ inl f ↦ inl (cc) | inr f ↦ inr (λ g. f (cc)) ]
  | inr e ↦ inr (λ g. e (cc))
]

pub decide_int : (y z : ℤ) → (y ≡ z) ⊎ (y ≡ z → ⊥)
decide_int (pos m) (pos n) = elim (cases_eq m n) [ inl e ↦ inl (ap pos e) | inr e ↦ inr (λ g. e (cc)) ]
decide_int (pos m) (negsuc n) = inr (λ g. cc)
decide_int (negsuc m) (pos n) = inr (λ g. cc)
decide_int (negsuc m) (negsuc n) = elim (cases_eq m n) [ inl e ↦ inl (ap negsuc e) | inr e ↦ inr (λ g. e (cc)) ]

-- the variables and the size of a list of equations
occurs_in : ℕ → List Equation → Bool
occurs_in x [] = false
occurs_in x (e ∷ es) = (occurs x e.left || occurs x e.right) || occurs_in x es

size_of : List Equation → ℕ
size_of [] = 0
size_of (e ∷ es) = size e.left + size e.right + size_of es

-- simpler equations in place of one
record Simpler (l r : Term) (ds : List Equation) : Type 0 where
  there : (u : Substitution) → apply u l ≡ apply u r → Unifies u ds
  back : (u : Substitution) → Unifies u ds → apply u l ≡ apply u r
  smaller : size_of ds < size l + size r
  fewer : (x : ℕ) → occurs_in x ds ≡ true → (occurs x l || occurs x r) ≡ true

-- what one equation comes to
data Turn (l r : Term) : Type 0 where
  fails : ((u : Substitution) → apply u l ≡ apply u r → ⊥) → Turn l r
  simpler : (ds : List Equation) → Simpler l r ds → Turn l r
  binds : (x : ℕ) (t : Term) → occurs x t ≡ false → (occurs x l || occurs x r) ≡ true → ((y : ℕ) → occurs y t ≡ true → (occurs y l || occurs y r) ≡ true)
      → ((u : Substitution) → apply u l ≡ apply u r → u x ≡ apply u t) → ((u : Substitution) → u x ≡ apply u t → apply u l ≡ apply u r) → Turn l r

-- the pairs of two lists of terms
record Pairs (ts us : Terms) (ds : List Equation) : Type 0 where
  there : (u : Substitution) → apply_all u ts ≡ apply_all u us → Unifies u ds
  back : (u : Substitution) → Unifies u ds → apply_all u ts ≡ apply_all u us
  smaller : size_of ds ≤ sizes ts + sizes us
  fewer : (x : ℕ) → occurs_in x ds ≡ true → (occurs_any x ts || occurs_any x us) ≡ true

four : (a b c d e f : Bool) → (e ≡ true → (c || d) ≡ true) → ((a || b) || e) ≡ true → ((a || c) || (b || d)) ≡ true
four a b c d e f h g = grind (arith, h)

pairs : (ts us : Terms) → ((ds : List Equation) × Pairs ts us ds) ⊎ ((u : Substitution) → apply_all u ts ≡ apply_all u us → ⊥)
unfolding sizes size_of occurs_in
pairs no_terms no_terms = inl ([], record { there = λ u e. tt; back = λ u h. refl; smaller = omega arith; fewer = λ x h. absurd (true≢false (sym h)) })
pairs no_terms (term r rs) = inr (λ u e. cc)
pairs (term t ts) no_terms = inr (λ u e. cc)
pairs (term t ts) (term r rs) = elim (pairs ts rs) [
  | inl p ↦ inl (
    record { left = t; right = r } ∷ p.0,
    record {
      there = λ u e. (let h : apply u t ≡ apply u r = cc in h, p.1.there u (let h : apply_all u ts ≡ apply_all u rs = cc in h));
      back = λ u h. (let a = h.0 in let b = p.1.back u h.1 in cc);
      smaller = omega (arith, p.1.smaller);
      fewer = λ x h. four (occurs x t) (occurs x r) (occurs_any x ts) (occurs_any x rs) (occurs_in x p.0) true (p.1.fewer x) h;
    },
  )
  | inr n ↦ inr (λ u e. n u (let h : apply_all u ts ≡ apply_all u rs = cc in h))
]

empty_less : (l r : Term) → 0 < size l + size r → size_of [] < size l + size r
unfolding size_of
empty_less l r h = h

empty_occurs : (x : ℕ) → occurs_in x [] ≡ true → ⊥
unfolding occurs_in
empty_occurs x h = true≢false (sym h)

nothing : (l r : Term) → ((u : Substitution) → apply u l ≡ apply u r) → 0 < size l + size r → Turn l r
nothing l r h s = simpler [] (record { there = λ u e. tt; back = λ u e. h u; smaller = empty_less l r s; fewer = λ x e. absurd (empty_occurs x e) })

swap_or : (a b : Bool) → (a || b) ≡ true → (b || a) ≡ true
swap_or a b h = grind arith

swapped : (l r : Term) → Turn l r → Turn r l
swapped l r (fails n) = fails (λ u e. n u (sym e))
swapped l r (simpler ds s) = simpler ds (record {
  there = λ u e. s.there u (sym e);
  back = λ u h. sym (s.back u h);
  smaller = omega (arith, s.smaller);
  fewer = λ x h. swap_or (occurs x l) (occurs x r) (s.fewer x h);
})
swapped l r (binds x t o i j f g) = binds x t o (swap_or (occurs x l) (occurs x r) i) (λ y h. swap_or (occurs y l) (occurs y r) (j y h)) (λ u e. f u (sym e)) (λ u e. sym (g u e))

bind_to : (x : ℕ) (r : Term) → occurs x r ≡ false → Turn (Var x) r
bind_to x r o = binds x r o (or_left (x == x) (occurs x r) (eq-eqb x x refl)) (λ y h. or_right (x == y) (occurs y r) h) (λ u e. e) (λ u e. e)

turn : (l r : Term) → Turn l r
unfolding size
turn (Var x) (Var y) = elim (cases_eq y x) [
  | inl e ↦ nothing (Var x) (Var y) (λ u. ap u (sym e)) (omega arith)
  | inr n ↦ bind_to x (Var y) (ne_eqb y x n)
]
turn (Var x) (Int z) = bind_to x (Int z) refl
turn (Var x) (Atom a) = bind_to x (Atom a) refl
turn (Var x) (Comp f ts) = elim (cases_Bool (occurs_any x ts)) [ inl o ↦ fails (λ u e. occurs_check u x f ts o e) | inr o ↦ bind_to x (Comp f ts) o ]
turn (Int z) (Var x) = swapped (Var x) (Int z) (bind_to x (Int z) refl)
turn (Int z) (Int y) = elim (decide_int z y) [ inl e ↦ nothing (Int z) (Int y) (λ u. ap Int e) (omega arith) | inr n ↦ fails (λ u e. n (cc)) ]
turn (Atom a) (Var x) = swapped (Var x) (Atom a) (bind_to x (Atom a) refl)
turn (Atom a) (Atom b) = elim (decide_name a b) [ inl e ↦ nothing (Atom a) (Atom b) (λ u. ap Atom e) (omega arith) | inr n ↦ fails (λ u e. n (cc)) ]
turn (Comp f ts) (Var x) = swapped (Var x) (Comp f ts) (elim (cases_Bool (occurs_any x ts)) [ inl o ↦ fails (λ u e. occurs_check u x f ts o e) | inr o ↦ bind_to x (Comp f ts) o ])
turn (Comp f ts) (Comp g us) = elim (decide_name f g) [
  | inl e ↦ elim (pairs ts us) [
    | inl p ↦ simpler p.0 (record {
      there = λ u h. p.1.there u (let k : apply_all u ts ≡ apply_all u us = cc in k);
      back = λ u h. (let k = p.1.back u h in cc);
      smaller = omega (arith, p.1.smaller);
      fewer = p.1.fewer;
    })
    | inr n ↦ fails (λ u h. n u (let k : apply_all u ts ≡ apply_all u us = cc in k))
  ]
  | inr n ↦ fails (λ u h. n (cc))
]
turn _ _ = fails (λ u e. cc)

-- solved, one way or the other
abbrev pub Solved : List Equation → Type 0
Solved es = ((s : Substitution) × IsMostGeneral es s) ⊎ ((u : Substitution) → Unifies u es → ⊥)

-- What unifies two lists of equations unifies both together.
pub join_both : (u : Substitution) (ds es : List Equation) → Unifies u ds → Unifies u es → Unifies u (ds ++ es)
join_both u [] es h g = g
join_both u (d ∷ ds) es h g = (h.0, join_both u ds es h.1 g)

-- What unifies two lists together unifies each of them.
pub split_both : (u : Substitution) (ds es : List Equation) → Unifies u (ds ++ es) → Unifies u ds × Unifies u es
split_both u [] es h = (tt, h)
split_both u (d ∷ ds) es h = let later = split_both u ds es h.1 in ((h.0, later.0), later.1)

size_append : (ds es : List Equation) → size_of (ds ++ es) ≡ size_of ds + size_of es
unfolding size_of
size_append [] es = omega arith
size_append (d ∷ ds) es = let h = size_append ds es in omega arith

or_more_of : (a b c d : Bool) → (c ≡ true → (b || d) ≡ true) → (a || c) ≡ true → ((a || b) || d) ≡ true
or_more_of a b c d f h = grind (arith, f)

occurs_append : (x : ℕ) (ds es : List Equation) → occurs_in x (ds ++ es) ≡ true → (occurs_in x ds || occurs_in x es) ≡ true
unfolding occurs_in
occurs_append x [] es h = h
occurs_append x (d ∷ ds) es h = or_more_of (occurs x d.left || occurs x d.right) (occurs_in x ds) (occurs_in x (ds ++ es)) (occurs_in x es) (occurs_append x ds es) h

-- what occurs after a binding
Left : ℕ → Term → ℕ → Bool → Type 0
Left x t y old = (y ≡ x → ⊥) × ((occurs y t || old) ≡ true)

left_var : (b : Bool) (x : ℕ) (t : Term) (z y : ℕ) → occurs x t ≡ false → (b ≡ false → z ≡ x → ⊥) → occurs y (cond b t (Var z)) ≡ true → Left x t y (z == y)
unfolding Left
left_var true x t z y o f h = ((λ e. true≢false (sym h ∙ ap (λ k. occurs k t) e ∙ o)), or_left (occurs y t) (z == y) h)
left_var false x t z y o f h = ((λ e. f refl (eqb-true z y h ∙ e)), or_right (occurs y t) (z == y) h)

widen : (o a b : Bool) → (o || a) ≡ true → (o || (a || b)) ≡ true
widen o a b h = grind arith

widen_right : (o a b : Bool) → (o || b) ≡ true → (o || (a || b)) ≡ true
widen_right o a b h = grind arith

left_two : (x : ℕ) (t : Term) (y : ℕ) (a b c d : Bool) → (c ≡ true → Left x t y a) → (d ≡ true → Left x t y b) → (c || d) ≡ true → Left x t y (a || b)
unfolding Left
left_two x t y a b c d f g h = elim (or_cases c d h) [ inl e ↦ ((f e).0, widen (occurs y t) a b (f e).1) | inr e ↦ ((g e).0, widen_right (occurs y t) a b (g e).1) ]

mutual
  unfolding bind

  left_in : (x : ℕ) (t : Term) (y : ℕ) (r : Term) → occurs x t ≡ false → occurs y (apply (bind x t) r) ≡ true → Left x t y (occurs y r)
  left_in x t y (Var z) o h = left_var (z == x) x t z y o (λ e f. eqb-false z x e f) h
  left_in x t y (Int z) o h = absurd (true≢false (sym h))
  left_in x t y (Atom a) o h = absurd (true≢false (sym h))
  left_in x t y (Comp f rs) o h = left_among x t y rs o h

  left_among : (x : ℕ) (t : Term) (y : ℕ) (rs : Terms) → occurs x t ≡ false → occurs_any y (apply_all (bind x t) rs) ≡ true → Left x t y (occurs_any y rs)
  left_among x t y no_terms o h = absurd (true≢false (sym h))
  left_among x t y (term r rs) o h = left_two x t y (occurs y r) (occurs_any y rs) (occurs y (apply (bind x t) r)) (occurs_any y (apply_all (bind x t) rs))
      (left_in x t y r o) (left_among x t y rs o) h

left_all : (x : ℕ) (t : Term) (y : ℕ) (es : List Equation) → occurs x t ≡ false → occurs_in y (bind_all x t es) ≡ true → Left x t y (occurs_in y es)
unfolding occurs_in bind_all
left_all x t y [] o h = absurd (true≢false (sym h))
left_all x t y (e ∷ es) o h =
    left_two x t y (occurs y e.left || occurs y e.right) (occurs_in y es) (occurs y (apply (bind x t) e.left) || occurs y (apply (bind x t) e.right)) (occurs_in y (bind_all x t es))
    (left_two x t y (occurs y e.left) (occurs y e.right) (occurs y (apply (bind x t) e.left)) (occurs y (apply (bind x t) e.right)) (left_in x t y e.left o) (left_in x t y e.right o))
    (left_all x t y es o) h

Covers : List ℕ → List Equation → Type 0
Covers vs es = (y : ℕ) → occurs_in y es ≡ true → has vs y ≡ true

without : ℕ → List ℕ → List ℕ
without x vs = filter (λ v. not (v == x)) vs

fewer_without : (x : ℕ) (vs : List ℕ) → has vs x ≡ true → length (without x vs) < length vs
unfolding without
fewer_without x vs h = elim (shorter_or_same (λ v. not (v == x)) vs) [
  | inl l ↦ l
  | inr e ↦ absurd (true≢false (sym (has-filter_back (λ v. not (v == x)) vs x (subst (λ l. has l x ≡ true) (sym e) h)).1 ∙ not_from_true (x == x) (eq-eqb x x refl)))
]

covers_without : (x : ℕ) (t l r : Term) (vs : List ℕ) (es : List Equation) → occurs x t ≡ false
    → ((y : ℕ) → occurs y t ≡ true → (occurs y l || occurs y r) ≡ true) → Covers vs (record { left = l; right = r } ∷ es)
    → Covers (without x vs) (bind_all x t es)
unfolding Covers without Left occurs_in
covers_without x t l r vs es o j c y h =
    let k = left_all x t y es o h in
    has-filter (λ v. not (v == x)) vs y
    (c y (elim (or_cases (occurs y t) (occurs_in y es) k.1) [ inl e ↦ or_left (occurs y l || occurs y r) (occurs_in y es) (j y e) | inr e ↦ or_right (occurs y l || occurs y r) (occurs_in y es) e ]))
    (not_from_false (y == x) (ne_eqb y x k.0))

-- simpler equations in place of the first one
by_simpler : (l r : Term) (ds es : List Equation) → Simpler l r ds → Solved (ds ++ es) → Solved (record { left = l; right = r } ∷ es)
by_simpler l r ds es s (inl g) = inl (
  g.0,
  record {
    unifies = (let both = split_both g.0 ds es g.1.unifies in (s.back g.0 both.0, both.1));
    general = λ u x h. g.1.general u x (join_both u ds es (s.there u h.0) h.1);
  },
)
by_simpler l r ds es s (inr n) = inr (λ u h. n u (join_both u ds es (s.there u h.0) h.1))

-- the same equation, written as that of a variable
by_binding : (l r : Term) (x : ℕ) (t : Term) (es : List Equation) → occurs x t ≡ false → ((u : Substitution) → apply u l ≡ apply u r → u x ≡ apply u t)
    → ((u : Substitution) → u x ≡ apply u t → apply u l ≡ apply u r) → Solved (bind_all x t es) → Solved (record { left = l; right = r } ∷ es)
by_binding l r x t es o f g (inl s) =
    let h = eliminate x t es s.0 o s.1 in
    inl (after s.0 (bind x t), record { unifies = (g (after s.0 (bind x t)) h.unifies.0, h.unifies.1); general = λ u y k. h.general u y (f u k.0, k.1) })
by_binding l r x t es o f g (inr n) = inr (λ u h. eliminate_none x t es n u (f u h.0, h.1))

covers_simpler : (vs : List ℕ) (l r : Term) (ds es : List Equation) → Simpler l r ds → Covers vs (record { left = l; right = r } ∷ es) → Covers vs (ds ++ es)
unfolding Covers occurs_in
covers_simpler vs l r ds es s c y h = c y (elim (or_cases (occurs_in y ds) (occurs_in y es) (occurs_append y ds es h)) [
  | inl e ↦ or_left (occurs y l || occurs y r) (occurs_in y es) (s.fewer y e)
  | inr e ↦ or_right (occurs y l || occurs y r) (occurs_in y es) e
])

covers_one : (vs : List ℕ) (l r : Term) (es : List Equation) (x : ℕ) → Covers vs (record { left = l; right = r } ∷ es) → (occurs x l || occurs x r) ≡ true → has vs x ≡ true
unfolding Covers occurs_in
covers_one vs l r es x c h = c x (or_left (occurs x l || occurs x r) (occurs_in x es) h)

smaller_rest : (l r : Term) (ds es : List Equation) (m : ℕ) → Simpler l r ds → size_of (record { left = l; right = r } ∷ es) < suc m → size_of (ds ++ es) < m
unfolding size_of
smaller_rest l r ds es m s h = let a = size_append ds es in omega (arith, s.smaller)

one_turn : (n m : ℕ) (vs : List ℕ) (l r : Term) (es : List Equation) → length vs < suc n → size_of (record { left = l; right = r } ∷ es) < suc m → Covers vs (record { left = l; right = r } ∷ es) →
    ((ws : List ℕ) (qs : List Equation) → length ws < n → Covers ws qs → Solved qs) → ((qs : List Equation) → size_of qs < m → Covers vs qs → Solved qs)
    → Turn l r → Solved (record { left = l; right = r } ∷ es)
one_turn n m vs l r es h k c outer inner (fails f) = inr (λ u g. f u g.0)
one_turn n m vs l r es h k c outer inner (simpler ds s) = by_simpler l r ds es s (inner (ds ++ es) (smaller_rest l r ds es m s k) (covers_simpler vs l r ds es s c))
one_turn n m vs l r es h k c outer inner (binds x t o i j f g) =
    by_binding l r x t es o f g (outer (without x vs) (bind_all x t es) (let w = fewer_without x vs (covers_one vs l r es x c i) in omega arith) (covers_without x t l r vs es o j c))

inside : (n : ℕ) → ((ws : List ℕ) (qs : List Equation) → length ws < n → Covers ws qs → Solved qs) → (vs : List ℕ) → length vs < suc n
    → (m : ℕ) (es : List Equation) → size_of es < m → Covers vs es → Solved es
inside n outer vs h zero es k c = absurd (omega arith)
inside n outer vs h (suc m) [] k c = inl (Var, identity)
inside n outer vs h (suc m) (e ∷ es) k c = one_turn n m vs e.left e.right es h k c outer (inside n outer vs h m) (turn e.left e.right)

solve : (n : ℕ) (vs : List ℕ) (es : List Equation) → length vs < n → Covers vs es → Solved es
solve zero vs es h c = absurd (omega arith)
solve (suc n) vs es h c = inside n (solve n) vs h (suc (size_of es)) es (omega arith) c

-- the variables of a list of equations
all_vars : List Equation → List ℕ
all_vars [] = []
all_vars (e ∷ es) = (variables_of e.left ++ variables_of e.right) ++ all_vars es

in_both : (xs ys : List ℕ) (n : ℕ) (a b : Bool) → (a ≡ true → has xs n ≡ true) → (b ≡ true → has ys n ≡ true) → (a || b) ≡ true → has (xs ++ ys) n ≡ true
in_both xs ys n a b f g h = elim (or_cases a b h) [ inl e ↦ in_left xs ys n (f e) | inr e ↦ in_right xs ys n (g e) ]

mutual
  var_there : (t : Term) (x : ℕ) → occurs x t ≡ true → has (variables_of t) x ≡ true
  var_there (Var y) x h = or_left (y == x) false h
  var_there (Int z) x h = h
  var_there (Atom a) x h = h
  var_there (Comp f ts) x h = vars_there ts x h

  vars_there : (ts : Terms) (x : ℕ) → occurs_any x ts ≡ true → has (variables_of_all ts) x ≡ true
  vars_there no_terms x h = h
  vars_there (term t ts) x h = in_both (variables_of t) (variables_of_all ts) x (occurs x t) (occurs_any x ts) (var_there t x) (vars_there ts x) h

all_covered : (es : List Equation) → Covers (all_vars es) es
unfolding Covers occurs_in all_vars
all_covered [] x h = absurd (true≢false (sym h))
all_covered (e ∷ es) x h = in_both (variables_of e.left ++ variables_of e.right) (all_vars es) x (occurs x e.left || occurs x e.right) (occurs_in x es)
    (in_both (variables_of e.left) (variables_of e.right) x (occurs x e.left) (occurs x e.right) (var_there e.left x) (var_there e.right x)) (all_covered es x) h

pub solved : (es : List Equation) → Solved es
solved es = solve (suc (length (all_vars es))) (all_vars es) es (omega arith) (all_covered es)
