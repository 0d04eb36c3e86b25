-- Equations that may be restated: a part of a structure taken out, and an equation moved to the front.
use Rattle.std.proofs.Common.{◌≡◌, ℕ, suc, ◌<◌, ◌≤◌, true, false, cond, List, [], ◌∷◌, ◌++◌, refl, ap, sym, ◌∙◌, subst, arith, eq-eqb, ne_eqb, inl, inr}
use Rattle.std.proofs.lemmas.Bool.{true≢false}
use Rattle.fd_language.specs.Term.{Name, Term, Terms, Var, Int, Atom, Comp, no_terms, term, term_count, Substitution, apply, apply_all, joined_terms}
use Rattle.fd_language.specs.Unifier.{Equation, Unifies}
use Rattle.fd_model.specs.Goal.{Goal}
use Rattle.branch_meaning.specs.Heap.{Of, AllOf, EquationsOf}
use Rattle.branch_meaning.specs.EquivalentEquations.{SaysSame}
use Rattle.branch_meaning.proofs.Lemmas.{agree, agree_each, more_of, more_all, more_each, with_one}
use Rattle.wam_code.specs.Places.{Places, Has}
use Rattle.clause_code.specs.Pieces.{Base, Does}
use Rattle.clause_code.specs.NestedStructures.{whole, apart}
use Rattle.clause_code.proofs.Pieces.{equation, does_nothing, does_both, does_restate}
use Rattle.clause_code.proofs.FreshVariables.{Unknown}

apply_joined : (s : Substitution) (xs ys : Terms) → apply_all s (joined_terms xs ys) ≡ joined_terms (apply_all s xs) (apply_all s ys)
apply_joined s no_terms ys = refl
apply_joined s (term x xs) ys = ap (term (apply s x)) (apply_joined s xs ys)

all_first : (P : ℕ → Type 0) (xs ys : Terms) → AllOf P (joined_terms xs ys) → AllOf P xs
all_first P no_terms ys h = tt
all_first P (term x xs) ys h = (h.0, all_first P xs ys h.1)

all_last : (P : ℕ → Type 0) (xs ys : Terms) → AllOf P (joined_terms xs ys) → AllOf P ys
all_last P no_terms ys h = h
all_last P (term x xs) ys h = all_last P xs ys h.1

all_joined : (P : ℕ → Type 0) (xs ys : Terms) → AllOf P xs → AllOf P ys → AllOf P (joined_terms xs ys)
all_joined P no_terms ys h g = g
all_joined P (term x xs) ys h g = (h.0, all_joined P xs ys h.1 g)

-- ---- the substitution with another term for n

with_else : (n : ℕ) (t : Term) (s : Substitution) (x : ℕ) → (x ≡ n → ⊥) → s x ≡ with_one n t s x
with_else n t s x l = sym (ap (λ c. cond c t (s x)) (ne_eqb x n l))

with_here : (n : ℕ) (t : Term) (s : Substitution) → with_one n t s n ≡ t
with_here n t s = ap (λ c. cond c t (s n)) (eq-eqb n n refl)

module _ (t : Term) (f : Name) (xs : Terms) (u : Term) (ys : Terms) (later : List Equation) (p : Places) (new : p.known p.top ≡ false) (below : EquationsOf (Has p) (whole t f xs u ys later)) where
  abbrev n : ℕ
  n = p.top

  other : (v : ℕ) → Has p v → v ≡ n → ⊥
  other v (inl h) e = true≢false (sym (subst (λ x. p.known x ≡ true) e h) ∙ new)
  other v (inr h) e = omega (arith, h, e)

  same_structure : (w : Substitution) → w n ≡ apply w u → apply_all w (joined_terms xs (term (Var n) ys)) ≡ apply_all w (joined_terms xs (term u ys))
  same_structure w e =
      let a = apply_joined w xs (term (Var n) ys) in
      let b = apply_joined w xs (term u ys) in
      a ∙ ap (λ x. joined_terms (apply_all w xs) (term x (apply_all w ys))) e ∙ sym b

  says_same : SaysSame (Has p) (apart n t f xs u ys later) (whole t f xs u ys later)
  says_same = record {
    there = λ w h. (h.0 ∙ ap (Comp f) (same_structure w h.1.0), h.1.1);
    back = λ w h.
        let s : Substitution = with_one n (apply w u) w in
        let old : (x : ℕ) → Has p x → w x ≡ s x = λ x g. with_else n (apply w u) w x (other x g) in
        let all = agree_each (Has p) w s old (whole t f xs u ys later) below h in
        let part : apply w u ≡ apply s u = agree (Has p) w s old u (all_last (Has p) xs (term u ys) below.0.1).0 in
        let here : s n ≡ apply s u = with_here n (apply w u) w ∙ part in
        (s, (all.0 ∙ ap (Comp f) (sym (same_structure s here)), (here, all.1)), λ x l. sym (old x l));
  }

  abbrev q : Places
  q = record p { top = suc n }

  up : (x : ℕ) → Has p x → Has q x
  up x (inl h) = inl h
  up x (inr h) = inr (omega (arith, h))

  last : Has q n
  last = inr (omega arith)

  apart_below : EquationsOf (Has q) (apart n t f xs u ys later)
  apart_below =
      let first = all_first (Has p) xs (term u ys) below.0.1 in
      let rest = all_last (Has p) xs (term u ys) below.0.1 in (
        (more_of (Has p) (Has q) up t below.0.0, all_joined (Has q) xs (term (Var n) ys) (more_all (Has p) (Has q) up xs first) (last, more_all (Has p) (Has q) up ys rest.1)),
        ((last, more_of (Has p) (Has q) up u rest.0), more_each (Has p) (Has q) up later below.1),
      )

-- A part of a structure may be taken out: the structure is then equated with one that has a variable of the code's own there, and this variable with the part.
pub does_split : (b : Base) (at : ℕ) (t : Term) (f : Name) (xs : Terms) (u : Term) (ys : Terms) (later : List Equation) (p : Places) (gs : List Goal)
    → p.known p.top ≡ false → EquationsOf (Has p) (whole t f xs u ys later)
    → Does b at [] p (whole t f xs u ys later) gs (record p { top = suc p.top }) (apart p.top t f xs u ys later) gs
does_split b at t f xs u ys later p gs k below =
    does_restate b at p (record p { top = suc p.top }) (whole t f xs u ys later) (apart p.top t f xs u ys later) gs (
      suc p.top,
      apart p.top t f xs u ys later,
      omega arith,
      (λ v l m. let e : p.top ≡ v = omega (arith, l, m) in
          subst (λ x. p.known x ≡ false) e k),
      apart_below t f xs u ys later p k below,
      says_same t f xs u ys later p k below,
      (refl, refl),
    )

-- ---- all compound parts of a structure

joined_one : (xs : Terms) (t : Term) (zs : Terms) → joined_terms (joined_terms xs (term t no_terms)) zs ≡ joined_terms xs (term t zs)
joined_one no_terms t zs = refl
joined_one (term x xs) t zs = ap (term x) (joined_one xs t zs)

-- the terms with variables from m on for the compound ones
abbrev pub opened : ℕ → Terms → Terms
opened m no_terms = no_terms
opened m (term (Var x) ts) = term (Var x) (opened m ts)
opened m (term (Int z) ts) = term (Int z) (opened m ts)
opened m (term (Atom a) ts) = term (Atom a) (opened m ts)
opened m (term (Comp f us) ts) = term (Var m) (opened (suc m) ts)

-- the first variable behind these
abbrev pub behind_opened : ℕ → Terms → ℕ
behind_opened m no_terms = m
behind_opened m (term (Var x) ts) = behind_opened m ts
behind_opened m (term (Int z) ts) = behind_opened m ts
behind_opened m (term (Atom a) ts) = behind_opened m ts
behind_opened m (term (Comp f us) ts) = behind_opened (suc m) ts

-- and the equations of these variables with the compound ones, the last one first
abbrev pub inner_equations : ℕ → Terms → List Equation → List Equation
inner_equations m no_terms es = es
inner_equations m (term (Var x) ts) es = inner_equations m ts es
inner_equations m (term (Int z) ts) es = inner_equations m ts es
inner_equations m (term (Atom a) ts) es = inner_equations m ts es
inner_equations m (term (Comp f us) ts) es = inner_equations (suc m) ts (equation (Var m) (Comp f us) ∷ es)

pub count_opened : (m : ℕ) (ts : Terms) → term_count (opened m ts) ≡ term_count ts
count_opened m no_terms = refl
count_opened m (term (Var x) ts) = ap suc (count_opened m ts)
count_opened m (term (Int z) ts) = ap suc (count_opened m ts)
count_opened m (term (Atom a) ts) = ap suc (count_opened m ts)
count_opened m (term (Comp f us) ts) = ap suc (count_opened (suc m) ts)

pub behind_least : (m : ℕ) (ts : Terms) → m ≤ behind_opened m ts
behind_least m no_terms = omega arith
behind_least m (term (Var x) ts) = behind_least m ts
behind_least m (term (Int z) ts) = behind_least m ts
behind_least m (term (Atom a) ts) = behind_least m ts
behind_least m (term (Comp f us) ts) = let l = behind_least (suc m) ts in omega (arith, l)

-- each variable of the equations is below m
abbrev pub EachUnder : ℕ → List Equation → Type 0
EachUnder m es = EquationsOf (λ v. v < m) es

pub under_more : (m k : ℕ) (es : List Equation) → m ≤ k → EachUnder m es → EachUnder k es
under_more m k es l h = more_each (λ v. v < m) (λ v. v < k) (λ v o. omega (arith, l, o)) es h

pub inner_under : (m : ℕ) (ts : Terms) (es : List Equation) → AllOf (λ v. v < m) ts → EachUnder m es → EachUnder (behind_opened m ts) (inner_equations m ts es)
inner_under m no_terms es h g = g
inner_under m (term (Var x) ts) es h g = inner_under m ts es h.1 g
inner_under m (term (Int z) ts) es h g = inner_under m ts es h.1 g
inner_under m (term (Atom a) ts) es h g = inner_under m ts es h.1 g
inner_under m (term (Comp f us) ts) es h g =
    let up : (v : ℕ) → v < m → v < suc m = λ v o. omega (arith, o) in
    inner_under (suc m) ts (equation (Var m) (Comp f us) ∷ es) (more_all (λ v. v < m) (λ v. v < suc m) up ts h.1)
    ((omega arith, more_all (λ v. v < m) (λ v. v < suc m) up us h.0), under_more m (suc m) es (omega arith) g)

pub inner_rest : (k m : ℕ) (ts : Terms) (es : List Equation) → EachUnder k (inner_equations m ts es) → EachUnder k es
inner_rest k m no_terms es h = h
inner_rest k m (term (Var x) ts) es h = inner_rest k m ts es h
inner_rest k m (term (Int z) ts) es h = inner_rest k m ts es h
inner_rest k m (term (Atom a) ts) es h = inner_rest k m ts es h
inner_rest k m (term (Comp f us) ts) es h = (inner_rest k (suc m) ts (equation (Var m) (Comp f us) ∷ es) h).1

module _ (b : Base) (at : ℕ) (a : Term) (f : Name) (gs : List Goal) where
  -- the structure that a is to be, with its last arguments taken apart
  abbrev Splits : Terms → Terms → Places → List Equation → Type 0
  Splits xs ys p es = Does b at [] p (equation a (Comp f (joined_terms xs ys)) ∷ es) gs (record p { top = behind_opened p.top ys })
      (equation a (Comp f (joined_terms xs (opened p.top ys))) ∷ inner_equations p.top ys es) gs

  passed : (t : Term) (xs ys zs : Terms) (p q : Places) (es ds : List Equation)
      → Does b at [] p (equation a (Comp f (joined_terms (joined_terms xs (term t no_terms)) ys)) ∷ es) gs q (equation a (Comp f (joined_terms (joined_terms xs (term t no_terms)) zs)) ∷ ds) gs
      → Does b at [] p (equation a (Comp f (joined_terms xs (term t ys))) ∷ es) gs q (equation a (Comp f (joined_terms xs (term t zs))) ∷ ds) gs
  passed t xs ys zs p q es ds h =
      subst (λ l. Does b at [] p (equation a (Comp f l) ∷ es) gs q (equation a (Comp f (joined_terms xs (term t zs))) ∷ ds) gs) (joined_one xs t ys)
      (subst (λ r. Does b at [] p (equation a (Comp f (joined_terms (joined_terms xs (term t no_terms)) ys)) ∷ es) gs q (equation a (Comp f r) ∷ ds) gs) (joined_one xs t zs) h)

  split_rest : (xs ys : Terms) (p : Places) (es : List Equation) → Unknown p → Of (λ v. v < p.top) a → AllOf (λ v. v < p.top) xs → AllOf (λ v. v < p.top) ys → EachUnder p.top es → Splits xs ys p es
  split_rest xs no_terms p es u ha hx hy he = does_nothing b at p (equation a (Comp f (joined_terms xs no_terms)) ∷ es) gs
  split_rest xs (term (Var x) ys) p es u ha hx hy he =
      passed (Var x) xs ys (opened p.top ys) p (record p { top = behind_opened p.top ys }) es (inner_equations p.top ys es)
      (split_rest (joined_terms xs (term (Var x) no_terms)) ys p es u ha (all_joined (λ v. v < p.top) xs (term (Var x) no_terms) hx (hy.0, tt)) hy.1 he)
  split_rest xs (term (Int z) ys) p es u ha hx hy he =
      passed (Int z) xs ys (opened p.top ys) p (record p { top = behind_opened p.top ys }) es (inner_equations p.top ys es)
      (split_rest (joined_terms xs (term (Int z) no_terms)) ys p es u ha (all_joined (λ v. v < p.top) xs (term (Int z) no_terms) hx (tt, tt)) hy.1 he)
  split_rest xs (term (Atom k) ys) p es u ha hx hy he =
      passed (Atom k) xs ys (opened p.top ys) p (record p { top = behind_opened p.top ys }) es (inner_equations p.top ys es)
      (split_rest (joined_terms xs (term (Atom k) no_terms)) ys p es u ha (all_joined (λ v. v < p.top) xs (term (Atom k) no_terms) hx (tt, tt)) hy.1 he)
  split_rest xs (term (Comp g ws) ys) p es u ha hx hy he =
      let m : ℕ = p.top in
      let Under : ℕ → Type 0 = λ v. v < m in
      let More : ℕ → Type 0 = λ v. v < suc m in
      let has : (v : ℕ) → Under v → Has p v = λ v l. inr l in
      let up : (v : ℕ) → Under v → More v = λ v l. omega (arith, l) in
      let p1 : Places = record p { top = suc m } in
      let es1 : List Equation = equation (Var m) (Comp g ws) ∷ es in
      let all : AllOf Under (joined_terms xs (term (Comp g ws) ys)) = all_joined Under xs (term (Comp g ws) ys) hx hy in
      let below : EquationsOf (Has p) (whole a f xs (Comp g ws) ys es) =
      ((more_of Under (Has p) has a ha, more_all Under (Has p) has (joined_terms xs (term (Comp g ws) ys)) all), more_each Under (Has p) has es he) in
      let first = does_split b at a f xs (Comp g ws) ys es p gs (u m (omega arith)) below in
      let q : Places = record p { top = behind_opened (suc m) ys } in
      let ds : List Equation = inner_equations (suc m) ys es1 in
      let rest = passed (Var m) xs ys (opened (suc m) ys) p1 q es1 ds
      (split_rest (joined_terms xs (term (Var m) no_terms)) ys p1 es1 (λ v l. u v (omega (arith, l))) (more_of Under More up a ha)
      (all_joined More xs (term (Var m) no_terms) (more_all Under More up xs hx) (omega arith, tt)) (more_all Under More up ys hy.1)
      ((omega arith, more_all Under More up ws hy.0), under_more m (suc m) es (omega arith) he)) in
      does_both b at [] [] p p1 q (whole a f xs (Comp g ws) ys es) (apart m a f xs (Comp g ws) ys es)
      (equation a (Comp f (joined_terms xs (term (Var m) (opened (suc m) ys)))) ∷ ds) gs gs gs first rest

  -- All compound parts of a structure may be taken out.
  pub does_open : (ys : Terms) (p : Places) (es : List Equation) → Unknown p → EachUnder p.top (equation a (Comp f ys) ∷ es)
      → Does b at [] p (equation a (Comp f ys) ∷ es) gs (record p { top = behind_opened p.top ys }) (equation a (Comp f (opened p.top ys)) ∷ inner_equations p.top ys es) gs
  does_open ys p es u h = split_rest no_terms ys p es u h.0.0 tt h.0.1 h.1

-- ---- an equation moved to the front

to_front : (s : Substitution) (es : List Equation) (e : Equation) (ds : List Equation) → Unifies s (es ++ (e ∷ ds)) → Unifies s (e ∷ (es ++ ds))
to_front s [] e ds h = h
to_front s (c ∷ es) e ds h = let w = to_front s es e ds h.1 in (w.0, (h.0, w.1))

from_front : (s : Substitution) (es : List Equation) (e : Equation) (ds : List Equation) → Unifies s (e ∷ (es ++ ds)) → Unifies s (es ++ (e ∷ ds))
from_front s [] e ds h = h
from_front s (c ∷ es) e ds h = (h.1.0, from_front s es e ds (h.0, h.1.1))

front_below : (P : ℕ → Type 0) (es : List Equation) (e : Equation) (ds : List Equation) → EquationsOf P (es ++ (e ∷ ds)) → EquationsOf P (e ∷ (es ++ ds))
front_below P [] e ds h = h
front_below P (c ∷ es) e ds h = let w = front_below P es e ds h.1 in (w.0, (h.0, w.1))

-- Any equation may be made first.
pub does_move : (b : Base) (at : ℕ) (es : List Equation) (e : Equation) (ds : List Equation) (p : Places) (gs : List Goal)
    → EquationsOf (Has p) (es ++ (e ∷ ds)) → Does b at [] p (es ++ (e ∷ ds)) gs p (e ∷ (es ++ ds)) gs
does_move b at es e ds p gs below =
    does_restate b at p p (es ++ (e ∷ ds)) (e ∷ (es ++ ds)) gs (
      p.top,
      e ∷ (es ++ ds),
      omega arith,
      (λ v l m. absurd (omega (arith, l, m))),
      front_below (Has p) es e ds below,
      record { there = λ u h. from_front u es e ds h; back = λ u h. (u, to_front u es e ds h, λ x l. refl) },
      (refl, refl),
    )
