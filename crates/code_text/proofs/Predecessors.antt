-- How places are reached.
use Rattle.std.proofs.Common.{◌≡◌, ◌≢◌, ◌⊎◌, ◌↔◌, ℕ, zero, suc, ◌+◌, ◌<◌, ◌≤◌, Bool, true, false, ◌||◌, not, nat_eq, nat_lt, cond, IsTrue, List, [], ◌∷◌, ◌++◌}
use Rattle.std.proofs.Common.{map, filter, set, length, slice_get, Option, Some, None, refl, sym, ap, ◌∙◌, subst, inl, inr, arith}
use Rattle.std.proofs.lemmas.Bool.{cases_Bool, cases_eq, or_cases, or_left, or_right, eqb-true, eq-eqb, ltb-true, lt-ltb}
use Rattle.std.proofs.lemmas.List.{get_or-set_same, get_or-set_other}
use Rattle.std.proofs.lemmas.Option.{slice_get_within}
use Rattle.fd_language.specs.Family.{has}
use Rattle.wam_code.specs.declared.instruction.Code.{Code}
use Rattle.wam_code.specs.declared.instruction.Code.TheVariants.{TryMeElse, RetryMeElse}
use Rattle.wam_code.specs.declared.parts.QueryEntry.{QueryEntry}
use Rattle.wam_code.specs.Area.{Span, Area, Holds, span_of}
use Rattle.wam_code.specs.VerifiedCode.{named, Names, NamesOther, IsNoStart}
use Rattle.code_text.specs.declared.place_predecessors.Namers.{Namers}
use Rattle.code_text.specs.declared.place_predecessors.Namers.TheVariants.{Nobody, One, More}
use Rattle.code_flow.specs.PlaceConditions.{IsLast}
use Rattle.code_text.specs.Predecessors.{other_of, with_one, namers_at, AreNamers, IsNamedPlainly, IsStart}

-- ---- numbers in lists

pub has_both : (xs ys : List ℕ) (p : ℕ) → has (xs ++ ys) p ≡ (has xs p || has ys p)
has_both [] ys p = refl
has_both (x ∷ xs) ys p = ap (λ b. nat_eq x p || b) (has_both xs ys p) ∙ assoc (nat_eq x p) (has xs p) (has ys p)
  where
    assoc : (a b c : Bool) → (a || (b || c)) ≡ ((a || b) || c)
    assoc true b c = refl
    assoc false b c = refl

map_there : {A : Type 0} (f : A → ℕ) (xs : List A) (p : ℕ) → IsTrue (has (map f xs) p) → (n : ℕ) × (x : A) × (slice_get xs n ≡ Some x) × (f x ≡ p)
map_there f [] p t = absurd (cc (t))
map_there {A} f (x ∷ xs) p t = go (or_cases (nat_eq (f x) p) (has (map f xs) p) t) (map_there f xs p)
  where
    go : (nat_eq (f x) p ≡ true) ⊎ (has (map f xs) p ≡ true) → (has (map f xs) p ≡ true → (n : ℕ) × (y : A) × (slice_get xs n ≡ Some y) × (f y ≡ p))
        → (n : ℕ) × (y : A) × (slice_get (x ∷ xs) n ≡ Some y) × (f y ≡ p)
    go (inl e) rest = (0, x, refl, eqb-true (f x) p e)
    go (inr e) rest = let g = rest e in (suc g.0, g.1, g.2, g.3)

map_back : {A : Type 0} (f : A → ℕ) (xs : List A) (p n : ℕ) (x : A) → slice_get xs n ≡ Some x → f x ≡ p → has (map f xs) p ≡ true
map_back f [] p n x e z = absurd (let g : None ≡ Some x = e in cc (g))
map_back f (y ∷ ys) p zero x e z = let g : y ≡ x = cc (e) in or_left (nat_eq (f y) p) (has (map f ys) p) (eq-eqb (f y) p (ap f g ∙ z))
map_back f (y ∷ ys) p (suc n) x e z = or_right (nat_eq (f y) p) (has (map f ys) p) (map_back f ys p n x e z)

pub has_map : {A : Type 0} (f : A → ℕ) (xs : List A) (p : ℕ) → IsTrue (has (map f xs) p) ↔ ((n : ℕ) × (x : A) × (slice_get xs n ≡ Some x) × (f x ≡ p))
has_map f xs p = (map_there f xs p, λ (n, x, e, z). map_back f xs p n x e z)

-- ---- those that pass a test

filter_there : {A : Type 0} (p : A → Bool) (xs : List A) (n : ℕ) (x : A) → slice_get (filter p xs) n ≡ Some x → (m : ℕ) × (slice_get xs m ≡ Some x) × (p x ≡ true)
filter_there p [] n x e = absurd (let g : None ≡ Some x = e in cc (g))
filter_there {A} p (y ∷ ys) n x e = go (λ k. filter_there p ys k x) (p y) refl n e
  where
    go : ((k : ℕ) → slice_get (filter p ys) k ≡ Some x → (m : ℕ) × (slice_get ys m ≡ Some x) × (p x ≡ true)) → (b : Bool) → p y ≡ b → (n : ℕ)
        → slice_get (cond b (y ∷ filter p ys) (filter p ys)) n ≡ Some x → (m : ℕ) × (slice_get (y ∷ ys) m ≡ Some x) × (p x ≡ true)
    go rest true t zero e = let z : y ≡ x = cc (e) in (0, e, ap p (sym z) ∙ t)
    go rest true t (suc n) e = let r = rest n e in (suc r.0, r.1, r.2)
    go rest false t n e = let r = rest n e in (suc r.0, r.1, r.2)

filter_back : {A : Type 0} (p : A → Bool) (xs : List A) (n : ℕ) (x : A) → slice_get xs n ≡ Some x → p x ≡ true → (m : ℕ) × (slice_get (filter p xs) m ≡ Some x)
filter_back p [] n x e t = absurd (let g : None ≡ Some x = e in cc (g))
filter_back p (y ∷ ys) zero x e t =
    let z : y ≡ x = cc (e) in
    subst (λ b. (m : ℕ) × (slice_get (cond b (y ∷ filter p ys) (filter p ys)) m ≡ Some x)) (sym (ap p z ∙ t)) (0, e)
filter_back p (y ∷ ys) (suc n) x e t = go (p y) (filter_back p ys n x e t)
  where
    go : (b : Bool) → (m : ℕ) × (slice_get (filter p ys) m ≡ Some x) → (m : ℕ) × (slice_get (cond b (y ∷ filter p ys) (filter p ys)) m ≡ Some x)
    go true r = (suc r.0, r.1)
    go false r = r

-- ---- the other part of a choice

module _ (a : Area) (k : ℕ) (i : Code) (h : Holds a k i) where
  same_code : (j : Code) → Holds a k j → j ≡ i
  same_code j g = let e : Some j ≡ Some i = sym g ∙ h in cc (e)

  pub other_names : (p : ℕ) → other_of i ≡ Some p → NamesOther a k p
  other_names p e = go i h e
    where
      go : (j : Code) → Holds a k j → other_of j ≡ Some p → NamesOther a k p
      go (TryMeElse to) g e = let z : to ≡ p = cc (e) in inl (subst (λ x. Holds a k (TryMeElse x)) z g)
      go (RetryMeElse to) g e = let z : to ≡ p = cc (e) in inr (subst (λ x. Holds a k (RetryMeElse x)) z g)
      go j g e = absurd (cc (e))

  pub other_from : (p : ℕ) → NamesOther a k p → other_of i ≡ Some p
  other_from p (inl g) = ap other_of (sym (same_code (TryMeElse p) g))
  other_from p (inr g) = ap other_of (sym (same_code (RetryMeElse p) g))

  -- what names the other part of a choice names nothing else
  pub other_alone : (to p : ℕ) → other_of i ≡ Some to → IsTrue (has (named a i) p) → to ≡ p
  other_alone to p e t = go i e t
    where
      one : (x : ℕ) → x ≡ to → has (x ∷ []) p ≡ true → to ≡ p
      one x z t = by (or_cases (nat_eq x p) false t)
        where
          by : (nat_eq x p ≡ true) ⊎ (false ≡ true) → to ≡ p
          by (inl y) = sym z ∙ eqb-true x p y
          by (inr y) = absurd (cc (y))

      go : (j : Code) → other_of j ≡ Some to → has (named a j) p ≡ true → to ≡ p
      go (TryMeElse x) e t = one x (cc (e)) t
      go (RetryMeElse x) e t = one x (cc (e)) t
      go j e t = absurd (cc (e))

  -- ---- how many name a place

  pub namers_put : (to : ℕ) (x : Namers) → other_of i ≡ Some to → AreNamers a k to x → AreNamers a (k + 1) to (with_one x)
  namers_put to Nobody e never = (k, omega arith, other_names to e, λ m l n. only m l n (cases_eq m k))
    where
      only : (m : ℕ) → m < k + 1 → NamesOther a m to → (m ≡ k) ⊎ (m ≢ k) → m ≡ k
      only m l n (inl z) = z
      only m l n (inr z) = absurd (never m (omega (arith, l, z)) n)
  namers_put to One e (n, l, x, u) = (n, k, l, x, other_names to e)
  namers_put to More e (n, m, l, x, y) = (n, m, l, x, y)

  pub namers_keep : (p : ℕ) (x : Namers) → ¬ (other_of i ≡ Some p) → AreNamers a k p x → AreNamers a (k + 1) p x
  namers_keep p Nobody never f = λ n l x. go n l x (cases_eq n k)
    where
      go : (n : ℕ) → n < k + 1 → NamesOther a n p → (n ≡ k) ⊎ (n ≢ k) → ⊥
      go n l x (inl z) = never (other_from p (subst (λ m. NamesOther a m p) z x))
      go n l x (inr z) = f n (omega (arith, l, z)) x
  namers_keep p One never (n, l, x, u) = (n, omega (arith, l), x, λ m h y. go m h y (cases_eq m k))
    where
      go : (m : ℕ) → m < k + 1 → NamesOther a m p → (m ≡ k) ⊎ (m ≢ k) → m ≡ n
      go m h y (inl z) = absurd (never (other_from p (subst (λ j. NamesOther a j p) z y)))
      go m h y (inr z) = u m (omega (arith, h, z)) y
  namers_keep p More never (n, m, l, x, y) = (n, m, l, x, y)

  -- those of all places, where the instruction names one of them or none
  pub namers_none : (p : ℕ) (x : Namers) → other_of i ≡ None → AreNamers a k p x → AreNamers a (k + 1) p x
  namers_none p x none = namers_keep p x (λ e. (let g : None ≡ Some p = sym none ∙ e in cc (g)))

  pub namers_past : (ns : List Namers) (to p : ℕ) (x : Namers) → other_of i ≡ Some to → length ns ≤ to → p < length ns → AreNamers a k p x → AreNamers a (k + 1) p x
  namers_past ns to p x e l low = namers_keep p x (λ g. (let f : Some to ≡ Some p = sym e ∙ g in let z : to ≡ p = cc (f) in let w : ⊥ = omega (arith, l, low, z) in w))

  pub namers_set : (ns new : List Namers) (to p : ℕ) (y : Namers) → other_of i ≡ Some to → to < length ns → y ≡ with_one (namers_at ns to) → new ≡ set ns to y
      → AreNamers a k p (namers_at ns p) → AreNamers a (k + 1) p (namers_at new p)
  namers_set ns new to p y e l is put f = subst (λ (z : List Namers). AreNamers a (k + 1) p (namers_at z p)) (sym put) (go (cases_eq p to))
    where
      go : (p ≡ to) ⊎ (p ≢ to) → AreNamers a (k + 1) p (namers_at (set ns to y) p)
      go (inl z) =
          let here : AreNamers a k to (namers_at ns to) = subst (λ q. AreNamers a k q (namers_at ns q)) z f in
          let more : AreNamers a (k + 1) to (namers_at (set ns to y) to) = subst (AreNamers a (k + 1) to) (sym is ∙ sym (get_or-set_same ns to y Nobody l)) (namers_put to (namers_at ns to) e here) in
          subst (λ q. AreNamers a (k + 1) q (namers_at (set ns to y) q)) (sym z) more
      go (inr z) = subst (AreNamers a (k + 1) p) (sym (get_or-set_other ns to p y Nobody z))
          (namers_keep p (namers_at ns p) (λ g. (let h : Some to ≡ Some p = sym e ∙ g in let w : to ≡ p = cc (h) in z (sym w))) f)

  -- ---- places that are named in another way

  later : (p : ℕ) → IsNamedPlainly a k p → IsNamedPlainly a (k + 1) p
  later p (n, l, x, never) = (n, omega (arith, l), x, never)

  pub plain_put : (old new : List ℕ) (p : ℕ) → other_of i ≡ None → new ≡ old ++ named a i → (IsTrue (has old p) ↔ IsNamedPlainly a k p) → IsTrue (has new p) ↔ IsNamedPlainly a (k + 1) p
  plain_put old new p none e f = (there, back)
    where
      is : has new p ≡ (has old p || has (named a i) p)
      is = ap (λ l. has l p) e ∙ has_both old (named a i) p

      there : has new p ≡ true → IsNamedPlainly a (k + 1) p
      there t = go (or_cases (has old p) (has (named a i) p) (sym is ∙ t))
        where
          go : (has old p ≡ true) ⊎ (has (named a i) p ≡ true) → IsNamedPlainly a (k + 1) p
          go (inl t) = later p (f.0 t)
          go (inr t) = (k, omega arith, (i, h, t), λ x. (let g : None ≡ Some p = sym none ∙ other_from p x in cc (g)))

      back : IsNamedPlainly a (k + 1) p → has new p ≡ true
      back (n, l, (j, hj, t), never) = is ∙ go (cases_eq n k)
        where
          go : (n ≡ k) ⊎ (n ≢ k) → (has old p || has (named a i) p) ≡ true
          go (inl z) =
              let same : j ≡ i = same_code j (subst (λ m. Holds a m j) z hj) in
              or_right (has old p) (has (named a i) p) (subst (λ (c : Code). has (named a c) p ≡ true) same t)
          go (inr z) = or_left (has old p) (has (named a i) p) (f.1 (n, omega (arith, l, z), (j, hj, t), never))

  pub plain_keep : (old : List ℕ) (to p : ℕ) → other_of i ≡ Some to → (IsTrue (has old p) ↔ IsNamedPlainly a k p) → IsTrue (has old p) ↔ IsNamedPlainly a (k + 1) p
  plain_keep old to p e f = (λ t. later p (f.0 t), back)
    where
      back : IsNamedPlainly a (k + 1) p → has old p ≡ true
      back (n, l, (j, hj, t), never) = go (cases_eq n k)
        where
          go : (n ≡ k) ⊎ (n ≢ k) → has old p ≡ true
          go (inl z) =
              let same : j ≡ i = same_code j (subst (λ m. Holds a m j) z hj) in
              let there : NamesOther a k to = other_names to e in
              let one : to ≡ p = other_alone to p e (subst (λ (c : Code). has (named a c) p ≡ true) same t) in
              absurd (never (subst (λ m. NamesOther a m p) (sym z) (subst (NamesOther a k) one there)))
          go (inr z) = f.1 (n, omega (arith, l, z), (j, hj, t), never)

-- what names a place names it as the other part of a choice, or in another way
pub names_cases : (a : Area) (from to : ℕ) → Names a from to → NamesOther a from to ⊎ IsNamedPlainly a (length a.code) to
names_cases a from to (i, h, t) = go (other_of i) refl
  where
    go : (o : Option ℕ) → other_of i ≡ o → NamesOther a from to ⊎ IsNamedPlainly a (length a.code) to
    go None e = inr (from, slice_get_within a.code from i h, (i, h, t), λ x. (let g : None ≡ Some to = sym e ∙ other_from a from i h to x in cc (g)))
    go (Some p) e = inl (other_names a from i h to (e ∙ ap (λ x. Some x) (other_alone a from i h p to e t)))

pub other_is_named : (a : Area) (from to : ℕ) → NamesOther a from to → Names a from to
other_is_named a from to (inl h) = (TryMeElse to, h, or_left (nat_eq to to) false (eq-eqb to to refl))
other_is_named a from to (inr h) = (RetryMeElse to, h, or_left (nat_eq to to) false (eq-eqb to to refl))

-- ---- where predicates and queries begin, and end

module _ (a : Area) where
  pub starts_are : (keys : List ℕ) → ((p : ℕ) → has keys p ≡ has (map (λ e. e.at) a.entries ++ map (λ q. q.at) a.queries) p) → (p : ℕ) → IsTrue (has keys p) ↔ IsStart a p
  starts_are keys e p = (λ t. there (or_cases (has es p) (has qs p) (sym is ∙ t)), back)
    where
      es : List ℕ
      es = map (λ e. e.at) a.entries

      qs : List ℕ
      qs = map (λ q. q.at) a.queries

      is : has keys p ≡ (has es p || has qs p)
      is = e p ∙ has_both es qs p

      there : (has es p ≡ true) ⊎ (has qs p ≡ true) → IsStart a p
      there (inl t) = inl ((has_map (λ e. e.at) a.entries p).0 t)
      there (inr t) = inr ((has_map (λ q. q.at) a.queries p).0 t)

      back : IsStart a p → has keys p ≡ true
      back (inl x) = is ∙ or_left (has es p) (has qs p) ((has_map (λ e. e.at) a.entries p).1 x)
      back (inr x) = is ∙ or_right (has es p) (has qs p) ((has_map (λ q. q.at) a.queries p).1 x)

  pub lasts_are : (keys : List ℕ) → ((p : ℕ) → has keys p ≡ has (map (λ q. q.end) (filter (λ q. nat_lt q.at q.end) a.queries)) p) → (p : ℕ) → IsTrue (has keys (suc p)) ↔ IsLast a p
  lasts_are keys e p = (there, back)
    where
      filled : List Span
      filled = filter (λ q. nat_lt q.at q.end) a.queries

      there : has keys (suc p) ≡ true → IsLast a p
      there t =
          let g = (has_map (λ q. q.end) filled (suc p)).0 (sym (e (suc p)) ∙ t) in
          let r = filter_there (λ q. nat_lt q.at q.end) a.queries g.0 g.1 g.2 in
          let low : g.1.at < g.1.end = ltb-true g.1.at g.1.end r.2 in
          (r.0, g.1, r.1, ((omega (arith, low, g.3), omega (arith, g.3)), sym g.3))

      back : IsLast a p → has keys (suc p) ≡ true
      back (n, q, h, (i, z)) =
          let r = filter_back (λ q. nat_lt q.at q.end) a.queries n q h (lt-ltb q.at q.end (omega (arith, i.0, i.1))) in
          e (suc p) ∙ (has_map (λ q. q.end) filled (suc p)).1 (r.0, q, r.1, sym z)

  pub start_or_not : (p : ℕ) → ¬ IsStart a p → IsNoStart a p
  start_or_not p never = record { entries = λ n e h z. never (inl (n, e, h, z)); queries = λ n q h z. never (inr (n, q, h, z)) }

  pub not_start : (p : ℕ) → IsNoStart a p → ¬ IsStart a p
  not_start p never (inl (n, e, h, z)) = never.entries n e h z
  not_start p never (inr (n, q, h, z)) = never.queries n q h z

-- the ends of queries that aren't empty, as they are kept and as they are seen
pub ends_are : (qs : List QueryEntry) → map (λ q. q.end) (filter (λ q. nat_lt q.at q.end) qs) ≡ map (λ q. q.end) (filter (λ q. nat_lt q.at q.end) (map span_of qs))
ends_are [] = refl
ends_are (q ∷ qs) = go (ends_are qs) (nat_lt q.at q.end)
  where
    go : map (λ (x : QueryEntry). x.end) (filter (λ x. nat_lt x.at x.end) qs) ≡ map (λ (x : Span). x.end) (filter (λ x. nat_lt x.at x.end) (map span_of qs))
        → (b : Bool) → map (λ (x : QueryEntry). x.end) (cond b (q ∷ filter (λ x. nat_lt x.at x.end) qs) (filter (λ x. nat_lt x.at x.end) qs))
        ≡ map (λ (x : Span). x.end) (cond b (span_of q ∷ filter (λ x. nat_lt x.at x.end) (map span_of qs)) (filter (λ x. nat_lt x.at x.end) (map span_of qs)))
    go rest true = ap (λ l. q.end ∷ l) rest
    go rest false = rest

-- the same numbers
pub same_set : (keys ns : List ℕ) (p : ℕ) (P : Type 0) → has keys p ≡ has ns p → (IsTrue (has ns p) ↔ P) → IsTrue (has keys p) ↔ P
same_set keys ns p P e f = (λ t. f.0 (sym e ∙ t), λ x. e ∙ f.1 x)

pub no_start_is : (a : Area) (keys : List ℕ) (p : ℕ) (b : Bool) → b ≡ has keys p → (IsTrue (has keys p) ↔ IsStart a p) → IsTrue (not b) ↔ IsNoStart a p
no_start_is a keys p b e f = (λ t. start_or_not a p (λ x. (let h : not true ≡ true = sym (ap not (e ∙ f.1 x)) ∙ t in cc (h))), λ never. back never (cases_Bool b))
  where
    back : IsNoStart a p → (b ≡ true) ⊎ (b ≡ false) → not b ≡ true
    back never (inl t) = absurd (not_start a p never (f.0 (sym e ∙ t)))
    back never (inr t) = ap not t
