-- Homes that suit a head and a goal, as they are found.
use Rattle.std.proofs.Common.{◌≡◌, ◌⊎◌, ℕ, zero, suc, ◌+◌, ◌<◌, ◌≤◌, List, [], ◌∷◌, ◌++◌, Some, All, get_or, length, refl, ap, sym, ◌∙◌, subst, arith, inl, inr}
use Rattle.std.proofs.Common.{length-set, get_or-set_same, get_or-set_other}
use Rattle.std.proofs.lemmas.Bool.{cases_eq}
use Rattle.std.proofs.lemmas.List.Elements.{All-append}
use Rattle.fd_language.specs.Term.{Name, Term, Terms, Var, Comp, no_terms, term, term_count}
use Rattle.branch_meaning.specs.Heap.{Of, AllOf}
use Rattle.branch_meaning.proofs.Lemmas.{more_of}
use Rattle.term_pool.specs.declared.TermId.{TermId}
use Rattle.term_pool.specs.Contents.{Contents, comp}
use Rattle.term_pool.specs.Terms.{term_of, terms_by, shape_term, total_size}
use Rattle.term_pool.proofs.Lemmas.{rest_is_smaller, parts_are_smaller}
use Rattle.wam_code.specs.declared.instruction.Register.{Register}
use Rattle.wam_code.specs.declared.instruction.Register.TheVariants.{X}
use Rattle.clause_code.specs.FramelessClauses.{InRegisters}
use Rattle.clause_code.specs.SimpleGoals.{IsOwn}
use Rattle.clause_code.specs.Steps.{home, Suits, AllSuit}
use Rattle.clause_code.specs.ArgumentHomes.{IsOutside, Waits, AllWait, Lands, AllLand, nth, MayStay, Stayed, MovedBack, Leaves, AreHomes}
use Rattle.clause_code.proofs.Rests.{rest, rest_cons}

-- ---- homes that move back

pub moved_self : (h : List Register) (first : ℕ) → MovedBack h h first
moved_self h first = record { long = refl; homes = λ x l. inl refl }

pub moved_both : (a b c : List Register) (first : ℕ) → MovedBack a b first → MovedBack b c first → MovedBack a c first
moved_both a b c first f g = record {
  long = g.long ∙ f.long;
  homes = λ x l. elim (g.homes x (subst (λ n. x < n) (sym f.long) l)) [
    | inr e ↦ inr e
    | inl e ↦ elim (f.homes x l) [ inl d ↦ inl (e ∙ d) | inr d ↦ inr (e ∙ d) ]
  ];
}

-- What is outside stays so.
pub outside_still : (old new : List Register) (first least last x : ℕ) → last < first → MovedBack old new first → IsOutside old least last x → IsOutside new least last x
outside_still old new first least last x b m o i l n k e =
    let lo : x < length old = subst (λ z. x < z) m.long l in elim (m.homes x lo) [
      | inl same ↦ o i lo n k (sym same ∙ e)
      | inr back ↦ let d : X (first + x) ≡ X i = sym back ∙ e in let z : first + x ≡ i = cc in omega (arith, z, k, b)
    ]

argument_still : (old new : List Register) (first j last : ℕ) → last < first → MovedBack old new first → (t : Term) → Waits old j last t → Waits new j last t
argument_still old new first j last b m t h = more_of (IsOutside old (suc j) last) (IsOutside new (suc j) last) (λ x o. outside_still old new first (suc j) last x b m o) t h

-- ---- a walk

all_of_both : (P : ℕ → Type 0) (f : TermId → Term) (xs ys : List TermId) → AllOf P (terms_by f xs) → AllOf P (terms_by f ys) → AllOf P (terms_by f (xs ++ ys))
all_of_both P f [] ys h g = g
all_of_both P f (x ∷ xs) ys h g = (h.0, all_of_both P f xs ys h.1 g)

all_of_first : (P : ℕ → Type 0) (f : TermId → Term) (xs ys : List TermId) → AllOf P (terms_by f (xs ++ ys)) → AllOf P (terms_by f xs)
all_of_first P f [] ys h = tt
all_of_first P f (x ∷ xs) ys h = (h.0, all_of_first P f xs ys h.1)

all_of_rest : (P : ℕ → Type 0) (f : TermId → Term) (xs ys : List TermId) → AllOf P (terms_by f (xs ++ ys)) → AllOf P (terms_by f ys)
all_of_rest P f [] ys h = h
all_of_rest P f (x ∷ xs) ys h = all_of_rest P f xs ys h.1

-- the terms are the pool's, and code can be written for them
pub all_own : (c : Contents) (v : ℕ) (ids : List TermId) → All (λ t. t.number < length c.entries) ids → AllSuit c v (terms_by (term_of c) ids) → All (IsOwn c v) ids
all_own c v [] a s k d l = absurd (omega (arith, l))
all_own c v (t ∷ ts) a s zero d l = (a 0 t (omega arith), s.0)
all_own c v (t ∷ ts) a s (suc k) d l = all_own c v ts (λ i e m. a (suc i) e (omega (arith, m))) s.1 k d (omega (arith, l))

pub parts_own : (c : Contents) (v : ℕ) (t : TermId) (f : Name) (ids : List TermId) → term_of c t ≡ Comp f (terms_by (term_of c) ids) → Suits c v (term_of c t)
    → All (λ u. u.number < length c.entries) ids → All (IsOwn c v) ids
parts_own c v t f ids e s a = let su : Suits c v (Comp f (terms_by (term_of c) ids)) = subst (Suits c v) e s in all_own c v ids a su.3

pub leaves_variable : (c : Contents) (t : TermId) (x least last first : ℕ) (homes new : List Register) (terms : List TermId) → last < first
    → term_of c t ≡ Var x → MovedBack homes new first → IsOutside new least last x → All (IsOwn c (length homes)) terms
    → Leaves c t least last first homes terms new terms
leaves_variable c t x least last first homes new terms b e m o own = record {
  back = m;
  outside = λ h n a.
      let here : Of (IsOutside h least last) (term_of c t) = subst (Of (IsOutside h least last)) (sym e) (outside_still new h first least last x b n o) in
      all_of_both (IsOutside h least last) (term_of c) terms (t ∷ []) a (here, tt);
  lighter = rest_is_smaller c terms t;
  own = own;
}

pub leaves_nothing : (c : Contents) (t : TermId) (least last first : ℕ) (homes : List Register) (terms : List TermId) → ((P : ℕ → Type 0) → Of P (term_of c t)) → All (IsOwn c (length homes)) terms
    → Leaves c t least last first homes terms homes terms
leaves_nothing c t least last first homes terms none own = record {
  back = moved_self homes first;
  outside = λ h n a. all_of_both (IsOutside h least last) (term_of c) terms (t ∷ []) a (none (IsOutside h least last), tt);
  lighter = rest_is_smaller c terms t;
  own = own;
}

pub leaves_parts : (c : Contents) (t : TermId) (f : _) (ids : List TermId) (least last first : ℕ) (homes : List Register) (terms rest : List TermId)
    → term_of c t ≡ shape_term c (comp f ids) → rest ≡ terms ++ ids → IsOwn c (length homes) t → All (λ u. u.number < length c.entries) ids
    → All (IsOwn c (length homes)) terms → Leaves c t least last first homes terms homes rest
leaves_parts c t f ids least last first homes terms rest e r own within others = record {
  back = moved_self homes first;
  outside = λ h n a.
      let P : ℕ → Type 0 = IsOutside h least last in
      let all : AllOf P (terms_by (term_of c) (terms ++ ids)) = subst (λ l. AllOf P (terms_by (term_of c) l)) r a in
      let here : Of P (term_of c t) = subst (Of P) (sym e) (all_of_rest P (term_of c) terms ids all) in
      all_of_both P (term_of c) terms (t ∷ []) (all_of_first P (term_of c) terms ids all) (here, tt);
  lighter = subst (λ l. total_size c l < total_size c (terms ++ t ∷ [])) (sym r) (parts_are_smaller c terms t (comp f ids) e);
  own = subst (All (IsOwn c (length homes))) (sym r) (All-append (IsOwn c (length homes)) terms ids others (parts_own c (length homes) t _ ids e own.1 within));
}

-- what is known in the middle of a walk
pub record Walking (c : Contents) (least last first : ℕ) (before : List Register) (all : List TermId) (homes : List Register) (terms : List TermId) : Type 0 where
  pub back : MovedBack before homes first
  pub outside : (h : List Register) → MovedBack homes h first → AllOf (IsOutside h least last) (terms_by (term_of c) terms) → AllOf (IsOutside h least last) (terms_by (term_of c) all)
  pub own : All (IsOwn c (length homes)) terms

-- ---- the arguments of a head, one after the other

-- one argument alone is walked
pub one_own : (c : Contents) (v : ℕ) (old new : List TermId) (t : TermId) → old ≡ [] → new ≡ old ++ (t ∷ []) → IsOwn c v t → All (IsOwn c v) new
one_own c v old new t none e own =
    let same : new ≡ t ∷ [] = e ∙ ap (λ l. l ++ (t ∷ [])) none in
    subst (All (IsOwn c v)) (sym same) (λ k d l. one k d l)
  where
    one : (k : ℕ) (d : TermId) → k < length (t ∷ []) → IsOwn c v (get_or (t ∷ []) k d)
    one zero d l = own
    one (suc k) d l = absurd (omega (arith, l))

pub one_waits : (c : Contents) (homes : List Register) (old new : List TermId) (t : TermId) (least j last : ℕ) → old ≡ [] → new ≡ old ++ (t ∷ [])
    → least ≡ suc j → AllOf (IsOutside homes least last) (terms_by (term_of c) new) → Waits homes j last (term_of c t)
one_waits c homes old new t least j last none e m h =
    let same : new ≡ t ∷ [] = e ∙ ap (λ l. l ++ (t ∷ [])) none in
    let all : AllOf (IsOutside homes least last) (terms_by (term_of c) (t ∷ [])) = subst (λ l. AllOf (IsOutside homes least last) (terms_by (term_of c) l)) same h in
    subst (λ n. Of (IsOutside homes n last) (term_of c t)) m all.0

pub record HeadWaiting (c : Contents) (last first : ℕ) (ids : List TermId) (before homes : List Register) (register i : ℕ) : Type 0 where
  pub back : MovedBack before homes first
  pub waits : (h : List Register) → MovedBack homes h first → AllWait h register last (rest c ids i) → AllWait h 1 last (terms_by (term_of c) ids)

pub head_next : (c : Contents) (last first : ℕ) (ids : List TermId) (before homes new : List Register) (register next i : ℕ) (d : TermId) → last < first
    → i < length ids → next ≡ suc register → MovedBack homes new first → Waits new register last (term_of c (get_or ids i d))
    → HeadWaiting c last first ids before homes register i → HeadWaiting c last first ids before new next (i + 1)
head_next c last first ids before homes new register next i d b l e m p w = record {
  back = moved_both before homes new first w.back m;
  waits = λ h n r.
      w.waits h (moved_both homes new h first m n)
      (subst (AllWait h register last) (sym (rest_cons c ids i d l)) (
        argument_still new h first register last b n (term_of c (get_or ids i d)) p,
        subst (λ k. AllWait h k last (rest c ids (i + 1))) e r,
      ));
}

-- ---- homes that stay

pub nth_within : (ts : Terms) (n : ℕ) (t : Term) → nth ts n ≡ Some t → n < term_count ts
nth_within no_terms n t e = absurd (cc)
nth_within (term u us) zero t e = omega arith
nth_within (term u us) (suc n) t e = let l = nth_within us n t e in omega (arith, l)

pub nth_of : (g : TermId → Term) (ids : List TermId) (n : ℕ) (d : TermId) → n < length ids → nth (terms_by g ids) n ≡ Some (g (get_or ids n d))
nth_of g [] n d l = absurd (omega (arith, l))
nth_of g (t ∷ ts) zero d l = refl
nth_of g (t ∷ ts) (suc n) d l = nth_of g ts n d (omega (arith, l))

pub stayed_next : (before old new : List Register) (ts : Terms) (from i x : ℕ) → from ≤ i → nth ts i ≡ Some (Var x) → x < length old → MayStay x (suc i) old new
    → Stayed before old ts from → Stayed before new ts from
stayed_next before old new ts from i x l n low (inl e) s = subst (λ h. Stayed before h ts from) (sym e) s
stayed_next before old new ts from i x l n low (inr e) s =
    let long = s.long in record {
      long = ap length e ∙ length-set old x (X (suc i)) ∙ s.long;
      homes = λ y m. elim (cases_eq y x) [
        | inl same ↦
            let here : home new x ≡ X (suc i) = ap (λ h. home h x) e ∙ get_or-set_same old x (X (suc i)) (X 0) low in
            inr (i, l, subst (λ z. home new z ≡ X (suc i)) (sym same) here, n ∙ ap (λ z. Some (Var z)) (sym same))
        | inr other ↦
            let here : home new y ≡ home old y = ap (λ h. home h y) e ∙ get_or-set_other old x y (X (suc i)) (X 0) other in
            elim (s.homes y m) [ inl d ↦ inl (here ∙ d) | inr w ↦ inr (w.0, w.1, here ∙ w.2, w.3) ]
      ];
    }

-- ---- all of it

-- the variable x may stay in the register of the place n: the goal has it there, or the head where the goal has nothing
abbrev MayBe : Terms → Terms → ℕ → ℕ → Type 0
MayBe us ts n x = (nth us n ≡ Some (Var x)) ⊎ ((term_count us ≤ n) × (nth ts n ≡ Some (Var x)))

may_be_one : (us ts : Terms) (n x y : ℕ) → MayBe us ts n x → MayBe us ts n y → x ≡ y
may_be_one us ts n x y (inl a) (inl b) = let e : Some (Var x) ≡ Some (Var y) = sym a ∙ b in cc
may_be_one us ts n x y (inl a) (inr b) = let l = nth_within us n (Var x) a in let m = b.0 in absurd (omega (arith, l, m))
may_be_one us ts n x y (inr a) (inl b) = let l = nth_within us n (Var y) b in let m = a.0 in absurd (omega (arith, l, m))
may_be_one us ts n x y (inr a) (inr b) = let e : Some (Var x) ≡ Some (Var y) = sym a.1 ∙ b.1 in cc

abbrev IsPlaced : List Register → ℕ → Terms → Terms → ℕ → Type 0
IsPlaced homes first us ts x = (home homes x ≡ X (first + x)) ⊎ ((n : ℕ) × (suc n < first) × (home homes x ≡ X (suc n)) × MayBe us ts n x)

placed_apart : (homes : List Register) (first : ℕ) (us ts : Terms) (x y : ℕ) → home homes x ≡ home homes y → IsPlaced homes first us ts x → IsPlaced homes first us ts y → x ≡ y
placed_apart homes first us ts x y e (inl a) (inl b) = let s : X (first + x) ≡ X (first + y) = sym a ∙ e ∙ b in let z : first + x ≡ first + y = cc in omega (arith, z)
placed_apart homes first us ts x y e (inl a) (inr b) = let s : X (first + x) ≡ X (suc b.0) = sym a ∙ e ∙ b.2 in let z : first + x ≡ suc b.0 = cc in let l = b.1 in absurd (omega (arith, z, l))
placed_apart homes first us ts x y e (inr a) (inl b) = let s : X (suc a.0) ≡ X (first + y) = sym a.2 ∙ e ∙ b in let z : suc a.0 ≡ first + y = cc in let l = a.1 in absurd (omega (arith, z, l))
placed_apart homes first us ts x y e (inr a) (inr b) =
    let s : X (suc a.0) ≡ X (suc b.0) = sym a.2 ∙ e ∙ b.2 in
    let z : a.0 ≡ b.0 = cc in
    may_be_one us ts b.0 x y (subst (λ n. MayBe us ts n x) z a.3) b.3

lands_by : (homes : List Register) (r : ℕ) (us : Terms) → ((n x : ℕ) → n < term_count us → x < length homes → home homes x ≡ X (r + n) → nth us n ≡ Some (Var x)) → AllLand homes r us
lands_by homes r no_terms h = tt
lands_by homes r (term u us) h =
    let here : Lands homes r u = λ x l e. let z : r ≡ r + 0 = omega arith in let s : Some u ≡ Some (Var x) = h 0 x (omega arith) l (e ∙ ap X z) in cc in
    (here, lands_by homes (suc r) us (λ n x l m e. let z : suc r + n ≡ r + suc n = omega arith in h (suc n) x (omega (arith, l)) m (e ∙ ap X z)))

-- The homes that are found suit the head and the goal.
pub homes_found : (h0 h1 h2 h3 : List Register) (first free : ℕ) (ts us : Terms) → InRegisters h0 first free → Stayed h0 h1 us 0
    → Stayed h1 h2 ts (term_count us) → MovedBack h2 h3 first → AllWait h3 1 (term_count ts) ts → term_count us < first → term_count ts < first
    → AreHomes h3 free ts us
homes_found h0 h1 h2 h3 first free ts us r a b m waits lu lt =
    let n0 = r.long in
    let n1 = a.long in
    let n2 = b.long in
    let n3 = m.long in record {
      apart = λ x y l k e. placed_apart h3 first us ts x y e (placed x l) (placed y k);
      registers = λ x l. elim (placed x l) [
        | inl e ↦ (first + x, e, omega (arith, l, n0, n1, n2, n3))
        | inr w ↦ let s = w.1 in (suc w.0, w.2, omega (arith, s, n0))
      ];
      waits = waits;
      lands = lands_by h3 1 us (λ n x l k e. elim (placed x k) [
        | inl f ↦ let s : X (first + x) ≡ X (1 + n) = sym f ∙ e in let z : first + x ≡ 1 + n = cc in absurd (omega (arith, z, l, lu))
        | inr w ↦
            let s : X (suc w.0) ≡ X (1 + n) = sym w.2 ∙ e in
            let z : suc w.0 ≡ 1 + n = cc in
            let same : w.0 ≡ n = omega (arith, z) in
            elim w.3 [
              | inl f ↦ subst (λ k. nth us k ≡ Some (Var x)) same f
              | inr f ↦ let g = f.0 in absurd (omega (arith, g, same, l))
            ]
      ]);
    }
  where
    placed : (x : ℕ) → x < length h3 → IsPlaced h3 first us ts x
    placed x l =
        let n1 = a.long in
        let n2 = b.long in
        let n3 = m.long in
        elim (m.homes x (omega (arith, l, n3))) [
          | inr e ↦ inl e
          | inl e ↦ elim (b.homes x (omega (arith, l, n3, n2))) [
            | inr w ↦ let k = nth_within ts w.0 (Var x) w.3 in inr (w.0, omega (arith, k, lt), e ∙ w.2, inr (w.1, w.3))
            | inl f ↦ elim (a.homes x (omega (arith, l, n3, n2, n1))) [
              | inr w ↦ let k = nth_within us w.0 (Var x) w.3 in inr (w.0, omega (arith, k, lu), e ∙ f ∙ w.2, inl w.3)
              | inl g ↦ inl (e ∙ f ∙ g ∙ r.registers x (omega (arith, l, n3, n2, n1)))
            ]
          ]
        ]
