-- Variables of a clause that are named by variables of the store, one after the other.
use Rattle.std.proofs.Common.{◌≡◌, ℕ, zero, suc, ◌+◌, ◌-◌, ◌<◌, ◌≤◌, ◌≢◌, Bool, true, false, cond, nat_lt, ◌||◌, ◌&&◌, ◌==◌, ℤ, List, [], ◌∷◌, ◌++◌, length}
use Rattle.std.proofs.Common.{get_or, Option, Some, None, refl, ap, sym, ◌∙◌, subst, inl, inr, ◌⊎◌, arith, append-nil, length-append, eqb-true, eq-eqb, ne_eqb}
use Rattle.std.proofs.lemmas.Bool.{cases_Bool, cases_eq, or_cases, or_left, true≢false, and_parts, or_parts}
use Rattle.std.proofs.lemmas.Bool.Decides.{nat_tests}
use Rattle.std.proofs.lemmas.List.{get_or_append_left, get_or-append_right, get_or_past}
use Rattle.std.proofs.lemmas.Option.{none-some, same_Some}
use Rattle.fd_language.specs.declared.TheConstants.{INFINITY}
use Rattle.fd_language.specs.Family.{has, universe}
use Rattle.fd_language.specs.Term.{Term, Var, Int, Substitution}
use Rattle.fd_language.proofs.Lemmas.{has_either, in_left, in_right, in_universe}
use Rattle.fd_model.specs.Posting.{slot, is_integer, integer_of}
use Rattle.fd_model.proofs.Lemmas.{slot_out, slot_low, slot_high}
use Rattle.heap_cells.specs.Cells.{Cells, free, linked, slot_at, with_slot}
use Rattle.heap_cells.proofs.Lemmas.{linked_below, slot_there, slot_elsewhere}
use Rattle.range_code.specs.Frames.{family_of}
use Rattle.range_code.proofs.Lemmas.{has_kept}
use Rattle.unify_core.specs.declared.Touch.{Touch}
use Rattle.unify_core.specs.declared.Touch.TheVariants.{Value}
use Rattle.fd_language.specs.SingleValues.{value_in, value_at}
use Rattle.branch_lemmas.specs.Frames.{link_of, link_in}
use Rattle.branch_lemmas.specs.Posting.{Listed, IsLinkedMore}
use Rattle.branch_lemmas.proofs.Lemmas.{linked_none, linked_next}
use Rattle.branch_state.specs.declared.cell_looks.Look.{Look}
use Rattle.branch_state.specs.declared.cell_looks.Look.TheVariants.{Open, Linked, Number, Symbol}
use Rattle.branch_state.specs.StoreVariables.{LooksAs, integers, or_zero, linked_to, variable_of, values, Apart, IsNaming, NameStep, OwnLinks}

-- ---- sets of a longer list

-- a new variable has the set that one has that isn't there
pub family_more : (sets : List (List ℕ)) (k : ℕ) → family_of (sets ++ universe INFINITY ∷ []) k ≡ family_of sets k
family_more sets k = elim (cases_Bool (nat_lt k (length sets))) [
  | inl t ↦ (let l : k < length sets = grind (arith, nat_tests) in get_or_append_left sets (universe INFINITY ∷ []) (universe INFINITY) k l)
  | inr t ↦ (let l : length sets ≤ k = grind (arith, nat_tests) in
      get_or-append_right sets (universe INFINITY ∷ []) (length sets) k (universe INFINITY) refl l ∙ one_of (k - length sets) ∙ sym (get_or_past sets k (universe INFINITY) l))
] where
  one_of : (i : ℕ) → get_or (universe INFINITY ∷ []) i (universe INFINITY) ≡ universe INFINITY
  one_of zero = refl
  one_of (suc i) = get_or_past [] i (universe INFINITY) (omega arith)

-- and that has several values
two_values : (xs : List ℕ) (c : ℕ) → has xs 0 ≡ true → has xs 1 ≡ true → value_in xs c ≡ Var c
two_values [] c h g = refl
two_values (w ∷ []) c h g = absurd (let a = only_one w 0 h in let b = only_one w 1 g in omega (arith, a, b)) where
  only_one : (w n : ℕ) → ((w == n) || false) ≡ true → w ≡ n
  only_one w n h = elim (or_cases (w == n) false h) [ inl e ↦ eqb-true w n e | inr e ↦ absurd (true≢false (sym e)) ]
two_values (w ∷ v ∷ ws) c h g = refl

new_value : (sets : List (List ℕ)) (k c : ℕ) → length sets ≤ k → value_in (family_of sets k) c ≡ Var c
new_value sets k c l = ap (λ xs. value_in xs c) (get_or_past sets k (universe INFINITY) l)
    ∙ two_values (universe INFINITY) c (in_universe INFINITY 0 (omega arith)) (in_universe INFINITY 1 (omega arith))

-- ---- lists of variables

integers_more : (s : Substitution) (xs : List ℕ) (y : ℕ) → integers s (xs ++ y ∷ []) ≡ integers s xs ++ cond (is_integer (s y)) (y ∷ []) []
integers_more s [] y = refl
integers_more s (x ∷ xs) y = by_test (is_integer (s x)) (integers_more s xs y) where
  by_test : (b : Bool) → integers s (xs ++ y ∷ []) ≡ integers s xs ++ cond (is_integer (s y)) (y ∷ []) []
      → cond b (x ∷ integers s (xs ++ y ∷ [])) (integers s (xs ++ y ∷ [])) ≡ cond b (x ∷ integers s xs) (integers s xs) ++ cond (is_integer (s y)) (y ∷ []) []
  by_test true e = ap (λ l. x ∷ l) e
  by_test false e = e

pub integer_there : (s : Substitution) (xs : List ℕ) (y : ℕ) → has (integers s xs) y ≡ true → (has xs y ≡ true) × (is_integer (s y) ≡ true)
integer_there s xs y h = and_parts (has xs y) (is_integer (s y)) (sym (has_kept (λ z. is_integer (s z)) xs y) ∙ h)

pub integer_in : (s : Substitution) (xs : List ℕ) (y : ℕ) → has xs y ≡ true → is_integer (s y) ≡ true → has (integers s xs) y ≡ true
integer_in s xs y h i = has_kept (λ z. is_integer (s z)) xs y ∙ ap (λ b. b && is_integer (s y)) h ∙ i

pub integer_out : (s : Substitution) (xs : List ℕ) (y : ℕ) → (has xs y ≡ false) ⊎ (is_integer (s y) ≡ false) → has (integers s xs) y ≡ false
integer_out s xs y h = elim (cases_Bool (has (integers s xs) y)) [
  | inl e ↦ (let i = integer_there s xs y e in absurd (elim h [ inl a ↦ true≢false (sym i.0 ∙ a) | inr a ↦ true≢false (sym i.1 ∙ a) ]))
  | inr e ↦ e
]

slot_more : (n : ℕ) (ys : List ℕ) (y z : ℕ) → y ≢ z → slot n (ys ++ y ∷ []) z ≡ slot n ys z
slot_more n [] y z d = ap (λ b. cond b n z) (ne_eqb y z d)
slot_more n (x ∷ ys) y z d = ap (λ s. cond (x == z) n s) (slot_more (suc n) ys y z d)

slot_last : (n : ℕ) (ys : List ℕ) (y : ℕ) → has ys y ≡ false → slot n (ys ++ y ∷ []) y ≡ n + length ys
slot_last n [] y h = ap (λ b. cond b n y) (eq-eqb y y refl) ∙ plus_zero n where
  plus_zero : (n : ℕ) → n ≡ n + 0
  plus_zero n = omega arith
slot_last n (x ∷ ys) y h = by_test (x == y) h (slot_last (suc n) ys y) where
  by_test : (b : Bool) → (b || has ys y) ≡ false → (has ys y ≡ false → slot (suc n) (ys ++ y ∷ []) y ≡ suc n + length ys) → cond b n (slot (suc n) (ys ++ y ∷ []) y) ≡ n + suc (length ys)
  by_test true h k = absurd (true≢false h)
  by_test false h k = (let e = k h in omega (arith, e))

has_last : (xs : List ℕ) (y z : ℕ) → has (xs ++ y ∷ []) z ≡ true → (has xs z ≡ true) ⊎ (z ≡ y)
has_last xs y z h = elim (has_either xs (y ∷ []) z h) [ inl a ↦ inl a | inr a ↦ elim (or_cases (y == z) false a) [ inl b ↦ inr (sym (eqb-true y z b)) | inr b ↦ absurd (true≢false (sym b)) ] ]

last_in : (xs : List ℕ) (y : ℕ) → has (xs ++ y ∷ []) y ≡ true
last_in xs y = in_right xs (y ∷ []) y (or_left (y == y) false (eq-eqb y y refl))

values_more : (s : Substitution) (ks ys : List ℕ) (k y : ℕ) → length ks ≡ length ys → values s (ks ++ k ∷ []) (ys ++ y ∷ []) ≡ values s ks ys ++ Value k (integer_of (s y)) ∷ []
values_more s [] [] k y l = refl
values_more s [] (x ∷ ys) k y l = absurd (omega (arith, l))
values_more s (j ∷ ks) [] k y l = absurd (omega (arith, l))
values_more s (j ∷ ks) (x ∷ ys) k y l = ap (λ (ts : List Touch). Value j (integer_of (s x)) ∷ ts) (values_more s ks ys k y (omega (arith, l)))

apart_more : (ks : List ℕ) (k : ℕ) → Apart ks → has ks k ≡ false → Apart (ks ++ k ∷ [])
apart_more [] k a h = (refl, tt)
apart_more (j ∷ ks) k a h = (not_in a.0, apart_more ks k a.1 (or_parts (j == k) (has ks k) h).1) where
  not_in : has ks j ≡ false → has (ks ++ k ∷ []) j ≡ false
  not_in out = elim (cases_Bool (has (ks ++ k ∷ []) j)) [
    | inl i ↦ absurd (elim (has_last ks k j i) [ inl m ↦ true≢false (sym m ∙ out) | inr m ↦ true≢false (sym (eq-eqb j k m) ∙ (or_parts (j == k) (has ks k) h).0) ])
    | inr i ↦ i
  ]

-- ---- naming

pub naming_start : (s : Substitution) (h : Cells) (sets : List (List ℕ)) → OwnLinks (length sets) h → IsNaming s h sets [] h sets [] []
naming_start s h sets o = record {
  more = [];
  links = linked_none h o.valid o.one;
  atoms = λ n a. a;
  listed = λ c k e. absurd e;
  below = o.below;
  longer = omega arith;
  same = λ k. refl;
  named = λ y d e. absurd (true≢false (sym e));
  count = refl;
  told = refl;
  fresh = λ k e. absurd (true≢false (sym e));
  apart = tt;
}

module _ (s : Substitution) (n : ℕ) (h : Cells) (sets : List (List ℕ)) (xs : List ℕ) (now : Cells) (S : List (List ℕ)) (ks : List ℕ) (fs : List Touch)
    (w : IsNaming s h sets xs now S ks fs) (y : ℕ) (new_one : has xs y ≡ false)
    (low : (z : ℕ) → has (xs ++ y ∷ []) z ≡ true → is_integer (s z) ≡ false → z < n) where
  abbrev zs : List ℕ
  zs = integers s xs

  abbrev zs' : List ℕ
  zs' = integers s (xs ++ y ∷ [])

  abbrev U : List ℕ
  U = universe INFINITY

  -- y is named now by k, and the others as before
  pub record IsNext (now' : Cells) (S' : List (List ℕ)) (fs' : List Touch) (k : ℕ) : Type 0 where
    pub ks' : List ℕ
    pub naming : IsNaming s h sets (xs ++ y ∷ []) now' S' ks' fs'
    pub own : k ≡ variable_of s n now' ks' (slot n zs' y)
    pub others : (z : ℕ) → has xs z ≡ true → variable_of s n now ks (slot n zs z) ≡ variable_of s n now' ks' (slot n zs' z)

  -- what variable_of gives below n, and from n on
  of_low : (now' : Cells) (js : List ℕ) (z : ℕ) → z < n → variable_of s n now' js z ≡ or_zero (linked_to now' (s z))
  of_low now' js z l = let t : nat_lt z n ≡ true = grind (arith, nat_tests) in ap (λ b. cond b (or_zero (linked_to now' (s z))) (get_or js (z - n) 0)) t

  of_high : (now' : Cells) (js : List ℕ) (z : ℕ) → n ≤ z → variable_of s n now' js z ≡ get_or js (z - n) 0
  of_high now' js z l = let t : nat_lt z n ≡ false = grind (arith, nat_tests) in ap (λ b. cond b (or_zero (linked_to now' (s z))) (get_or js (z - n) 0)) t

  -- what was named stays
  stays : (now' : Cells) (more : List ℕ) → ((d k : ℕ) → link_in now d ≡ Some k → link_in now' d ≡ Some k)
      → ((z : ℕ) → has xs z ≡ true → slot n zs' z ≡ slot n zs z) → (z : ℕ) → has xs z ≡ true
      → variable_of s n now ks (slot n zs z) ≡ variable_of s n now' (ks ++ more) (slot n zs' z)
  stays now' more keep same z i = elim (cases_Bool (is_integer (s z))) [
    | inl e ↦
        let m = integer_in s xs z i e in
        let l = slot_low n zs z m in
        let g = slot_high n zs z m in
        let c = w.count in
        of_high now ks (slot n zs z) l ∙ sym (get_or_append_left ks more 0 (slot n zs z - n) (omega (arith, l, g, c)))
        ∙ sym (of_high now' (ks ++ more) (slot n zs z) l) ∙ ap (variable_of s n now' (ks ++ more)) (sym (same z i))
    | inr e ↦
        let l = low z (in_left xs (y ∷ []) z i) e in
        let out = slot_out n zs z (integer_out s xs z (inr e)) in
        ap (variable_of s n now ks) out ∙ of_low now ks z l ∙ by_term z i (s z) refl ∙ sym (of_low now' (ks ++ more) z l) ∙ ap (variable_of s n now' (ks ++ more)) (sym out ∙ sym (same z i))
  ] where
    by_term : (z : ℕ) → has xs z ≡ true → (t : Term) → s z ≡ t → or_zero (linked_to now t) ≡ or_zero (linked_to now' t)
    by_term z i (Var d) e = let k = w.named z d i e in ap or_zero (k.1 ∙ sym (keep d k.0 k.1))
    by_term z i t e = refl

  still : (now' : Cells) → ((d k : ℕ) → link_in now d ≡ Some k → link_in now' d ≡ Some k) → ((z : ℕ) → has xs z ≡ true → slot n zs' z ≡ slot n zs z) → (z : ℕ)
      → has xs z ≡ true → variable_of s n now ks (slot n zs z) ≡ variable_of s n now' ks (slot n zs' z)
  still now' keep same z i = stays now' [] keep same z i ∙ ap (λ js. variable_of s n now' js (slot n zs' z)) (append-nil ks)

  -- y is no integer
  module _ (d : ℕ) (is : s y ≡ Var d) where
    same_zs : zs' ≡ zs
    same_zs = integers_more s xs y ∙ ap (λ t. zs ++ cond (is_integer t) (y ∷ []) []) is ∙ append-nil zs

    own_slot : slot n zs' y ≡ y
    own_slot = ap (λ l. slot n l y) same_zs ∙ slot_out n zs y (integer_out s xs y (inl new_one))

    own_low : y < n
    own_low = low y (last_in xs y) (ap is_integer is)

    own_of : (now' : Cells) (k : ℕ) → link_in now' d ≡ Some k → k ≡ variable_of s n now' ks (slot n zs' y)
    own_of now' k e = sym (ap (variable_of s n now' ks) own_slot ∙ of_low now' ks y own_low ∙ ap (λ t. or_zero (linked_to now' t)) is ∙ ap or_zero e)

    -- it is linked already
    pub linked_before : (k : ℕ) → link_in now d ≡ Some k → IsNext now S fs k
    linked_before k e = record {
      ks' = ks;
      naming = record {
        more = w.more;
        links = w.links;
        atoms = w.atoms;
        listed = λ c j i. (let t = w.listed c j i in (t.0, in_left xs (y ∷ []) t.0 t.1, t.2, t.3));
        below = w.below;
        longer = w.longer;
        same = w.same;
        named = λ z c i f. elim (has_last xs y z i) [ inl a ↦ w.named z c a f | inr a ↦ (k, ap (link_in now) (var_same (sym f ∙ ap s a ∙ is)) ∙ e) ];
        count = w.count ∙ ap length (sym same_zs);
        told = w.told ∙ ap (values s ks) (sym same_zs);
        fresh = w.fresh;
        apart = w.apart;
      };
      own = own_of now k e;
      others = still now (λ c j i. i) (λ z i. ap (λ l. slot n l z) same_zs);
    } where
      var_same : {a b : ℕ} → Var a ≡ Var b → a ≡ b
      var_same e = cc

    -- it is linked now, to a new variable
    module _ (there : d < length now.slots) (open_now : slot_at now d ≡ free) where
      abbrev next : Cells
      next = with_slot now d (linked (length S))

      abbrev K : ℕ
      K = length S

      here : link_in next d ≡ Some K
      here = ap link_of (slot_there now d (linked K) there)

      else : (c : ℕ) → c ≢ d → link_in next c ≡ link_in now c
      else c i = ap link_of (slot_elsewhere now d c (linked K) i)

      keep : (c k : ℕ) → link_in now c ≡ Some k → link_in next c ≡ Some k
      keep c k e = elim (cases_eq c d) [ inl i ↦ absurd (none-some k (sym (ap link_of (ap (slot_at now) i ∙ open_now)) ∙ e)) | inr i ↦ else c i ∙ e ]

      back : (c k : ℕ) → link_in next c ≡ Some k → (link_in now c ≡ Some k) ⊎ ((c ≡ d) × (k ≡ K))
      back c k e = elim (cases_eq c d) [ inl i ↦ inr (i, same_Some k K (sym e ∙ ap (link_in next) i ∙ here)) | inr i ↦ inl (sym (else c i) ∙ e) ]

      wide : length (S ++ U ∷ []) ≡ suc K
      wide = length-append S (U ∷ []) ∙ (let a : K + 1 ≡ suc K = omega arith in a)

      var_same : {a b : ℕ} → Var a ≡ Var b → a ≡ b
      var_same e = cc

      pub linked_now : IsNext next (S ++ U ∷ []) fs K
      linked_now = record {
        ks' = ks;
        naming = record {
          more = (d, K) ∷ w.more;
          links = linked_next h now w.more w.links d K there open_now (λ c e. (let l = w.below c K e in omega (arith, l)));
          atoms = λ m a. linked_below m now (w.atoms m a) d K there;
          listed = λ c j i. elim i [
            | inl a ↦ (y, last_in xs y, is ∙ ap Var (sym a.0), (let b = a.1 in let l = w.longer in omega (arith, b, l)))
            | inr a ↦ (let t = w.listed c j a in (t.0, in_left xs (y ∷ []) t.0 t.1, t.2, t.3))
          ];
          below = λ c k e. elim (back c k e) [ inl a ↦ (let l = w.below c k a in let v = wide in omega (arith, l, v)) | inr a ↦ (let b = a.1 in let v = wide in omega (arith, b, v)) ];
          longer = (let l = w.longer in let v = wide in omega (arith, l, v));
          same = λ k. family_more S k ∙ w.same k;
          named = λ z c i f. elim (has_last xs y z i) [
            | inl a ↦ (let k = w.named z c a f in (k.0, keep c k.0 k.1))
            | inr a ↦ (K, ap (link_in next) (var_same (sym f ∙ ap s a ∙ is)) ∙ here)
          ];
          count = w.count ∙ ap length (sym same_zs);
          told = w.told ∙ ap (values s ks) (sym same_zs);
          fresh = λ k i. (let f = w.fresh k i in (
            f.0,
            (let l = f.1 in let v = wide in omega (arith, l, v)),
            λ c e. elim (back c k e) [ inl a ↦ f.2 c a | inr a ↦ (let b = a.1 in let l = f.1 in omega (arith, b, l)) ],
          ));
          apart = w.apart;
        };
        own = own_of next K here;
        others = still next keep (λ z i. ap (λ l. slot n l z) same_zs);
      }

  -- y is an integer: a new variable is to get it
  pub numbered_now : (z : ℤ) → s y ≡ Int z → IsNext now (S ++ U ∷ []) (fs ++ Value (length S) z ∷ []) (length S)
  numbered_now z is = record {
    ks' = ks ++ K ∷ [];
    naming = record {
      more = w.more;
      links = w.links;
      atoms = w.atoms;
      listed = λ c j i. (let t = w.listed c j i in (t.0, in_left xs (y ∷ []) t.0 t.1, t.2, t.3));
      below = λ c k e. (let l = w.below c k e in let v = wide in omega (arith, l, v));
      longer = (let l = w.longer in let v = wide in omega (arith, l, v));
      same = λ k. family_more S k ∙ w.same k;
      named = λ x c i f. elim (has_last xs y x i) [ inl a ↦ w.named x c a f | inr a ↦ absurd (int_var (sym is ∙ ap s (sym a) ∙ f)) ];
      count = length-append ks (K ∷ []) ∙ ap (λ i. i + 1) w.count ∙ sym (length-append zs (y ∷ [])) ∙ ap length (sym more_zs);
      told = ap (λ (l : List Touch). l ++ Value K z ∷ []) w.told ∙ ap (λ i. values s ks zs ++ Value K i ∷ []) (sym (ap integer_of is))
          ∙ sym (values_more s ks zs K y w.count) ∙ ap (values s (ks ++ K ∷ [])) (sym more_zs);
      fresh = λ k i. elim (has_last ks K k i) [
        | inl a ↦ (let f = w.fresh k a in (f.0, (let l = f.1 in let v = wide in omega (arith, l, v)), f.2))
        | inr a ↦ (
          (let l = w.longer in omega (arith, a, l)),
          (let v = wide in omega (arith, a, v)),
          λ c e. (let l = w.below c k e in omega (arith, l, a)),
        )
      ];
      apart = apart_more ks K w.apart no_K;
    };
    own = sym (ap (variable_of s n now (ks ++ K ∷ [])) last ∙ of_high now (ks ++ K ∷ []) (n + length zs) (omega arith)
        ∙ get_or-append_right ks (K ∷ []) (length ks) (n + length zs - n) 0 refl (let c = w.count in
        omega (arith, c)) ∙ ap (λ i. get_or (K ∷ []) i 0) (let c = w.count in let e : n + length zs - n - length ks ≡ 0 = omega (arith, c) in e));
    others = λ x i. stays now (K ∷ []) (λ d k e. e) (λ x i. ap (λ l. slot n l x) more_zs ∙ slot_more n zs y x (λ e. true≢false (sym i ∙ ap (has xs) (sym e) ∙ new_one))) x i;
  } where
    K : ℕ
    K = length S

    wide : length (S ++ U ∷ []) ≡ suc (length S)
    wide = length-append S (U ∷ []) ∙ (let a : length S + 1 ≡ suc (length S) = omega arith in a)

    more_zs : zs' ≡ zs ++ y ∷ []
    more_zs = integers_more s xs y ∙ ap (λ t. zs ++ cond (is_integer t) (y ∷ []) []) is

    last : slot n zs' y ≡ n + length zs
    last = ap (λ l. slot n l y) more_zs ∙ slot_last n zs y (integer_out s xs y (inl new_one))

    no_K : has ks (length S) ≡ false
    no_K = elim (cases_Bool (has ks (length S))) [ inl e ↦ absurd (let f = w.fresh (length S) e in let l = f.1 in omega (arith, l)) | inr e ↦ e ]

    int_var : {z : ℤ} {c : ℕ} → Int z ≡ Var c → ⊥
    int_var e = cc

  -- whatever y looks as
  pub naming_next : (l : Look) → LooksAs now (s y) l → (now' : Cells) (S' : List (List ℕ)) (fs' : List Touch) (k : ℕ) → NameStep l now S fs now' S' fs' k → IsNext now' S' fs' k
  naming_next (Open i) looks now' S' fs' k st =
      let e0 : k ≡ length S = st.0 in
      let e1 : now' ≡ with_slot now i (linked (length S)) = st.1 ∙ ap (λ j. with_slot now i (linked j)) e0 in
      subst (IsNext now' S' fs') (sym e0) (subst (λ (f : List Touch). IsNext now' S' f (length S)) (sym st.3)
      (subst (λ (x : List (List ℕ)). IsNext now' x fs (length S)) (sym st.2)
      (subst (λ (x : Cells). IsNext x (S ++ U ∷ []) fs (length S)) (sym e1) (linked_now i looks.0 looks.1 looks.2))))
  naming_next (Linked j) looks now' S' fs' k st =
      subst (IsNext now' S' fs') (sym st.0) (subst (λ (f : List Touch). IsNext now' S' f j) (sym st.3)
      (subst (λ (x : List (List ℕ)). IsNext now' x fs j) (sym st.2)
      (subst (λ (x : Cells). IsNext x S fs j) (sym st.1) (linked_before looks.0 looks.1 j looks.2))))
  naming_next (Number z) looks now' S' fs' k st =
      let e3 : fs' ≡ fs ++ Value (length S) z ∷ [] = st.3 ∙ ap (λ j. fs ++ Value j z ∷ []) st.0 in
      subst (IsNext now' S' fs') (sym st.0) (subst (λ (f : List Touch). IsNext now' S' f (length S)) (sym e3)
      (subst (λ (x : List (List ℕ)). IsNext now' x (fs ++ Value (length S) z ∷ []) (length S)) (sym st.2)
      (subst (λ (x : Cells). IsNext x (S ++ U ∷ []) (fs ++ Value (length S) z ∷ []) (length S)) (sym st.1) (numbered_now z looks))))
  naming_next Symbol looks now' S' fs' k st = absurd st

-- ---- what variables are seen as stays

-- a heap's variables have the values that they had, where new ones of the store are linked
pub still_valued : (h : Cells) (sets : List (List ℕ)) (now : Cells) (S : List (List ℕ)) (more : List (ℕ × ℕ)) → IsLinkedMore h now more
    → ((c k : ℕ) → Listed c k more → length sets ≤ k) → ((k : ℕ) → family_of S k ≡ family_of sets k)
    → (d : ℕ) → value_at (link_in now d) (family_of S) d ≡ value_at (link_in h d) (family_of sets) d
still_valued h sets now S more links listed same d = by_old (link_in h d) refl where
  by_new : (o : Option ℕ) → link_in h d ≡ None → link_in now d ≡ o → value_at o (family_of S) d ≡ Var d
  by_new None e f = refl
  by_new (Some k) e f = elim (links.new d k f) [
    | inl a ↦ absurd (none-some k (sym e ∙ a))
    | inr a ↦ ap (λ xs. value_in xs d) (same k) ∙ new_value sets k d (listed d k a)
  ]

  by_old : (o : Option ℕ) → link_in h d ≡ o → value_at (link_in now d) (family_of S) d ≡ value_at o (family_of sets) d
  by_old None e = by_new (link_in now d) e refl
  by_old (Some k) e = ap (λ o. value_at o (family_of S) d) (links.keep d k e) ∙ ap (λ xs. value_in xs d) (same k)
