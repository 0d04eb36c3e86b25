-- Needs that are put together place by place are those of the definition.
use Rattle.std.proofs.Common.{◌≡◌, ℕ, Bool, true, false, cond, not, ◌||◌, ◌&&◌, ◌==◌, List, [], ◌∷◌, ◌++◌, map, filter, refl, sym, ◌∙◌, ap, subst, arith}
use Rattle.std.proofs.Common.{eqb-true, eq-eqb}
use Rattle.std.specs.Prelude.{Result, IfOk}
use Rattle.std.proofs.lemmas.Result.{IfOk-weaker}
use Rattle.fd_language.specs.declared.range_node.RangeNode.{RangeNode}
use Rattle.fd_language.specs.PostfixRanges.{nodes_of, spelled_range, spelled_range-nodes}
use Rattle.std.proofs.lemmas.Bool.{cases_Bool, true≢false, or_from}
use Rattle.std.proofs.Common.{◌⊎◌, inl, inr}
use Rattle.std.proofs.lemmas.List.{map_push}
use Rattle.std.proofs.Math.Bool.{or-false, and-false}
use Rattle.fd_language.specs.declared.range_node.Need.{Need}
use Rattle.fd_language.specs.declared.range_node.Need.TheVariants.{Whole, Natural, Divisor}
use Rattle.fd_language.specs.Family.{has}
use Rattle.fd_language.specs.Range.{Range}
use Rattle.fd_language.specs.Needs.{stronger, strongest, once, asks, needs}
use Rattle.monotone_check.specs.declared.parameter_places.Asked.{Asked}
use Rattle.monotone_check.specs.PlaceNeeds.{told}
use Rattle.fd_language.proofs.Lemmas.{eq_sym}
use Rattle.monotone_check.specs.JoinedNeeds.{put, put_all}

abbrev keys : List (ℕ × Need) → List ℕ
keys es = map (λ d. d.0) es

stronger_assoc : (a b c : Need) → stronger (stronger a b) c ≡ stronger a (stronger b c)
stronger_assoc Whole b c = refl
stronger_assoc Natural Whole c = refl
stronger_assoc Natural Natural Whole = refl
stronger_assoc Natural Natural Natural = refl
stronger_assoc Natural Natural Divisor = refl
stronger_assoc Natural Divisor c = refl
stronger_assoc Divisor b c = refl

stronger_whole : (n : Need) → stronger n Whole ≡ n
stronger_whole Whole = refl
stronger_whole Natural = refl
stronger_whole Divisor = refl

abbrev Distinct : List (ℕ × Need) → Type 0
Distinct [] = Unit {0}
Distinct (e ∷ es) = (has (keys es) e.0 ≡ false) × Distinct es

-- each entry joined with what comes after it, and the entries that come new
abbrev with_later : List (ℕ × Need) → ℕ × Need → ℕ × Need
with_later ds e = (e.0, stronger e.1 (strongest ds e.0))

abbrev fresh : List (ℕ × Need) → ℕ → ℕ × Need
fresh ds x = (x, strongest ds x)

abbrev together : List (ℕ × Need) → List (ℕ × Need) → List (ℕ × Need)
together es ds = map (with_later ds) es ++ map (fresh ds) (filter (λ x. not (has (keys es) x)) (once (keys ds)))

unaffected : (x : ℕ) (n : Need) (cs es : List (ℕ × Need)) → has (keys es) x ≡ false → map (with_later ((x, n) ∷ cs)) es ≡ map (with_later cs) es
unaffected x n cs [] h = refl
unaffected x n cs (e ∷ es) h =
    ap (λ b. (e.0, stronger e.1 (cond b (stronger n (strongest cs e.0)) (strongest cs e.0))) ∷ map (with_later ((x, n) ∷ cs)) es) (eq_sym x e.0 ∙ or_left_false (e.0 == x) (has (keys es) x) h)
    ∙ ap (λ l. with_later cs e ∷ l) (unaffected x n cs es (or_right_false (e.0 == x) (has (keys es) x) h))
  where
    or_left_false : (a b : Bool) → (a || b) ≡ false → a ≡ false
    or_left_false a b h = grind arith

    or_right_false : (a b : Bool) → (a || b) ≡ false → b ≡ false
    or_right_false a b h = grind arith

or_out : (a b : Bool) → a ≡ false → (a || b) ≡ true → b ≡ true
or_out a b h g = grind arith

joined : (x : ℕ) (n : Need) (cs es : List (ℕ × Need)) → Distinct es → has (keys es) x ≡ true → map (with_later cs) (put es x n) ≡ map (with_later ((x, n) ∷ cs)) es
joined x n cs [] d h = absurd (true≢false (sym h))
joined x n cs (e ∷ es) d h = elim (cases_Bool (e.0 == x)) [
  | inl i ↦
      ap (λ b. map (with_later cs) (cond b ((e.0, stronger e.1 n) ∷ es) (e ∷ put es x n))) i
      ∙ (ap (λ m. (e.0, m) ∷ map (with_later cs) es) (stronger_assoc e.1 n (strongest cs e.0))
      ∙ (ap (λ b. (e.0, stronger e.1 (cond b (stronger n (strongest cs e.0)) (strongest cs e.0))) ∷ map (with_later cs) es) (sym (eq_sym x e.0 ∙ i))
      ∙ ap (λ l. with_later ((x, n) ∷ cs) e ∷ l) (sym (unaffected x n cs es (subst (λ k. has (keys es) k ≡ false) (eqb-true e.0 x i) d.0)))))
  | inr i ↦
      ap (λ b. map (with_later cs) (cond b ((e.0, stronger e.1 n) ∷ es) (e ∷ put es x n))) i
      ∙ (ap (λ b. (e.0, stronger e.1 (cond b (stronger n (strongest cs e.0)) (strongest cs e.0))) ∷ map (with_later cs) (put es x n)) (sym (eq_sym x e.0 ∙ i))
      ∙ ap (λ l. with_later ((x, n) ∷ cs) e ∷ l) (joined x n cs es d.1 (or_out (e.0 == x) (has (keys es) x) i h)))
]

put_keys : (x : ℕ) (n : Need) (es : List (ℕ × Need)) → has (keys es) x ≡ true → keys (put es x n) ≡ keys es
put_keys x n [] h = absurd (true≢false (sym h))
put_keys x n (e ∷ es) h = elim (cases_Bool (e.0 == x)) [
  | inl i ↦ ap (λ b. keys (cond b ((e.0, stronger e.1 n) ∷ es) (e ∷ put es x n))) i
  | inr i ↦ ap (λ b. keys (cond b ((e.0, stronger e.1 n) ∷ es) (e ∷ put es x n))) i ∙ ap (λ l. e.0 ∷ l) (put_keys x n es (or_out (e.0 == x) (has (keys es) x) i h))
]

left_false : (a b : Bool) → (a || b) ≡ false → a ≡ false
left_false a b h = grind arith

right_false : (a b : Bool) → (a || b) ≡ false → b ≡ false
right_false a b h = grind arith

put_new : (x : ℕ) (n : Need) (es : List (ℕ × Need)) → has (keys es) x ≡ false → put es x n ≡ es ++ (x, n) ∷ []
put_new x n [] h = refl
put_new x n (e ∷ es) h = ap (λ b. cond b ((e.0, stronger e.1 n) ∷ es) (e ∷ put es x n)) (left_false (e.0 == x) (has (keys es) x) h)
    ∙ ap (λ l. e ∷ l) (put_new x n es (right_false (e.0 == x) (has (keys es) x) h))

has_snoc : (xs : List ℕ) (x z : ℕ) → has (xs ++ x ∷ []) z ≡ (has xs z || (x == z))
has_snoc [] x z = or-false (x == z)
has_snoc (y ∷ ys) x z = ap (λ b. (y == z) || b) (has_snoc ys x z) ∙ group (y == z) (has ys z) (x == z) where
  group : (a b c : Bool) → (a || (b || c)) ≡ ((a || b) || c)
  group true b c = refl
  group false b c = refl

put_distinct : (x : ℕ) (n : Need) (es : List (ℕ × Need)) → Distinct es → Distinct (put es x n)
put_distinct x n [] d = (refl, tt)
put_distinct x n (e ∷ es) d = elim (cases_Bool (e.0 == x)) [
  | inl i ↦ subst (λ b. Distinct (cond b ((e.0, stronger e.1 n) ∷ es) (e ∷ put es x n))) (sym i) d
  | inr i ↦ subst (λ b. Distinct (cond b ((e.0, stronger e.1 n) ∷ es) (e ∷ put es x n))) (sym i) (stays (cases_Bool (has (keys es) x)) i, put_distinct x n es d.1)
] where
  stays : (has (keys es) x ≡ true) ⊎ (has (keys es) x ≡ false) → (e.0 == x) ≡ false → has (keys (put es x n)) e.0 ≡ false
  stays (inl h) i = ap (λ l. has l e.0) (put_keys x n es h) ∙ d.0
  stays (inr h) i = ap (λ l. has (keys l) e.0) (put_new x n es h)
      ∙ (ap (λ l. has l e.0) (map_push (λ c. c.0) es (x, n)) ∙ (has_snoc (keys es) x e.0 ∙ or_from (has (keys es) e.0) (x == e.0) d.0 (eq_sym x e.0 ∙ i)))

filter_two : (p q r : ℕ → Bool) → ((z : ℕ) → r z ≡ (p z && q z)) → (l : List ℕ) → filter p (filter q l) ≡ filter r l
filter_two p q r f [] = refl
filter_two p q r f (z ∷ l) = elim (cases_Bool (q z)) [
  | inl i ↦ ap (λ b. filter p (cond b (z ∷ filter q l) (filter q l))) i ∙ (inner (p z) (r z) (f z ∙ ap (λ b. p z && b) i) (filter_two p q r f l))
  | inr i ↦ ap (λ b. filter p (cond b (z ∷ filter q l) (filter q l))) i ∙ (filter_two p q r f l ∙ ap (λ b. cond b (z ∷ filter r l) (filter r l)) (sym (f z ∙ (ap (λ b. p z && b) i ∙ and-false (p z)))))
] where
  inner : (a b : Bool) → b ≡ (a && true) → filter p (filter q l) ≡ filter r l → cond a (z ∷ filter p (filter q l)) (filter p (filter q l)) ≡ cond b (z ∷ filter r l) (filter r l)
  inner true b h e = ap (λ k. z ∷ k) e ∙ ap (λ c. cond c (z ∷ filter r l) (filter r l)) (sym h)
  inner false b h e = e ∙ ap (λ c. cond c (z ∷ filter r l) (filter r l)) (sym h)

map_same : (f g : ℕ → ℕ × Need) (r : ℕ → Bool) → ((z : ℕ) → r z ≡ true → f z ≡ g z) → (l : List ℕ) → map f (filter r l) ≡ map g (filter r l)
map_same f g r h [] = refl
map_same f g r h (z ∷ l) = elim (cases_Bool (r z)) [
  | inl i ↦ ap (λ b. map f (cond b (z ∷ filter r l) (filter r l))) i
      ∙ (ap (λ v. v ∷ map f (filter r l)) (h z i) ∙ (ap (λ k. g z ∷ k) (map_same f g r h l) ∙ sym (ap (λ b. map g (cond b (z ∷ filter r l) (filter r l))) i)))
  | inr i ↦ ap (λ b. map f (cond b (z ∷ filter r l) (filter r l))) i ∙ (map_same f g r h l ∙ sym (ap (λ b. map g (cond b (z ∷ filter r l) (filter r l))) i))
]

fresh_same : (x : ℕ) (n : Need) (cs : List (ℕ × Need)) (z : ℕ) → (x == z) ≡ false → fresh cs z ≡ fresh ((x, n) ∷ cs) z
fresh_same x n cs z h = ap (λ b. (z, cond b (stronger n (strongest cs z)) (strongest cs z))) (sym h)

absent_not : (es : List (ℕ × Need)) (x z : ℕ) → has (keys es) x ≡ true → not (has (keys es) z) ≡ true → (x == z) ≡ false
absent_not es x z h g = elim (cases_Bool (x == z)) [ inl i ↦ absurd (clash (has (keys es) z) (subst (λ k. has (keys es) k ≡ true) (eqb-true x z i) h) g) | inr i ↦ i ] where
  clash : (b : Bool) → b ≡ true → not b ≡ true → ⊥
  clash b h g = true≢false (grind arith)

put_step : (x : ℕ) (n : Need) (cs es : List (ℕ × Need)) → Distinct es → together (put es x n) cs ≡ together es ((x, n) ∷ cs)
put_step x n cs es d = elim (cases_Bool (has (keys es) x)) [
  | inl h ↦
      let p : ℕ → Bool = λ z. not (has (keys es) z) in
      let q : ℕ → Bool = λ z. not (z == x) in
      let l : List ℕ = once (keys cs) in
      let same : (z : ℕ) → p z ≡ (p z && q z) = λ z. kept (p z) (z == x) (λ g. eq_sym z x ∙ absent_not es x z h g) in
      ap (λ k. k ++ map (fresh cs) (filter (λ z. not (has (keys (put es x n)) z)) l)) (joined x n cs es d h)
      ∙ (ap (λ k. map (with_later ((x, n) ∷ cs)) es ++ map (fresh cs) (filter (λ z. not (has k z)) l)) (put_keys x n es h)
      ∙ (ap (λ k. map (with_later ((x, n) ∷ cs)) es ++ k) (map_same (fresh cs) (fresh ((x, n) ∷ cs)) p (λ z g. fresh_same x n cs z (absent_not es x z h g)) l
      ∙ (ap (map (fresh ((x, n) ∷ cs))) (sym (filter_two p q p same l)) ∙ ap (λ b. map (fresh ((x, n) ∷ cs)) (cond (not b) (x ∷ filter p (filter q l)) (filter p (filter q l)))) (sym h)))))
  | inr h ↦
      let p : ℕ → Bool = λ z. not (has (keys es) z) in
      let q : ℕ → Bool = λ z. not (z == x) in
      let r : ℕ → Bool = λ z. not (has (keys es ++ x ∷ []) z) in
      let l : List ℕ = once (keys cs) in
      let split : (z : ℕ) → r z ≡ (p z && q z) = λ z. ap not (has_snoc (keys es) x z) ∙ (neither (has (keys es) z) (x == z) ∙ ap (λ b. p z && not b) (eq_sym x z)) in
      ap (λ k. together k cs) (put_new x n es h)
      ∙ (ap (λ k. k ++ map (fresh cs) (filter (λ z. not (has (keys (es ++ (x, n) ∷ [])) z)) l)) (map_push (with_later cs) es (x, n))
      ∙ (ap (λ k. (map (with_later cs) es ++ with_later cs (x, n) ∷ []) ++ map (fresh cs) (filter (λ z. not (has k z)) l)) (map_push (λ c. c.0) es (x, n))
      ∙ (regroup (map (with_later cs) es) (with_later cs (x, n)) (map (fresh cs) (filter r l))
      ∙ (ap (λ k. k ++ with_later cs (x, n) ∷ map (fresh cs) (filter r l)) (sym (unaffected x n cs es h))
      ∙ ap (λ k. map (with_later ((x, n) ∷ cs)) es ++ k)
      (ap (λ k. with_later cs (x, n) ∷ k) (map_same (fresh cs) (fresh ((x, n) ∷ cs)) r
      (λ z g. fresh_same x n cs z (apart_from (has (keys es) z) (x == z) (sym (ap not (has_snoc (keys es) x z)) ∙ g))) l
      ∙ ap (map (fresh ((x, n) ∷ cs))) (sym (filter_two p q r split l)))
      ∙ (ap (λ b. (x, cond b (stronger n (strongest cs x)) (strongest cs x)) ∷ map (fresh ((x, n) ∷ cs)) (filter p (filter q l))) (sym (eq-eqb x x refl))
      ∙ ap (λ b. map (fresh ((x, n) ∷ cs)) (cond (not b) (x ∷ filter p (filter q l)) (filter p (filter q l)))) (sym h)))))))
] where
  kept : (a b : Bool) → (a ≡ true → b ≡ false) → a ≡ (a && not b)
  kept true b f = sym (ap not (f refl))
  kept false b f = refl

  neither : (a b : Bool) → not (a || b) ≡ (not a && not b)
  neither true b = refl
  neither false b = refl

  apart_from : (a b : Bool) → not (a || b) ≡ true → b ≡ false
  apart_from a b h = grind arith

  regroup : (xs : List (ℕ × Need)) (y : ℕ × Need) (zs : List (ℕ × Need)) → (xs ++ y ∷ []) ++ zs ≡ xs ++ y ∷ zs
  regroup [] y zs = refl
  regroup (x ∷ xs) y zs = ap (λ l. x ∷ l) (regroup xs y zs)

nothing_later : (es : List (ℕ × Need)) → es ≡ together es []
nothing_later [] = refl
nothing_later (e ∷ es) = ap (λ n. (e.0, n) ∷ es) (sym (stronger_whole e.1)) ∙ ap (λ l. with_later [] e ∷ l) (nothing_later es)

put_all_is : (ds es : List (ℕ × Need)) → Distinct es → put_all es ds ≡ together es ds
put_all_is [] es d = nothing_later es
put_all_is (c ∷ cs) es d = put_all_is cs (put es c.0 c.1) (put_distinct c.0 c.1 es d) ∙ put_step c.0 c.1 cs es d

all_absent : (l : List ℕ) → filter (λ x. not (has (keys []) x)) l ≡ l
all_absent [] = refl
all_absent (x ∷ l) = ap (λ k. x ∷ k) (all_absent l)

pub gathers : (r : Range) → put_all [] (asks r) ≡ needs r
gathers r = put_all_is (asks r) [] tt ∙ ap (map (fresh (asks r))) (all_absent (once (keys (asks r))))

told_asks : (r q : Range) (ps places : List Asked) (ns : List RangeNode) → ps ≡ places → told 0 places ≡ asks (spelled_range ns) → ns ≡ nodes_of q → q ≡ r → put_all [] (told 0 ps) ≡ needs r
told_asks r q ps places ns e f g h = ap (λ l. put_all [] (told 0 l)) e ∙ (ap (put_all []) (f ∙ ap asks (ap spelled_range g ∙ (spelled_range-nodes q ∙ h))) ∙ gathers r)

pub needs_ok : {X E : Type 0} (res : Result X E) (items : X → List (ℕ × Need)) (r q : Range) (ps places : List Asked) (ns : List RangeNode) → ps ≡ places
    → told 0 places ≡ asks (spelled_range ns) → ns ≡ nodes_of q → q ≡ r →
    IfOk res (λ v. items v ≡ put_all [] (told 0 ps)) → IfOk res (λ v. items v ≡ needs r)
needs_ok res items r q ps places ns e f g h k = IfOk-weaker res (λ v. items v ≡ put_all [] (told 0 ps)) (λ v. items v ≡ needs r) (λ v i. i ∙ told_asks r q ps places ns e f g h) k
