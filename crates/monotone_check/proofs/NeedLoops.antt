-- The loops that put needs together.
use Rattle.std.proofs.Common.{◌≡◌, ℕ, zero, suc, ◌+◌, ◌-◌, ◌<◌, ◌≤◌, Bool, true, false, cond, not, ◌||◌, ◌==◌, nat_eq, List, [], ◌∷◌, ◌++◌, length, map}
use Rattle.std.proofs.Common.{reverse, take, get_or, refl, sym, ◌∙◌, ap, arith, inl, inr}
use Rattle.std.specs.Prelude.{slice_set}
use Rattle.std.specs.List.{list_any, position_or_len}
use Rattle.std.proofs.lemmas.Bool.{cases_Bool}
use Rattle.std.proofs.lemmas.List.{take_all, take_more, reverse-append, reverse-reverse}
use Rattle.std.proofs.Math.Numerals.{add-one}
use Rattle.fd_language.specs.declared.range_node.Need.{Need}
use Rattle.fd_language.specs.Needs.{stronger}
use Rattle.monotone_check.specs.JoinedNeeds.{put, put_all}
use Rattle.fd_language.proofs.Lemmas.{eq_sym}

abbrev keys : List (ℕ × Need) → List ℕ
keys es = map (λ d. d.0) es

-- an entry that is found is joined where it stands, and another one stands at the end
pub join_found : (es : List (ℕ × Need)) (d : ℕ × Need) (x : ℕ) (n : Need) (k : ℕ) → k < length es → k ≡ position_or_len (nat_eq x) (keys es) →
    slice_set es k ((get_or es k d).0, stronger (get_or es k d).1 n) ≡ put es x n
join_found [] d x n k l e = absurd (omega arith)
join_found (c ∷ es) d x n k l e = elim (cases_Bool (x == c.0)) [
  | inl i ↦ here k (e ∙ ap (λ b. cond (not b) (1 + position_or_len (nat_eq x) (keys es)) 0) i) ∙ ap (λ b. cond b ((c.0, stronger c.1 n) ∷ es) (c ∷ put es x n)) (sym (eq_sym c.0 x ∙ i))
  | inr i ↦ later k l (e ∙ ap (λ b. cond (not b) (1 + position_or_len (nat_eq x) (keys es)) 0) i) (join_found es d x n)
      ∙ ap (λ b. cond b ((c.0, stronger c.1 n) ∷ es) (c ∷ put es x n)) (sym (eq_sym c.0 x ∙ i))
] where
  here : (k : ℕ) → k ≡ 0 → slice_set (c ∷ es) k ((get_or (c ∷ es) k d).0, stronger (get_or (c ∷ es) k d).1 n) ≡ (c.0, stronger c.1 n) ∷ es
  here zero h = refl
  here (suc k) h = absurd (omega arith)

  later : (k : ℕ) → k < suc (length es) → k ≡ 1 + position_or_len (nat_eq x) (keys es)
      → ((m : ℕ) → m < length es → m ≡ position_or_len (nat_eq x) (keys es) → slice_set es m ((get_or es m d).0, stronger (get_or es m d).1 n) ≡ put es x n)
      → slice_set (c ∷ es) k ((get_or (c ∷ es) k d).0, stronger (get_or (c ∷ es) k d).1 n) ≡ c ∷ put es x n
  later zero l h again = absurd (omega arith)
  later (suc k) l h again = ap (λ m. c ∷ m) (again k (omega arith) (omega arith))

pub join_new : (es : List (ℕ × Need)) (x : ℕ) (n : Need) (k : ℕ) → length es ≤ k → k ≡ position_or_len (nat_eq x) (keys es) → es ++ (x, n) ∷ [] ≡ put es x n
join_new [] x n k l e = refl
join_new (c ∷ es) x n k l e = elim (cases_Bool (x == c.0)) [
  | inl i ↦ absurd (far (length es) k l (e ∙ ap (λ b. cond (not b) (1 + position_or_len (nat_eq x) (keys es)) 0) i))
  | inr i ↦
      ap (λ m. c ∷ m) (join_new es x n (position_or_len (nat_eq x) (keys es))
      (less (length es) k (position_or_len (nat_eq x) (keys es)) l (e ∙ ap (λ b. cond (not b) (1 + position_or_len (nat_eq x) (keys es)) 0) i)) refl)
      ∙ ap (λ b. cond b ((c.0, stronger c.1 n) ∷ es) (c ∷ put es x n)) (sym (eq_sym c.0 x ∙ i))
] where
  far : (m k : ℕ) → suc m ≤ k → k ≡ 0 → ⊥
  far m k l h = omega arith

  less : (m k p : ℕ) → suc m ≤ k → k ≡ 1 + p → m ≤ p
  less m k p l h = omega arith

-- a step of the walk from the first place to the last, whose list begins with the last one
pub gather_step : (asked : List (ℕ × Need)) (d c : ℕ × Need) (left : ℕ) (ds new whole : List (ℕ × Need)) → 0 < left → left ≤ length asked → c ≡ get_or asked (left - 1) d → new ≡ put ds c.0 c.1 →
    put_all ds (reverse (take left asked)) ≡ whole → put_all new (reverse (take (left - 1) asked)) ≡ whole
gather_step asked d c zero ds new whole h l e f g = absurd (omega arith)
gather_step asked d c (suc k) ds new whole h l e f g =
    let i : suc k - 1 ≡ k = less k in
    let front : take (suc k) asked ≡ take k asked ++ c ∷ [] = ap (λ n. take n asked) (sym (add-one k))
    ∙ (take_more asked k d (below k (length asked) l) ∙ ap (λ w. take k asked ++ w ∷ []) (sym (e ∙ ap (λ n. get_or asked n d) i))) in
    let turn : reverse (take (suc k) asked) ≡ c ∷ reverse (take k asked) = ap reverse front ∙ reverse-append (take k asked) (c ∷ []) in
    ap (λ m. put_all m (reverse (take (suc k - 1) asked))) f ∙ (ap (λ n. put_all (put ds c.0 c.1) (reverse (take n asked))) i ∙ (sym (ap (put_all ds) turn) ∙ g))
  where
    less : (n : ℕ) → suc n - 1 ≡ n
    less n = omega arith

    below : (n m : ℕ) → suc n ≤ m → n < m
    below n m h = omega arith

pub gather_start : (asked : List (ℕ × Need)) (left : ℕ) (told : List (ℕ × Need)) (ks : List ℕ) (ds : List (ℕ × Need)) → left ≡ length asked → ks ≡ [] → ds ≡ [] → asked ≡ reverse told →
    (left ≤ length asked) × (ks ≡ keys ds) × (put_all ds (reverse (take left asked)) ≡ put_all [] told)
gather_start asked left told ks ds l k d a = (
  omega (arith, l),
  k ∙ ap keys (sym d),
  ap (λ es. put_all es (reverse (take left asked))) d
      ∙ ap (λ es. put_all [] (reverse es)) (take_all left asked (omega (arith, l)) ∙ a) ∙ ap (put_all []) (reverse-reverse told),
)

pub put_keys : (es : List (ℕ × Need)) (x : ℕ) (n : Need) → keys (put es x n) ≡ cond (list_any (nat_eq x) (keys es)) (keys es) (keys es ++ x ∷ [])
put_keys [] x n = refl
put_keys (c ∷ es) x n = elim (cases_Bool (x == c.0)) [
  | inl i ↦ ap (λ b. keys (cond b ((c.0, stronger c.1 n) ∷ es) (c ∷ put es x n))) (eq_sym c.0 x ∙ i)
      ∙ ap (λ b. cond (b || list_any (nat_eq x) (keys es)) (c.0 ∷ keys es) (c.0 ∷ (keys es ++ x ∷ []))) (sym i)
  | inr i ↦ ap (λ b. keys (cond b ((c.0, stronger c.1 n) ∷ es) (c ∷ put es x n))) (eq_sym c.0 x ∙ i) ∙ (ap (λ l. c.0 ∷ l) (put_keys es x n)
      ∙ (inside (list_any (nat_eq x) (keys es)) (keys es) (keys es ++ x ∷ []) ∙ ap (λ b. cond (b || list_any (nat_eq x) (keys es)) (c.0 ∷ keys es) (c.0 ∷ (keys es ++ x ∷ []))) (sym i)))
] where
  inside : (b : Bool) (xs ys : List ℕ) → c.0 ∷ cond b xs ys ≡ cond b (c.0 ∷ xs) (c.0 ∷ ys)
  inside true xs ys = refl
  inside false xs ys = refl

pub join_at : (es : List (ℕ × Need)) (v : ℕ × Need) (x : ℕ) (n m : Need) (k : ℕ) → k < length es → v ≡ get_or es k v → m ≡ stronger v.1 n
    → k ≡ position_or_len (nat_eq x) (keys es) → slice_set es k (v.0, m) ≡ put es x n
join_at es v x n m k l e f g =
    ap (λ r. slice_set es k (v.0, r)) f ∙ (ap (λ w. slice_set es k (w.0, stronger w.1 n)) e ∙ join_found es v x n k l g)

pub gathered_keys : (old new : List ℕ) (ds es : List (ℕ × Need)) (x : ℕ) (n : Need) → old ≡ keys ds → new ≡ cond (list_any (nat_eq x) old) old (old ++ x ∷ []) → es ≡ put ds x n → new ≡ keys es
gathered_keys old new ds es x n e f g = f ∙ (ap (λ l. cond (list_any (nat_eq x) l) l (l ++ x ∷ [])) e ∙ (sym (put_keys ds x n) ∙ ap keys (sym g)))

pub one_less : (n m : ℕ) → n ≤ m → n - 1 ≤ m
one_less n m h = omega arith
