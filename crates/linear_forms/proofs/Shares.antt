-- The shares of sums, and the sums that they are.
use Rattle.std.proofs.Common.{◌≡◌, ℕ, suc, ◌≤◌, ◌<◌, Bool, true, false, cond, ℤ, ◌+ℤ◌, List, [], ◌∷◌, Option, None, Some, refl, sym, ap, subst, ◌∙◌, arith}
use Rattle.std.proofs.lemmas.Bool.Decides.{nat_tests}
use Rattle.std.specs.Prelude.{nat_eq, ◌==◌, ◌&&◌}
use Rattle.std.specs.List.{list_all, IsDistinct, AllByRecursion}
use Rattle.std.specs.Map.{keys_of}
use Rattle.std.proofs.lemmas.Map.Keys.{IsDistinct-head, IsDistinct-tail, IsDistinct-cons}
use Rattle.fd_model.specs.Linear.{with_product, with_products}
use Rattle.linear_forms.specs.declared.sums.Share.{Share}
use Rattle.linear_forms.specs.Shares.{share_at, coefficients, Rise}

pub same_key : (x y : ℕ) → nat_eq x y ≡ true → x ≡ y
same_key x y h = grind (arith, nat_tests)

key_self : (x : ℕ) → nat_eq x x ≡ true
key_self x = grind (arith, nat_tests)

key_flip : (x y : ℕ) → nat_eq x y ≡ nat_eq y x
key_flip x y = grind (arith, nat_tests)

other_key : (x y z : ℕ) → nat_eq x y ≡ true → nat_eq z y ≡ nat_eq z x
other_key x y z h = ap (nat_eq z) (sym (same_key x y h))

-- no entry has the key
abbrev pub Lacks : ℕ → List (ℕ × Share) → Type 0
Lacks x es = AllByRecursion (λ y. nat_eq x y ≡ false) (keys_of es)

lacks_none : (x : ℕ) (es : List (ℕ × Share)) → Lacks x es → share_at es x ≡ None
lacks_none x [] h = refl
lacks_none x (e ∷ es) h = ap (λ b. cond b (Some e.1) (share_at es x)) h.0 ∙ lacks_none x es h.1

pub head_lacks : (e : ℕ × Share) (es : List (ℕ × Share)) → IsDistinct nat_eq (keys_of (e ∷ es)) → Lacks e.0 es
head_lacks e es d = IsDistinct-head nat_eq e.0 (keys_of es) d

pub tail_distinct : (e : ℕ × Share) (es : List (ℕ × Share)) → IsDistinct nat_eq (keys_of (e ∷ es)) → IsDistinct nat_eq (keys_of es)
tail_distinct e es d = IsDistinct-tail nat_eq e.0 (keys_of es) d

pub rest_none : (e : ℕ × Share) (es : List (ℕ × Share)) → IsDistinct nat_eq (keys_of (e ∷ es)) → share_at es e.0 ≡ None
rest_none e es d = lacks_none e.0 es (head_lacks e es d)

pub at_head : (e : ℕ × Share) (es : List (ℕ × Share)) → share_at (e ∷ es) e.0 ≡ Some e.1
at_head e es = ap (λ b. cond b (Some e.1) (share_at es e.0)) (key_self e.0)

pub past_head : (e : ℕ × Share) (es : List (ℕ × Share)) (x : ℕ) → nat_eq x e.0 ≡ false → share_at (e ∷ es) x ≡ share_at es x
past_head e es x h = ap (λ b. cond b (Some e.1) (share_at es x)) h

-- an entry more: the sum with its product
abbrev pub put : List (ℕ × Share) → ℕ × Share → List (ℕ × Share)
put [] e = e ∷ []
put (q ∷ qs) e = cond (q.0 == e.0) ((e.0, record { coefficient = q.1.coefficient +ℤ e.1.coefficient; first = q.1.first }) ∷ qs) (q ∷ put qs e)

abbrev pub merged : List (ℕ × Share) → List (ℕ × Share) → List (ℕ × Share)
merged qs [] = qs
merged qs (e ∷ es) = merged (put qs e) es

-- what both have, with the first occurrence in the first one
abbrev pub kept : Option Share → Option Share → Option Share
kept None t = t
kept (Some s) None = Some s
kept (Some s) (Some t) = Some (record { coefficient = s.coefficient +ℤ t.coefficient; first = s.first })

put_coefficients : (qs : List (ℕ × Share)) (e : ℕ × Share) → coefficients (put qs e) ≡ with_product (coefficients qs) e.0 e.1.coefficient
put_coefficients [] e = refl
put_coefficients (q ∷ qs) e = by (q.0 == e.0) (put_coefficients qs e) where
  by : (b : Bool) → coefficients (put qs e) ≡ with_product (coefficients qs) e.0 e.1.coefficient
      → coefficients (cond b ((e.0, record { coefficient = q.1.coefficient +ℤ e.1.coefficient; first = q.1.first }) ∷ qs) (q ∷ put qs e)) ≡ cond b
      ((e.0, q.1.coefficient +ℤ e.1.coefficient) ∷ coefficients qs) ((q.0, q.1.coefficient) ∷ with_product (coefficients qs) e.0 e.1.coefficient)
  by true h = refl
  by false h = ap (λ (ts : List (ℕ × ℤ)). (q.0, q.1.coefficient) ∷ ts) h

pub merged_coefficients : (qs es : List (ℕ × Share)) → coefficients (merged qs es) ≡ with_products (coefficients qs) (coefficients es)
merged_coefficients qs [] = refl
merged_coefficients qs (e ∷ es) = merged_coefficients (put qs e) es ∙ ap (λ ts. with_products ts (coefficients es)) (put_coefficients qs e)

kept_none : (r : Option Share) → kept r None ≡ r
kept_none None = refl
kept_none (Some s) = refl

-- the share of the variable that is put, and of another one
put_here : (qs : List (ℕ × Share)) (e : ℕ × Share) (x : ℕ) → nat_eq x e.0 ≡ true → share_at (put qs e) x ≡ kept (share_at qs x) (Some e.1)
put_here [] e x h = ap (λ b. cond b (Some e.1) None) h
put_here (q ∷ qs) e x h = by (q.0 == e.0) refl (put_here qs e x h) where
  new : ℕ × Share
  new = (e.0, record { coefficient = q.1.coefficient +ℤ e.1.coefficient; first = q.1.first })

  by : (b : Bool) → (q.0 == e.0) ≡ b → share_at (put qs e) x ≡ kept (share_at qs x) (Some e.1) → share_at (cond b (new ∷ qs) (q ∷ put qs e)) x ≡ kept (share_at (q ∷ qs) x) (Some e.1)
  by true k i =
      let at : nat_eq x q.0 ≡ true = other_key e.0 q.0 x (key_flip e.0 q.0 ∙ k) ∙ h in
      ap (λ b. cond b (Some new.1) (share_at qs x)) h ∙ ap (λ b. kept (cond b (Some q.1) (share_at qs x)) (Some e.1)) (sym at)
  by false k i =
      let at : nat_eq x q.0 ≡ false = ap (λ y. nat_eq y q.0) (same_key x e.0 h) ∙ key_flip e.0 q.0 ∙ k in
      ap (λ b. cond b (Some q.1) (share_at (put qs e) x)) at ∙ i ∙ ap (λ b. kept (cond b (Some q.1) (share_at qs x)) (Some e.1)) (sym at)

put_other : (qs : List (ℕ × Share)) (e : ℕ × Share) (x : ℕ) → nat_eq x e.0 ≡ false → share_at (put qs e) x ≡ share_at qs x
put_other [] e x h = ap (λ b. cond b (Some e.1) None) h
put_other (q ∷ qs) e x h = by (q.0 == e.0) refl (put_other qs e x h) where
  new : ℕ × Share
  new = (e.0, record { coefficient = q.1.coefficient +ℤ e.1.coefficient; first = q.1.first })

  by : (b : Bool) → (q.0 == e.0) ≡ b → share_at (put qs e) x ≡ share_at qs x → share_at (cond b (new ∷ qs) (q ∷ put qs e)) x ≡ share_at (q ∷ qs) x
  by true k i =
      let at : nat_eq x q.0 ≡ false = other_key e.0 q.0 x (key_flip e.0 q.0 ∙ k) ∙ h in
      ap (λ b. cond b (Some new.1) (share_at qs x)) h ∙ ap (λ b. cond b (Some q.1) (share_at qs x)) (sym at)
  by false k i = ap (λ r. cond (nat_eq x q.0) (Some q.1) r) i

pub merged_share : (qs es : List (ℕ × Share)) → IsDistinct nat_eq (keys_of es) → (x : ℕ) → share_at (merged qs es) x ≡ kept (share_at qs x) (share_at es x)
merged_share qs [] d x = sym (kept_none (share_at qs x))
merged_share qs (e ∷ es) d x = by (nat_eq x e.0) refl (merged_share (put qs e) es (tail_distinct e es d) x) where
  by : (b : Bool) → nat_eq x e.0 ≡ b → share_at (merged (put qs e) es) x ≡ kept (share_at (put qs e) x) (share_at es x) → share_at (merged (put qs e) es) x ≡ kept (share_at qs x) (share_at (e ∷ es) x)
  by true k i =
      let none : share_at es x ≡ None = ap (share_at es) (same_key x e.0 k) ∙ rest_none e es d in
      i ∙ ap (kept (share_at (put qs e) x)) none ∙ kept_none (share_at (put qs e) x) ∙ put_here qs e x k ∙ ap (λ b. kept (share_at qs x) (cond b (Some e.1) (share_at es x))) (sym k)
  by false k i = i ∙ ap (λ r. kept r (share_at es x)) (put_other qs e x k) ∙ ap (λ b. kept (share_at qs x) (cond b (Some e.1) (share_at es x))) (sym k)

-- occurrences
pub rise_ends : (lo hi : ℕ) (qs : List (ℕ × Share)) → Rise lo qs hi → lo ≤ hi
rise_ends lo hi [] r = r
rise_ends lo hi (q ∷ qs) r = let k = rise_ends (suc q.1.first) hi qs r.1 in omega (arith, r.0)

pub rise_later : (lo hi end : ℕ) (qs : List (ℕ × Share)) → Rise lo qs hi → hi ≤ end → Rise lo qs end
rise_later lo hi end [] r h = omega arith
rise_later lo hi end (q ∷ qs) r h = (r.0, rise_later (suc q.1.first) hi end qs r.1 h)

pub rise_sooner : (start lo hi : ℕ) (qs : List (ℕ × Share)) → Rise lo qs hi → start ≤ lo → Rise start qs hi
rise_sooner start lo hi [] r h = omega arith
rise_sooner start lo hi (q ∷ qs) r h = let k : start ≤ q.1.first = omega (arith, r.0) in (k, r.1)

put_rises : (lo hi : ℕ) (qs : List (ℕ × Share)) (e : ℕ × Share) → Rise lo qs hi → hi ≤ e.1.first → Rise lo (put qs e) (suc e.1.first)
put_rises lo hi [] e r h = let k : lo ≤ e.1.first = omega arith in let j : suc e.1.first ≤ suc e.1.first = omega arith in (k, j)
put_rises lo hi (q ∷ qs) e r h = by (q.0 == e.0) (put_rises (suc q.1.first) hi qs e r.1 h) where
  by : (b : Bool) → Rise (suc q.1.first) (put qs e) (suc e.1.first)
      → Rise lo (cond b ((e.0, record { coefficient = q.1.coefficient +ℤ e.1.coefficient; first = q.1.first }) ∷ qs) (q ∷ put qs e)) (suc e.1.first)
  by true i = (r.0, rise_later (suc q.1.first) hi (suc e.1.first) qs r.1 (omega arith))
  by false i = (r.0, i)

pub merged_rises : (lo m hi : ℕ) (qs es : List (ℕ × Share)) → Rise lo qs m → Rise m es hi → Rise lo (merged qs es) hi
merged_rises lo m hi qs [] r s = rise_later lo m hi qs r s
merged_rises lo m hi qs (e ∷ es) r s = merged_rises lo (suc e.1.first) hi (put qs e) es (put_rises lo m qs e r s.0) s.1

pub share_between : (lo hi : ℕ) (qs : List (ℕ × Share)) (x : ℕ) (v : Share) → Rise lo qs hi → share_at qs x ≡ Some v → (lo ≤ v.first) × (v.first < hi)
share_between lo hi [] x v r h = absurd (cc)
share_between lo hi (q ∷ qs) x v r h = by (nat_eq x q.0) h (share_between (suc q.1.first) hi qs x v r.1) where
  by : (b : Bool) → cond b (Some q.1) (share_at qs x) ≡ Some v → (share_at qs x ≡ Some v → (suc q.1.first ≤ v.first) × (v.first < hi)) → (lo ≤ v.first) × (v.first < hi)
  by true k i =
      let same : q.1 ≡ v = cc in
      let end = rise_ends (suc q.1.first) hi qs r.1 in
      let a : lo ≤ v.first = subst (λ (w : Share). lo ≤ w.first) same r.0 in
      let b : v.first < hi = subst (λ (w : Share). w.first < hi) same (omega arith) in
      (a, b)
  by false k i = let j = i k in let a : lo ≤ v.first = omega (arith, r.0, j.0) in (a, j.1)

-- the variables of an entry more
put_lacks : (x : ℕ) (qs : List (ℕ × Share)) (e : ℕ × Share) → Lacks x qs → nat_eq x e.0 ≡ false → Lacks x (put qs e)
put_lacks x [] e l h = (h, tt)
put_lacks x (q ∷ qs) e l h = by (q.0 == e.0) (put_lacks x qs e l.1 h) where
  by : (b : Bool) → Lacks x (put qs e) → Lacks x (cond b ((e.0, record { coefficient = q.1.coefficient +ℤ e.1.coefficient; first = q.1.first }) ∷ qs) (q ∷ put qs e))
  by true i = (h, l.1)
  by false i = (l.0, i)

put_distinct : (qs : List (ℕ × Share)) (e : ℕ × Share) → IsDistinct nat_eq (keys_of qs) → IsDistinct nat_eq (keys_of (put qs e))
put_distinct [] e d = IsDistinct-cons nat_eq e.0 [] tt d
put_distinct (q ∷ qs) e d = by (q.0 == e.0) refl (put_distinct qs e (tail_distinct q qs d)) where
  by : (b : Bool) → (q.0 == e.0) ≡ b → IsDistinct nat_eq (keys_of (put qs e))
      → IsDistinct nat_eq (keys_of (cond b ((e.0, record { coefficient = q.1.coefficient +ℤ e.1.coefficient; first = q.1.first }) ∷ qs) (q ∷ put qs e)))
  by true k i = subst (λ x. IsDistinct nat_eq (x ∷ keys_of qs)) (same_key q.0 e.0 k) d
  by false k i = IsDistinct-cons nat_eq q.0 (keys_of (put qs e)) (put_lacks q.0 qs e (head_lacks q qs d) k) i

pub merged_distinct : (qs es : List (ℕ × Share)) → IsDistinct nat_eq (keys_of qs) → IsDistinct nat_eq (keys_of (merged qs es))
merged_distinct qs [] d = d
merged_distinct qs (e ∷ es) d = merged_distinct (put qs e) es (put_distinct qs e d)

-- a test of all coefficients is one of all shares
pub all_from : (p : ℤ → Bool) (qs : List (ℕ × Share)) → IsDistinct nat_eq (keys_of qs) → ((x : ℕ) (w : Share) → share_at qs x ≡ Some w → p w.coefficient ≡ true)
    → list_all (λ (t : ℕ × ℤ). p t.1) (coefficients qs) ≡ true
all_from p [] d h = refl
all_from p (q ∷ qs) d h =
    let here : p q.1.coefficient ≡ true = h q.0 q.1 (at_head q qs) in
    let rest : list_all (λ (t : ℕ × ℤ). p t.1) (coefficients qs) ≡ true = all_from p qs (tail_distinct q qs d) (λ x w e. by x w e (nat_eq x q.0) refl) in
    ap (λ b. b && list_all (λ (t : ℕ × ℤ). p t.1) (coefficients qs)) here ∙ rest
  where
    by : (x : ℕ) (w : Share) → share_at qs x ≡ Some w → (b : Bool) → nat_eq x q.0 ≡ b → p w.coefficient ≡ true
    by x w e true k = let none : share_at qs x ≡ None = ap (share_at qs) (same_key x q.0 k) ∙ rest_none q qs d in absurd (cc)
    by x w e false k = h x w (past_head q qs x k ∙ e)

pub all_at : (p : ℤ → Bool) (qs : List (ℕ × Share)) (x : ℕ) (w : Share) → list_all (λ (t : ℕ × ℤ). p t.1) (coefficients qs) ≡ true → share_at qs x ≡ Some w → p w.coefficient ≡ true
all_at p [] x w h e = absurd (cc)
all_at p (q ∷ qs) x w h e = by (p q.1.coefficient) refl h (nat_eq x q.0) e (λ g. all_at p qs x w g) where
  by : (c : Bool) → p q.1.coefficient ≡ c → (c && list_all (λ (t : ℕ × ℤ). p t.1) (coefficients qs)) ≡ true → (b : Bool) → cond b (Some q.1) (share_at qs x) ≡ Some w
      → (list_all (λ (t : ℕ × ℤ). p t.1) (coefficients qs) ≡ true → share_at qs x ≡ Some w → p w.coefficient ≡ true) → p w.coefficient ≡ true
  by true k h true e i = let same : q.1 ≡ w = cc in subst (λ (v : Share). p v.coefficient ≡ true) same k
  by true k h false e i = i h e
  by false k h b e i = absurd (cc)
