-- Shares that are sorted by their first occurrences stand in the order of the sum.
use Rattle.std.proofs.Common.{◌≡◌, ℕ, suc, ◌≤◌, ◌<◌, Bool, true, false, cond, ℤ, neg_ℤ, Ok, List, [], ◌∷◌, length, get_or, None, Some, refl, sym, ap, subst}
use Rattle.std.proofs.Common.{◌∙◌, arith}
use Rattle.std.proofs.lemmas.Bool.Decides.{nat_tests}
use Rattle.std.specs.Prelude.{nat_eq, IsSortedByKey}
use Rattle.std.specs.Ordering.{nat_cmp}
use Rattle.std.specs.List.{IsDistinct}
use Rattle.std.specs.List.Sorted.{IsNonDecreasingBy}
use Rattle.std.specs.Map.{keys_of}
use Rattle.std.proofs.lemmas.List.Sorted.{IsNonDecreasingBy-from_sort}
use Rattle.std.proofs.lemmas.Option.{same_Some}
use Rattle.linear_forms.specs.declared.sums.Share.{Share}
use Rattle.fd_model.specs.Linear as linear
use Rattle.fd_model.specs.Linear.{nonzero, linear_of}
use Rattle.linear_forms.specs.declared.sums.Sum.{Sum}
use Rattle.linear_forms.specs.Shares.{share_at, coefficients, Rise}
use Rattle.linear_forms.specs.Sums.{IsSum}
use Rattle.linear_forms.proofs.Shares.{same_key, tail_distinct, rest_none, at_head, past_head, share_between}

abbrev pub occurs : ℕ × Share → ℕ
occurs e = e.1.first

-- no share behind occurs before those in front
Ascends : List (ℕ × Share) → Type 0
Ascends [] = Unit {0}
Ascends (e ∷ es) = ((x : ℕ) (v : Share) → share_at es x ≡ Some v → e.1.first ≤ v.first) × Ascends es

found_at : (es : List (ℕ × Share)) (x : ℕ) (v : Share) (d : ℕ × Share) → share_at es x ≡ Some v → (i : ℕ) × (i < length es) × (occurs (get_or es i d) ≡ v.first)
found_at [] x v d h = absurd (cc)
found_at (e ∷ es) x v d h = by (nat_eq x e.0) h (λ k. found_at es x v d k) where
  by : (b : Bool) → cond b (Some e.1) (share_at es x) ≡ Some v → (share_at es x ≡ Some v → (i : ℕ) × (i < length es) × (occurs (get_or es i d) ≡ v.first))
      → (i : ℕ) × (i < length (e ∷ es)) × (occurs (get_or (e ∷ es) i d) ≡ v.first)
  by true k j = let same : e.1 ≡ v = cc in (0, omega arith, ap (λ (s : Share). s.first) same)
  by false k j = let r = j k in (suc r.0, omega (arith, r.1), r.2)

ascends_from : (es : List (ℕ × Share)) → IsNonDecreasingBy occurs es → Ascends es
unfolding Ascends
ascends_from [] h = tt
ascends_from (e ∷ es) h = (
  λ x v k. let r = found_at es x v e k in
      let l : e.1.first ≤ occurs (get_or es r.0 e) = h 0 (suc r.0) e (omega arith) (omega (arith, r.1)) in
      subst (λ n. e.1.first ≤ n) r.2 l,
  ascends_from es (λ i j d k l. h (suc i) (suc j) d (omega arith) (omega arith)),
)

-- two lists with the same shares in rising order are one
same_ascending : (lo hi : ℕ) (es qs : List (ℕ × Share)) → Ascends es → IsDistinct nat_eq (keys_of es) → IsDistinct nat_eq (keys_of qs) → Rise lo qs hi
    → ((x : ℕ) → share_at es x ≡ share_at qs x) → es ≡ qs
unfolding Ascends
same_ascending lo hi [] [] a d e r h = refl
same_ascending lo hi [] (q ∷ qs) a d e r h = let wrong : None ≡ Some q.1 = h q.0 ∙ at_head q qs in absurd (cc)
same_ascending lo hi (e ∷ es) [] a d f r h = let wrong : Some e.1 ≡ None = sym (at_head e es) ∙ h e.0 in absurd (cc)
same_ascending lo hi (e ∷ es) (q ∷ qs) a d f r h = by (nat_eq e.0 q.0) refl (λ g. same_ascending (suc q.1.first) hi es qs a.1 (tail_distinct e es d) (tail_distinct q qs f) r.1 g) where
  flip : (x y : ℕ) → nat_eq x y ≡ nat_eq y x
  flip x y = grind (arith, nat_tests)

  rest : e.0 ≡ q.0 → (x : ℕ) → share_at es x ≡ share_at qs x
  rest k x = go (nat_eq x e.0) refl where
    go : (b : Bool) → nat_eq x e.0 ≡ b → share_at es x ≡ share_at qs x
    go true j = let y : x ≡ e.0 = same_key x e.0 j in ap (share_at es) y ∙ rest_none e es d ∙ sym (rest_none q qs f) ∙ ap (share_at qs) (sym (y ∙ k))
    go false j = sym (past_head e es x j) ∙ h x ∙ past_head q qs x (ap (nat_eq x) (sym k) ∙ j)

  by : (b : Bool) → nat_eq e.0 q.0 ≡ b → (((x : ℕ) → share_at es x ≡ share_at qs x) → es ≡ qs) → e ∷ es ≡ q ∷ qs
  by true k g =
      let key : e.0 ≡ q.0 = same_key e.0 q.0 k in
      let value : Some e.1 ≡ Some q.1 = sym (at_head e es) ∙ h e.0 ∙ ap (share_at (q ∷ qs)) key ∙ at_head q qs in
      let share : e.1 ≡ q.1 = same_Some e.1 q.1 value in
      let head : e ≡ q = λ i. (key i, share i) in
      λ i. head i ∷ g (rest key) i
  by false k g =
      let later : share_at qs e.0 ≡ Some e.1 = sym (past_head q qs e.0 k) ∙ sym (h e.0) ∙ at_head e es in
      let sooner : share_at es q.0 ≡ Some q.1 = sym (past_head e es q.0 (flip q.0 e.0 ∙ k)) ∙ h q.0 ∙ at_head q qs in
      let low : e.1.first ≤ q.1.first = a.0 q.0 q.1 sooner in
      let high = share_between (suc q.1.first) hi qs e.0 e.1 r.1 later in
      absurd (omega (arith, low, high.0))

pub sorted_is : (lo hi : ℕ) (es qs : List (ℕ × Share)) → IsSortedByKey occurs nat_cmp es → IsDistinct nat_eq (keys_of es) → IsDistinct nat_eq (keys_of qs)
    → Rise lo qs hi → ((x : ℕ) → share_at es x ≡ share_at qs x) → es ≡ qs
sorted_is lo hi es qs s d e r h = same_ascending lo hi es qs (ascends_from es (IsNonDecreasingBy-from_sort occurs es s)) d e r h

-- the linear form of a sum, of shares that are sorted
pub linear_is : (t : Sum) (s : linear.Sum) (lo hi : ℕ) → IsSum t s lo hi → (es : List (ℕ × Share)) → IsSortedByKey occurs nat_cmp es
    → IsDistinct nat_eq (keys_of es) → ((x : ℕ) → share_at es x ≡ share_at t.terms.entries x)
    → (ts : List (ℕ × ℤ)) → ts ≡ nonzero (coefficients es) → (k : ℤ) → k ≡ neg_ℤ t.constant → linear_of s ≡ Ok (record { products = ts; constant = k })
linear_is t s lo hi i es o d h ts e k m =
    let same : es ≡ i.order = sorted_is lo hi es i.order o d i.distinct i.rise (λ x. h x ∙ i.same x) in
    let ps : nonzero s.products ≡ ts = sym (e ∙ ap (λ rs. nonzero (coefficients rs)) same ∙ ap nonzero i.products) in
    let z : neg_ℤ s.constant ≡ k = sym (m ∙ ap neg_ℤ i.constant) in
    λ j. Ok (record { products = ps j; constant = z j })
