-- Flat terms as they are seen.
use Rattle.std.proofs.Common.{◌≡◌, ℕ, ◌+◌, ◌*◌, ◌≤◌, Bool, true, false, cond, ◌&&◌, ◌||◌, List, [], ◌∷◌, ◌++◌, length, refl, sym, subst, inl, inr, arith}
use Rattle.std.proofs.Common.{mul-le-mul, length-append}
use Rattle.std.proofs.lemmas.Bool.{and_parts, and_from}
use Rattle.std.specs.Str.{bytes_eq}
use Rattle.std.specs.Prelude.{codes}
use Rattle.fd_language.specs.Variables.{variables_of}
use Rattle.fd_language.specs.Range.{is_none_left}
use Rattle.fd_language.specs.Term.{Term, Var, Int, Comp, no_terms, term, apply}
use Rattle.fd_model.specs.FlatConstraints.{width, is_narrow, is_ground, is_operator, is_flat, SeesNumbers, IsSeenFlat, FlatSeen}

pub narrower_too : (m n : ℕ) → m ≤ n → is_narrow n ≡ true → is_narrow m ≡ true
narrower_too m n h e = grind arith

ground_too : (t u : Term) → length (variables_of u) ≤ length (variables_of t) → is_ground t ≡ true → is_ground u ≡ true
ground_too t u h g = by_lists (variables_of t) (variables_of u) h g where
  by_lists : (xs ys : List ℕ) → length ys ≤ length xs → is_none_left xs ≡ true → is_none_left ys ≡ true
  by_lists [] [] h g = refl
  by_lists [] (y ∷ ys) h g = absurd (omega arith)
  by_lists (x ∷ xs) ys h g = absurd (cc)

operator_too : (p q r a b c d : Bool) → (a ≡ true → c ≡ true) → (b ≡ true → d ≡ true) → (p || (q || (r && (a || b)))) ≡ true → (p || (q || (r && (c || d)))) ≡ true
operator_too p q r a b c d f g h = grind (arith, f, g)

width_by : (c : Bool) (a b m n : ℕ) → m ≤ a → n ≤ b → cond c (m + n) (m * n) ≤ cond c (a + b) (a * b)
width_by true a b m n h g = omega arith
width_by false a b m n h g = mul-le-mul h g

module _ (M : ℕ) (look : ℕ → Term) (sees : SeesNumbers M look) where
  seen_as : (t : Term) → is_flat M t ≡ true → IsSeenFlat M t (apply look t)
  seen_as (Var x) h = elim (sees x) [
    | inl e ↦ subst (IsSeenFlat M (Var x)) (sym e.1) (record { flat = h; narrower = omega arith; fewer = omega arith })
    | inr e ↦ subst (IsSeenFlat M (Var x)) (sym e.2) (record { flat = narrower_too e.0 M e.1 h; narrower = e.1; fewer = omega arith })
  ]
  seen_as (Int z) h = record { flat = h; narrower = omega arith; fewer = omega arith }
  seen_as (Comp f (term a no_terms)) h =
      let k = seen_as a ((and_parts (bytes_eq f (codes "-")) (is_flat M a) h).1) in
      let e = length-append (variables_of a) [] in
      let g = length-append (variables_of (apply look a)) [] in
      let fewer = k.fewer in
      record { flat = and_from _ _ ((and_parts (bytes_eq f (codes "-")) (is_flat M a) h).0) k.flat; narrower = k.narrower; fewer = omega arith }
  seen_as (Comp f (term a (term b no_terms))) h =
      let whole : Term = Comp f (term a (term b no_terms)) in
      let parts = (and_parts (is_flat M a && is_flat M b) (is_operator f a b && is_narrow (width M whole)) h).0 in
      let rest = (and_parts (is_flat M a && is_flat M b) (is_operator f a b && is_narrow (width M whole)) h).1 in
      let i = seen_as a ((and_parts (is_flat M a) (is_flat M b) parts).0) in
      let j = seen_as b ((and_parts (is_flat M a) (is_flat M b) parts).1) in
      let w = width_by (bytes_eq f (codes "+") || bytes_eq f (codes "-")) (width M a) (width M b) (width M (apply look a)) (width M (apply look b)) i.narrower j.narrower in
      let o = operator_too (bytes_eq f (codes "+")) (bytes_eq f (codes "-")) (bytes_eq f (codes "*")) (is_ground a) (is_ground b) (is_ground (apply look a)) (is_ground (apply look b))
      (ground_too a (apply look a) i.fewer) (ground_too b (apply look b) j.fewer) ((and_parts (is_operator f a b) (is_narrow (width M whole)) rest).0) in
      let n = narrower_too _ _ w ((and_parts (is_operator f a b) (is_narrow (width M whole)) rest).1) in
      let e = length-append (variables_of a) (variables_of b ++ []) in
      let e2 = length-append (variables_of b) [] in
      let g = length-append (variables_of (apply look a)) (variables_of (apply look b) ++ []) in
      let g2 = length-append (variables_of (apply look b)) [] in
      let p = i.fewer in
      let q = j.fewer in
      record { flat = and_from _ _ (and_from _ _ i.flat j.flat) (and_from _ _ o n); narrower = w; fewer = omega arith }
  seen_as _ h = absurd (cc)

pub flat_seen : FlatSeen
flat_seen M look t sees h = seen_as M look sees t h
