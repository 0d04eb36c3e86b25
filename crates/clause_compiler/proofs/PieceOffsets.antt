-- One piece more.
use Rattle.std.proofs.Common.{◌≡◌, ℕ, zero, suc, ◌+◌, ◌<◌, List, [], ◌∷◌, ◌++◌, length, slice_get, Some, refl, ap, sym, ◌∙◌, subst, inl, inr, ◌⊎◌, arith}
use Rattle.std.proofs.Common.{append_assoc}
use Rattle.std.proofs.lemmas.List.{length-append, append-nil}
use Rattle.std.proofs.lemmas.Option.{slice_get_within}
use Rattle.wam_code.specs.declared.instruction.Code.{Code}
use Rattle.clause_compiler.specs.Layout.{joined, offset}
use Rattle.clause_compiler.specs.Sections.{ArePut}
use Rattle.clause_compiler.proofs.Lists.{split_get, get_left, get_right}

pub joined_append : {X : Type 0} (xss yss : List (List X)) → joined (xss ++ yss) ≡ joined xss ++ joined yss
joined_append [] yss = refl
joined_append (xs ∷ xss) yss = ap (λ l. xs ++ l) (joined_append xss yss) ∙ sym (append_assoc xs (joined xss) (joined yss))

offset_left : {X : Type 0} (xss yss : List (List X)) (k : ℕ) → k < length xss → offset (xss ++ yss) k ≡ offset xss k
offset_left [] yss k h = absurd (omega (arith, h))
offset_left (xs ∷ xss) yss zero h = refl
offset_left (xs ∷ xss) yss (suc k) h = ap (λ n. length xs + n) (offset_left xss yss k (omega (arith, h)))

offset_last : {X : Type 0} (xss : List (List X)) (xs : List X) → offset (xss ++ xs ∷ []) (length xss) ≡ length (joined xss)
offset_last [] xs = refl
offset_last (ys ∷ xss) xs = let r = offset_last xss xs in let m = length-append ys (joined xss) in omega (arith, r, m)

module _ {X : Type 0} (item : ℕ → ℕ → List Code → X) (P : ℕ → ℕ → List Code → Type 0) where
  -- none
  pub put_none : (old : List Code) → ArePut item P 0 old old []
  put_none old = record { pieces = []; code = sym (append-nil old); many = refl; size = refl; each = λ k is e. absurd cc; piece = λ k is e. absurd cc }

  module _ (n : ℕ) (old new : List Code) (items : List X) (h : ArePut item P n old new items) (is : List Code) (x : X) (p : P n (length new) is) (e : x ≡ item n (length new) is) where
    abbrev pieces : List (List Code)
    pieces = h.pieces ++ is ∷ []

    here : length old + offset (h.pieces ++ is ∷ []) (length h.pieces) ≡ length new
    here = let o = offset_last h.pieces is in let l = ap length h.code in let m = length-append old (joined h.pieces) in omega (arith, o, l, m)

    before : (k : ℕ) → k < length h.pieces → length old + offset (h.pieces ++ is ∷ []) k ≡ length old + offset h.pieces k
    before k l = ap (λ o. length old + o) (offset_left h.pieces (is ∷ []) k l)

    last_index : (k : ℕ) (js : List Code) → (m : ℕ) × (k ≡ length h.pieces + m) × (slice_get (is ∷ []) m ≡ Some js) → (k ≡ length h.pieces) × (is ≡ js)
    last_index k js (zero, f, g) = (omega (arith, f), (let s : is ≡ js = cc in s))
    last_index k js (suc m, f, g) = absurd cc

    each : (k : ℕ) (js : List Code) → slice_get (h.pieces ++ is ∷ []) k ≡ Some js → slice_get (items ++ x ∷ []) k ≡ Some (item k (length old + offset (h.pieces ++ is ∷ []) k) js)
    each k js f = by (split_get h.pieces (is ∷ []) k js f)
      where
        by : (slice_get h.pieces k ≡ Some js) ⊎ ((m : ℕ) × (k ≡ length h.pieces + m) × (slice_get (is ∷ []) m ≡ Some js))
            → slice_get (items ++ x ∷ []) k ≡ Some (item k (length old + offset (h.pieces ++ is ∷ []) k) js)
        by (inl g) =
            let l = slice_get_within h.pieces k js g in
            subst (λ o. slice_get (items ++ x ∷ []) k ≡ Some (item k o js)) (sym (before k l)) (get_left items (x ∷ []) k (item k (length old + offset h.pieces k) js) (h.each k js g))
        by (inr g) =
            let w = last_index k js g in
            let m = h.many in
            let s = h.size in
            let at : k ≡ length items + 0 = (let a = w.0 in omega (arith, a, m, s)) in
            let number : n ≡ k = (let a = w.0 in omega (arith, a, m)) in
            let place : length new ≡ length old + offset (h.pieces ++ is ∷ []) k = sym here ∙ ap (λ j. length old + offset (h.pieces ++ is ∷ []) j) (sym w.0) in
            ap (slice_get (items ++ x ∷ [])) at ∙ get_right items (x ∷ []) 0
            ∙ ap (λ y. Some y) (e ∙ ap (λ j. item j (length new) is) number ∙ ap (λ o. item k o is) place
            ∙ ap (item k (length old + offset (h.pieces ++ is ∷ []) k)) w.1)

    piece : (k : ℕ) (js : List Code) → slice_get (h.pieces ++ is ∷ []) k ≡ Some js → P k (length old + offset (h.pieces ++ is ∷ []) k) js
    piece k js f = by (split_get h.pieces (is ∷ []) k js f)
      where
        by : (slice_get h.pieces k ≡ Some js) ⊎ ((m : ℕ) × (k ≡ length h.pieces + m) × (slice_get (is ∷ []) m ≡ Some js)) → P k (length old + offset (h.pieces ++ is ∷ []) k) js
        by (inl g) = subst (λ o. P k o js) (sym (before k (slice_get_within h.pieces k js g))) (h.piece k js g)
        by (inr g) =
            let w = last_index k js g in
            let m = h.many in
            let number : n ≡ k = (let a = w.0 in omega (arith, a, m)) in
            let place : length new ≡ length old + offset (h.pieces ++ is ∷ []) k = sym here ∙ ap (λ j. length old + offset (h.pieces ++ is ∷ []) j) (sym w.0) in
            subst (λ j. P j (length old + offset (h.pieces ++ is ∷ []) k) js) number (subst (λ o. P n o js) place (subst (P n (length new)) w.1 p))

    pub put_more : ArePut item P (n + 1) old (new ++ is) (items ++ x ∷ [])
    put_more = record {
      pieces = pieces;
      code = ap (λ c. c ++ is) h.code ∙ append_assoc old (joined h.pieces) is ∙ ap (λ c. old ++ c) (sym (joined_append h.pieces (is ∷ []) ∙ ap (λ c. joined h.pieces ++ c) (append-nil is)));
      many = (let l = length-append h.pieces (is ∷ []) in let m = h.many in omega (arith, l, m));
      size = (let l = length-append items (x ∷ []) in let s = h.size in omega (arith, l, s));
      each = each;
      piece = piece;
    }

  -- the same, with the code and the items that come of it
  pub put_one : (n : ℕ) (old new newer : List Code) (items more : List X) → ArePut item P n old new items → (is : List Code) (x : X) → P n (length new) is
      → x ≡ item n (length new) is → newer ≡ new ++ is → more ≡ items ++ x ∷ [] → ArePut item P (n + 1) old newer more
  put_one n old new newer items more h is x p e f g = subst (λ c. ArePut item P (n + 1) old c more) (sym f)
      (subst (ArePut item P (n + 1) old (new ++ is)) (sym g) (put_more n old new items h is x p e))
