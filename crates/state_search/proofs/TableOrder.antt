-- Tables in the order of the switches that name them.
use Rattle.std.proofs.Common.{◌≡◌, ◌≢◌, ◌⊎◌, ◌↔◌, ℕ, zero, suc, ◌+◌, ◌<◌, ◌≤◌, Bool, IsTrue, List, [], ◌∷◌, ◌++◌, length, take, drop, get_or, slice_get, Some}
use Rattle.std.proofs.Common.{None, refl, sym, ap, ◌∙◌, subst, inl, inr, arith, append_assoc, length-append}
use Rattle.std.proofs.lemmas.Bool.{cases_lt}
use Rattle.std.proofs.lemmas.List.{append-nil, take_more, take_all, take-append-drop}
use Rattle.std.proofs.lemmas.Option.{slice_get_within}
use Rattle.wam_code.specs.declared.instruction.Code.{Code}
use Rattle.code_listing.specs.Sheets.{switch_table, named_tables, AreNamedInOrder}

named_append : (xs ys : List Code) → named_tables (xs ++ ys) ≡ named_tables xs ++ named_tables ys
named_append [] ys = refl
named_append (x ∷ xs) ys = ap (λ l. switch_table x ++ l) (named_append xs ys) ∙ sym (append_assoc (switch_table x) (named_tables xs) (named_tables ys))

-- what a list has behind another one
slice_left : (xs ys : List ℕ) (k : ℕ) → k < length xs → slice_get (xs ++ ys) k ≡ slice_get xs k
slice_left [] ys k h = absurd (omega (arith, h))
slice_left (x ∷ xs) ys zero h = refl
slice_left (x ∷ xs) ys (suc k) h = slice_left xs ys k (omega (arith, h))

slice_seam : (xs : List ℕ) (y : ℕ) (ys : List ℕ) → slice_get (xs ++ y ∷ ys) (length xs) ≡ Some y
slice_seam [] y ys = refl
slice_seam (x ∷ xs) y ys = slice_seam xs y ys

pub order_start : AreNamedInOrder [] 0
order_start = record { numbers = λ k t e. absurd (let g : None ≡ Some t = e in cc (g)); all = refl }

module _ (is : List Code) (at : ℕ) (i d : Code) (low : at < length is) (there : get_or is at d ≡ i) where
  more : named_tables (take (at + 1) is) ≡ named_tables (take at is) ++ switch_table i
  more =
      ap named_tables (take_more is at d low) ∙ named_append (take at is) (get_or is at d ∷ [])
      ∙ ap (λ l. named_tables (take at is) ++ l) (append-nil (switch_table (get_or is at d)) ∙ ap switch_table there)

  pub order_keep : (next : ℕ) → switch_table i ≡ [] → AreNamedInOrder (take at is) next → AreNamedInOrder (take (at + 1) is) next
  order_keep next none o = record { numbers = λ k t e. o.numbers k t (ap (λ l. slice_get l k) (sym same) ∙ e); all = ap length same ∙ o.all }
    where
      same : named_tables (take (at + 1) is) ≡ named_tables (take at is)
      same = more ∙ ap (λ l. named_tables (take at is) ++ l) none ∙ append-nil (named_tables (take at is))

  pub order_more : (next : ℕ) → switch_table i ≡ next ∷ [] → AreNamedInOrder (take at is) next → AreNamedInOrder (take (at + 1) is) (next + 1)
  order_more next one o = record { numbers = numbers; all = all }
    where
      ts : List ℕ
      ts = named_tables (take at is)

      is_more : named_tables (take (at + 1) is) ≡ ts ++ next ∷ []
      is_more = more ∙ ap (λ l. ts ++ l) one

      all : length (named_tables (take (at + 1) is)) ≡ next + 1
      all = ap length is_more ∙ length-append ts (next ∷ []) ∙ ap (λ n. n + 1) o.all

      numbers : (k t : ℕ) → slice_get (named_tables (take (at + 1) is)) k ≡ Some t → t ≡ k
      numbers k t e = go (cases_lt k next)
        where
          f : slice_get (ts ++ next ∷ []) k ≡ Some t
          f = ap (λ l. slice_get l k) (sym is_more) ∙ e

          go : (k < next) ⊎ (next ≤ k) → t ≡ k
          go (inl l) = o.numbers k t (sym (slice_left ts (next ∷ []) k (let z : k < length ts = omega (arith, l, o.all) in z)) ∙ f)
          go (inr l) =
              let high : k < length (ts ++ next ∷ []) = slice_get_within (ts ++ next ∷ []) k t f in
              let z : k ≡ length ts = omega (arith, l, high, o.all, length-append ts (next ∷ [])) in
              let g : Some next ≡ Some t = sym (slice_seam ts next []) ∙ ap (slice_get (ts ++ next ∷ [])) (sym z) ∙ f in
              let h : next ≡ t = cc (g) in
              sym h ∙ sym o.all ∙ sym z

  pub order_miss : (next t count : ℕ) → switch_table i ≡ t ∷ [] → t ≢ next → AreNamedInOrder (take at is) next → ¬ AreNamedInOrder is count
  order_miss next t count one differ o whole = differ (whole.numbers (length ts) t there_it ∙ o.all)
    where
      ts : List ℕ
      ts = named_tables (take at is)

      parts : named_tables is ≡ ts ++ t ∷ named_tables (drop (at + 1) is)
      parts =
          ap named_tables (sym (take-append-drop (at + 1) is)) ∙ named_append (take (at + 1) is) (drop (at + 1) is) ∙ ap (λ l. l ++ named_tables (drop (at + 1) is)) (more ∙ ap (λ l. ts ++ l) one)
          ∙ append_assoc ts (t ∷ []) (named_tables (drop (at + 1) is))

      there_it : slice_get (named_tables is) (length ts) ≡ Some t
      there_it = ap (λ l. slice_get l (length ts)) parts ∙ slice_seam ts t (named_tables (drop (at + 1) is))

-- all of the code
pub order_done : (is : List Code) (n next count : ℕ) (b : Bool) → length is ≤ n → AreNamedInOrder (take n is) next → (IsTrue b ↔ (next ≡ count)) → IsTrue b ↔ AreNamedInOrder is count
order_done is n next count b h o f = (λ t. subst (AreNamedInOrder is) (f.0 t) whole, λ w. f.1 (sym whole.all ∙ w.all))
  where
    whole : AreNamedInOrder is next
    whole = subst (λ l. AreNamedInOrder l next) (take_all n is h) o
