-- Clauses in groups, one more at a time.
use Rattle.std.proofs.Common.{◌≡◌, ◌≢◌, ℕ, zero, suc, ◌+◌, ◌<◌, Bool, true, false, cond, ◌&&◌, ◌==◌, List, [], ◌∷◌, ◌++◌, map, set, get_or, take, filter}
use Rattle.std.proofs.Common.{Option, Some, None, option_map, length, slice_get, refl, ap, ap₂, sym, ◌∙◌, arith, map-id}
use Rattle.std.specs.List.{range_with_len}
use Rattle.std.proofs.lemmas.Bool.{eqb-true, eq-eqb, and_parts}
use Rattle.std.proofs.lemmas.List.{map_push, take_more, append-nil}
use Rattle.std.proofs.lemmas.List.FromFn.{map-range_with_len_more}
use Rattle.std.proofs.lemmas.List.Elements.{filter-append}
use Rattle.std.proofs.lemmas.Option.{get_or_from_slice_get, slice_get-map}
use Rattle.clause_check.specs.Programs.{FlatProgram}
use Rattle.clause_code.specs.Pieces.{Predicate}
use Rattle.clause_code.specs.Predicates.{AreApart}
use Rattle.clause_compiler.specs.Groups.{head_predicate, same_predicate, is_predicate, numbers_of, AreGroups}

-- ---- lists
one_more : (n : ℕ) → range_with_len 0 (n + 1) ≡ range_with_len 0 n ++ n ∷ []
one_more n = sym (map-id (range_with_len 0 (n + 1))) ∙ map-range_with_len_more (λ x. x) 0 n n (omega arith) ∙ ap (λ (l : List ℕ). l ++ n ∷ []) (map-id (range_with_len 0 n))

pub filter_more : (p : ℕ → Bool) (n : ℕ) → filter p (range_with_len 0 (n + 1)) ≡ cond (p n) (filter p (range_with_len 0 n) ++ n ∷ []) (filter p (range_with_len 0 n))
filter_more p n = ap (filter p) (one_more n) ∙ filter-append p (range_with_len 0 n) (n ∷ []) ∙ by (p n)
  where
    by : (b : Bool) → filter p (range_with_len 0 n) ++ cond b (n ∷ []) [] ≡ cond b (filter p (range_with_len 0 n) ++ n ∷ []) (filter p (range_with_len 0 n))
    by true = refl
    by false = append-nil (filter p (range_with_len 0 n))

module _ {X Y : Type 0} (f g : X → Y) where
  pub map_same : (xs : List X) → ((j : ℕ) (x : X) → slice_get xs j ≡ Some x → g x ≡ f x) → map f xs ≡ map g xs
  map_same [] h = refl
  map_same (x ∷ xs) h = ap₂ (λ (y : Y) (ys : List Y). y ∷ ys) (sym (h 0 x refl)) (map_same xs (λ j. h (suc j)))

  -- where g differs from f at one place alone
  pub map_set : (xs : List X) (k : ℕ) (y : Y) → ((j : ℕ) (x : X) → slice_get xs j ≡ Some x → j ≡ k → g x ≡ y)
      → ((j : ℕ) (x : X) → slice_get xs j ≡ Some x → j ≢ k → g x ≡ f x) → set (map f xs) k y ≡ map g xs
  map_set [] zero y at other = refl
  map_set [] (suc k) y at other = refl
  map_set (x ∷ xs) zero y at other = ap₂ (λ (z : Y) (zs : List Y). z ∷ zs) (sym (at 0 x refl refl)) (map_same xs (λ j z e. other (suc j) z e (λ h. absurd (omega (arith, h)))))
  map_set (x ∷ xs) (suc k) y at other =
      ap₂ (λ (z : Y) (zs : List Y). z ∷ zs) (sym (other 0 x refl (λ h. absurd (omega (arith, h)))))
      (map_set xs k y (λ j z e h. at (suc j) z e (ap suc h)) (λ j z e h. other (suc j) z e (λ i. h (omega (arith, i)))))

-- ---- predicates
abbrev predicate_by : ℕ → ℕ → Predicate
predicate_by n k = record { name = record { number = n }; arity = k }

pub same_means : (s t : Predicate) → same_predicate s t ≡ true → s ≡ t
same_means s t e =
    let both = and_parts (s.name.number == t.name.number) (s.arity == t.arity) e in
    ap₂ predicate_by (eqb-true s.name.number t.name.number both.0) (eqb-true s.arity t.arity both.1)

pub same_itself : (s : Predicate) → same_predicate s s ≡ true
same_itself s = ap₂ (λ (a b : Bool). a && b) (eq-eqb s.name.number s.name.number refl) (eq-eqb s.arity s.arity refl)

-- ---- a clause more
module _ (p : FlatProgram) (ps : List Predicate) (n : ℕ) where
  numbers_more : (s : Predicate) → numbers_of p (n + 1) s ≡ cond (is_predicate s (head_predicate p n)) (numbers_of p n s ++ n ∷ []) (numbers_of p n s)
  numbers_more s = filter_more (λ c. is_predicate s (head_predicate p c)) n

  -- of none of the predicates
  pub none_more : (groups : List (List ℕ)) → ((k : ℕ) (s : Predicate) → slice_get ps k ≡ Some s → is_predicate s (head_predicate p n) ≡ false) → AreGroups p ps n groups → AreGroups p ps (n + 1) groups
  none_more groups no_one h = h ∙ map_same (numbers_of p n) (numbers_of p (n + 1)) ps (λ j s e. numbers_more s ∙ ap (λ b. cond b (numbers_of p n s ++ n ∷ []) (numbers_of p n s)) (no_one j s e))

  -- of one of them
  pub one_group : (groups : List (List ℕ)) (k : ℕ) → AreApart ps → k < length ps → slice_get ps k ≡ head_predicate p n → AreGroups p ps n groups
      → AreGroups p ps (n + 1) (set groups k (get_or groups k [] ++ n ∷ []))
  one_group groups k apart l e h =
      ap (λ gs. set gs k (get_or gs k [] ++ n ∷ [])) h ∙ map_set (numbers_of p n) (numbers_of p (n + 1)) ps k (get_or (map (numbers_of p n) ps) k [] ++ n ∷ []) at_k other
    where
      at_k : (j : ℕ) (s : Predicate) → slice_get ps j ≡ Some s → j ≡ k → numbers_of p (n + 1) s ≡ get_or (map (numbers_of p n) ps) k [] ++ n ∷ []
      at_k j s f same =
          let here : slice_get ps k ≡ Some s = ap (slice_get ps) (sym same) ∙ f in
          let own : head_predicate p n ≡ Some s = sym e ∙ here in
          let old : get_or (map (numbers_of p n) ps) k [] ≡ numbers_of p n s = get_or_from_slice_get (map (numbers_of p n) ps) k (numbers_of p n s) []
          (slice_get-map (numbers_of p n) ps k ∙ ap (λ o. option_map (numbers_of p n) o) here) in
          numbers_more s ∙ ap (λ o. cond (is_predicate s o) (numbers_of p n s ++ n ∷ []) (numbers_of p n s)) own
          ∙ ap (λ b. cond b (numbers_of p n s ++ n ∷ []) (numbers_of p n s)) (same_itself s) ∙ ap (λ (l : List ℕ). l ++ n ∷ []) (sym old)

      other : (j : ℕ) (s : Predicate) → slice_get ps j ≡ Some s → j ≢ k → numbers_of p (n + 1) s ≡ numbers_of p n s
      other j s f differ = numbers_more s ∙ ap (λ o. cond (is_predicate s o) (numbers_of p n s ++ n ∷ []) (numbers_of p n s)) (sym e) ∙ by (slice_get ps k) refl
        where
          by : (o : Option Predicate) → slice_get ps k ≡ o → cond (is_predicate s o) (numbers_of p n s ++ n ∷ []) (numbers_of p n s) ≡ numbers_of p n s
          by None g = refl
          by (Some t) g = test (same_predicate s t) refl
            where
              test : (b : Bool) → same_predicate s t ≡ b → cond b (numbers_of p n s ++ n ∷ []) (numbers_of p n s) ≡ numbers_of p n s
              test true i = absurd (differ (apart j k s f (g ∙ ap (λ x. Some x) (sym (same_means s t i)))))
              test false i = refl

-- ---- as vectors
pub no_groups : (ps : List Predicate) (gs : List (List ℕ)) (n : ℕ) → n < length ps → gs ≡ map (λ s. []) (take n ps) → gs ++ [] ∷ [] ≡ map (λ s. []) (take (n + 1) ps)
no_groups ps gs n l e =
    let s : Predicate = record { name = record { number = 0 }; arity = 0 } in
    let none : Predicate → List ℕ = λ s. [] in
    ap (λ xs. xs ++ [] ∷ []) e ∙ sym (ap (map none) (take_more ps n s l) ∙ map_push none (take n ps) (get_or ps n s))
