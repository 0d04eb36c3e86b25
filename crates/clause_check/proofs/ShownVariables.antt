-- The variables that answers show.
use Rattle.std.proofs.Common.{◌≡◌, ℕ, zero, suc, ◌+◌, ◌<◌, Bool, true, false, cond, ◌==◌, List, [], ◌∷◌, ◌++◌, refl, ap, sym, ◌∙◌, subst, arith, length, map}
use Rattle.std.proofs.Common.{take, filter, get_or}
use Rattle.std.specs.Prelude.{not, slice_index, All}
use Rattle.std.proofs.lemmas.List.{take_more, map-append}
use Rattle.std.proofs.lemmas.List.Elements.{All-push}
use Rattle.fd_language.specs.Term.{Name}
use Rattle.fd_model.specs.Queries.{is_shown, shown_from}
use Rattle.term_pool.specs.declared.AtomId.{AtomId}
use Rattle.term_pool.specs.Contents.{Contents, atom_name}
use Rattle.clause_check.specs.Parts.{AreShown}

-- a name is shown where it doesn't begin with `_`
pub shown_by : (name : Name) (r : Bool) → r ≡ (slice_index name 0 == 95) → is_shown name ≡ not r
shown_by [] r e = sym (ap not e)
shown_by (c ∷ cs) r e = sym (ap not e)

filter_more : (b : Bool) (names : List Name) (x : Name) → is_shown x ≡ b → filter is_shown (names ++ x ∷ []) ≡ cond b (filter is_shown names ++ x ∷ []) (filter is_shown names)
filter_more true [] x e = rw e refl
filter_more false [] x e = rw e refl
filter_more b (y ∷ names) x e = kept (is_shown y) b refl (filter_more b names x e)
  where
    kept : (t b : Bool) → is_shown y ≡ t → filter is_shown (names ++ x ∷ []) ≡ cond b (filter is_shown names ++ x ∷ []) (filter is_shown names)
        → filter is_shown (y ∷ names ++ x ∷ []) ≡ cond b (filter is_shown (y ∷ names) ++ x ∷ []) (filter is_shown (y ∷ names))
    kept true true f h = rw f (ap (λ l. y ∷ l) h)
    kept true false f h = rw f (ap (λ l. y ∷ l) h)
    kept false true f h = rw f h
    kept false false f h = rw f h

numbers_more : (b : Bool) (n : ℕ) (names : List Name) (x : Name) → is_shown x ≡ b → shown_from n (names ++ x ∷ []) ≡ cond b (shown_from n names ++ (n + length names) ∷ []) (shown_from n names)
numbers_more true n [] x e = rw e (ap (λ k. k ∷ []) (let f : n ≡ n + 0 = omega arith in f))
numbers_more false n [] x e = rw e refl
numbers_more b n (y ∷ names) x e = kept (is_shown y) b refl (numbers_more b (suc n) names x e)
  where
    later : suc n + length names ≡ n + suc (length names)
    later = omega arith

    kept : (t b : Bool) → is_shown y ≡ t → shown_from (suc n) (names ++ x ∷ []) ≡ cond b (shown_from (suc n) names ++ (suc n + length names) ∷ []) (shown_from (suc n) names)
        → shown_from n (y ∷ names ++ x ∷ []) ≡ cond b (shown_from n (y ∷ names) ++ (n + suc (length names)) ∷ []) (shown_from n (y ∷ names))
    kept true true f h = rw f (ap (λ l. n ∷ l) (h ∙ ap (λ k. shown_from (suc n) names ++ k ∷ []) later))
    kept true false f h = rw f (ap (λ l. n ∷ l) h)
    kept false true f h = rw f (h ∙ ap (λ k. shown_from (suc n) names ++ k ∷ []) later)
    kept false false f h = rw f h

count_names : (c : Contents) (ids : List AtomId) (i : ℕ) → i < length ids → length (map (atom_name c) (take i ids)) ≡ i
count_names c [] i h = absurd (omega arith)
count_names c (x ∷ ids) zero h = refl
count_names c (x ∷ ids) (suc i) h = let later = count_names c ids i (omega arith) in omega (arith, later)

-- the next variable
module _ (c : Contents) (ids : List AtomId) (i : ℕ) (z : AtomId) (old : List AtomId) (numbers : List ℕ) (size : i < length ids)
    (are : AreShown c (take i ids) old numbers) (within : All (λ a. a.number < length c.names) ids) where
  names_next : map (atom_name c) (take (i + 1) ids) ≡ map (atom_name c) (take i ids) ++ atom_name c (get_or ids i z) ∷ []
  names_next = ap (map (atom_name c)) (take_more ids i z size) ∙ map-append (atom_name c) (take i ids) (get_or ids i z ∷ [])

  -- is shown
  pub shown_more : (new : List AtomId) (next : List ℕ) → is_shown (atom_name c (get_or ids i z)) ≡ true → new ≡ old ++ get_or ids i z ∷ []
      → next ≡ numbers ++ i ∷ [] → AreShown c (take (i + 1) ids) new next
  shown_more new next s g h =
      let d : AtomId = get_or ids i z in
      let count : 0 + length (map (atom_name c) (take i ids)) ≡ i = let k = count_names c ids i size in omega (arith, k) in
      record {
        within = subst (All (λ a. a.number < length c.names)) (sym g) (All-push (λ a. a.number < length c.names) old d are.within (within i z size));
        names_are = ap (map (atom_name c)) g ∙ map-append (atom_name c) old (d ∷ []) ∙ ap (λ (l : List Name). l ++ atom_name c d ∷ []) are.names_are
            ∙ sym (ap (filter is_shown) names_next ∙ filter_more true (map (atom_name c) (take i ids)) (atom_name c d) s);
        numbers_are = h ∙ ap (λ (l : List ℕ). l ++ i ∷ []) are.numbers_are ∙ ap (λ (n : ℕ). shown_from 0 (map (atom_name c) (take i ids)) ++ n ∷ []) (sym count)
            ∙ sym (ap (shown_from 0) names_next ∙ numbers_more true 0 (map (atom_name c) (take i ids)) (atom_name c d) s);
      }

  -- or is not
  pub shown_same : (new : List AtomId) (next : List ℕ) → is_shown (atom_name c (get_or ids i z)) ≡ false → new ≡ old → next ≡ numbers → AreShown c (take (i + 1) ids) new next
  shown_same new next s g h =
      let d : AtomId = get_or ids i z in
      record {
        within = subst (All (λ a. a.number < length c.names)) (sym g) are.within;
        names_are = ap (map (atom_name c)) g ∙ are.names_are ∙ sym (ap (filter is_shown) names_next ∙ filter_more false (map (atom_name c) (take i ids)) (atom_name c d) s);
        numbers_are = h ∙ are.numbers_are ∙ sym (ap (shown_from 0) names_next ∙ numbers_more false 0 (map (atom_name c) (take i ids)) (atom_name c d) s);
      }
