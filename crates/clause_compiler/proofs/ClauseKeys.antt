-- Clauses by their keys, one more at a time.
use Rattle.std.proofs.Common.{◌≡◌, ◌≢◌, ◌⊎◌, ℕ, ℤ, zero, suc, ◌+◌, Bool, true, false, cond, not, ◌&&◌, ◌||◌, ◌==◌, if◌then◌else◌, List, [], ◌∷◌, ◌++◌, map, set}
use Rattle.std.proofs.Common.{get_or, filter, option_map, Some, length, slice_get, refl, ap, ap₂, sym, ◌∙◌, subst, inl, inr, arith}
use Rattle.std.specs.List.{list_any}
use Rattle.std.proofs.lemmas.Bool.{eqb-true, eq-eqb, and_parts, not-false, not-true}
use Rattle.std.proofs.lemmas.Bool.Decides.{Decides-int_eq}
use Rattle.std.proofs.lemmas.List.{map_push, append-nil}
use Rattle.std.proofs.lemmas.List.Elements.{filter-append}
use Rattle.std.proofs.lemmas.Option.{get_or_from_slice_get, slice_get-map}
use Rattle.term_pool.specs.declared.AtomId.{AtomId}
use Rattle.clause_check.specs.Programs.{FlatProgram}
use Rattle.wam_code.specs.declared.instruction.Key.{Key}
use Rattle.wam_code.specs.declared.instruction.Key.TheVariants as key
use Rattle.clause_compiler.specs.declared.tables.Label.{Label}
use Rattle.clause_compiler.specs.Keys.{key_of}
use Rattle.clause_compiler.specs.ClauseKeys.{label, same_key, may_have, key_numbers, AreKeyedBy}
use Rattle.clause_compiler.proofs.ClauseGroups.{map_same, map_set}
use Rattle.clause_compiler.proofs.Lists.{got_map, split_get, get_left, get_right, never, no}

-- ---- keys
-- Keys that are the same for a look-up are one key.
pub same_means : (x y : Key) → same_key x y ≡ true → x ≡ y
same_means (key.Atom a) (key.Atom b) e = ap (λ n. key.Atom (record { number = n })) (eqb-true a.number b.number e)
same_means (key.Int y) (key.Int z) e = ap key.Int ((Decides-int_eq y z).0 e)
same_means (key.Struct f n) (key.Struct g m) e =
    let both = and_parts (f.number == g.number) (n == m) e in
    ap₂ (λ a k. key.Struct (record { number = a }) k) (eqb-true f.number g.number both.0) (eqb-true n m both.1)
same_means (key.Atom a) (key.Int z) e = never e
same_means (key.Atom a) (key.Struct g m) e = never e
same_means (key.Int y) (key.Atom b) e = never e
same_means (key.Int y) (key.Struct g m) e = never e
same_means (key.Struct f n) (key.Atom b) e = never e
same_means (key.Struct f n) (key.Int z) e = never e

-- A key is the same as itself.
pub same_itself : (x : Key) → same_key x x ≡ true
same_itself (key.Atom a) = eq-eqb a.number a.number refl
same_itself (key.Int z) = (Decides-int_eq z z).1 refl
same_itself (key.Struct f n) = ap₂ (λ (a b : Bool). a && b) (eq-eqb f.number f.number refl) (eq-eqb n n refl)

same_back : (x y : Key) → same_key x y ≡ false → same_key y x ≡ false
same_back x y e = by (same_key y x) refl
  where
    by : (b : Bool) → same_key y x ≡ b → b ≡ false
    by true h = no (sym (same_itself x) ∙ ap (same_key x) (sym (same_means y x h)) ∙ e)
    by false h = refl

-- what is shown for each two kinds is shown
pub each_pair : (P : Key → Key → Type 0) → ((a b : AtomId) → P (key.Atom a) (key.Atom b)) → ((a : AtomId) (z : ℤ) → P (key.Atom a) (key.Int z))
    → ((a g : AtomId) (m : ℕ) → P (key.Atom a) (key.Struct g m)) → ((y : ℤ) (b : AtomId) → P (key.Int y) (key.Atom b)) → ((y z : ℤ) → P (key.Int y) (key.Int z))
    → ((y : ℤ) (g : AtomId) (m : ℕ) → P (key.Int y) (key.Struct g m)) → ((f : AtomId) (n : ℕ) (b : AtomId) → P (key.Struct f n) (key.Atom b))
    → ((f : AtomId) (n : ℕ) (z : ℤ) → P (key.Struct f n) (key.Int z)) → ((f : AtomId) (n : ℕ) (g : AtomId) (m : ℕ) → P (key.Struct f n) (key.Struct g m))
    → (x y : Key) → P x y
each_pair P aa ai as' ia ii is' sa si ss (key.Atom a) (key.Atom b) = aa a b
each_pair P aa ai as' ia ii is' sa si ss (key.Atom a) (key.Int z) = ai a z
each_pair P aa ai as' ia ii is' sa si ss (key.Atom a) (key.Struct g m) = as' a g m
each_pair P aa ai as' ia ii is' sa si ss (key.Int y) (key.Atom b) = ia y b
each_pair P aa ai as' ia ii is' sa si ss (key.Int y) (key.Int z) = ii y z
each_pair P aa ai as' ia ii is' sa si ss (key.Int y) (key.Struct g m) = is' y g m
each_pair P aa ai as' ia ii is' sa si ss (key.Struct f n) (key.Atom b) = sa f n b
each_pair P aa ai as' ia ii is' sa si ss (key.Struct f n) (key.Int z) = si f n z
each_pair P aa ai as' ia ii is' sa si ss (key.Struct f n) (key.Struct g m) = ss f n g m

-- ---- lists
any_false : {X : Type 0} (f : X → Bool) (xs : List X) → list_any f xs ≡ false → (j : ℕ) (y : X) → slice_get xs j ≡ Some y → f y ≡ false
any_false f [] e j y g = absurd cc
any_false f (x ∷ xs) e j y g = by (f x) refl e j g (λ h k i. any_false f xs h k y i)
  where
    by : (b : Bool) → f x ≡ b → (b || list_any f xs) ≡ false → (j : ℕ) → slice_get (x ∷ xs) j ≡ Some y → (list_any f xs ≡ false → (k : ℕ) → slice_get xs k ≡ Some y → f y ≡ false) → f y ≡ false
    by true h k j g rest = no k
    by false h k zero g rest = let same : x ≡ y = cc in ap f (sym same) ∙ h
    by false h k (suc j) g rest = rest k j g

only_last : {X : Type 0} (xs : List X) (x y : X) (j : ℕ) → (m : ℕ) × (j ≡ length xs + m) × (slice_get (x ∷ []) m ≡ Some y) → (j ≡ length xs) × (x ≡ y)
only_last xs x y j (zero, e, f) = (omega (arith, e), (let s : x ≡ y = cc in s))
only_last xs x y j (suc m, e, f) = absurd cc

none_pass : (t : ℕ → Bool) (xs : List ℕ) → ((k n : ℕ) → slice_get xs k ≡ Some n → t n ≡ false) → filter t xs ≡ []
none_pass t [] h = refl
none_pass t (x ∷ xs) h = ap (λ b. cond b (x ∷ filter t xs) (filter t xs)) (h 0 x refl) ∙ none_pass t xs (λ k. h (suc k))

module _ (p : FlatProgram) (ns : List ℕ) (n : ℕ) (x : Key) (own : key_of p n ≡ Some x) (looked : List Label) (keys : List Key) (groups : List (List ℕ)) (w : AreKeyedBy p ns looked keys groups) where
  passes : (y : Key) (b : Bool) → same_key y x ≡ b → key_numbers p y (ns ++ n ∷ []) ≡ key_numbers p y ns ++ cond b (n ∷ []) []
  passes y b e = filter-append (λ m. may_have y (key_of p m)) ns (n ∷ []) ∙ ap (λ c. key_numbers p y ns ++ cond c (n ∷ []) []) (ap (may_have y) own ∙ e)

  as_before : (y : Key) → same_key y x ≡ false → key_numbers p y (ns ++ n ∷ []) ≡ key_numbers p y ns
  as_before y e = passes y false e ∙ append-nil (key_numbers p y ns)

  at_last : {X : Type 0} (xs : List X) (z : X) → slice_get (xs ++ z ∷ []) (length xs) ≡ Some z
  at_last xs z = ap (slice_get (xs ++ z ∷ [])) (let e : length xs ≡ length xs + 0 = omega arith in e) ∙ get_right xs (z ∷ []) 0

  -- A key that no earlier clause has.
  module _ (other : (j : ℕ) (y : Key) → slice_get keys j ≡ Some y → same_key x y ≡ false) where
    none_yet : key_numbers p x ns ≡ []
    none_yet = none_pass (λ m. may_have x (key_of p m)) ns (λ k m e. let g = w.each k m e in ap (may_have x) g.3 ∙ other g.0 g.1 g.2)

    -- It comes with a list of this clause.
    pub new_key : AreKeyedBy p (ns ++ n ∷ []) (looked ++ label x ∷ []) (keys ++ x ∷ []) (groups ++ (n ∷ []) ∷ [])
    new_key = record {
      labels = ap (λ l. l ++ label x ∷ []) w.labels ∙ sym (map_push label keys x);
      lists = ap₂ (λ ls l. ls ++ l ∷ [])
          (w.lists ∙ map_same (λ y. key_numbers p y ns) (λ y. key_numbers p y (ns ++ n ∷ [])) keys (λ j y e. as_before y (same_back x y (other j y e))))
          (sym (passes x true (same_itself x) ∙ ap (λ l. l ++ n ∷ []) none_yet))
          ∙ sym (map_push (λ y. key_numbers p y (ns ++ n ∷ [])) keys x);
      each = λ k m e. each_by k m (split_get ns (n ∷ []) k m e);
      from = λ j y e. from_by j y (split_get keys (x ∷ []) j y e);
      apart = λ i j y e f. apart_by i j y (split_get keys (x ∷ []) i y e) (split_get keys (x ∷ []) j y f);
    }
      where
        each_by : (k m : ℕ) → (slice_get ns k ≡ Some m) ⊎ ((i : ℕ) × (k ≡ length ns + i) × (slice_get (n ∷ []) i ≡ Some m))
            → (j : ℕ) × (y : Key) × (slice_get (keys ++ x ∷ []) j ≡ Some y) × (key_of p m ≡ Some y)
        each_by k m (inl e) = let g = w.each k m e in (g.0, g.1, get_left keys (x ∷ []) g.0 g.1 g.2, g.3)
        each_by k m (inr e) = let g = only_last ns n m k e in (length keys, x, at_last keys x, ap (key_of p) (sym g.1) ∙ own)

        from_by : (j : ℕ) (y : Key) → (slice_get keys j ≡ Some y) ⊎ ((i : ℕ) × (j ≡ length keys + i) × (slice_get (x ∷ []) i ≡ Some y))
            → (i : ℕ) × (m : ℕ) × (slice_get (ns ++ n ∷ []) i ≡ Some m) × (key_of p m ≡ Some y)
        from_by j y (inl e) = let g = w.from j y e in (g.0, g.1, get_left ns (n ∷ []) g.0 g.1 g.2, g.3)
        from_by j y (inr e) = let g = only_last keys x y j e in (length ns, n, at_last ns n, own ∙ ap (λ z. Some z) g.1)

        apart_by : (i j : ℕ) (y : Key) → (slice_get keys i ≡ Some y) ⊎ ((m : ℕ) × (i ≡ length keys + m) × (slice_get (x ∷ []) m ≡ Some y))
            → (slice_get keys j ≡ Some y) ⊎ ((m : ℕ) × (j ≡ length keys + m) × (slice_get (x ∷ []) m ≡ Some y)) → i ≡ j
        apart_by i j y (inl e) (inl f) = w.apart i j y e f
        apart_by i j y (inl e) (inr f) = no (sym (same_itself x) ∙ ap (same_key x) (only_last keys x y j f).1 ∙ other i y e)
        apart_by i j y (inr e) (inl f) = no (sym (same_itself x) ∙ ap (same_key x) (only_last keys x y i e).1 ∙ other j y f)
        apart_by i j y (inr e) (inr f) = (only_last keys x y i e).0 ∙ sym (only_last keys x y j f).0

  -- A key that an earlier clause has.
  module _ (j : ℕ) (here : slice_get keys j ≡ Some x) where
    -- The clause goes behind those of its list.
    pub old_key : AreKeyedBy p (ns ++ n ∷ []) looked keys (set groups j (get_or groups j [] ++ n ∷ []))
    old_key = record {
      labels = w.labels;
      lists = ap (λ gs. set gs j (get_or gs j [] ++ n ∷ [])) w.lists ∙ map_set (λ y. key_numbers p y ns) (λ y. key_numbers p y (ns ++ n ∷ [])) keys j
          (get_or (map (λ y. key_numbers p y ns) keys) j [] ++ n ∷ []) at_j elsewhere;
      each = λ k m e. each_by k m (split_get ns (n ∷ []) k m e);
      from = λ i y e. let g = w.from i y e in (g.0, g.1, get_left ns (n ∷ []) g.0 g.1 g.2, g.3);
      apart = w.apart;
    }
      where
        at_j : (i : ℕ) (y : Key) → slice_get keys i ≡ Some y → i ≡ j → key_numbers p y (ns ++ n ∷ []) ≡ get_or (map (λ z. key_numbers p z ns) keys) j [] ++ n ∷ []
        at_j i y e same =
            let there : slice_get keys j ≡ Some y = ap (slice_get keys) (sym same) ∙ e in
            let one : y ≡ x = (let f : Some y ≡ Some x = sym there ∙ here in cc) in
            passes y true (ap (λ z. same_key z x) one ∙ same_itself x)
            ∙ ap (λ l. l ++ n ∷ []) (sym (get_or_from_slice_get (map (λ z. key_numbers p z ns) keys) j (key_numbers p y ns) []
            (slice_get-map (λ z. key_numbers p z ns) keys j ∙ ap (λ o. option_map (λ z. key_numbers p z ns) o) there)))

        elsewhere : (i : ℕ) (y : Key) → slice_get keys i ≡ Some y → i ≢ j → key_numbers p y (ns ++ n ∷ []) ≡ key_numbers p y ns
        elsewhere i y e differ = by (same_key y x) refl
          where
            by : (b : Bool) → same_key y x ≡ b → key_numbers p y (ns ++ n ∷ []) ≡ key_numbers p y ns
            by true h = absurd (differ (w.apart i j x (e ∙ ap (λ z. Some z) (same_means y x h)) here))
            by false h = as_before y h

        each_by : (k m : ℕ) → (slice_get ns k ≡ Some m) ⊎ ((i : ℕ) × (k ≡ length ns + i) × (slice_get (n ∷ []) i ≡ Some m)) → (i : ℕ) × (y : Key) × (slice_get keys i ≡ Some y) × (key_of p m ≡ Some y)
        each_by k m (inl e) = w.each k m e
        each_by k m (inr e) = let g = only_last ns n m k e in (j, x, here, ap (key_of p) (sym g.1) ∙ own)

  -- ---- as they are looked up
  module _ (eq : Label → Label → Bool) (alike : (a b : Key) → eq (label a) (label b) ≡ same_key a b) where
    labelled : (j : ℕ) (y : Key) → slice_get keys j ≡ Some y → slice_get looked j ≡ Some (label y)
    labelled j y e = ap (λ l. slice_get l j) w.labels ∙ slice_get-map label keys j ∙ ap (λ o. option_map label o) e

    -- A label that was not among them is a new key's.
    pub insert_new : (it : Label) (more : List Label) (keys' : List Key) (groups' : List (List ℕ)) (list : List ℕ) → it ≡ label x
        → not (list_any (eq it) looked) ≡ true → more ≡ (if list_any (eq it) looked then looked else looked ++ it ∷ []) → keys' ≡ keys ++ x ∷ [] → list ≡ n ∷ []
        → groups' ≡ groups ++ list ∷ []
        → AreKeyedBy p (ns ++ n ∷ []) more keys' groups'
    insert_new it more keys' groups' list e fresh f g h i =
        let none : list_any (eq (label x)) looked ≡ false = ap (λ l. list_any (eq l) looked) (sym e) ∙ not-true (list_any (eq it) looked) fresh in
        let grown : more ≡ looked ++ label x ∷ [] = f ∙ ap (λ b. if b then looked else looked ++ it ∷ []) (not-true (list_any (eq it) looked) fresh) ∙ ap (λ l. looked ++ l ∷ []) e in
        subst (λ l. AreKeyedBy p (ns ++ n ∷ []) l keys' groups') (sym grown)
        (subst (λ l. AreKeyedBy p (ns ++ n ∷ []) (looked ++ label x ∷ []) l groups') (sym g)
        (subst (AreKeyedBy p (ns ++ n ∷ []) (looked ++ label x ∷ []) (keys ++ x ∷ [])) (sym (i ∙ ap (λ l. groups ++ l ∷ []) h))
        (new_key (λ j y k. sym (alike x y) ∙ any_false (eq (label x)) looked none j (label y) (labelled j y k)))))

    -- One that was among them is that of an earlier key.
    pub insert_old : (it : Label) (more : List Label) (groups' : List (List ℕ)) (j : ℕ) → it ≡ label x → not (list_any (eq it) looked) ≡ false
        → more ≡ (if list_any (eq it) looked then looked else looked ++ it ∷ []) → (k : Label) × (slice_get more j ≡ Some k) × (eq it k ≡ true)
        → groups' ≡ set groups j (get_or groups j [] ++ n ∷ []) → AreKeyedBy p (ns ++ n ∷ []) more keys groups'
    insert_old it more groups' j e known f stored g =
        let same : more ≡ looked = f ∙ ap (λ b. if b then looked else looked ++ it ∷ []) (not-false (list_any (eq it) looked) known) in
        let there = got_map label keys j stored.0 (ap (λ l. slice_get l j) (sym (same ∙ w.labels)) ∙ stored.1) in
        let test : same_key x there.0 ≡ true = sym (alike x there.0) ∙ ap₂ (λ a b. eq a b) (sym e) (sym there.2) ∙ stored.2 in
        let here : slice_get keys j ≡ Some x = there.1 ∙ ap (λ z. Some z) (sym (same_means x there.0 test)) in
        subst (λ l. AreKeyedBy p (ns ++ n ∷ []) l keys groups') (sym same) (subst (AreKeyedBy p (ns ++ n ∷ []) looked keys) (sym g) (old_key j here))
