-- The numbers of variables, by ids and by names.
use Rattle.std.proofs.Common.{◌≡◌, ◌≢◌, ℕ, ◌+◌, ◌<◌, ◌⊎◌, inl, inr, List, [], ◌∷◌, ◌++◌, length, map, Some, Bool, true, false, cond, refl, sym, ap, ◌∙◌, arith}
use Rattle.std.proofs.Common.{length-append, get_or, set}
use Rattle.std.specs.Prelude.{slice_get, Result, Ok, Err, IfOk, ◌==◌, All, codes, not, ◌||◌}
use Rattle.std.specs.List.{position_or_len, list_any}
use Rattle.std.specs.Str.{bytes_eq}
use Rattle.std.proofs.lemmas.Bool.{ne_eqb, eq-eqb, false_from_ne_true}
use Rattle.std.proofs.lemmas.Bool.Decides.{eqb_tells}
use Rattle.std.proofs.lemmas.List.{get_or-set_same, get_or-set_other, length-set, map-append, length-map}
use Rattle.std.proofs.lemmas.List.Sums.{position_or_len_is}
use Rattle.std.proofs.lemmas.List.Folds.{list_any_at, list_any_none}
use Rattle.std.proofs.lemmas.List.Elements.{All-head, All-tail}
use Rattle.std.proofs.lemmas.Option.{slice_get_within, slice_get-get_or, get_or_from_slice_get}
use Rattle.std.proofs.lemmas.Slice.Eq.{bytes_eq-Decides}
use Rattle.fd_language.specs.Term.{Name}
use Rattle.fd_language.specs.Reading.{is_anonymous, variable_number, with_variable}
use Rattle.term_pool.specs.declared.AtomId.{AtomId}
use Rattle.term_pool.specs.Contents.{Contents, atom_name}
use Rattle.term_pool.specs.PoolInvariant.{IsPool}
use Rattle.term_pool.proofs.Lemmas.{slice_get-append, pushed_at}
use Rattle.term_reader.specs.VariableNumbers.{IsIndexed, id_number, with_id}
use Rattle.term_pool.proofs.Lemmas.{same_id}

-- ---- by ids

set_get_same : (xs : List ℕ) (i v : ℕ) → i < length xs → slice_get (set xs i v) i ≡ Some v
set_get_same xs i v h = slice_get-get_or (set xs i v) i 0 (omega (arith, h, length-set xs i v)) ∙ ap (λ (n : ℕ). Some n) (get_or-set_same xs i v 0 h)

set_get_other : (xs : List ℕ) (i j v : ℕ) → j < length xs → j ≢ i → slice_get (set xs i v) j ≡ slice_get xs j
set_get_other xs i j v h n = slice_get-get_or (set xs i v) j 0 (omega (arith, h, length-set xs i v)) ∙ ap (λ (m : ℕ). Some m) (get_or-set_other xs i j v 0 n) ∙ sym (slice_get-get_or xs j 0 h)

pub indexed_push : (an : AtomId) (names : List AtomId) (numbers numbers1 more : List ℕ) (name : AtomId) (number : ℕ) → IsIndexed an names numbers
    → ((j : ℕ) → slice_get names j ≡ Some name → name ≡ an)
    → numbers1 ≡ numbers ++ more → name.number < length numbers1 → number ≡ length names → IsIndexed an (names ++ name ∷ []) (set numbers1 name.number number)
indexed_push an names numbers numbers1 more name number h new grown reached is j a e n = go (pushed_at names name a j e)
  where
    at_name : a.number ≡ name.number → slice_get names j ≡ Some a → slice_get (set numbers1 name.number number) a.number ≡ Some j
    at_name same old = let k : name ≡ a = sym (same_id a name same) in absurd (n (sym k ∙ new j (old ∙ ap (λ (b : AtomId). Some b) (sym k))))

    elsewhere : a.number ≢ name.number → slice_get names j ≡ Some a → slice_get (set numbers1 name.number number) a.number ≡ Some j
    elsewhere differs old =
        let kept = h j a old n in
        let within : a.number < length numbers = slice_get_within numbers a.number j kept in
        set_get_other numbers1 name.number a.number number (omega (arith, within, ap (λ (l : List ℕ). length l) grown, length-append numbers more)) differs
        ∙ ap (λ (l : List ℕ). slice_get l a.number) grown ∙ slice_get-append numbers more a.number within ∙ kept

    pick : ((a.number == name.number) ≡ true × (a.number ≡ name.number)) ⊎ ((a.number == name.number) ≡ false × (a.number ≢ name.number))
        → slice_get names j ≡ Some a → slice_get (set numbers1 name.number number) a.number ≡ Some j
    pick (inl w) old = at_name w.1 old
    pick (inr w) old = elsewhere w.1 old

    go : (slice_get names j ≡ Some a) ⊎ ((length names ≡ j) × (name ≡ a)) → slice_get (set numbers1 name.number number) a.number ≡ Some j
    go (inl old) = pick (eqb_tells a.number name.number) old
    go (inr w) =
        ap (λ (b : AtomId). slice_get (set numbers1 name.number number) b.number) (sym w.1)
        ∙ set_get_same numbers1 name.number number reached ∙ ap (λ (m : ℕ). Some m) (is ∙ w.0)

-- the place of a name that is there
pub position_found : (an : AtomId) (names : List AtomId) (numbers : List ℕ) (name : AtomId) (k : ℕ) → IsIndexed an names numbers → name.number ≢ an.number
    → slice_get names k ≡ Some name → slice_get numbers name.number ≡ Some k
    → position_or_len (λ b. name.number == b.number) names ≡ k
position_found an names numbers name k h n there marked =
    let within : k < length names = slice_get_within names k name there in
    position_or_len_is (λ b. name.number == b.number) names k name (omega arith) before
    (λ _. eq-eqb name.number (get_or names k name).number (ap (λ (b : AtomId). b.number) (sym (get_or_from_slice_get names k name name there))))
  where
    before : (j : ℕ) → j < k → (name.number == (get_or names j name).number) ≡ false
    before j lt =
        let within : k < length names = slice_get_within names k name there in
        let b = get_or names j name in
        let at : slice_get names j ≡ Some b = slice_get-get_or names j name (omega arith) in
        ne_eqb name.number b.number (λ same.
        let is : name ≡ b = same_id name b same in
        let mark : slice_get numbers name.number ≡ Some j = h j name (at ∙ ap (λ (x : AtomId). Some x) (sym is)) (λ e. n (ap (λ (x : AtomId). x.number) e)) in
        let both : Some k ≡ Some j = sym marked ∙ mark in
        let equal : k ≡ j = cc in
        omega (arith, lt, equal))

pub number_found : (an : AtomId) (names : List AtomId) (numbers : List ℕ) (name : AtomId) (k : ℕ) → IsIndexed an names numbers → name.number ≢ an.number
    → slice_get names k ≡ Some name → slice_get numbers name.number ≡ Some k → k ≡ id_number an names name
number_found an names numbers name k h n there marked = sym
    (ap (λ (b : Bool). cond b (length names) (position_or_len (λ b. name.number == b.number) names)) (ne_eqb name.number an.number n)
    ∙ position_found an names numbers name k h n there marked)

pub names_found : (an : AtomId) (names : List AtomId) (name : AtomId) (k : ℕ) → name.number ≢ an.number → slice_get names k ≡ Some name → names ≡ with_id an names name
names_found an names name k n there =
    let within : k < length names = slice_get_within names k name there in
    let some : list_any (λ b. name.number == b.number) names ≡ true = list_any_at (λ b. name.number == b.number) names k name within
    (eq-eqb name.number (get_or names k name).number (ap (λ (b : AtomId). b.number) (sym (get_or_from_slice_get names k name name there)))) in
    sym (ap (λ (b : Bool). cond b (names ++ name ∷ []) (cond (list_any (λ b. name.number == b.number) names) names (names ++ name ∷ [])))
    (ne_eqb name.number an.number n) ∙ ap (λ (b : Bool). cond b names (names ++ name ∷ [])) some)

-- a name that isn't there
absent : (an : AtomId) (names : List AtomId) (numbers : List ℕ) (name : AtomId) → IsIndexed an names numbers → name.number ≢ an.number
    → ((j : ℕ) → slice_get names j ≡ Some name → slice_get numbers name.number ≡ Some j → ⊥)
    → (j : ℕ) (d : AtomId) → j < length names → (name.number == (get_or names j d).number) ≡ false
absent an names numbers name h n none j d lt =
    let b = get_or names j d in
    let at : slice_get names j ≡ Some b = slice_get-get_or names j d lt in
    ne_eqb name.number b.number (λ same.
    let is : name ≡ b = same_id name b same in
    let there : slice_get names j ≡ Some name = at ∙ ap (λ (x : AtomId). Some x) (sym is) in
    none j there (h j name there (λ e. n (ap (λ (x : AtomId). x.number) e))))

pub number_absent : (an : AtomId) (names : List AtomId) (numbers : List ℕ) (name : AtomId) → IsIndexed an names numbers → name.number ≢ an.number
    → ((j : ℕ) → slice_get names j ≡ Some name → slice_get numbers name.number ≡ Some j → ⊥) → length names ≡ id_number an names name
number_absent an names numbers name h n none =
    sym (ap (λ (b : Bool). cond b (length names) (position_or_len (λ b. name.number == b.number) names)) (ne_eqb name.number an.number n)
    ∙ position_or_len_is (λ b. name.number == b.number) names (length names) name (omega arith) (λ j lt. absent an names numbers name h n none j name lt) (λ lt. absurd (omega (arith, lt))))

pub names_absent : (an : AtomId) (names : List AtomId) (numbers : List ℕ) (name : AtomId) → IsIndexed an names numbers → name.number ≢ an.number
    → ((j : ℕ) → slice_get names j ≡ Some name → slice_get numbers name.number ≡ Some j → ⊥) → names ++ name ∷ [] ≡ with_id an names name
names_absent an names numbers name h n none =
    sym (ap (λ (b : Bool). cond b (names ++ name ∷ []) (cond (list_any (λ b. name.number == b.number) names) names (names ++ name ∷ []))) (ne_eqb name.number an.number n)
    ∙ ap (λ (b : Bool). cond b names (names ++ name ∷ [])) (list_any_none (λ b. name.number == b.number) names (λ j d lt. absent an names numbers name h n none j d lt)))

-- ---- by names

-- two atoms of a pool have one name where they are one
same_test : (c : Contents) → IsPool c → (a b : AtomId) → a.number < length c.names → b.number < length c.names → bytes_eq (atom_name c a) (atom_name c b) ≡ (a.number == b.number)
same_test c p a b ha hb = go (eqb_tells a.number b.number)
  where
    go : ((a.number == b.number) ≡ true × (a.number ≡ b.number)) ⊎ ((a.number == b.number) ≡ false × (a.number ≢ b.number)) → bytes_eq (atom_name c a) (atom_name c b) ≡ (a.number == b.number)
    go (inl w) = ap (λ (x : AtomId). bytes_eq (atom_name c a) (atom_name c x)) (sym (same_id a b w.1)) ∙ (bytes_eq-Decides (atom_name c a) (atom_name c a)).1 refl ∙ sym w.0
    go (inr w) = false_from_ne_true (bytes_eq (atom_name c a) (atom_name c b))
        (λ e. w.1 (ap (λ (x : AtomId). x.number) (p.distinct a b ha hb ((bytes_eq-Decides (atom_name c a) (atom_name c b)).0 e)))) ∙ sym w.0

position_map : {X : Type 0} (f : X → Name) (p : Name → Bool) (q : X → Bool) (xs : List X) → All (λ x. p (f x) ≡ q x) xs → position_or_len p (map f xs) ≡ position_or_len q xs
position_map f p q [] h = refl
position_map f p q (x ∷ xs) h =
    let here : p (f x) ≡ q x = All-head (λ y. p (f y) ≡ q y) x xs h in
    let later = position_map f p q xs (All-tail (λ y. p (f y) ≡ q y) x xs h) in
    ap (λ (b : Bool). cond (not b) (1 + position_or_len p (map f xs)) 0) here ∙ ap (λ (n : ℕ). cond (not (q x)) (1 + n) 0) later

any_map : {X : Type 0} (f : X → Name) (p : Name → Bool) (q : X → Bool) (xs : List X) → All (λ x. p (f x) ≡ q x) xs → list_any p (map f xs) ≡ list_any q xs
any_map f p q [] h = refl
any_map f p q (x ∷ xs) h =
    let here : p (f x) ≡ q x = All-head (λ y. p (f y) ≡ q y) x xs h in
    let later = any_map f p q xs (All-tail (λ y. p (f y) ≡ q y) x xs h) in
    ap (λ (b : Bool). b || list_any p (map f xs)) here ∙ ap (λ (b : Bool). q x || b) later

tests : (c : Contents) → IsPool c → (a : AtomId) (ids : List AtomId) → a.number < length c.names → All (λ b. b.number < length c.names) ids
    → All (λ b. bytes_eq (atom_name c a) (atom_name c b) ≡ (a.number == b.number)) ids
tests c p a ids ha h k d lt = same_test c p a (get_or ids k d) ha (h k d lt)

anonymous_test : (c : Contents) → IsPool c → (an a : AtomId) → an.number < length c.names → a.number < length c.names → atom_name c an ≡ codes "_"
    → is_anonymous (atom_name c a) ≡ (a.number == an.number)
unfolding is_anonymous
anonymous_test c p an a hn ha is = ap (λ (n : Name). bytes_eq (atom_name c a) n) (sym is) ∙ same_test c p a an ha hn

pub number_named : (c : Contents) → IsPool c → (an a : AtomId) (ids : List AtomId) → an.number < length c.names → a.number < length c.names
    → All (λ b. b.number < length c.names) ids → atom_name c an ≡ codes "_"
    → variable_number (map (atom_name c) ids) (atom_name c a) ≡ id_number an ids a
unfolding variable_number
number_named c p an a ids hn ha h is =
    ap (λ (b : Bool). cond b (length (map (atom_name c) ids)) (position_or_len (bytes_eq (atom_name c a)) (map (atom_name c) ids))) (anonymous_test c p an a hn ha is)
    ∙ ap (λ (n : ℕ). cond (a.number == an.number) n (position_or_len (bytes_eq (atom_name c a)) (map (atom_name c) ids))) (length-map ids (atom_name c))
    ∙ ap (λ (n : ℕ). cond (a.number == an.number) (length ids) n) (position_map (atom_name c) (bytes_eq (atom_name c a)) (λ b. a.number == b.number) ids (tests c p a ids ha h))

map_pick : (f : AtomId → Name) (b d : Bool) (ids : List AtomId) (a : AtomId)
    → map f (cond b (ids ++ a ∷ []) (cond d ids (ids ++ a ∷ []))) ≡ cond b (map f ids ++ f a ∷ []) (cond d (map f ids) (map f ids ++ f a ∷ []))
map_pick f true d ids a = map-append f ids (a ∷ [])
map_pick f false true ids a = refl
map_pick f false false ids a = map-append f ids (a ∷ [])

pub names_named : (c : Contents) → IsPool c → (an a : AtomId) (ids : List AtomId) → an.number < length c.names → a.number < length c.names
    → All (λ b. b.number < length c.names) ids → atom_name c an ≡ codes "_"
    → with_variable (map (atom_name c) ids) (atom_name c a) ≡ map (atom_name c) (with_id an ids a)
unfolding with_variable
names_named c p an a ids hn ha h is =
    let names = map (atom_name c) ids in
    let n = atom_name c a in
    ap (λ (b : Bool). cond b (names ++ n ∷ []) (cond (list_any (bytes_eq n) names) names (names ++ n ∷ []))) (anonymous_test c p an a hn ha is)
    ∙ ap (λ (d : Bool). cond (a.number == an.number) (names ++ n ∷ []) (cond d names (names ++ n ∷ []))) (any_map (atom_name c) (bytes_eq n) (λ b. a.number == b.number) ids (tests c p a ids ha h))
    ∙ sym (map_pick (atom_name c) (a.number == an.number) (list_any (λ b. a.number == b.number) ids) ids a)

pub if_number : {E : Type 0} (r : Result ℕ E) (n m : ℕ) → n ≡ m → IfOk r (λ k. k ≡ n) → IfOk r (λ k. k ≡ m)
if_number (Ok k) n m e h = h ∙ e
if_number (Err f) n m e h = tt
