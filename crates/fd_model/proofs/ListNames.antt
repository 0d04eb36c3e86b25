-- The variables that the rows of the constraints on lists name.
use Rattle.std.proofs.Common.{◌≡◌, ℕ, suc, true, false, ◌==◌, ℤ, List, [], ◌∷◌, ◌++◌, refl, sym, subst, inl, inr, eqb-true, eq-eqb}
use Rattle.std.proofs.lemmas.Bool.{or_cases, or_left, or_right, true≢false}
use Rattle.fd_language.specs.Lists.{Each}
use Rattle.fd_language.specs.Family.{has}
use Rattle.fd_language.specs.Range.{Range, Indexical, Union, reads}
use Rattle.fd_model.specs.ClosedFamilies.{constrained, AllPosted}
use Rattle.fd_language.proofs.Lemmas.{has_either, in_left, in_right}
use Rattle.fd_model.specs.Members.{Member, Open, Known, placed, equated_from}
use Rattle.fd_model.specs.ListRows.{differs, against, pairwise, different_ranges, union_onto, union_of, elements_at, index_ranges, element_ranges, counter}
use Rattle.fd_model.specs.ListRows.{counted, counts, units}
use Rattle.fd_model.proofs.DeterminedValues.{NamesIn, names_one, AllNamed}
use Rattle.fd_model.proofs.RowNames.{AllVars}

-- what two lists of ranges name
pub named_left : (ps qs : List Indexical) (v : ℕ) → has (constrained ps) v ≡ true → has (constrained (ps ++ qs)) v ≡ true
named_left [] qs v h = absurd (true≢false (sym h))
named_left (p ∷ ps) qs v h = elim (or_cases (p.target == v) (has (reads p.range ++ constrained ps) v) h) [
  | inl e ↦ or_left _ _ e
  | inr e ↦ or_right (p.target == v) _ (elim (has_either (reads p.range) (constrained ps) v e) [
    | inl g ↦ in_left (reads p.range) (constrained (ps ++ qs)) v g
    | inr g ↦ in_right (reads p.range) (constrained (ps ++ qs)) v (named_left ps qs v g)
  ])
]

pub named_right : (ps qs : List Indexical) (v : ℕ) → has (constrained qs) v ≡ true → has (constrained (ps ++ qs)) v ≡ true
named_right [] qs v h = h
named_right (p ∷ ps) qs v h = or_right (p.target == v) _ (in_right (reads p.range) (constrained (ps ++ qs)) v (named_right ps qs v h))

pub names_append : (P : ℕ → Type 0) (ps qs : List Indexical) → NamesIn P ps → NamesIn P qs → NamesIn P (ps ++ qs)
names_append P [] qs h g = g
names_append P (p ∷ ps) qs h g =
    names_one P p (ps ++ qs) (h p.target (or_left _ _ (eq-eqb p.target p.target refl))) (λ v e. h v (or_right (p.target == v) _ (in_left (reads p.range) (constrained ps) v e)))
    (names_append P ps qs (λ v e. h v (or_right (p.target == v) _ (in_right (reads p.range) (constrained ps) v e))) g)

pub none_named : (P : ℕ → Type 0) → NamesIn P []
none_named P v h = absurd (true≢false (sym h))

-- the list of one number
pub one_named : (P : ℕ → Type 0) (x : ℕ) → P x → (v : ℕ) → has (x ∷ []) v ≡ true → P v
one_named P x h v e = elim (or_cases (x == v) false e) [ inl k ↦ subst P (eqb-true x v k) h | inr k ↦ absurd (true≢false (sym k)) ]

-- fd_all_different
pub against_names : (P : ℕ → Type 0) (x : ℕ) (ys : List ℕ) → P x → Each P ys → NamesIn P (against x ys)
against_names P x [] h g = none_named P
against_names P x (y ∷ ys) h g =
    names_one P (differs x y) (differs y x ∷ against x ys) h (one_named P y g.0) (names_one P (differs y x) (against x ys) g.0 (one_named P x h) (against_names P x ys h g.1))

pub pairs_names : (P : ℕ → Type 0) (xs : List ℕ) → Each P xs → NamesIn P (pairwise xs)
pairs_names P [] h = none_named P
pairs_names P (x ∷ xs) h = names_append P (against x xs) (pairwise xs) (against_names P x xs h.0 h.1) (pairs_names P xs h.1)

pub different_names : (P : ℕ → Type 0) (xs : List ℕ) → Each P xs → NamesIn P (different_ranges xs)
different_names P [] h = none_named P
different_names P (x ∷ []) h = one_named P x h.0
different_names P (x ∷ y ∷ ys) h = pairs_names P (x ∷ y ∷ ys) h

pub named_against : (x : ℕ) (ys : List ℕ) (v : ℕ) → has ys v ≡ true → has (constrained (against x ys)) v ≡ true
named_against x [] v h = absurd (true≢false (sym h))
named_against x (y ∷ ys) v h = elim (or_cases (y == v) (has ys v) h) [
  | inl e ↦ or_right (x == v) _ (or_left _ _ e)
  | inr e ↦ or_right (x == v) _ (or_right (y == v) _ (or_right (y == v) _ (or_right (x == v) _ (named_against x ys v e))))
]

pub named_different : (xs : List ℕ) (v : ℕ) → has xs v ≡ true → has (constrained (different_ranges xs)) v ≡ true
named_different [] v h = h
named_different (x ∷ []) v h = h
named_different (x ∷ y ∷ ys) v h =
    named_left (against x (y ∷ ys)) (pairwise (y ∷ ys)) v (elim (or_cases (x == v) (has (y ∷ ys) v) h) [
      | inl e ↦ or_left _ _ e
      | inr e ↦ named_against x (y ∷ ys) v e
    ])

-- the equated variables
pub equated_named : (ps : List Indexical) (ms : List Member) (k : ℕ) → ((v : ℕ) → has (placed k ms) v ≡ true → has (constrained ps) v ≡ true) → AllNamed (equated_from k ms) ps
equated_named ps [] k f = tt
equated_named ps (Open x ∷ ms) k f = equated_named ps ms k (λ v h. f v (or_right (x == v) _ h))
equated_named ps (Known z ∷ ms) k f = (f k (or_left _ _ (eq-eqb k k refl)), equated_named ps ms (suc k) (λ v h. f v (or_right (k == v) _ h)))

-- fd_element
abbrev pub Named : (ℕ → Type 0) → List ℕ → Type 0
Named P xs = (v : ℕ) → has xs v ≡ true → P v

pub named_either : (P : ℕ → Type 0) (xs ys : List ℕ) → Named P xs → Named P ys → Named P (xs ++ ys)
named_either P xs ys h g v e = elim (has_either xs ys v e) [ inl k ↦ h v k | inr k ↦ g v k ]

abbrev pub EachNamed : (ℕ → Type 0) → List Range → Type 0
EachNamed P [] = Unit {0}
EachNamed P (r ∷ rs) = Named P (reads r) × EachNamed P rs

joined_named : (P : ℕ → Type 0) (r : Range) (qs : List Range) → Named P (reads r) → EachNamed P qs → Named P (reads (union_onto r qs))
joined_named P r [] h g = h
joined_named P r (q ∷ qs) h g = joined_named P (Union r q) qs (named_either P (reads r) (reads q) h g.0) g.1

union_named : (P : ℕ → Type 0) (rs : List Range) → EachNamed P rs → Named P (reads (union_of rs))
union_named P [] h = λ v e. absurd (true≢false (sym e))
union_named P (r ∷ rs) h = joined_named P r rs h.0 h.1

elements_named : (P : ℕ → Type 0) (i k : ℕ) (zs : List ℤ) → P i → EachNamed P (elements_at i k zs)
elements_named P i k [] h = tt
elements_named P i k (z ∷ zs) h = (one_named P i h, elements_named P i (suc k) zs h)

numbers_named : (P : ℕ → Type 0) (x k : ℕ) (zs : List ℤ) → P x → EachNamed P (index_ranges x k zs)
numbers_named P x k [] h = tt
numbers_named P x k (z ∷ zs) h = (one_named P x h, numbers_named P x (suc k) zs h)

pub element_names : (P : ℕ → Type 0) (i x : ℕ) (zs : List ℤ) → P i → P x → NamesIn P (element_ranges i zs x)
element_names P i x zs h g =
    let q : Indexical = record { target = i; range = union_of (index_ranges x 1 zs) } in
    names_one P (record { target = x; range = union_of (elements_at i 1 zs) }) (q ∷ []) g (union_named P (elements_at i 1 zs) (elements_named P i 1 zs h))
    (names_one P q [] h (union_named P (index_ranges x 1 zs) (numbers_named P x 1 zs g)) (none_named P))

pub named_element : (i x : ℕ) (zs : List ℤ) (v : ℕ) → has (i ∷ x ∷ []) v ≡ true → has (constrained (element_ranges i zs x)) v ≡ true
named_element i x zs v h = elim (or_cases (i == v) (has (x ∷ []) v) h) [
  | inl e ↦ or_right (x == v) _ (in_right (reads (union_of (elements_at i 1 zs))) _ v (or_left _ _ e))
  | inr e ↦ elim (or_cases (x == v) false e) [ inl k ↦ or_left _ _ k | inr k ↦ absurd (true≢false (sym k)) ]
]

-- fd_atmost: the counters are numbered from m on
abbrev pub AllAdded : (ℕ → Type 0) → List ℕ → ℕ → Type 0
AllAdded P [] m = Unit {0}
AllAdded P (x ∷ xs) m = P m × AllAdded P xs (suc m)

pub counts_names : (P : ℕ → Type 0) (v : ℤ) (xs : List ℕ) (m : ℕ) → Each P xs → AllAdded P xs m → NamesIn P (counts v xs m)
counts_names P v [] m h g = none_named P
counts_names P v (x ∷ xs) m h g =
    let p = counter v x m in
    let q = counted v x m in
    names_one P p (q ∷ counts v xs (suc m)) g.0 (named_either P (x ∷ []) (x ∷ []) (one_named P x h.0) (one_named P x h.0))
    (names_one P q (counts v xs (suc m)) h.0 (named_either P (m ∷ []) (m ∷ m ∷ []) (one_named P m g.0)
    (named_either P (m ∷ []) (m ∷ []) (one_named P m g.0) (one_named P m g.0))) (counts_names P v xs (suc m) h.1 g.1))

pub named_counts : (z : ℤ) (xs : List ℕ) (m v : ℕ) → has xs v ≡ true → has (constrained (counts z xs m)) v ≡ true
named_counts z [] m v h = absurd (true≢false (sym h))
named_counts z (x ∷ xs) m v h = elim (or_cases (x == v) (has xs v) h) [
  | inl e ↦ or_right (m == v) _ (or_left _ _ e)
  | inr e ↦ named_right (counter z x m ∷ counted z x m ∷ []) (counts z xs (suc m)) v (named_counts z xs (suc m) v e)
]

pub units_vars : (P : ℕ → Type 0) (xs : List ℕ) (m : ℕ) → AllAdded P xs m → AllVars P (units xs m)
units_vars P [] m h = tt
units_vars P (x ∷ xs) m h = (h.0, units_vars P xs (suc m) h.1)

-- what holds of the ranges of two lists
pub posted_left : (H : Indexical → Type 0) (ps qs : List Indexical) → AllPosted H (ps ++ qs) → AllPosted H ps
posted_left H [] qs h = tt
posted_left H (p ∷ ps) qs h = (h.0, posted_left H ps qs h.1)

pub posted_right : (H : Indexical → Type 0) (ps qs : List Indexical) → AllPosted H (ps ++ qs) → AllPosted H qs
posted_right H [] qs h = h
posted_right H (p ∷ ps) qs h = posted_right H ps qs h.1
