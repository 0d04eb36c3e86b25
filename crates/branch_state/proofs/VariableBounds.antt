-- Bounds of new variables: what is posted, and that each variable is bounded then.
use Rattle.std.proofs.Common.{◌≡◌, ℕ, zero, suc, ◌+◌, ◌-◌, ◌<◌, ◌≤◌, Bool, true, false, cond, ◌==◌, pos, List, [], ◌∷◌, ◌++◌, length, map, take, drop, refl, ap, sym, ◌∙◌}
use Rattle.std.proofs.Common.{subst, inl, inr, arith, eq-eqb, eqb-true, append_assoc, append-nil}
use Rattle.std.specs.Prelude.{All}
use Rattle.std.proofs.lemmas.Bool.{cases_lt, or_cases, true≢false}
use Rattle.std.proofs.lemmas.List.{map-append, take-append-drop}
use Rattle.std.specs.List.Sorted.{IsPermutation}
use Rattle.std.proofs.lemmas.List.Sorted.{IsPermutation-append_comm, IsPermutation-append_right, IsPermutation-map, IsPermutation-refl, IsPermutation-sym}
use Rattle.fd_language.specs.declared.TheConstants.{INFINITY}
use Rattle.fd_language.specs.Family.{has}
use Rattle.fd_language.specs.Range.{Range, Indexical}
use Rattle.range_code.specs.declared.frame.Arg.{Arg}
use Rattle.fd_model.specs.Answers.{Somewhere}
use Rattle.fd_model.specs.Bounds.{bound}
use Rattle.fd_model.specs.ClosedFamilies.{constrained}
use Rattle.fd_model.specs.Levels.{Level}
use Rattle.fd_model.proofs.Lemmas.{constrained_either}
use Rattle.propagate_queue.specs.declared.instance.Instance.{Instance}
use Rattle.propagate_queue.specs.Instances.{posting, posting_of, posted_by, indexical, IsInstance}
use Rattle.propagate_queue.specs.Postings.{Posting, ranged}
use Rattle.branch_meaning.proofs.Lemmas.{front}
use Rattle.branch_lemmas.specs.VariableBounds.{IsBounded, AreBounds, IsBoundedMore}
use Rattle.branch_lemmas.proofs.Lemmas.{model_narrower, model_wider, model_permuted, none_bounded, some_permuted}
use Rattle.unify_core.specs.declared.Touch.{Touch}
use Rattle.branch_state.specs.StoreVariables.{goal_ranges}
use Rattle.branch_state.specs.VariableBounds.{bound_posting, bound_postings, bounds_from, new_postings, new_bounds, PostsBounds}
use Rattle.branch_state.specs.States.{HasBounds, HasNoModel, IsGreatest, IsSettled}
use Rattle.branch_state.proofs.Touches.{EachPosting, all_instances, each_both, each_listed, map_twice, natural_number, natural_whole}

-- ---- what is posted

-- one more
pub postings_more : (first is new : List Instance) (N start n m : ℕ) → m ≡ suc n → map posting is ≡ map posting first ++ bound_postings N start n
    → (i : Instance) → posting i ≡ bound_posting N (start + n) → new ≡ is ++ i ∷ [] → map posting new ≡ map posting first ++ bound_postings N start m
postings_more first is new N start n m more e i f g =
    ap (map posting) g ∙ map-append posting is (i ∷ []) ∙ ap (λ (l : List Posting). l ++ posting i ∷ []) e
    ∙ append_assoc (map posting first) (bound_postings N start n) (posting i ∷ []) ∙ ap (λ (p : Posting). map posting first ++ (bound_postings N start n ++ p ∷ [])) f
    ∙ ap (λ k. map posting first ++ bound_postings N start k) (sym more)

bounds_are : (N first n : ℕ) → map ranged (bound_postings N first n) ≡ bounds_from N first n
bounds_are N first zero = refl
bounds_are N first (suc n) = map-append ranged (bound_postings N first n) (bound_posting N (first + n) ∷ []) ∙ ap (λ (l : List Indexical). l ++ bound N (first + n) ∷ []) (bounds_are N first n)

new_are : (N first n : ℕ) → map ranged (new_postings N first n) ≡ new_bounds N first n
new_are N first n = by_test (N == INFINITY) where
  by_test : (b : Bool) → map ranged (cond b [] (bound_postings N first n)) ≡ cond b [] (bounds_from N first n)
  by_test true = refl
  by_test false = bounds_are N first n

-- none are new where each number is allowed
pub none_new : (N first n : ℕ) → N ≡ INFINITY → new_bounds N first n ≡ []
none_new N first n e = ap (λ b. cond b [] (bounds_from N first n)) (eq-eqb N INFINITY e)

-- one range, where there are no touches and no bounds
pub single_posted : (N first n : ℕ) → N ≡ INFINITY → (ts : List Touch) → ts ≡ [] → (qs : List Indexical) (r : Range) (v : ℕ) (as' : List Arg)
    → qs ++ ranged (posting_of r v as') ∷ [] ≡ (qs ++ goal_ranges r v as' ts) ++ new_bounds N first n
single_posted N first n e ts f qs r v as' =
    sym (ap (λ (l : List Indexical). (qs ++ goal_ranges r v as' ts) ++ l) (none_new N first n e)
    ∙ append-nil (qs ++ goal_ranges r v as' ts)
    ∙ ap (λ (us : List Touch). qs ++ goal_ranges r v as' us) f)

-- the ranges of a list with bounds behind it
pub bounded_posted : (is list : List Instance) (N first n : ℕ) → map posting is ≡ map posting list ++ new_postings N first n → (qs : List Indexical)
    → qs ++ posted_by is ≡ (qs ++ posted_by list) ++ new_bounds N first n
bounded_posted is list N first n e qs =
    ap (λ (l : List Indexical). qs ++ l) (map_twice is ∙ ap (map ranged) e ∙ map-append ranged (map posting list) (new_postings N first n)
    ∙ ap (λ (l : List Indexical). l ++ map ranged (new_postings N first n)) (sym (map_twice list)) ∙ ap (λ (l : List Indexical). posted_by list ++ l) (new_are N first n))
    ∙ sym (append_assoc qs (posted_by list) (new_bounds N first n))

-- they may be posted
bounds_fit : (count N first n : ℕ) → N ≤ INFINITY → first + n ≤ count → EachPosting count (bound_postings N first n)
bounds_fit count N first zero small l = tt
bounds_fit count N first (suc n) small l =
    each_both count (bound_postings N first n) (bound_posting N (first + n) ∷ []) (bounds_fit count N first n small (omega (arith, l)))
    ((omega (arith, l), (natural_whole (pos N) (natural_number N small), tt)), tt)

new_fit : (count N first : ℕ) → N ≤ INFINITY → EachPosting count (new_postings N first (count - first))
new_fit count N first small = by_test (N == INFINITY) where
  by_test : (b : Bool) → EachPosting count (cond b [] (bound_postings N first (count - first)))
  by_test true = tt
  by_test false = elim (cases_lt first count) [
    | inl l ↦ bounds_fit count N first (count - first) small (omega (arith, l))
    | inr l ↦ (let none : 0 ≡ count - first = omega (arith, l) in subst (λ n. EachPosting count (bound_postings N first n)) none tt)
  ]

pub bounded_fit : (count : ℕ) (is list : List Instance) (N first : ℕ) → map posting is ≡ map posting list ++ new_postings N first (count - first)
    → All (IsInstance count) list → N ≤ INFINITY → All (IsInstance count) is
bounded_fit count is list N first e fit small =
    all_instances count is (map posting list ++ new_postings N first (count - first)) e
    (each_both count (map posting list) (new_postings N first (count - first)) (each_listed count list fit) (new_fit count N first small))

-- ---- as ranges

bounds_both : (N : ℕ) (xs ys : List Indexical) → AreBounds N xs → AreBounds N ys → AreBounds N (xs ++ ys)
bounds_both N [] ys a b = b
bounds_both N (x ∷ xs) ys a b = (a.0, bounds_both N xs ys a.1 b)

all_bounds : (N first n : ℕ) → AreBounds N (bounds_from N first n)
all_bounds N first zero = tt
all_bounds N first (suc n) = bounds_both N (bounds_from N first n) (bound N (first + n) ∷ []) (all_bounds N first n) ((first + n, refl), tt)

pub are_bounds : (N first n : ℕ) → AreBounds N (new_bounds N first n)
are_bounds N first n = by_test (N == INFINITY) where
  by_test : (b : Bool) → AreBounds N (cond b [] (bounds_from N first n))
  by_test true = tt
  by_test false = all_bounds N first n

-- what they name
bounds_low : (N first n k : ℕ) → has (constrained (bounds_from N first n)) k ≡ true → (first ≤ k) × (k < first + n)
bounds_low N first zero k e = absurd (true≢false (sym e))
bounds_low N first (suc n) k e = elim (constrained_either (bounds_from N first n) (bound N (first + n) ∷ []) k e) [
  | inl a ↦ (let i = bounds_low N first n k a in let l = i.0 in let m = i.1 in (l, omega (arith, m)))
  | inr a ↦ elim (or_cases ((first + n) == k) false a) [
    | inl b ↦ (let same : first + n ≡ k = eqb-true (first + n) k b in (omega (arith, same), omega (arith, same)))
    | inr b ↦ absurd (true≢false (sym b))
  ]
]

pub new_low : (N first count k : ℕ) → first ≤ count → has (constrained (new_bounds N first (count - first))) k ≡ true → k < count
new_low N first count k within = by_test (N == INFINITY) where
  by_test : (b : Bool) → has (constrained (cond b [] (bounds_from N first (count - first)))) k ≡ true → k < count
  by_test true e = absurd (true≢false (sym e))
  by_test false e = (let l = (bounds_low N first (count - first) k e).1 in omega (arith, l, within))

pub somewhere_left : (H : Indexical → Type 0) (xs ys : List Indexical) → Somewhere H xs → Somewhere H (xs ++ ys)
somewhere_left H [] ys s = absurd s
somewhere_left H (x ∷ xs) ys (inl h) = inl h
somewhere_left H (x ∷ xs) ys (inr s) = inr (somewhere_left H xs ys s)

pub somewhere_right : (H : Indexical → Type 0) (xs ys : List Indexical) → Somewhere H ys → Somewhere H (xs ++ ys)
somewhere_right H [] ys s = s
somewhere_right H (x ∷ xs) ys s = inr (somewhere_right H xs ys s)

some_bound : (N first n i : ℕ) → i < n → IsBounded N (bounds_from N first n) (first + i)
some_bound N first zero i l = absurd (omega (arith, l))
some_bound N first (suc n) i l = elim (cases_lt i n) [
  | inl m ↦ somewhere_left (λ q. q ≡ bound N (first + i)) (bounds_from N first n) (bound N (first + n) ∷ []) (some_bound N first n i m)
  | inr m ↦ (let same : n ≡ i = omega (arith, l, m) in somewhere_right (λ q. q ≡ bound N (first + i)) (bounds_from N first n) (bound N (first + n) ∷ []) (inl (ap (λ k. bound N (first + k)) same)))
]

-- each of the new ones is bounded
pub new_bounded : (N first n k : ℕ) → first ≤ k → k < first + n → (N ≡ INFINITY → ⊥) → IsBounded N (new_bounds N first n) k
new_bounded N first n k low high other = by_test (N == INFINITY) refl where
  at : IsBounded N (bounds_from N first n) k
  at = (let same : first + (k - first) ≡ k = omega (arith, low) in subst (IsBounded N (bounds_from N first n)) same (some_bound N first n (k - first) (omega (arith, low, high))))

  by_test : (b : Bool) → (N == INFINITY) ≡ b → IsBounded N (cond b [] (bounds_from N first n)) k
  by_test true e = absurd (other (eqb-true N INFINITY e))
  by_test false e = at

-- ---- a level

-- each variable is bounded
pub level_bounded : (N : ℕ) (qs ps : List Indexical) (first : ℕ) → ((k : ℕ) → k < first → (N ≡ INFINITY → ⊥) → IsBounded N qs k) → (next : Level)
    → IsPermutation next.posted ((qs ++ ps) ++ new_bounds N first (length next.sets - first)) → HasBounds N next
level_bounded N qs ps first old next e k l other =
    some_permuted (λ q. q ≡ bound N k) ((qs ++ ps) ++ new_bounds N first (length next.sets - first)) next.posted (IsPermutation-sym next.posted _ e)
    (elim (cases_lt k first) [
      | inl low ↦ somewhere_left (λ q. q ≡ bound N k) (qs ++ ps) (new_bounds N first (length next.sets - first)) (somewhere_left (λ q. q ≡ bound N k) qs ps (old k low other))
      | inr high ↦ somewhere_right (λ q. q ≡ bound N k) (qs ++ ps) (new_bounds N first (length next.sets - first))
          (new_bounded N first (length next.sets - first) k high (omega (arith, l, high)) other)
    ])

-- its sets are the greatest model up to the bound
pub level_settled : (N : ℕ) → IsGreatest N → (l : Level) → HasBounds N l → ((k : ℕ) → has (constrained l.posted) k ≡ true → k < length l.sets) → IsSettled INFINITY l → IsSettled N l
level_settled N g l bounded named s = record {
  model = model_narrower INFINITY N l.posted (λ k c other. bounded k (named k c) other) g.1 _ s.model;
  most = λ R m. s.most R (model_wider INFINITY N l.posted g.1 R m);
}

-- Where ranges have no model, they have none in another order.
pub none_permuted : (N : ℕ) (ps qs : List Indexical) → IsPermutation ps qs → HasNoModel N ps → HasNoModel N qs
none_permuted N ps qs o none = λ T m. none T (model_permuted INFINITY N qs ps (IsPermutation-sym ps qs o) T m)

-- the same order is one
pub permuted_by : (ps qs : List Indexical) → ps ≡ qs → IsPermutation ps qs
permuted_by ps qs e = subst (IsPermutation ps) e (IsPermutation-refl ps)

-- the first of a list behind the others
pub turned_list : (n : ℕ) (is turned : List Instance) → turned ≡ drop n is ++ take n is → IsPermutation is turned
turned_list n is turned e =
    subst (IsPermutation is) (sym e) (subst (λ (l : List Instance). IsPermutation l (drop n is ++ take n is)) (take-append-drop n is)
    (IsPermutation-append_comm (take n is) (drop n is)))

-- Ranges of a list that are posted in another order.
pub turned_posted : (is turned : List Instance) → IsPermutation is turned → (qs now ps : List Indexical) → now ≡ qs ++ posted_by turned → qs ++ posted_by is ≡ ps
    → IsPermutation now ps
turned_posted is turned o qs now ps e f =
    subst (λ (l : List Indexical). IsPermutation l ps) (sym e) (subst (IsPermutation (qs ++ posted_by turned)) f
    (IsPermutation-append_right qs (posted_by turned) (posted_by is) (IsPermutation-map indexical turned is (IsPermutation-sym is turned o))))

pub none_before : (N : ℕ) → IsGreatest N → (qs : List Indexical) (first n : ℕ) → HasNoModel INFINITY (qs ++ new_bounds N first n) → HasNoModel N qs
none_before N g qs first n none = none_bounded INFINITY N qs (new_bounds N first n) g.1 (are_bounds N first n) none

pub bounded_more : (N : ℕ) (old : Level) (qs : List Indexical) (new : Level) → PostsBounds N old qs new → IsBoundedMore N qs new.posted
bounded_more N old qs new e = (new_bounds N (length old.sets) (length new.sets - length old.sets), are_bounds N (length old.sets) (length new.sets - length old.sets), e)

-- what has no model has none with more ranges
pub none_behind : (qs bs : List Indexical) → HasNoModel INFINITY qs → HasNoModel INFINITY (qs ++ bs)
none_behind qs bs none T m = none T (front INFINITY INFINITY qs bs T m)
