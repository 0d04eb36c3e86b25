-- What is posted for touches: the ranges, that they may be posted, and which variables they name.
use Rattle.std.proofs.Common.{◌≡◌, ℕ, ◌+◌, ◌<◌, ◌≤◌, true, false, ◌==◌, ◌&&◌, ◌||◌, ℤ, pos, List, [], ◌∷◌, ◌++◌, length, map, take, get_or, IsTrue, refl, ap}
use Rattle.std.proofs.Common.{sym, ◌∙◌, subst, inl, inr, arith, eqb-true}
use Rattle.std.specs.Prelude.{All}
use Rattle.std.specs.List.{list_all}
use Rattle.std.proofs.lemmas.Bool.{or_cases, true≢false, and_parts}
use Rattle.std.proofs.lemmas.Bool.Decides.{nat_tests}
use Rattle.std.proofs.lemmas.List.{append-nil, append_assoc, length-append, length-map, take_more, map-append}
use Rattle.std.proofs.lemmas.List.Elements.{All-cons, All-nil}
use Rattle.fd_language.specs.declared.TheConstants.{INFINITY}
use Rattle.fd_language.specs.declared.range_node.Need.TheVariants.{Whole, Natural}
use Rattle.fd_language.specs.Family.{Family, has, IsRising, IsSubset}
use Rattle.fd_language.specs.Needs.{meets}
use Rattle.fd_language.specs.Range.{Range, Indexical, Span, Dom, Number, set_of, reads}
use Rattle.fd_language.specs.Unifier.{Unifies}
use Rattle.fd_language.specs.RangeVerdict.{is_accepted}
use Rattle.fd_language.proofs.Lemmas.{has_either}
use Rattle.range_code.specs.declared.frame.Arg.{Arg}
use Rattle.range_code.specs.declared.frame.Arg.TheVariants as arg
use Rattle.range_code.specs.Frames.{IsArgumentFrame, posted}
use Rattle.range_code.proofs.Lemmas.{posted_below}
use Rattle.fd_model.specs.ClosedFamilies.{constrained}
use Rattle.fd_model.proofs.Lemmas.{posted_right, constrained_either, named_right}
use Rattle.heap_cells.proofs.Lemmas.{head_of, tail_of}
use Rattle.unify_core.specs.declared.Touch.{Touch}
use Rattle.unify_core.specs.declared.Touch.TheVariants.{Value, Same}
use Rattle.propagate_queue.specs.declared.instance.Instance.{Instance}
use Rattle.propagate_queue.specs.Instances.{posting, posting_of, posted_by, IsInstance}
use Rattle.propagate_queue.specs.Postings.{Posting, ranged, IsPosting}
use Rattle.branch_meaning.specs.Store.{posts, touched}
use Rattle.branch_meaning.proofs.Lemmas.{set_term, set_term_int, as_equations}
use Rattle.branch_lemmas.specs.Frames.{store_touches}
use Rattle.branch_state.specs.Codes.{exact_range}
use Rattle.branch_state.specs.StoreVariables.{goal_ranges}
use Rattle.branch_state.specs.Posting.{is_natural, touch_postings, postings}
use Rattle.branch_state.specs.States.{HasNoModel}
use Rattle.branch_state.specs.Steps.{IsTouchBelow, AreTouchesBelow}

cons_head : {X : Type 0} (x y : X) (xs ys : List X) → x ∷ xs ≡ y ∷ ys → x ≡ y
cons_head x y xs ys e = cc

cons_tail : {X : Type 0} (x y : X) (xs ys : List X) → x ∷ xs ≡ y ∷ ys → xs ≡ ys
cons_tail x y xs ys e = cc

-- the ranges of the touches
ranges_are : (ts : List Touch) → map ranged (postings ts) ≡ posts (store_touches ts)
ranges_are [] = refl
ranges_are (Value k z ∷ ts) = ap (λ (l : List Indexical). record { target = k; range = Span (Number z) (Number z) } ∷ l) (ranges_are ts)
ranges_are (Same k j ∷ ts) = ap (λ (l : List Indexical). record { target = k; range = Dom j } ∷ record { target = j; range = Dom k } ∷ l) (ranges_are ts)

pub map_twice : (is : List Instance) → posted_by is ≡ map ranged (map posting is)
map_twice [] = refl
map_twice (i ∷ is) = ap (λ l. ranged (posting i) ∷ l) (map_twice is)

pub posted_is : (is : List Instance) (ts : List Touch) → map posting is ≡ postings ts → posted_by is ≡ posts (store_touches ts)
posted_is is ts e = map_twice is ∙ ap (map ranged) e ∙ ranges_are ts

-- they may be posted
abbrev pub EachPosting : ℕ → List Posting → Type 0
EachPosting count [] = Unit {0}
EachPosting count (p ∷ ps) = IsPosting count p × EachPosting count ps

pub all_instances : (count : ℕ) (is : List Instance) (ps : List Posting) → map posting is ≡ ps → EachPosting count ps → All (IsInstance count) is
all_instances count [] ps e a = All-nil (IsInstance count)
all_instances count (i ∷ is) [] e a = absurd (cc)
all_instances count (i ∷ is) (p ∷ ps) e a = All-cons (IsInstance count) i is (subst (IsPosting count) (sym (cons_head (posting i) p (map posting is) ps e)) a.0)
    (all_instances count is ps (cons_tail (posting i) p (map posting is) ps e) a.1)

pub natural_whole : (z : ℤ) → meets Natural z ≡ true → IsTrue (meets Whole z)
natural_whole z e = (and_parts _ _ e).0

each_fits : (count : ℕ) (ts : List Touch) → AreTouchesBelow count ts → list_all is_natural ts ≡ true → EachPosting count (postings ts)
each_fits count [] low natural = tt
each_fits count (Value k z ∷ ts) low natural =
    let both = and_parts (is_natural (Value k z)) (list_all is_natural ts) natural in
    ((head_of (IsTouchBelow count) (Value k z) ts low, (natural_whole z both.0, tt)), each_fits count ts (tail_of (IsTouchBelow count) (Value k z) ts low) both.1)
each_fits count (Same k j ∷ ts) low natural =
    let here = head_of (IsTouchBelow count) (Same k j) ts low in
    ((here.0, (here.1, tt)), ((here.1, (here.0, tt)), each_fits count ts (tail_of (IsTouchBelow count) (Same k j) ts low) (and_parts true (list_all is_natural ts) natural).1))

pub touches_fit : (count : ℕ) (is : List Instance) (ts : List Touch) → map posting is ≡ postings ts → AreTouchesBelow count ts → list_all is_natural ts ≡ true → All (IsInstance count) is
touches_fit count is ts e low natural = all_instances count is (postings ts) e (each_fits count ts low natural)

-- a list of one
pub one_touch : (ts : List Touch) (t : Touch) → 1 ≤ length ts → length ts < 2 → get_or ts 0 t ≡ t → ts ≡ t ∷ []
one_touch [] t a b e = absurd (omega (arith, a))
one_touch (u ∷ []) t a b e = ap (λ (v : Touch). v ∷ []) e
one_touch (u ∷ w ∷ ws) t a b e = absurd (omega (arith, b))

-- one integer of a variable, by its range alone
pub value_posted : (r : Range) → r ≡ exact_range → (ts : List Touch) (k : ℕ) (z : ℤ) → ts ≡ Value k z ∷ [] → ranged (posting_of r k (arg.Int z ∷ [])) ∷ [] ≡ posts (store_touches ts)
value_posted r e ts k z f =
    ap (λ (q : Range). ranged (posting_of q k (arg.Int z ∷ [])) ∷ []) e ∙ ranges_are (Value k z ∷ []) ∙ sym (ap (λ (l : List Touch). posts (store_touches l)) f)

-- and name the touches' variables
pub touch_names : (count : ℕ) (ts : List Touch) → AreTouchesBelow count ts → (k : ℕ) → has (constrained (posts (store_touches ts))) k ≡ true → k < count
touch_names count [] low k e = absurd (true≢false (sym e))
touch_names count (Value j z ∷ ts) low k e = elim (or_cases (j == k) (has (constrained (posts (store_touches ts))) k) e) [
  | inl i ↦ subst (λ m. m < count) (eqb-true j k i) (head_of (IsTouchBelow count) (Value j z) ts low)
  | inr i ↦ touch_names count ts (tail_of (IsTouchBelow count) (Value j z) ts low) k i
]
touch_names count (Same i j ∷ ts) low k e =
    let here = head_of (IsTouchBelow count) (Same i j) ts low in
    let later = has (constrained (posts (store_touches ts))) k in
    elim (or_cases (i == k) ((j == k) || ((j == k) || ((i == k) || later))) e) [
      | inl d ↦ subst (λ m. m < count) (eqb-true i k d) here.0
      | inr d ↦ elim (or_cases (j == k) ((j == k) || ((i == k) || later)) d) [
        | inl f ↦ subst (λ m. m < count) (eqb-true j k f) here.1
        | inr f ↦ elim (or_cases (j == k) ((i == k) || later) f) [
          | inl g ↦ subst (λ m. m < count) (eqb-true j k g) here.1
          | inr g ↦ elim (or_cases (i == k) later g) [
            | inl m ↦ subst (λ m. m < count) (eqb-true i k m) here.0
            | inr m ↦ touch_names count ts (tail_of (IsTouchBelow count) (Same i j) ts low) k m
          ]
        ]
      ]
    ]

pub posted_low : (count : ℕ) (qs : List Indexical) (ts : List Touch) → ((k : ℕ) → has (constrained qs) k ≡ true → k < count) → AreTouchesBelow count ts
    → (k : ℕ) → has (constrained (qs ++ posts (store_touches ts))) k ≡ true → k < count
posted_low count qs ts known low k e = elim (constrained_either qs (posts (store_touches ts)) k e) [ inl a ↦ known k a | inr a ↦ touch_names count ts low k a ]

-- no family of numbers is a model with another integer
small : (low M w : ℕ) → IsRising low M (w ∷ []) → w ≤ M
small low M w r = r.1

pub natural_number : (n : ℕ) → n ≤ INFINITY → meets Natural (pos n) ≡ true
natural_number n l = grind (arith, nat_tests)

some_outside : (T : Family) → ((k : ℕ) → IsRising 0 INFINITY (T k)) → (ts : List Touch) → list_all is_natural ts ≡ false → Unifies (λ k. set_term (T k)) (touched (store_touches ts)) → ⊥
some_outside T rising [] e u = true≢false e
some_outside T rising (Value k z ∷ ts) e u =
    let one = set_term_int (T k) z u.0 in
    let fits : meets Natural z ≡ true = subst (λ i. meets Natural i ≡ true) one.2 (natural_number one.0 (small 0 INFINITY one.0 (subst (IsRising 0 INFINITY) one.1 (rising k)))) in
    some_outside T rising ts (sym (ap (λ b. b && list_all is_natural ts) fits) ∙ e) u.1
some_outside T rising (Same k j ∷ ts) e u = some_outside T rising ts e u.1

pub outside_none : (qs : List Indexical) (ts : List Touch) → list_all is_natural ts ≡ false → HasNoModel INFINITY (qs ++ posts (store_touches ts))
outside_none qs ts e T m =
    some_outside T m.closed.family.rising ts e
    (as_equations INFINITY T m.closed.family (store_touches ts) (λ k c. m.full k (named_right qs (posts (store_touches ts)) k c))
    (posted_right (λ p. IsSubset (T p.target) (set_of INFINITY T p.range)) qs (posts (store_touches ts)) m.closed.posted))

-- one touch more
postings_more : (ts : List Touch) (t : Touch) → postings (ts ++ t ∷ []) ≡ postings ts ++ touch_postings t
postings_more [] t = append-nil (touch_postings t)
postings_more (u ∷ ts) t = ap (λ l. touch_postings u ++ l) (postings_more ts t) ∙ sym (append_assoc (touch_postings u) (postings ts) (touch_postings t))

pub postings_next : (ts : List Touch) (i : ℕ) (d : Touch) → i < length ts → postings (take i ts) ++ touch_postings (get_or ts i d) ≡ postings (take (i + 1) ts)
postings_next ts i d l = sym (ap postings (take_more ts i d l) ∙ postings_more (take i ts) (get_or ts i d))

pub postings_step : (first is new : List Instance) (ts : List Touch) (i : ℕ) (d : Touch) → i < length ts
    → map posting is ≡ map posting first ++ postings (take i ts) → map posting new ≡ map posting is ++ touch_postings (get_or ts i d)
    → map posting new ≡ map posting first ++ postings (take (i + 1) ts)
postings_step first is new ts i d l e f =
    f ∙ ap (λ (ps : List Posting). ps ++ touch_postings (get_or ts i d)) e
    ∙ append_assoc (map posting first) (postings (take i ts)) (touch_postings (get_or ts i d))
    ∙ ap (λ (ps : List Posting). map posting first ++ ps) (postings_next ts i d l)

-- a list with more behind it
pub listed_more : (is list : List Instance) (ps : List Posting) → map posting is ≡ map posting list ++ ps → length list ≤ length is
listed_more is list ps e = omega (arith, ap length e, length-map is posting, length-map list posting, length-append (map posting list) ps)

-- ---- a goal's range before the touches

-- is one
pub goal_listed : (is : List Instance) (p : Posting) (ts : List Touch) → map posting is ≡ p ∷ postings ts → 1 ≤ length is
goal_listed is p ts e = omega (arith, ap length e, length-map is posting)

-- the ranges
pub goal_posted : (is : List Instance) (r : Range) (v : ℕ) (as' : List Arg) (ts : List Touch)
    → map posting is ≡ record { range = r; target = v; args = as' } ∷ postings ts → posted_by is ≡ goal_ranges r v as' ts
goal_posted is r v as' ts e = map_twice is ∙ ap (map ranged) e ∙ ap (λ (l : List Indexical). record { target = v; range = posted r as' } ∷ l) (ranges_are ts)

pub goal_fits : (count : ℕ) (is : List Instance) (r : Range) (v : ℕ) (as' : List Arg) (ts : List Touch)
    → map posting is ≡ record { range = r; target = v; args = as' } ∷ postings ts → v < count → IsArgumentFrame count r as' → AreTouchesBelow count ts
    → list_all is_natural ts ≡ true → All (IsInstance count) is
goal_fits count is r v as' ts e low frame touches natural = all_instances count is (record { range = r; target = v; args = as' } ∷ postings ts) e ((low, frame), each_fits count ts touches natural)

pub goal_outside : (qs : List Indexical) (r : Range) (v : ℕ) (as' : List Arg) (ts : List Touch) → list_all is_natural ts ≡ false → HasNoModel INFINITY (qs ++ goal_ranges r v as' ts)
goal_outside qs r v as' ts e = subst (HasNoModel INFINITY) (append_assoc qs (record { target = v; range = posted r as' } ∷ []) (posts (store_touches ts)))
    (outside_none (qs ++ record { target = v; range = posted r as' } ∷ []) ts e)

-- and what they name
pub goal_low : (count : ℕ) (qs : List Indexical) (r : Range) (v : ℕ) (as' : List Arg) (ts : List Touch) → ((k : ℕ) → has (constrained qs) k ≡ true → k < count)
    → v < count → is_accepted INFINITY r ≡ true → IsArgumentFrame count r as' → AreTouchesBelow count ts → (k : ℕ)
    → has (constrained (qs ++ goal_ranges r v as' ts)) k ≡ true → k < count
goal_low count qs r v as' ts known low accepted frame touches k e = elim (constrained_either qs (goal_ranges r v as' ts) k e) [
  | inl a ↦ known k a
  | inr a ↦ elim (or_cases (v == k) (has (reads (posted r as') ++ constrained (posts (store_touches ts))) k) a) [
    | inl b ↦ subst (λ m. m < count) (eqb-true v k b) low
    | inr b ↦ elim (has_either (reads (posted r as')) (constrained (posts (store_touches ts))) k b) [
      | inl d ↦ posted_below count r as' accepted frame k d
      | inr d ↦ touch_names count ts touches k d
    ]
  ]
]

-- ---- a constraint's ranges before the touches

-- the ranges
pub rows_posted : (is list : List Instance) (ts : List Touch) → map posting is ≡ map posting list ++ postings ts → posted_by is ≡ posted_by list ++ posts (store_touches ts)
rows_posted is list ts e = map_twice is ∙ ap (map ranged) e ∙ map-append ranged (map posting list) (postings ts)
    ∙ ap (λ l. l ++ map ranged (postings ts)) (sym (map_twice list)) ∙ ap (λ l. posted_by list ++ l) (ranges_are ts)

pub each_both : (count : ℕ) (ps qs : List Posting) → EachPosting count ps → EachPosting count qs → EachPosting count (ps ++ qs)
each_both count [] qs a b = b
each_both count (p ∷ ps) qs a b = (a.0, each_both count ps qs a.1 b)

pub each_listed : (count : ℕ) (is : List Instance) → All (IsInstance count) is → EachPosting count (map posting is)
each_listed count [] a = tt
each_listed count (i ∷ is) a = (head_of (IsInstance count) i is a, each_listed count is (tail_of (IsInstance count) i is a))

pub rows_fit : (count : ℕ) (is list : List Instance) (ts : List Touch) → map posting is ≡ map posting list ++ postings ts → All (IsInstance count) list
    → AreTouchesBelow count ts → list_all is_natural ts ≡ true → All (IsInstance count) is
rows_fit count is list ts e fit touches natural = all_instances count is (map posting list ++ postings ts) e
    (each_both count (map posting list) (postings ts) (each_listed count list fit) (each_fits count ts touches natural))
