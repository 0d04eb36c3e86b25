-- A constraint's row that is linked and listed: what becomes of the heap, and what is posted.
use Rattle.std.proofs.Common.{◌≡◌, ℕ, suc, ◌+◌, ◌-◌, ◌<◌, ◌≤◌, true, false, cond, nat_lt, ◌==◌, ℤ, List, [], ◌∷◌, ◌++◌, length, map, append_assoc, Option, Some}
use Rattle.std.proofs.Common.{None, refl, ap, sym, ◌∙◌, subst, inl, inr, arith, eq-eqb, eqb-true}
use Rattle.std.specs.Prelude.{All}
use Rattle.std.specs.List.Sorted.{IsPermutation}
use Rattle.std.proofs.lemmas.Bool.{cases_Bool, or_cases, or_left, or_right, true≢false}
use Rattle.std.proofs.lemmas.Bool.Decides.{nat_tests}
use Rattle.std.proofs.lemmas.List.Elements.{All-nil, All-cons}
use Rattle.fd_language.specs.declared.TheConstants.{INFINITY}
use Rattle.fd_language.specs.declared.range_node.Need.{Need}
use Rattle.fd_language.specs.Family.{has}
use Rattle.fd_language.specs.Lists.{Each}
use Rattle.fd_language.specs.Needs.{need_of}
use Rattle.fd_language.specs.Occurrences.{Occurrence, range_occurrences}
use Rattle.fd_language.specs.Range.{Range, Indexical, reads, params}
use Rattle.fd_language.specs.RangeRenaming.{rename_range, rename_indexical}
use Rattle.fd_language.specs.Term.{Var, apply}
use Rattle.fd_language.proofs.Lemmas.{filled_as_is, has_either, in_left, in_right, two, map_has, reads_map, none_parameter, free_occurrences_read}
use Rattle.fd_model.specs.ClosedFamilies.{constrained, AllPosted}
use Rattle.fd_model.specs.ConstraintLaws.{AllFresh}
use Rattle.fd_model.specs.ConstraintExpansion.{equations}
use Rattle.fd_model.specs.Levels.{Level}
use Rattle.fd_model.specs.LinearRows.{Expansion}
use Rattle.fd_model.specs.Posting.{integer_of}
use Rattle.fd_model.proofs.Lemmas.{constrained_either}
use Rattle.heap_cells.specs.declared.Cell.{Cell}
use Rattle.heap_cells.specs.Atoms.{HasAtomsBelow}
use Rattle.heap_cells.specs.Cells.{Cells, IsOf, is_bound}
use Rattle.heap_cells.specs.Terms.{Naming, term_of}
use Rattle.heap_cells.specs.HeapInvariant.{IsHeap}
use Rattle.heap_cells.proofs.Lemmas.{of_wider}
use Rattle.branch_meaning.specs.Rows.{AreJoined}
use Rattle.branch_meaning.specs.Store as store
use Rattle.branch_meaning.specs.Store.{IsUnified, posts}
use Rattle.branch_meaning.proofs.Lemmas.{bindings, without, number_touches, AreConsecutive, each_found, numbered, functions}
use Rattle.branch_lemmas.specs.VariableBounds.{IsBounded}
use Rattle.branch_lemmas.specs.Frames.{link_of, link_in, store_touches, IsGrown}
use Rattle.branch_lemmas.specs.Posting.{IsRowLinked}
use Rattle.branch_lemmas.proofs.Lemmas.{slot_behind, named_permuted}
use Rattle.range_code.specs.declared.frame.Arg.TheVariants as arg
use Rattle.range_code.specs.Frames.{AreArgs, IsArg, posted}
use Rattle.range_code.specs.Slots.{slots_of, need_at}
use Rattle.range_code.proofs.Lemmas.{has_once}
use Rattle.propagate_queue.specs.declared.instance.Instance.{Instance}
use Rattle.propagate_queue.specs.Instances.{posting, posted_by, IsInstance}
use Rattle.propagate_queue.specs.Postings.{ranged}
use Rattle.unify_core.specs.declared.Touch.{Touch}
use Rattle.unify_core.specs.declared.Touch.TheVariants.{Value}
use Rattle.branch_state.specs.Constraints.{variables_in, store_variable, row_posting, row_touches, with_variables, AreFrom, AreOpen, AreLinked, firsts}
use Rattle.branch_state.specs.Constraints.{IsUnbound, AreUnbound, IsRowOf}
use Rattle.branch_state.specs.LinkedRows.{IsRowReady}
use Rattle.branch_state.specs.StoreVariables.{or_zero, IsNaming, StandsIn, AllStand, OwnLinks}
use Rattle.branch_state.specs.VariableBounds.{new_bounds}
use Rattle.branch_state.specs.States.{HasBounds, IsGreatest, IsPair, IsSettled}
use Rattle.branch_state.specs.Steps.{IsTouchBelow, AreTouchesBelow}
use Rattle.branch_state.proofs.Arguments.{posted_is}
use Rattle.branch_state.proofs.VariableBounds.{level_bounded, level_settled, new_low}
use Rattle.branch_state.proofs.JoinedRanges.{all_joined}
use Rattle.branch_state.proofs.ConstraintHeaps.{added_valid, added_grown, added_size, added_parts, added_atoms, bound_size, bound_parts, bound_valid}
use Rattle.branch_state.proofs.ConstraintHeaps.{bound_terms, bound_links, bound_atoms, unbound_by, unbound_kept}
use Rattle.branch_state.proofs.ConstraintSteps.{linked_slot}
use Rattle.branch_state.proofs.PostingLists.{same_ranged, same_instances}
use Rattle.branch_state.proofs.Occurrences.{AreSettled}
use Rattle.branch_state.proofs.Touches.{map_twice, EachPosting, touch_names}

-- ---- ranges without parameters

-- the slots are what is read
slots_read : (r : Range) → params r ≡ [] → (x : ℕ) → has (slots_of r) x ≡ has (reads r) x
slots_read r e x = has_once (map (λ (p : Occurrence). p.variable) (range_occurrences r)) x ∙ ap (λ xs. has xs x) (free_occurrences_read r (none_parameter r e))

needs_none : (r : Range) → params r ≡ [] → (x : ℕ) → need_at r x ≡ None
needs_none r e x = ap (λ ys. cond (has ys x) (Some (need_of r x)) None) e

-- the arguments stand
stand_plain : (of : ℕ → ℕ) (need : ℕ → Option Need) → ((x : ℕ) → need x ≡ None) → (ys : List ℕ) → AllStand Var of ys (map need ys) (map (λ y. arg.Var (of y)) ys)
stand_plain of need none [] = tt
stand_plain of need none (y ∷ ys) = (subst (λ n. StandsIn Var of y n (arg.Var (of y))) (sym (none y)) refl, stand_plain of need none ys)

settled_plain : (xs : List ℕ) → xs ≡ [] → (ps : List Occurrence) → Each (λ p. p.parameter ≡ false) ps → AreSettled xs ps
settled_plain xs e [] h = tt
settled_plain xs e (p ∷ ps) h = (h.0 ∙ sym (ap (λ ys. has ys p.variable) e), settled_plain xs e ps h.1)

posted_plain : (of : ℕ → ℕ) (r : Range) → params r ≡ [] → posted r (map (λ y. arg.Var (of y)) (slots_of r)) ≡ rename_range of r
posted_plain of r e =
    posted_is Var of r (map (λ y. arg.Var (of y)) (slots_of r)) (stand_plain of (need_at r) (needs_none r e) (slots_of r)) (settled_plain (params r) e (range_occurrences r) (none_parameter r e))
    ∙ ap (rename_range of) (filled_as_is (λ y. integer_of (Var y)) r e)

args_plain : (count : ℕ) (of : ℕ → ℕ) (need : ℕ → Option Need) → ((x : ℕ) → need x ≡ None) → (ys : List ℕ) → ((y : ℕ) → has ys y ≡ true → of y < count)
    → AreArgs count (map need ys) (map (λ y. arg.Var (of y)) ys)
args_plain count of need none [] low = tt
args_plain count of need none (y ∷ ys) low = (
  subst (λ n. IsArg count n (arg.Var (of y))) (sym (none y)) (low y (or_left (y == y) (has ys y) (eq-eqb y y refl))),
  args_plain count of need none ys (λ z e. low z (or_right (y == z) (has ys z) e)),
)

abbrev ArePlain : List Indexical → Type 0
ArePlain ps = AllPosted (λ p. params p.range ≡ []) ps

named_in : (ps : List Indexical) → ArePlain ps → (x : ℕ) → has (constrained ps) x ≡ true → has (variables_in ps) x ≡ true
named_in [] a x e = e
named_in (p ∷ ps) a x e = elim (or_cases (p.target == x) (has (reads p.range ++ constrained ps) x) e) [
  | inl i ↦ or_left (p.target == x) (has (slots_of p.range ++ variables_in ps) x) i
  | inr i ↦ or_right (p.target == x) (has (slots_of p.range ++ variables_in ps) x) (elim (has_either (reads p.range) (constrained ps) x i) [
    | inl j ↦ in_left (slots_of p.range) (variables_in ps) x (slots_read p.range a.0 x ∙ j)
    | inr j ↦ in_right (slots_of p.range) (variables_in ps) x (named_in ps a.1 x j)
  ])
]

named_out : (ps : List Indexical) → ArePlain ps → (x : ℕ) → has (variables_in ps) x ≡ true → has (constrained ps) x ≡ true
named_out [] a x e = e
named_out (p ∷ ps) a x e = elim (or_cases (p.target == x) (has (slots_of p.range ++ variables_in ps) x) e) [
  | inl i ↦ or_left (p.target == x) (has (reads p.range ++ constrained ps) x) i
  | inr i ↦ or_right (p.target == x) (has (reads p.range ++ constrained ps) x) (elim (has_either (slots_of p.range) (variables_in ps) x i) [
    | inl j ↦ in_left (reads p.range) (constrained ps) x (sym (slots_read p.range a.0 x) ∙ j)
    | inr j ↦ in_right (reads p.range) (constrained ps) x (named_out ps a.1 x j)
  ])
]

-- what is posted
ranged_plain : (of : ℕ → ℕ) (ps : List Indexical) → ArePlain ps → map ranged (map (row_posting of) ps) ≡ map (rename_indexical of) ps
ranged_plain of [] a = refl
ranged_plain of (p ∷ ps) a = two (λ (q : Indexical) (qs : List Indexical). q ∷ qs)
    (ap (λ (r : Range). record { target = of p.target; range = r }) (posted_plain of p.range a.0)) (ranged_plain of ps a.1)

each_fits : (count : ℕ) (of : ℕ → ℕ) (ps : List Indexical) → ArePlain ps → ((x : ℕ) → has (variables_in ps) x ≡ true → of x < count) → EachPosting count (map (row_posting of) ps)
each_fits count of [] a low = tt
each_fits count of (p ∷ ps) a low = (
  (
    low p.target (or_left (p.target == p.target) (has (slots_of p.range ++ variables_in ps) p.target) (eq-eqb p.target p.target refl)),
    args_plain count of (need_at p.range) (needs_none p.range a.0) (slots_of p.range)
        (λ y e. low y (or_right (p.target == y) (has (slots_of p.range ++ variables_in ps) y) (in_left (slots_of p.range) (variables_in ps) y e))),
  ),
  each_fits count of ps a.1 (λ x e. low x (or_right (p.target == x) (has (slots_of p.range ++ variables_in ps) x) (in_right (slots_of p.range) (variables_in ps) x e))),
)

renamed_from : (of : ℕ → ℕ) (ps : List Indexical) (k : ℕ) → has (constrained (map (rename_indexical of) ps)) k ≡ true → (x : ℕ) × (has (constrained ps) x ≡ true) × (of x ≡ k)
renamed_from of [] k e = absurd (true≢false (sym e))
renamed_from of (p ∷ ps) k e = elim (or_cases (of p.target == k) (has (reads (rename_range of p.range) ++ constrained (map (rename_indexical of) ps)) k) e) [
  | inl i ↦ (p.target, or_left (p.target == p.target) (has (reads p.range ++ constrained ps) p.target) (eq-eqb p.target p.target refl), eqb-true (of p.target) k i)
  | inr i ↦ elim (has_either (reads (rename_range of p.range)) (constrained (map (rename_indexical of) ps)) k i) [
    | inl j ↦
        let d = map_has of (reads p.range) k (subst (λ l. has l k ≡ true) (reads_map of p.range) j) in
        (d.0, or_right (p.target == d.0) (has (reads p.range ++ constrained ps) d.0) (in_left (reads p.range) (constrained ps) d.0 d.1), d.2)
    | inr j ↦
        let d = renamed_from of ps k j in
        (d.0, or_right (p.target == d.0) (has (reads p.range ++ constrained ps) d.0) (in_right (reads p.range) (constrained ps) d.0 d.1), d.2)
  ]
]

-- ---- equated variables

fresh_at : (a n m : ℕ) (ps : List Indexical) (ds : List (ℕ × ℤ)) → AreFrom n ds → AllFresh a m ps ds → (x : ℕ) → n ≤ x → x < n + length ds → (x < m) × (has (constrained ps) x ≡ true)
fresh_at a n m ps [] f g x l u = absurd (omega (arith, l, u))
fresh_at a n m ps (d ∷ ds) f g x l u = elim (cases_Bool (d.0 == x)) [
  | inl i ↦ (let e = eqb-true d.0 x i in subst (λ y. (y < m) × (has (constrained ps) y ≡ true)) e (g.0.1, g.0.2))
  | inr i ↦ fresh_at a (suc n) m ps ds f.1 g.1 x (other i) (omega (arith, u))
] where
  above : (n x : ℕ) → n ≤ x → (n ≡ x → ⊥) → suc n ≤ x
  above n x l k = elim (cases_Bool (nat_lt n x)) [
    | inl t ↦ (let i : n < x = grind (arith, nat_tests) in omega (arith, i))
    | inr t ↦ absurd (let i : x ≤ n = grind (arith, nat_tests) in k (omega (arith, l, i)))
  ]

  other : (d.0 == x) ≡ false → suc n ≤ x
  other i = above n x l (λ h. true≢false (sym (eq-eqb d.0 x (f.0 ∙ h)) ∙ i))

consecutive : (n : ℕ) (ds : List (ℕ × ℤ)) → AreFrom n ds → AreConsecutive n ds
consecutive n [] f = tt
consecutive n (d ∷ ds) f = (f.0, consecutive (suc n) ds f.1)

each_linked : (a m : ℕ) (ps : List Indexical) (link : ℕ → Option ℕ) (g : ℕ → ℕ) → ((x : ℕ) → has (constrained ps) x ≡ true → link x ≡ Some (g x))
    → (ds : List (ℕ × ℤ)) → AllFresh a m ps ds → Each (λ d. link d.0 ≡ Some (g d.0)) ds
each_linked a m ps link g named [] f = tt
each_linked a m ps link g named (d ∷ ds) f = (named d.0 f.0.2, each_linked a m ps link g named ds f.1)

touches_same : (of : ℕ → ℕ) (ds : List (ℕ × ℤ)) → store_touches (row_touches of ds) ≡ number_touches of ds
touches_same of [] = refl
touches_same of (d ∷ ds) = ap (λ (ts : List store.Touch). store.Value (of d.0) d.1 ∷ ts) (touches_same of ds)

touches_below : (count a m : ℕ) (ps : List Indexical) (of : ℕ → ℕ) → ((x : ℕ) → has (constrained ps) x ≡ true → of x < count) → (ds : List (ℕ × ℤ))
    → AllFresh a m ps ds → AreTouchesBelow count (row_touches of ds)
touches_below count a m ps of low [] f = All-nil (IsTouchBelow count)
touches_below count a m ps of low (d ∷ ds) f = All-cons (IsTouchBelow count) (Value (of d.0) d.1) (row_touches of ds) (low d.0 f.0.2) (touches_below count a m ps of low ds f.1)

-- ---- what the steps ask for

module _ (h : Cells) (sets : List (List ℕ)) (o : OwnLinks (length sets) h) (y : Expansion) (row : IsRowOf h y) where
  abbrev wider : Cells
  wider = with_variables (y.fresh - length h.slots) h

  wider_size : length wider.slots ≡ y.fresh
  wider_size = added_size h (y.fresh - length h.slots) ∙ (let l = row.grows in let e : length h.slots + (y.fresh - length h.slots) ≡ y.fresh = omega (arith, l) in e)

  wider_grown : IsGrown h wider
  wider_grown = added_grown h o.valid (y.fresh - length h.slots)

  one_unbound : (x : ℕ) → has (variables_in y.ranges) x ≡ true → IsUnbound wider x
  one_unbound x e = elim (row.named x (named_out y.ranges row.plain x e)) [
    | inl u ↦ unbound_kept h wider wider_grown.longer wider_grown.terms x u
    | inr f ↦ unbound_by wider (added_valid h o.valid (y.fresh - length h.slots)) x (let l = f.1 in let e = wider_size in omega (arith, l, e)) (ap is_bound (wider_grown.slots x ∙ slot_behind h x f.0))
  ]

  -- the variables aren't bound, where the heap has its new ones
  pub all_unbound : (g : Cells) → g ≡ wider → (xs : List ℕ) → xs ≡ variables_in y.ranges → AreUnbound g xs
  all_unbound g e xs f x i = subst (λ (c : Cells). IsUnbound c x) (sym e) (one_unbound x (subst (λ l. has l x ≡ true) f i))

  pub wider_links : (g : Cells) → g ≡ wider → OwnLinks (length sets) g
  wider_links g e = subst (OwnLinks (length sets)) (sym e) (record {
    valid = added_valid h o.valid (y.fresh - length h.slots);
    below = λ c k i. o.below c k (before c k i);
    one = λ c d k i j. o.one c d k (before c k i) (before d k j);
  }) where
    before : (c k : ℕ) → link_in wider c ≡ Some k → link_in h c ≡ Some k
    before c k i = sym (ap link_of (wider_grown.slots c)) ∙ i

  module _ (middle : Cells) (S : List (List ℕ)) (w : IsNaming Var wider sets (variables_in y.ranges) middle S [] []) where
    pub rows_linked : AreLinked middle (variables_in y.ranges)
    rows_linked x e = w.named x x e refl

    first_named : (a m : ℕ) (ps : List Indexical) (ds : List (ℕ × ℤ)) → AllFresh a m ps ds → (x : ℕ) → has (firsts ds) x ≡ true → has (constrained ps) x ≡ true
    first_named a m ps [] f x e = absurd (true≢false (sym e))
    first_named a m ps (d ∷ ds) f x e = elim (or_cases (d.0 == x) (has (firsts ds) x) e)
        [ inl i ↦ subst (λ z. has (constrained ps) z ≡ true) (eqb-true d.0 x i) f.0.2 | inr i ↦ first_named a m ps ds f.1 x i ]

    pub equated_linked : AreLinked middle (firsts y.equated)
    equated_linked x e = rows_linked x (named_in y.ranges row.plain x (first_named (length h.slots) y.fresh y.ranges y.equated row.fresh x e))

    pub equated_open : AreOpen (length h.slots) y.equated middle
    equated_open x l u =
        let f = fresh_at (length h.slots) (length h.slots) y.fresh y.ranges y.equated row.equated row.fresh x l u in
        let k = rows_linked x (named_in y.ranges row.plain x f.1) in
        ((let a = f.0 in let b = w.links.size in let d = wider_size in omega (arith, a, b, d)), ap is_bound (linked_slot middle x k.0 k.1))

-- ---- all together

module _ (h : Cells) (sets : List (List ℕ)) (o : OwnLinks (length sets) h) (qs : List Indexical) (known : (k : ℕ) → has (constrained qs) k ≡ true
    → k < length sets) (y : Expansion) (row : IsRowOf h y) (now : Cells) (S : List (List ℕ)) (list : List Instance) (fixed : List Touch)
    (r : IsRowReady h sets y now S list fixed) where
  abbrev H : ℕ
  H = length h.slots

  abbrev grown_heap : Cells
  grown_heap = with_variables (y.fresh - H) h

  abbrev of : ℕ → ℕ
  of = store_variable r.middle

  abbrev w : IsNaming Var grown_heap sets (variables_in y.ranges) r.middle S [] []
  w = r.naming

  grown : IsGrown h grown_heap
  grown = added_grown h o.valid (y.fresh - H)

  grown_size : length grown_heap.slots ≡ y.fresh
  grown_size = added_size h (y.fresh - H) ∙ (let l = row.grows in let e : H + (y.fresh - H) ≡ y.fresh = omega (arith, l) in e)

  middle_size : length r.middle.slots ≡ y.fresh
  middle_size = w.links.size ∙ grown_size

  -- each named variable is linked, and to its own
  is_linked : (x : ℕ) → has (constrained y.ranges) x ≡ true → link_in r.middle x ≡ Some (of x)
  is_linked x e = let k = w.named x x (named_in y.ranges row.plain x e) refl in k.1 ∙ ap Some (sym (ap or_zero k.1))

  of_low : (x : ℕ) → has (constrained y.ranges) x ≡ true → of x < length S
  of_low x e = w.below x (of x) (is_linked x e)

  opens : AreOpen H y.equated r.middle
  opens x l u =
      let f = fresh_at H H y.fresh y.ranges y.equated row.equated row.fresh x l u in
      (subst (λ n. x < n) (sym middle_size) f.0, ap is_bound (linked_slot r.middle x (of x) (is_linked x f.1)))

  same_link : (c : ℕ) → link_in grown_heap c ≡ link_in h c
  same_link c = ap link_of (grown.slots c)

  unnamed : (k : ℕ) → length sets ≤ k → has (constrained qs) k ≡ false
  unnamed k l = elim (cases_Bool (has (constrained qs) k)) [ inl e ↦ absurd (let a = known k e in omega (arith, a, l)) | inr e ↦ e ]

  joined : AreJoined (link_in h) qs y.ranges (link_in r.middle) (qs ++ map (rename_indexical of) y.ranges)
  joined = all_joined (link_in h) (link_in r.middle) of (λ c k e. w.links.keep c k (same_link c ∙ e)) w.links.one qs y.ranges is_linked
      (λ c k e. elim (w.links.new c k e) [
        | inl a ↦ inl (sym (same_link c) ∙ a)
        | inr a ↦
            let t = w.listed c k a in
            inr (subst (λ x. has (constrained y.ranges) x ≡ true) (same_var t.0 c t.2) (named_out y.ranges row.plain t.0 t.1), unnamed k t.3)
      ])
    where
      same_var : (x c : ℕ) → Var x ≡ Var c → x ≡ c
      same_var x c e = cc

  links_are : (c : ℕ) → link_in now c ≡ without y.equated (link_in r.middle) c
  links_are c = ap (λ (g : Cells). link_in g c) r.bound_now ∙ bound_links H y.equated r.middle row.equated opens c

  unified : IsUnified y.fresh (link_in r.middle) (equations y.equated) (bindings y.equated) (link_in now) (number_touches of y.equated)
  unified =
      subst (λ l. IsUnified y.fresh (link_in r.middle) (equations y.equated) (bindings y.equated) l (number_touches of y.equated)) (sym (functions links_are))
      (numbered (link_in r.middle) y.fresh of y.equated (each_found H y.equated (consecutive H y.equated row.equated))
      (each_linked H y.fresh y.ranges (link_in r.middle) of is_linked y.equated row.fresh))

  now_size : length now.slots ≡ y.fresh
  now_size = ap (λ (g : Cells). length g.slots) r.bound_now ∙ bound_size y.equated r.middle ∙ middle_size

  now_parts : length now.compounds ≡ length h.compounds
  now_parts = ap (λ (g : Cells). length g.compounds) r.bound_now ∙ ap length (bound_parts y.equated r.middle ∙ w.links.parts ∙ added_parts h (y.fresh - H))

  terms_are : (name : Naming) (c : Cell) → IsOf h c → term_of name now c ≡ apply (bindings y.equated) (term_of name h c)
  terms_are name c own =
      ap (λ (g : Cells). term_of name g c) r.bound_now ∙ bound_terms H y.equated r.middle w.links.valid row.equated opens name c
      ∙ ap (apply (bindings y.equated)) (w.links.terms name c (of_wider h grown_heap c grown.longer grown.parts own) ∙ grown.terms name c own)

  linked : IsRowLinked h now qs y (link_in r.middle) (qs ++ map (rename_indexical of) y.ranges) (bindings y.equated) (number_touches of y.equated)
  linked = record {
    joined = joined;
    unified = unified;
    size = now_size;
    own = λ c own. of_wider h now c (let l = row.grows in let e = now_size in omega (arith, l, e)) (let e = now_parts in omega (arith, e)) own;
    terms = terms_are;
  }

  -- what is posted
  posted_list : posted_by list ≡ map (rename_indexical of) y.ranges
  posted_list = map_twice list ∙ same_ranged (map posting list) (map (row_posting of) y.ranges) r.list_is ∙ ranged_plain of y.ranges row.plain

  posted_touches : store_touches fixed ≡ number_touches of y.equated
  posted_touches = ap store_touches r.touches ∙ touches_same of y.equated

  pub all_posted : (qs ++ posted_by list) ++ posts (store_touches fixed) ≡ (qs ++ map (rename_indexical of) y.ranges) ++ posts (number_touches of y.equated)
  all_posted = two (λ (l : List Indexical) (ts : List store.Touch). (qs ++ l) ++ posts ts) posted_list posted_touches

  pub rows_fit : All (IsInstance (length S)) list
  rows_fit = same_instances (length S) list (map (row_posting of) y.ranges) r.list_is (each_fits (length S) of y.ranges row.plain (λ x e. of_low x (named_out y.ranges row.plain x e)))

  pub touches_fit : AreTouchesBelow (length S) fixed
  touches_fit = subst (AreTouchesBelow (length S)) (sym r.touches) (touches_below (length S) H y.fresh y.ranges of of_low y.equated row.fresh)

  names_low : (k : ℕ) → has (constrained ((qs ++ posted_by list) ++ posts (store_touches fixed))) k ≡ true → k < length S
  names_low k e = elim (constrained_either (qs ++ posted_by list) (posts (store_touches fixed)) k e) [
    | inl a ↦ elim (constrained_either qs (posted_by list) k a) [
      | inl b ↦ (let l = known k b in let m = w.longer in omega (arith, l, m))
      | inr b ↦ (let d = renamed_from of y.ranges k (subst (λ (l : List Indexical). has (constrained l) k ≡ true) posted_list b) in subst (λ n. n < length S) d.2 (of_low d.0 d.1))
    ]
    | inr a ↦ touch_names (length S) fixed touches_fit k a
  ]

  abbrev pub After : List Indexical
  After = (qs ++ posted_by list) ++ posts (store_touches fixed)

  -- the pair once the ranges are posted
  pub row_pair : (atoms N : ℕ) → IsGreatest N → HasAtomsBelow atoms h → ((k : ℕ) → k < length sets → (N ≡ INFINITY → ⊥) → IsBounded N qs k) → (next : Level)
      → length next.sets ≡ length S → IsPermutation next.posted (After ++ new_bounds N (length sets) (length S - length sets))
      → (next.failed ≡ false) × IsSettled INFINITY next → IsPair atoms N now next
  row_pair atoms N g names old next e f v = record {
    valid = subst IsHeap (sym r.bound_now) (bound_valid H y.equated r.middle w.links.valid row.equated opens);
    names = subst (HasAtomsBelow atoms) (sym r.bound_now) (bound_atoms atoms H y.equated r.middle row.equated opens (w.atoms atoms (added_atoms atoms h (y.fresh - H) names)));
    linked = λ c k i. subst (λ m. k < m) (sym e) (w.below c k (before c k i));
    one = λ c d k i j. w.links.one c d k (before c k i) (before d k j);
    posted = named;
    bounded = bounded;
    live = v.0;
    settled = level_settled N g next bounded named v.1;
  } where
    before : (c k : ℕ) → link_in now c ≡ Some k → link_in r.middle c ≡ Some k
    before c k i = (unified.still c k i).0

    all : IsPermutation next.posted ((qs ++ (posted_by list ++ posts (store_touches fixed))) ++ new_bounds N (length sets) (length next.sets - length sets))
    all = subst (λ (l : List Indexical). IsPermutation next.posted (l ++ new_bounds N (length sets) (length next.sets - length sets)))
        (append_assoc qs (posted_by list) (posts (store_touches fixed)))
        (subst (λ m. IsPermutation next.posted (After ++ new_bounds N (length sets) (m - length sets))) (sym e) f)

    bounded : HasBounds N next
    bounded = level_bounded N qs (posted_by list ++ posts (store_touches fixed)) (length sets) old next all

    named : (k : ℕ) → has (constrained next.posted) k ≡ true → k < length next.sets
    named k i = subst (λ m. k < m) (sym e) (elim (constrained_either After (new_bounds N (length sets) (length S - length sets)) k
        (named_permuted next.posted (After ++ new_bounds N (length sets) (length S - length sets)) f k i)) [
          | inl a ↦ names_low k a
          | inr a ↦ new_low N (length sets) (length S) k w.longer a
        ])

  -- the row as it is linked, and the ranges then
  pub row_linked : (link : ℕ → Option ℕ) × (ranges : List Indexical) × (ts : List store.Touch) × IsRowLinked h now qs y link ranges (bindings y.equated) ts × (After ≡ ranges ++ posts ts)
  row_linked = (link_in r.middle, qs ++ map (rename_indexical of) y.ranges, number_touches of y.equated, linked, all_posted)
