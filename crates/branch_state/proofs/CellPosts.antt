-- A goal's range whose cells are made ready: how it is linked, and that it may be posted.
use Rattle.std.proofs.Common.{◌≡◌, ℕ, ◌-◌, ◌<◌, ◌≤◌, Bool, true, false, cond, ℤ, List, [], ◌∷◌, ◌++◌, length, map, filter, Option, Some, None, Ok, refl, ap}
use Rattle.std.proofs.Common.{sym, ◌∙◌, subst, inl, inr, arith, append_assoc}
use Rattle.std.proofs.lemmas.Bool.{cases_Bool}
use Rattle.std.proofs.lemmas.List.Elements.{All-nil, All-cons}
use Rattle.std.specs.Prelude.{All}
use Rattle.std.specs.List.Sorted.{IsPermutation}
use Rattle.fd_language.specs.declared.TheConstants.{INFINITY}
use Rattle.fd_language.specs.declared.NoMemory.{NoMemory}
use Rattle.fd_language.specs.declared.range_node.Need.{Need}
use Rattle.fd_language.specs.Family.{has}
use Rattle.fd_language.specs.Occurrences.{range_occurrences}
use Rattle.fd_language.specs.Range.{Range, Indexical, reads}
use Rattle.fd_language.specs.RangeVerdict.{is_accepted, has_one_use}
use Rattle.fd_language.specs.Term.{Term, Var, Int, Atom, Comp, Substitution}
use Rattle.fd_language.specs.Unifier.{Unifies}
use Rattle.fd_language.proofs.Lemmas.{two}
use Rattle.fd_model.specs.ClosedFamilies.{constrained}
use Rattle.fd_model.specs.Levels.{Level, Levels}
use Rattle.fd_model.proofs.Lemmas.{constrained_either}
use Rattle.fd_model.specs.Posting.{integer_of, or_later}
use Rattle.fd_model.specs.declared.kinds.QueryFault.{QueryFault}
use Rattle.heap_cells.specs.declared.Cell.{Cell}
use Rattle.heap_cells.specs.Cells.{Cells, Heaps, IsOf}
use Rattle.heap_cells.specs.Terms.{Naming}
use Rattle.heap_cells.proofs.Lemmas.{of_same}
use Rattle.range_code.specs.declared.frame.Arg.{Arg}
use Rattle.range_code.specs.Frames.{posted, IsArgumentFrame}
use Rattle.range_code.specs.Slots.{slots_of, slot_needs, need_at}
use Rattle.range_code.proofs.Lemmas.{has_once, one_use}
use Rattle.unify_core.specs.declared.Touch.{Touch}
use Rattle.unify_core.specs.declared.Touch.TheVariants as touch
use Rattle.unify_core.specs.Outcome.{IfTrue, IfFalse}
use Rattle.branch_meaning.specs.Store.{posts, touched}
use Rattle.branch_meaning.proofs.Lemmas.{plain, range_plain}
use Rattle.branch_lemmas.specs.CellRanges.{target_offence, cells_offence, filled, cells_range, Names, AreNumbers, IsTermsLinked}
use Rattle.branch_lemmas.specs.Frames.{link_in, store_touches}
use Rattle.branch_lemmas.proofs.Lemmas.{named_permuted}
use Rattle.branch_state.specs.declared.cell_looks.Look.{Look}
use Rattle.branch_state.specs.VariableBounds.{new_bounds}
use Rattle.branch_state.specs.CellVariables.{shown_slots, slots_offence, IsFineGoal, slots_open, NamedBy, slot_in, AreTold, IsTold, IsTermNaming, AreCellsReady}
use Rattle.branch_state.specs.CellVariables.{IsPrepared}
use Rattle.branch_state.specs.CellPosts.{term_in, slots_in, IsCellsPosted, PostsNamed}
use Rattle.branch_state.specs.StoreVariables.{LooksAs, IsKind, offence, first_in, goal_ranges, or_zero, with_level_sets}
use Rattle.branch_state.specs.Ranges.{kept_step}
use Rattle.branch_state.specs.States.{State, HasBounds, IsGreatest, IsPair, ArePairs, IsSound, IsSettled, HasNoModel, IsCell}
use Rattle.branch_state.specs.Steps.{IsTouchBelow, AreTouchesBelow}
use Rattle.branch_state.proofs.VariableBounds.{level_bounded, level_settled, new_low, none_before}
use Rattle.branch_state.proofs.Arguments.{posted_is, are_args, none_both}
use Rattle.branch_state.proofs.SlotOccurrences.{is_open, plain_slots, offence_of_range}
use Rattle.branch_state.proofs.CellLooks.{look_kind}
use Rattle.branch_state.proofs.Occurrences.{settled}
use Rattle.branch_state.proofs.Touches.{goal_low}

-- ---- offences

target_offends : (t : Term) → target_offence t ≡ offence None t
target_offends (Var c) = refl
target_offends (Int z) = refl
target_offends (Atom a) = refl
target_offends (Comp f ts) = refl

-- the first offence is that of the range's slots
pub offence_is : (t : Term) (see : Substitution) (r : Range) → is_accepted INFINITY r ≡ true → cells_offence t see r ≡ slots_offence t see r
offence_is t see r a = two or_later (target_offends t) (offence_of_range see r (one_use r a))

-- ---- what is named

open_slots : (need : ℕ → Option Need) (ys : List ℕ) → slots_open ys (map need ys) ≡ filter (λ y. is_open (need y)) ys
open_slots need [] = refl
open_slots need (y ∷ ys) = by_need (need y) (open_slots need ys) where
  by_need : (o : Option Need) → slots_open ys (map need ys) ≡ filter (λ y. is_open (need y)) ys
      → slots_open (y ∷ ys) (o ∷ map need ys) ≡ cond (is_open o) (y ∷ filter (λ y. is_open (need y)) ys) (filter (λ y. is_open (need y)) ys)
  by_need None e = ap (λ l. y ∷ l) e
  by_need (Some n) e = e

-- the slots that are no parameters are what the filled range reads
reads_open : (see : Substitution) (r : Range) → has_one_use r ≡ true → (y : ℕ) → has (reads (filled see r)) y ≡ has (slots_open (slots_of r) (slot_needs r)) y
reads_open see r one y =
    ap (λ l. has l y) (range_plain (λ z. integer_of (see z)) r) ∙ sym (has_once (plain (range_occurrences r)) y)
    ∙ ap (λ l. has l y) (plain_slots r one ∙ sym (open_slots (need_at r) (slots_of r)))

-- ---- touches

touches_unify : (u : Substitution) (k : ℕ) (z : ℤ) (fs : List Touch) → IsTold k z fs → Unifies u (touched (store_touches fs)) → u k ≡ Int z
touches_unify u k z [] i h = absurd i
touches_unify u k z (touch.Value j w ∷ fs) i h = elim i [ inl a ↦ same a | inr a ↦ touches_unify u k z fs a h.1 ] where
  same : touch.Value j w ≡ touch.Value k z → u k ≡ Int z
  same e = let f : j ≡ k = cc in let g : w ≡ z = cc in ap u (sym f) ∙ h.0 ∙ ap Int g
touches_unify u k z (touch.Same i j ∷ fs) m h = elim m [ inl a ↦ absurd (cc) | inr a ↦ touches_unify u k z fs a h.1 ]

module _ (name : Naming) (old : State) (pair : IsPair old.atoms old.infinity old.heaps.now old.levels.current) (target : Cell) (cells : List Cell) (r : Range)
    (accepted : is_accepted INFINITY r ≡ true) where
  abbrev h : Cells
  h = old.heaps.now

  abbrev qs : List Indexical
  qs = old.levels.current.posted

  abbrev sets : List (List ℕ)
  sets = old.levels.current.sets

  abbrev t : Term
  t = term_in name old target

  abbrev see : Substitution
  see = slots_in name old r cells

  one : has_one_use r ≡ true
  one = one_use r accepted

  module _ (fine : slots_offence t see r ≡ None) (now : Cells) (S : List (List ℕ)) (fs : List Touch) (k : ℕ) (as' : List Arg) (p : IsPrepared t see h sets r now S fs k as') where
    abbrev of : ℤ → Option ℕ
    of = p.0

    abbrev ready : AreCellsReady t see h sets (slots_of r) (slot_needs r) now S fs of k as'
    ready = p.1

    abbrev ys : List ℕ
    ys = slots_open (slots_of r) (slot_needs r)

    abbrev N : Term → Type 0
    N = NamedBy t see ys

    abbrev w : IsTermNaming h sets N now S fs of
    w = ready.naming

    abbrev slot : Term → ℕ
    slot u = slot_in now of u

    fines : (offence None t ≡ None) × (first_in see (slots_of r) (slot_needs r) ≡ None)
    fines = none_both (offence None t) (first_in see (slots_of r) (slot_needs r)) fine

    from : (u : Term) → Names t see r u → N u
    from u n = elim n [ inl a ↦ inl a | inr a ↦ inr (a.0, sym (reads_open see r one a.0) ∙ a.1, a.2) ]

    to : (u : Term) → N u → Names t see r u
    to u n = elim n [ inl a ↦ inl a | inr a ↦ inr (a.0, reads_open see r one a.0 ∙ a.1, a.2) ]

    unnamed : (j : ℕ) → length sets ≤ j → has (constrained qs) j ≡ false
    unnamed j i = elim (cases_Bool (has (constrained qs) j)) [ inl e ↦ absurd (let a = pair.posted j e in omega (arith, a, i)) | inr e ↦ e ]

    variable_slot : (c : ℕ) → N (Var c) → link_in now c ≡ Some (slot (Var c))
    variable_slot c n = let j = w.named c n in j.1 ∙ ap Some (sym (ap or_zero j.1))

    number_slot : (z : ℤ) → N (Int z) → of z ≡ Some (slot (Int z))
    number_slot z n = let j = w.numbered z n in j.1 ∙ ap Some (sym (ap or_zero j.1))

    -- no two terms share one
    apart : (u v : Term) → N u → N v → slot u ≡ slot v → u ≡ v
    apart (Var c) (Var d) n m e = ap Var (w.links.one c d (slot (Var c)) (variable_slot c n) (variable_slot d m ∙ ap Some (sym e)))
    apart (Var c) (Int z) n m e = absurd ((w.fresh z (slot (Int z)) (number_slot z m)).3 c (variable_slot c n ∙ ap Some e))
    apart (Int z) (Var c) n m e = absurd ((w.fresh z (slot (Int z)) (number_slot z n)).3 c (variable_slot c m ∙ ap Some (sym e)))
    apart (Int z) (Int y) n m e = ap Int (w.apart z y (slot (Int z)) (number_slot z n) (number_slot y m ∙ ap Some (sym e)))
    apart (Var c) (Atom a) n m e = absurd (let f = w.plain (Atom a) m in cc)
    apart (Var c) (Comp q us) n m e = absurd (let f = w.plain (Comp q us) m in cc)
    apart (Int z) (Atom a) n m e = absurd (let f = w.plain (Atom a) m in cc)
    apart (Int z) (Comp q us) n m e = absurd (let f = w.plain (Comp q us) m in cc)
    apart (Atom a) v n m e = absurd (let f = w.plain (Atom a) n in cc)
    apart (Comp q us) v n m e = absurd (let f = w.plain (Comp q us) n in cc)

    numbers : (gs : List Touch) → AreTold of gs → AreNumbers slot (Names t see r) (store_touches gs)
    numbers [] a = tt
    numbers (touch.Value j z ∷ gs) a = ((to (Int z) (w.fresh z j a.0).0, ap or_zero a.0), numbers gs a.1)
    numbers (touch.Same i j ∷ gs) a = absurd a

    linked : IsTermsLinked h now qs slot (Names t see r) (store_touches fs)
    linked = record {
      size = w.links.size;
      own = λ c o. of_same h now c (sym w.links.size) (sym (ap length w.links.parts)) o;
      terms = w.links.terms;
      cell = λ c n. variable_slot c (from (Var c) n);
      number = λ z n. unnamed (slot (Int z)) (w.fresh z (slot (Int z)) (number_slot z (from (Int z) n))).1;
      apart = λ u v n m e. apart u v (from u n) (from v m) e;
      keep = w.links.keep;
      new = λ c j e. elim (w.links.new c j e) [ inl a ↦ inl a | inr a ↦ (let i = w.listed c j a in inr (to (Var c) i.0, unnamed j i.1)) ];
      told = numbers fs w.told;
      all = λ z n u e. touches_unify u (slot (Int z)) z fs (w.all z (slot (Int z)) (number_slot z (from (Int z) n))) e;
    }

    range_is : record { target = k; range = posted r as' } ≡ cells_range slot t see r
    range_is = two (λ u q. record { target = u; range = q }) ready.at (posted_is see (λ y. slot (see y)) r as' ready.stand (settled r one))

    -- the goal's range is linked
    pub cells_posted : IsCellsPosted name old target cells r now (qs ++ goal_ranges r k as' fs)
    cells_posted = record {
      fine = offence_is t see r accepted ∙ fine;
      slot = slot;
      touches = store_touches fs;
      linked = linked;
      after = ap (λ q. qs ++ q ∷ posts (store_touches fs)) range_is ∙ sym (append_assoc qs (cells_range slot t see r ∷ []) (posts (store_touches fs)));
    }

    -- what is named is a variable of the store
    slot_low : (u : Term) → N u → offence None u ≡ None → slot u < length S
    slot_low (Var c) n o = w.below c (slot (Var c)) (variable_slot c n)
    slot_low (Int z) n o = (w.fresh z (slot (Int z)) (number_slot z n)).2
    slot_low (Atom a) n o = absurd (cc)
    slot_low (Comp f us) n o = absurd (cc)

    pub cells_target_low : k < length S
    cells_target_low = subst (λ z. z < length S) (sym ready.at) (slot_low t (inl refl) fines.0)

    pub cells_frame : IsArgumentFrame (length S) r as'
    cells_frame = are_args (length S) see (λ y. slot (see y)) (slots_of r) (slot_needs r) as' ready.stand fines.1 (λ y i o. slot_low (see y) (inr (y, i, refl)) o)

    told_low : (gs : List Touch) → AreTold of gs → AreTouchesBelow (length S) gs
    told_low [] a = All-nil (IsTouchBelow (length S))
    told_low (touch.Value j z ∷ gs) a = All-cons (IsTouchBelow (length S)) (touch.Value j z) gs (w.fresh z j a.0).2 (told_low gs a.1)
    told_low (touch.Same i j ∷ gs) a = absurd a

    pub cells_touches_low : AreTouchesBelow (length S) fs
    cells_touches_low = told_low fs w.told

    -- the pair once the ranges are posted
    abbrev I : ℕ
    I = old.infinity

    abbrev After : List Indexical
    After = qs ++ goal_ranges r k as' fs

    cells_pair : IsGreatest I → (next : Level) → length next.sets ≡ length S
        → IsPermutation next.posted (After ++ new_bounds I (length sets) (length S - length sets))
        → (next.failed ≡ false) × IsSettled INFINITY next → IsPair old.atoms I now next
    cells_pair g next e f v = record {
      valid = w.links.valid;
      names = w.atoms old.atoms pair.names;
      linked = λ c j i. subst (λ m. j < m) (sym e) (w.below c j i);
      one = w.links.one;
      posted = named;
      bounded = bounded;
      live = v.0;
      settled = level_settled I g next bounded named v.1;
    } where
      bounded : HasBounds I next
      bounded = level_bounded I qs (goal_ranges r k as' fs) (length sets) pair.bounded next
          (subst (λ m. IsPermutation next.posted (After ++ new_bounds I (length sets) (m - length sets))) (sym e) f)

      named : (j : ℕ) → has (constrained next.posted) j ≡ true → j < length next.sets
      named j i = subst (λ m. j < m) (sym e) (elim (constrained_either After (new_bounds I (length sets) (length S - length sets)) j
          (named_permuted next.posted (After ++ new_bounds I (length sets) (length S - length sets)) f j i)) [
            | inl a ↦ goal_low (length S) qs r k as' fs (λ j i. (let a = pair.posted j i in let b = w.longer in omega (arith, a, b))) cells_target_low accepted cells_frame cells_touches_low j a
            | inr a ↦ new_low I (length sets) (length S) j w.longer a
          ])

    all_same : (st : Levels) → st ≡ with_level_sets old.levels S → (first : ℕ) → first ≡ length sets
        → (st.current.posted ++ goal_ranges r k as' fs) ++ new_bounds I first (length st.current.sets - first) ≡ After ++ new_bounds I (length sets) (length S - length sets)
    all_same st g first start =
        ap (λ (l : Levels). (l.current.posted ++ goal_ranges r k as' fs) ++ new_bounds I first (length l.current.sets - first)) g
        ∙ ap (λ n. After ++ new_bounds I n (length S - n)) start

    -- whether all has a model then
    pub cells_step : IsSound old → (hs : Heaps) → hs.now ≡ now → hs.below ≡ old.heaps.below → (st ls : Levels) → st ≡ with_level_sets old.levels S
        → ls.below ≡ st.below → ls.spent ≡ false → length ls.current.sets ≡ length st.current.sets → (first : ℕ) → first ≡ length sets → (kept : Bool)
        → IfTrue {E = NoMemory} (Ok kept) (IsPermutation ls.current.posted ((st.current.posted ++ goal_ranges r k as' fs)
        ++ new_bounds I first (length st.current.sets - first)))
        → IfTrue {E = NoMemory} (Ok kept) ((ls.current.failed ≡ false) × IsSettled INFINITY ls.current)
        → IfFalse {E = NoMemory} (Ok kept) (HasNoModel INFINITY ((st.current.posted ++ goal_ranges r k as' fs) ++ new_bounds I first (length st.current.sets - first)))
        → PostsNamed name old target cells r (record { atoms = old.atoms; infinity = old.infinity; heaps = hs; levels = ls }) (kept_step kept)
    cells_step o hs e f st ls g b u len first start true p v none =
        let q : IsPermutation ls.current.posted (After ++ new_bounds I (length sets) (length S - length sets)) = subst (IsPermutation ls.current.posted) (all_same st g first start) p in (
          (
            After,
            subst (λ (c : Cells). IsCellsPosted name old target cells r c After) (sym e) cells_posted,
            subst (λ m. IsPermutation ls.current.posted (After ++ new_bounds I (length sets) (m - length sets))) (sym (len ∙ ap (λ (l : Levels). length l.current.sets) g)) q,
          ),
          record {
            greatest = o.greatest;
            unspent = u;
            marked = subst (λ (l : List Cells). 0 < length l) (sym f) o.marked;
            below = subst (λ (l : List Level). ArePairs old.atoms I hs.below l) (sym (b ∙ ap (λ (l : Levels). l.below) g))
                (subst (λ (l : List Cells). ArePairs old.atoms I l old.levels.below) (sym f) o.below);
            now = subst (λ (c : Cells). IsPair old.atoms I c ls.current) (sym e) (cells_pair o.greatest ls.current (len ∙ ap (λ (l : Levels). length l.current.sets) g) q v);
          },
        )
    cells_step o hs e f st ls g b u len first start false p v none = (
      (
        After,
        subst (λ (c : Cells). IsCellsPosted name old target cells r c After) (sym e) cells_posted,
        none_before I o.greatest After (length sets) (length S - length sets) (subst (HasNoModel INFINITY) (all_same st g first start) none),
      ),
      record {
        greatest = o.greatest;
        unspent = u;
        marked = subst (λ (l : List Cells). 0 < length l) (sym f) o.marked;
        below = subst (λ (l : List Level). ArePairs old.atoms I hs.below l) (sym (b ∙ ap (λ (l : Levels). l.below) g))
            (subst (λ (l : List Cells). ArePairs old.atoms I l old.levels.below) (sym f) o.below);
      },
    )

-- ---- what a method needs

-- its cells are the heap's
pub own_cells : (s : State) (cells : List Cell) → All (IsCell s) cells → All (IsOf s.heaps.now) cells
own_cells s cells a i d l = (a i d l).0

-- what the search for an offence gave: o, for the range by the name q
abbrev pub IsFound : Cells → List (List ℕ) → Range → Look → List Cell → Option QueryFault → Type 0
IsFound h sets q l cells o = (name : Naming) (t : Term) → IsKind t l → o ≡ slots_offence t (shown_slots name h sets q cells) q

is_none : (o : Option QueryFault) → ((f : QueryFault) → o ≡ Some f → ⊥) → o ≡ None
is_none None h = refl
is_none (Some f) h = absurd (h f refl)

-- there is none
pub goal_fine : (h : Cells) (sets : List (List ℕ)) (q r : Range) (l : Look) (cells : List Cell) (o : Option QueryFault) → q ≡ r → IsFound h sets q l cells o
    → ((f : QueryFault) → o ≡ Some f → ⊥) → IsFineGoal h sets r l cells
goal_fine h sets q r l cells o e is none name t k = sym (ap (λ p. slots_offence t (shown_slots name h sets p cells) p) e) ∙ sym (is name t (look_kind h t l k)) ∙ is_none o none

-- it is the fault
pub goal_fault : (name : Naming) (old : State) (target : Cell) (cells : List Cell) (q r : Range) → is_accepted INFINITY r ≡ true → (l : Look)
    → LooksAs old.heaps.now (term_in name old target) l → (o : Option QueryFault) → q ≡ r → IsFound old.heaps.now old.levels.current.sets q l cells o
    → (f : QueryFault) → o ≡ Some f
    → cells_offence (term_in name old target) (slots_in name old r cells) r ≡ Some f
goal_fault name old target cells q r accepted l k o e is f i =
    let t = term_in name old target in
    let found : o ≡ slots_offence t (slots_in name old r cells) r = is name t (look_kind old.heaps.now t l k) ∙ ap (λ p. slots_offence t (slots_in name old p cells) p) e in
    offence_is t (slots_in name old r cells) r accepted ∙ sym found ∙ i
