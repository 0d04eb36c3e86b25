-- The steps from a goal `T in R`, by the cells of its target and of the range's variables.
use Rattle.std.proofs.Common.{◌≡◌, ℕ, suc, ◌+◌, ◌<◌, ◌≤◌, ◌⊎◌, Bool, true, false, cond, not, ◌==◌, ◌||◌, ℤ, List, [], ◌∷◌, ◌++◌, length, map, Option, Some}
use Rattle.std.proofs.Common.{None, refl, ap, sym, ◌∙◌, subst, inl, inr, arith, Ok, Err, eqb-true, eq-eqb}
use Rattle.std.proofs.lemmas.Bool.{cases_Bool, or_cases, or_left, or_right, true≢false}
use Rattle.fd_model.specs.declared.kinds.QueryFault.{QueryFault}
use Rattle.fd_model.specs.declared.kinds.QueryFault.TheVariants.{BadType}
use Rattle.fd_language.specs.Check.{fill_range}
use Rattle.fd_language.specs.Family.{Family, has, IsInside}
use Rattle.fd_language.specs.Needs.{need_of}
use Rattle.fd_language.specs.Occurrences.{Occurrence, one_occurrence, range_occurrences}
use Rattle.fd_language.specs.declared.range_node.Need.{Need}
use Rattle.fd_language.specs.Range.{Range, Indexical, reads}
use Rattle.fd_language.specs.RangeRenaming.{rename_range, rename_indexical}
use Rattle.fd_language.specs.Term.{Term, Var, Int, Atom, Comp, Substitution, apply}
use Rattle.fd_language.specs.Variables.{TermBelow}
use Rattle.fd_language.proofs.Lemmas.{two, reads_map, has_either, in_left, renamed_agree, filled_agree, filled_renamed}
use Rattle.fd_model.specs.Children.{by_post, by_constraint, look_in, with_expansion}
use Rattle.fd_model.specs.ClosedFamilies.{constrained}
use Rattle.fd_model.specs.ConstraintExpansion.{equations}
use Rattle.fd_model.specs.Goal.{Program, Query, Branch, Event, Fault}
use Rattle.fd_model.specs.Goal as goal
use Rattle.fd_model.specs.LinearRows.{Expansion}
use Rattle.fd_model.specs.Models.{IsModel}
use Rattle.fd_model.specs.Posting.{or_later, first_offence, offence_at, integers_at, is_integer, integer_of, slot}
use Rattle.fd_model.specs.BranchViews.{IsConsistent, IsView}
use Rattle.fd_model.specs.RunnablePrograms.{IsRunnableProgram, EachBelow, RangeBelow}
use Rattle.fd_model.proofs.Lemmas.{map_has, has_map, named_left}
use Rattle.heap_cells.specs.declared.Cell.{Cell}
use Rattle.heap_cells.specs.Cells.{Cells}
use Rattle.heap_cells.specs.Terms.{Naming, term_of}
use Rattle.heap_cells.specs.HeapInvariant.{IsHeap}
use Rattle.branch_meaning.specs.RemainingEvents.{at_top, offered, Spends}
use Rattle.fd_language.specs.SingleValues.{value_at}
use Rattle.branch_meaning.specs.HeldBranches.{fixed_held}
use Rattle.branch_meaning.specs.Rows.{slot_numbers, unless_fault, post_row}
use Rattle.branch_meaning.specs.Store.{Touch, Value, Same, posts, names, IsStored}
use Rattle.branch_meaning.proofs.Lemmas.{after_is, agree, AreConsecutive, post_same, range_plain, only_integers, post_as_row, IsRangeRow, range_row}
use Rattle.branch_meaning.proofs.Lemmas.{range_twice, view_kind, with_one}
use Rattle.branch_lemmas.proofs.Lemmas.{one_here, one_else, unsettled, settled_look, settled_held, settled_rest}
use Rattle.branch_lemmas.specs.Frames.{link_in, held_of, IsKept}
use Rattle.branch_lemmas.specs.SeenHeap.{read_term}
use Rattle.range_code.specs.Slots.{slots_of}
use Rattle.range_code.proofs.Lemmas.{has_once}
use Rattle.wam_code.specs.declared.instruction.Code.TheVariants as code
use Rattle.wam_code.specs.Area.{Area, Holds, range_at}
use Rattle.wam_code.specs.CodeMeaning.{HoldVars, PostRule}
use Rattle.code_meaning.specs.Registers.{Registers, Saved, AreIn}
use Rattle.code_meaning.specs.StateMeaning.{Made}
use Rattle.code_meaning.specs.RangeGoals.{slot_terms, target_offence, cells_offence, filled, cells_range, Names, AreNumbers, IsTermsLinked}
use Rattle.code_meaning.specs.MachineStates.{Choice, IsTaking, Runs}
use Rattle.code_meaning.proofs.RangeOccurrences.{EachAt, each_at, each_both, each_renamed, each_filled, plain_at, range_offence}
use Rattle.code_meaning.proofs.Arguments.{cell_shows}
use Rattle.code_meaning.proofs.FreshVariables.{numbered, numbered_low, numbered_high, slot_seen, kept_numbered}
use Rattle.code_meaning.proofs.Posting.{AreTold, IsSeenPosted, seen_posted, seen_slot}
use Rattle.code_meaning.proofs.GoalStates.{ready_kept, ready_consistent, taking, taken_on, goal_fault, goal_one}
use Rattle.code_meaning.proofs.MachineStates.{goes_inside}

-- ---- the row of the branch's goal

target_offends : (need : ℕ → Need) (v : ℕ) (u : Term) → offence_at need (record { variable = v; parameter = false }) u ≡ target_offence u
target_offends need v (Var c) = refl
target_offends need v (Int z) = refl
target_offends need v (Atom a) = refl
target_offends need v (Comp f ts) = refl

row_err : (o : Option QueryFault) (x : Expansion) (e : QueryFault) → o ≡ Some e → unless_fault o x ≡ Err e
row_err o x e i = ap (λ o. unless_fault o x) i

row_ok : (o : Option QueryFault) (x : Expansion) → o ≡ None → unless_fault o x ≡ Ok x
row_ok o x i = ap (λ o. unless_fault o x) i

-- Where nothing offends, the row has one range. Of each variable y that is named in the goal, it names one in whose place y is seen.
pub record IsRow (look : Substitution) (n : ℕ) (t : Term) (r : Range) : Type 0 where
  pub row : Expansion
  pub is : post_row look t r n ≡ Ok row
  pub range : Indexical
  pub one : row.ranges ≡ range ∷ []
  pub place : ℕ → ℕ
  pub seen : (s : Substitution) → ((y : ℕ) → y < n → s y ≡ look y) → (y : ℕ) → y < n → numbered row.equated s (place y) ≡ look y
  pub target : (s : Substitution) → ((y : ℕ) → y < n → s y ≡ look y) → numbered row.equated s range.target ≡ apply look t
  pub body : range.range ≡ rename_range place (fill_range (λ y. integer_of (look y)) r)

-- what is gathered occurs
integers_low : (look : Substitution) (n : ℕ) (ps : List Occurrence) (ys : List ℕ) → EachAt (λ y. y < n) ps → ((y : ℕ) → has ys y ≡ true → y < n) → (y : ℕ)
    → has (integers_at look ps ys) y ≡ true → y < n
integers_low look n [] ys b h y i = h y i
integers_low look n (p ∷ ps) ys b h y i = elim (cases_Bool (p.parameter || (not (is_integer (look p.variable)) || has ys p.variable))) [
  | inl e ↦ integers_low look n ps ys b.1 h y (sym (ap (λ c. has (cond c (integers_at look ps ys) (integers_at look ps (ys ++ p.variable ∷ []))) y) e) ∙ i)
  | inr e ↦ integers_low look n ps (ys ++ p.variable ∷ []) b.1
      (λ x j. elim (has_either ys (p.variable ∷ []) x j) [
        | inl k ↦ h x k
        | inr k ↦ elim (or_cases (p.variable == x) false k) [
          | inl g ↦ subst (λ v. v < n) (eqb-true p.variable x g) b.0
          | inr g ↦ absurd (true≢false (sym g))
        ]
      ])
      y (sym (ap (λ c. has (cond c (integers_at look ps ys) (integers_at look ps (ys ++ p.variable ∷ []))) y) e) ∙ i)
]

module _ (look : Substitution) (n : ℕ) (r : Range) (low : RangeBelow n r) where
  ints : (ps : List Occurrence) (y : ℕ) → has (integers_at look ps []) y ≡ true → look y ≡ Int (integer_of (look y))
  ints ps y h = integer_is (look y) (only_integers look ps [] (λ x i. absurd (true≢false (sym i))) y h)
    where
      integer_is : (t : Term) → is_integer t ≡ true → t ≡ Int (integer_of t)
      integer_is (Int z) h = refl
      integer_is (Var x) h = absurd (true≢false (sym h))
      integer_is (Atom a) h = absurd (true≢false (sym h))
      integer_is (Comp f ts) h = absurd (true≢false (sym h))

  numbers_follow : (m : ℕ) (ys : List ℕ) → AreConsecutive m (slot_numbers look m ys)
  numbers_follow m [] = tt
  numbers_follow m (y ∷ ys) = (refl, numbers_follow (suc m) ys)

  pub post_fault : (t : Term) (e : QueryFault) → cells_offence (apply look t) look r ≡ Some e → post_row look t r n ≡ Err e
  post_fault (Var v) e i = row_err (first_offence (need_of r) look (one_occurrence v false ++ range_occurrences r)) _ e
      (ap (λ o. or_later o (first_offence (need_of r) look (range_occurrences r))) (target_offends (need_of r) v (look v)) ∙ i)
  post_fault (Int z) e i = row_err (first_offence (need_of r) look (range_occurrences r)) _ e i
  post_fault (Atom a) e i = let k : BadType ≡ e = cc in ap Err k
  post_fault (Comp f ts) e i = let k : BadType ≡ e = cc in ap Err k

  no_fault : (e : QueryFault) → Some e ≡ None → ⊥
  no_fault e i = cc

  out : (m : ℕ) (ys : List ℕ) (y : ℕ) → has ys y ≡ false → slot m ys y ≡ y
  out m [] y h = refl
  out m (x ∷ xs) y h = elim (cases_Bool (x == y)) [
    | inl t ↦ absurd (true≢false (sym (or_left (x == y) (has xs y) t) ∙ h))
    | inr t ↦ ap (λ b. cond b m (slot (suc m) xs y)) t ∙ out (suc m) xs y (later (has xs y) refl)
  ]
    where
      later : (b : Bool) → has xs y ≡ b → has xs y ≡ false
      later true e = absurd (true≢false (sym (or_right (x == y) (has xs y) e) ∙ h))
      later false e = e

  pub post_ok : (t : Term) → TermBelow n t → cells_offence (apply look t) look r ≡ None → IsRow look n t r
  post_ok (Var v) b i =
      let ps = one_occurrence v false ++ range_occurrences r in
      let ys = integers_at look ps [] in
      record {
        row = record {
          equated = [] ++ slot_numbers look n ys;
          ranges = record { target = slot n ys v; range = rename_range (slot n ys) (fill_range (λ y. integer_of (look y)) r) } ∷ [];
          fresh = n + length ys;
        };
        is = row_ok (first_offence (need_of r) look ps) _ (ap (λ o. or_later o (first_offence (need_of r) look (range_occurrences r))) (target_offends (need_of r) v (look v)) ∙ i);
        range = record { target = slot n ys v; range = rename_range (slot n ys) (fill_range (λ y. integer_of (look y)) r) };
        one = refl;
        place = slot n ys;
        seen = λ s same y l. slot_seen look n ys (ints ps) s y l (same y l) (numbers_follow n ys);
        target = λ s same. slot_seen look n ys (ints ps) s v b (same v b) (numbers_follow n ys);
        body = refl;
      }
  post_ok (Int z) b i =
      let ps = range_occurrences r in
      let ys = integers_at look ps [] in
      record {
        row = record {
          equated = (n, z) ∷ slot_numbers look (suc n) ys;
          ranges = record { target = slot (suc n) ys n; range = rename_range (slot (suc n) ys) (fill_range (λ y. integer_of (look y)) r) } ∷ [];
          fresh = suc n + length ys;
        };
        is = row_ok (first_offence (need_of r) look ps) _ i;
        range = record { target = slot (suc n) ys n; range = rename_range (slot (suc n) ys) (fill_range (λ y. integer_of (look y)) r) };
        one = refl;
        place = slot (suc n) ys;
        seen = λ s same y l. slot_seen look (suc n) ys (ints ps) (with_one n (Int z) s) y (omega (arith, l)) (one_else n (Int z) s y (λ e. omega (arith, e, l)) ∙ same y l) (numbers_follow (suc n) ys);
        target = λ s same.
            ap (λ v. numbered (slot_numbers look (suc n) ys) (with_one n (Int z) s) v) (out (suc n) ys n (none_low ys (λ y h. low_integers y h)))
            ∙ numbered_low (suc n) (slot_numbers look (suc n) ys) (with_one n (Int z) s) n (numbers_follow (suc n) ys) (omega arith) ∙ one_here n (Int z) s;
        body = refl;
      }
    where
      low_integers : (y : ℕ) → has (integers_at look (range_occurrences r) []) y ≡ true → y < n
      low_integers y h = integers_low look n (range_occurrences r) [] low (λ x i. absurd (true≢false (sym i))) y h

      none_low : (ys : List ℕ) → ((y : ℕ) → has ys y ≡ true → y < n) → has ys n ≡ false
      none_low ys h = elim (cases_Bool (has ys n)) [ inl t ↦ absurd (let l = h n t in omega (arith, l)) | inr t ↦ t ]
  post_ok (Atom a) b i = absurd (no_fault BadType i)
  post_ok (Comp f ts) b i = absurd (no_fault BadType i)

-- ---- the goal

-- d is the cell of the target, and ds are those of the range's variables.
module _ (M N : ℕ) (area : Area) (prog : Program) (q : Query) (name : Naming) (h : Cells) (valid : IsHeap h) (qs : List Indexical) (at : ℕ) (c : Registers)
    (stack : List Saved) (cs : List Choice) (k : Option ℕ) (es : List Event) (r : ℕ)
    (runnable : IsRunnableProgram M prog) (n : ℕ) (G : Family) (model : IsModel M N [] qs G) (most : (R : Family) → IsModel M N [] qs R → IsInside R G)
    (m : Runs M N area prog q name h qs at c stack cs (suc n) k es r)
    (number args : ℕ) (d : Cell) (at_d : c.x 1 ≡ Some d) (ds : List Cell) (cells : AreIn c.x 2 ds) (counted : length ds ≡ length (slots_of (range_at area number))) where
  abbrev R : Range
  R = range_at area number

  -- what the target and each of the range's variables are seen as
  abbrev pub target_term : Term
  target_term = read_term h G (term_of name h d)

  abbrev pub see : Substitution
  see = slot_terms name h G (slots_of R) ds

  abbrev Takes : Branch → Type 0
  Takes b = IsTaking M N m.marks area q.shown name h qs at c stack b (λ p. PostRule area number p)

  module _ (b : Branch) (t : Takes b) (one : m.first ≡ b ∷ []) where
    abbrev t0 : Term
    t0 = t.is.0

    abbrev f : ℕ → ℕ
    f = t.is.1

    abbrev R' : Range
    R' = rename_range f R

    abbrev P : ℕ → Type 0
    P v = v < b.fresh

    abbrev raw : Substitution
    raw = t.ready.made.look

    kept : IsKept M N h qs b.equations b.posted P raw
    kept = ready_kept M N m.marks area q.shown name h qs at c stack b t.ready

    consistent : IsConsistent M N b.equations b.posted
    consistent = ready_consistent M N m.marks area q.shown name h qs at c stack b t.ready (G, model)

    abbrev look : Substitution
    look = settled_look M N name h valid qs b.equations b.posted P raw kept G most

    is : b.goals ≡ goal.Post t0 R' ∷ t.later
    is = t.goals ∙ ap (λ g. g ∷ t.later) t.is.5

    low : TermBelow b.fresh t0 × RangeBelow b.fresh R'
    low = (subst (EachBelow b.fresh) is t.ready.below).0

    shows : (i : ℕ) (u : Term) (e : Cell) → t.ready.p.x i ≡ Some u → c.x i ≡ Some e → apply raw u ≡ term_of name h e
    shows i u e a o = (cell_shows name h raw (Made t.ready.p b.fresh) t.ready.p c.x t.ready.made.xs i u e a o).1

    target_is : apply look t0 ≡ target_term
    target_is = after_is (λ e. value_at (link_in h e) G e) raw t0 ∙ ap (read_term h G) (shows 1 t0 d t.is.3 at_d)

    -- each variable is seen as its slot's cell
    slots_seen : (i : ℕ) (ys : List ℕ) (es : List Cell) → HoldVars t.ready.p i f ys → AreIn c.x i es → length es ≡ length ys → (y : ℕ) → has ys y ≡ true → look (f y) ≡ slot_terms name h G ys es y
    slots_seen i [] es a o e y g = absurd (true≢false (sym g))
    slots_seen i (x ∷ xs) [] a o e y g = absurd (omega (arith, e))
    slots_seen i (x ∷ xs) (w ∷ ws) a o e y g = elim (cases_Bool (x == y)) [
      | inl j ↦
          let same : x ≡ y = eqb-true x y j in
          ap (λ v. look (f v)) (sym same) ∙ ap (read_term h G) (shows i (Var (f x)) w a.0 o.0) ∙ sym (ap (λ b. cond b (read_term h G (term_of name h w)) (slot_terms name h G xs ws y)) j)
      | inr j ↦
          slots_seen (suc i) xs ws a.1 o.1 (omega (arith, e)) y (elim (or_cases (x == y) (has xs y) g) [ inl l ↦ absurd (true≢false (sym l ∙ j)) | inr l ↦ l ])
          ∙ sym (ap (λ b. cond b (read_term h G (term_of name h w)) (slot_terms name h G xs ws y)) j)
    ]

    each : EachAt (λ y. look (f y) ≡ see y) (range_occurrences R)
    each = each_at (λ y. look (f y) ≡ see y) (range_occurrences R) (λ y g. slots_seen 2 (slots_of R) ds t.is.4 cells counted y (has_once (map (λ p. p.variable) (range_occurrences R)) y ∙ g))

    offence_is : cells_offence (apply look t0) look R' ≡ cells_offence target_term see R
    offence_is = two or_later (ap target_offence target_is) (range_offence f look see t.is.2 R each)

    gives : (u : Substitution) (D : Family) → IsView M N b.equations b.posted u D
        → offered M N (at_top m.marks) prog b (goal.Post t0 R') t.later u D ≡ by_constraint b t.later (post_row look t0 R' b.fresh)
    gives u D view =
        let F = fixed_held (held_of name h qs) G in
        let held = settled_held M N name h valid qs b.equations b.posted P raw kept G most in
        let at_rest = settled_rest M N name h valid qs b.equations b.posted P raw kept G most q model in
        ap (by_post b t.later) (post_same b.fresh (look_in b u D) look (λ w l. view_kind M N F b.equations b.posted P look held G at_rest u D view consistent w l) t0 R' b.fresh low.0 low.1)
        ∙ post_as_row look b t.later t0 R' b.fresh

    fault : (e : QueryFault) → cells_offence target_term see R ≡ Some e → (es ≡ Fault e ∷ []) × (r ≡ 1)
    fault e i = goal_fault M N area prog q name h qs at c stack cs k es r b consistent (goal.Post t0 R') t.later is runnable n m one e
        (λ u D v. gives u D v ∙ ap (by_constraint b t.later) (post_fault look b.fresh R' low.1 t0 e (offence_is ∙ i)))

    -- nothing offends
    module _ (i : cells_offence target_term see R ≡ None) where
      row : IsRow look b.fresh t0 R'
      row = post_ok look b.fresh R' low.1 t0 low.0 (offence_is ∙ i)

      abbrev x : Expansion
      x = row.row

      abbrev p : Indexical
      p = row.range

      shape : IsRangeRow look b.fresh x
      shape = range_row look t0 R' b.fresh low.0 low.1 x row.is

      abbrev raw' : Substitution
      raw' = numbered x.equated raw

      abbrev seen' : Substitution
      seen' = numbered x.equated look

      target_seen : seen' p.target ≡ target_term
      target_seen = row.target look (λ y l. refl) ∙ target_is

      abbrev inner : ℕ → ℕ
      inner y = row.place (f y)

      inner_seen : EachAt (λ y. seen' (inner y) ≡ see y) (range_occurrences R)
      inner_seen = each_both (λ y. look (f y) ≡ see y) (λ y. f y < b.fresh) (λ y. seen' (inner y) ≡ see y) (λ y e l. row.seen look (λ z g. refl) (f y) l ∙ e)
          (range_occurrences R) each (each_renamed (λ y. y < b.fresh) f t.is.2 R low.1)

      body_is : p.range ≡ rename_range inner (filled see R)
      body_is =
          row.body
          ∙ ap (rename_range row.place) (filled_renamed f (λ y. integer_of (look y)) R
          ∙ ap (rename_range f) (filled_agree (λ y. integer_of (look (f y))) (λ y. integer_of (see y)) R
          (each_both (λ y. look (f y) ≡ see y) (λ y. look (f y) ≡ see y) (λ y. integer_of (look (f y)) ≡ integer_of (see y)) (λ y e g. ap integer_of e)
          (range_occurrences R) each each)))
          ∙ range_twice row.place f (filled see R)

      abbrev Named : Term → Type 0
      Named = Names target_term see R

      named_there : (v : ℕ) → has (names p) v ≡ true → Named (seen' v)
      named_there v g = elim (or_cases (p.target == v) (has (reads p.range) v) g) [
        | inl j ↦ inl (ap seen' (sym (eqb-true p.target v j)) ∙ target_seen)
        | inr j ↦
            let y = map_has inner (reads (filled see R)) v (subst (λ l. has l v ≡ true) (ap reads body_is ∙ reads_map inner (filled see R)) j) in
            inr (
              y.0,
              y.1,
              ap seen' (sym y.2) ∙ plain_at (λ y. seen' (inner y) ≡ see y) (range_occurrences R) inner_seen y.0
                  (subst (λ l. has l y.0 ≡ true) (range_plain (λ y. integer_of (see y)) R) y.1),
            )
      ]

      named_back : (u : Term) → Named u → (v : ℕ) × (has (names p) v ≡ true) × (seen' v ≡ u)
      named_back u (inl e) = (p.target, or_left (p.target == p.target) (has (reads p.range) p.target) (eq-eqb p.target p.target refl), target_seen ∙ sym e)
      named_back u (inr y) = (
        inner y.0,
        or_right (p.target == inner y.0) (has (reads p.range) (inner y.0))
            (subst (λ l. has l (inner y.0) ≡ true) (sym (ap reads body_is ∙ reads_map inner (filled see R))) (has_map inner (reads (filled see R)) y.0 y.1)),
        plain_at (λ y. seen' (inner y) ≡ see y) (range_occurrences R) inner_seen y.0 (subst (λ l. has l y.0 ≡ true) (range_plain (λ y. integer_of (see y)) R) y.1) ∙ sym y.2,
      )

      -- what is named is open, or a fresh variable that is an integer
      named_kind : (v : ℕ) → has (names p) v ≡ true → ((v < b.fresh) × ((e : ℕ) × (look v ≡ Var e))) ⊎ ((b.fresh ≤ v) × (v < x.fresh))
      named_kind v g = shape.named v (subst (λ l. has (constrained l) v ≡ true) (sym row.one) (named_left (p ∷ []) [] v (in_one v g)))
        where
          in_one : (v : ℕ) → has (names p) v ≡ true → has (constrained (p ∷ [])) v ≡ true
          in_one v g = elim (or_cases (p.target == v) (has (reads p.range) v) g) [
            | inl e ↦ or_left (p.target == v) (has (reads p.range ++ []) v) e
            | inr e ↦ or_right (p.target == v) (has (reads p.range ++ []) v) (in_left (reads p.range) [] v e)
          ]

      kinds : (v : ℕ) → has (names p) v ≡ true → ((e : ℕ) × (raw' v ≡ Var e) × (seen' v ≡ Var e)) ⊎ ((z : ℤ) × (raw' v ≡ Int z) × (seen' v ≡ Int z))
      kinds v g = elim (named_kind v g) [
        | inl a ↦ inl (a.1.0, numbered_low b.fresh x.equated raw v shape.equated a.0 ∙ unsettled h G (raw v) a.1.0 a.1.1, numbered_low b.fresh x.equated look v shape.equated a.0 ∙ a.1.1)
        | inr a ↦ let z = numbered_high b.fresh x.equated v shape.equated a.0 (let e = shape.fresh in let l = a.1 in omega (arith, e, l)) in inr (z.0, z.1 raw, z.1 look)
      ]

      raw_is : (v : ℕ) → has (names p) v ≡ true → raw' v ≡ seen' v
      raw_is v g = elim (kinds v g) [ inl a ↦ a.1 ∙ sym a.2 | inr a ↦ a.1 ∙ sym a.2 ]

      module _ (slot_of : Term → ℕ) (now : Cells) (ts : List Touch) (l : IsTermsLinked h now qs slot_of (Names target_term see R) ts) where
        abbrev F : ℕ → ℕ
        F v = slot_of (seen' v)

        posted_is : rename_indexical F p ≡ cells_range slot_of target_term see R
        posted_is = two (λ a q. record { target = a; range = q }) (ap slot_of target_seen) (
            ap (rename_range F) body_is ∙ range_twice F inner (filled see R)
            ∙ renamed_agree (λ y. F (inner y)) (λ y. slot_of (see y)) (filled see R) (each_filled (λ y. F (inner y) ≡ slot_of (see y)) (λ y. integer_of (see y)) R
            (each_both (λ y. seen' (inner y) ≡ see y) (λ y. seen' (inner y) ≡ see y) (λ y. F (inner y) ≡ slot_of (see y)) (λ y e g. ap slot_of e) (range_occurrences R) inner_seen inner_seen))
            )

        told_here : (us : List Touch) → AreNumbers slot_of (Names target_term see R) us → AreTold p raw' F us
        told_here [] a = tt
        told_here (Value j z ∷ us) a = (let v = named_back (Int z) a.0.0 in (v.0, v.1, ap slot_of v.2 ∙ a.0.1, raw_is v.0 v.1 ∙ v.2), told_here us a.1)
        told_here (Same j e ∷ us) a = absurd a

        seen_posts : IsSeenPosted b.posted (λ v. v < b.fresh + length x.equated) raw' (link_in h) qs p F (link_in now) ts
        seen_posts = record {
          used = λ v g. elim (named_kind v g) [
            | inl a ↦ (let e = a.0 in omega (arith, e))
            | inr a ↦ (let e = shape.fresh in let o = a.1 in
                omega (arith, e, o))
          ];
          kind = λ v g. elim (kinds v g) [
            | inl a ↦ inl (a.0, a.1, l.cell a.0 (subst Named a.2 (named_there v g)) ∙ ap (λ u. Some (slot_of u)) (sym a.2))
            | inr a ↦ inr (a.0, a.1, subst (λ u. has (constrained qs) (slot_of u) ≡ false) (sym a.2) (l.number a.0 (subst Named a.2 (named_there v g))))
          ];
          apart = λ v w g j e. raw_is v g ∙ l.apart (seen' v) (seen' w) (named_there v g) (named_there w j) e ∙ sym (raw_is w j);
          keep = l.keep;
          fresh = λ e j o. elim (l.new e j o) [ inl a ↦ inl a | inr a ↦ (let v = named_back (Var e) a.0 in inr (v.0, v.1, raw_is v.0 v.1 ∙ v.2, a.1)) ];
          told = told_here ts l.told;
          all = λ v z g e u o. (let s : seen' v ≡ Int z = sym (raw_is v g) ∙ e in ap (λ y. u (slot_of y)) s ∙ l.all z (subst Named s (named_there v g)) u o);
        }

        abbrev pub ranges_after : List Indexical
        ranges_after = (qs ++ cells_range slot_of target_term see R ∷ []) ++ posts ts

        abbrev kid : Branch
        kid = with_expansion b t.later x

        grown : b.fresh ≤ x.fresh
        grown = let e = shape.fresh in omega (arith, e)

        kept_posted : IsKept M N now ranges_after kid.equations kid.posted (λ v. v < kid.fresh) raw'
        kept_posted =
            let es' = equations x.equated ++ b.equations in
            let wide = kept_numbered M N h qs b.posted b.fresh x.equated b.equations raw shape.equated kept in
            let slot' = seen_slot M N es' b.posted (λ v. v < b.fresh + length x.equated) (length h.slots) raw' (link_in h) wide.slot qs wide.stored p F (link_in now) ts seen_posts in
            let done = seen_posted M N es' b.posted (λ v. v < b.fresh + length x.equated) (length h.slots) raw' (link_in h) wide.slot qs wide.stored p F (link_in now) ts seen_posts in
            record {
              slot = slot';
              stored = subst (λ q. IsStored M N es' (row.row.ranges ++ b.posted) (λ v. v < kid.fresh) (length now.slots) raw' (link_in now) slot' ((qs ++ q ∷ []) ++ posts ts)) posted_is
                  (subst (λ rs. IsStored M N es' (rs ++ b.posted) (λ v. v < kid.fresh) (length now.slots) raw' (link_in now) slot' ((qs ++ rename_indexical F p ∷ []) ++ posts ts)) (sym row.one)
                  (subst (λ w. IsStored M N es' (p ∷ b.posted) (λ v. v < w) (length now.slots) raw' (link_in now) slot' ((qs ++ rename_indexical F p ∷ []) ++ posts ts)) (sym shape.fresh)
                  (subst (λ w. IsStored M N es' (p ∷ b.posted) (λ v. v < b.fresh + length x.equated) w raw' (link_in now) slot' ((qs ++ rename_indexical F p ∷ []) ++ posts ts)) (sym l.size) done)));
            }

        posts_on : Spends (Runs M N area prog q name now ranges_after (suc at) c stack cs n k) [] es r
        posts_on = goal_one M N area prog q name h qs at c stack cs k es r b consistent (goal.Post t0 R') t.later is runnable n m one (λ i. refl) kid []
            (λ u D v. gives u D v ∙ ap (by_constraint b t.later) row.is) (λ u D v. refl) now ranges_after (suc at) c stack
            (taken_on M N m.marks area q.shown name h qs at c stack b (λ p. PostRule area number p) t kid refl grown now ranges_after raw' kept_posted
            (λ u e o j g. (l.own e j, agree P raw' raw (λ v w. numbered_low b.fresh x.equated raw v shape.equated w) u o ∙ g ∙ sym (l.terms name e j))))

  module _ (holds : Holds area at (code.PostRange number args)) where
    here : (b : Branch) × Takes b × (m.first ≡ b ∷ [])
    here =
        let s = goes_inside M N m.marks area q.shown name h qs at c stack m.first m.here (code.PostRange number args) tt holds in
        (s.0, taking M N m.marks area q.shown name h qs at c stack s.0 (λ p. PostRule area number p) (code.PostRange number args) (λ w p es r. r) holds s.1, s.2)

    -- the first offence is the fault
    pub run_range_fault : (e : QueryFault) → cells_offence target_term see R ≡ Some e → (es ≡ Fault e ∷ []) × (r ≡ 1)
    run_range_fault = let s = here in fault s.0 s.1 s.2

    -- Where there is none, the range is posted on the variables of the store that the cells are linked to, and on new ones for integers.
    pub run_range : cells_offence target_term see R ≡ None → (slot_of : Term → ℕ) (now : Cells) (ts : List Touch) → IsTermsLinked h now qs slot_of (Names target_term see R) ts
        → Spends (Runs M N area prog q name now ((qs ++ cells_range slot_of target_term see R ∷ []) ++ posts ts) (suc at) c stack cs n k) [] es r
    run_range i slot_of now ts l = let s = here in posts_on s.0 s.1 s.2 i slot_of now ts l
