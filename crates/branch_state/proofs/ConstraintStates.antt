-- What a constraint does to a branch.
use Rattle.std.proofs.Common.{◌≡◌, ℕ, ◌-◌, ◌<◌, Bool, true, false, List, [], ◌∷◌, ◌++◌, length, Option, Some, None, Result, Ok, Err, ap, sym, ◌∙◌, subst, inl}
use Rattle.std.proofs.Common.{inr}
use Rattle.std.specs.Prelude.{All, MatchOption}
use Rattle.std.specs.List.Sorted.{IsPermutation}
use Rattle.fd_language.specs.declared.TheConstants.{INFINITY}
use Rattle.fd_language.specs.declared.NoMemory as memory
use Rattle.fd_language.specs.Range.{Indexical, params}
use Rattle.fd_language.specs.Term.{Name}
use Rattle.fd_model.specs.declared.kinds.ConstraintKind.{ConstraintKind}
use Rattle.fd_model.specs.declared.kinds.QueryFault.{QueryFault}
use Rattle.fd_model.specs.ClosedFamilies.{AllPosted}
use Rattle.fd_model.specs.ConstraintExpansion.{arguments, expand}
use Rattle.fd_model.specs.Levels.{Level, Levels}
use Rattle.fd_model.specs.LinearRows.{Expansion}
use Rattle.fd_model.proofs.Lemmas.{scoped_rows, Fitting, expand_fitting}
use Rattle.heap_cells.specs.declared.Cell.{Cell}
use Rattle.heap_cells.specs.Atoms.{IsAtomBelow, HasAtomsBelow}
use Rattle.heap_cells.specs.SeenTerms.{seen_term}
use Rattle.term_pool.specs.Contents.{name_in}
use Rattle.constraint_expand.specs.declared.faults.ExpandFault.{ExpandFault}
use Rattle.constraint_expand.specs.declared.faults.ExpandFault.TheVariants.{NoMemory}
use Rattle.constraint_expand.specs.Faults.{fault_of, IsFaultOf}
use Rattle.heap_cells.specs.Cells.{Cells, Heaps}
use Rattle.branch_meaning.specs.Store.{posts}
use Rattle.branch_meaning.proofs.Lemmas.{bindings}
use Rattle.branch_lemmas.specs.Frames.{store_touches}
use Rattle.branch_lemmas.specs.AtomNames.{full}
use Rattle.heap_cells.specs.SeenTerms.{seen_term}
use Rattle.range_code.specs.Frames.{family_of}
use Rattle.propagate_queue.specs.declared.instance.Instance.{Instance}
use Rattle.propagate_queue.specs.Instances.{posted_by, IsInstance}
use Rattle.unify_core.specs.declared.Touch.{Touch}
use Rattle.unify_core.specs.Outcome.{IfTrue, IfFalse}
use Rattle.branch_state.specs.VariableBounds.{new_bounds}
use Rattle.branch_state.specs.Constraints.{row_of, IsConstrained, Constrains, IsRowOf}
use Rattle.branch_state.specs.LinkedRows.{IsRowReady}
use Rattle.branch_state.specs.StoreVariables.{OwnLinks, with_level_sets}
use Rattle.branch_state.specs.Ranges.{kept_step}
use Rattle.branch_state.specs.States.{State, IsPair, ArePairs, IsSound, IsSettled, HasNoModel, IsCell}
use Rattle.branch_state.specs.Steps.{AreTouchesBelow}
use Rattle.branch_state.proofs.VariableBounds.{none_before}
use Rattle.branch_state.proofs.ConstraintHeaps.{arguments_unbound}
use Rattle.branch_state.proofs.LinkedRows.{row_pair, row_linked, rows_fit, touches_fit}
use Rattle.branch_state.proofs.SplitRows.{equated_next}
use Rattle.branch_state.proofs.ShownTerms.{term_read}

pub own_links : (s : State) → IsSound s → OwnLinks (length s.levels.current.sets) s.heaps.now
own_links s o = record { valid = o.now.valid; below = o.now.linked; one = o.now.one }

module _ (names : List Name) (old : State) (o : IsSound old) (kind : ConstraintKind) (c : Cell) (y : Expansion) (is : row_of names old kind c ≡ Ok y)
    (row : IsRowOf old.heaps.now y) (now : Cells) (S : List (List ℕ)) (list : List Instance) (fixed : List Touch)
    (r : IsRowReady old.heaps.now old.levels.current.sets y now S list fixed) where
  abbrev qs : List Indexical
  qs = old.levels.current.posted

  abbrev After' : List Indexical
  After' = (qs ++ posted_by list) ++ posts (store_touches fixed)

  constrained_row : IsConstrained names old kind c now After'
  constrained_row =
      let l = row_linked old.heaps.now old.levels.current.sets (own_links old o) qs o.now.posted y row now S list fixed r in
      record { row = y; is = is; link = l.0; ranges = l.1; new = bindings y.equated; touches = l.2; linked = l.3; after = l.4 }

  -- what may be posted
  pub list_fits : All (IsInstance (length S)) list
  list_fits = rows_fit old.heaps.now old.levels.current.sets (own_links old o) qs o.now.posted y row now S list fixed r

  pub fixed_fits : AreTouchesBelow (length S) fixed
  fixed_fits = touches_fit old.heaps.now old.levels.current.sets (own_links old o) qs o.now.posted y row now S list fixed r

  abbrev I : ℕ
  I = old.infinity

  abbrev sets : List (List ℕ)
  sets = old.levels.current.sets

  all_same : (st : Levels) → st ≡ with_level_sets old.levels S → (first : ℕ) → first ≡ length sets
      → ((st.current.posted ++ posted_by list) ++ posts (store_touches fixed)) ++ new_bounds I first (length st.current.sets - first) ≡ After' ++ new_bounds I (length sets) (length S - length sets)
  all_same st g first start =
      ap (λ (l : Levels). ((l.current.posted ++ posted_by list) ++ posts (store_touches fixed)) ++ new_bounds I first (length l.current.sets - first)) g
      ∙ ap (λ n. After' ++ new_bounds I n (length S - n)) start

  -- whether all has a model then
  pub constraint_step : (hs : Heaps) → hs.now ≡ now → hs.below ≡ old.heaps.below → (st ls : Levels) → st ≡ with_level_sets old.levels S → ls.below ≡ st.below
      → ls.spent ≡ false → length ls.current.sets ≡ length st.current.sets → (first : ℕ) → first ≡ length sets → (kept : Bool)
      → IfTrue {E = memory.NoMemory} (Ok kept) (IsPermutation ls.current.posted
      (((st.current.posted ++ posted_by list) ++ posts (store_touches fixed)) ++ new_bounds I first (length st.current.sets - first)))
      → IfTrue {E = memory.NoMemory} (Ok kept) ((ls.current.failed ≡ false) × IsSettled INFINITY ls.current)
      → IfFalse {E = memory.NoMemory} (Ok kept) (HasNoModel INFINITY (((st.current.posted ++ posted_by list) ++ posts (store_touches fixed)) ++ new_bounds I first (length st.current.sets - first)))
      → Constrains names old kind c (record { atoms = old.atoms; infinity = old.infinity; heaps = hs; levels = ls }) (kept_step kept)
  constraint_step hs e f st ls g b u len first start true p v none =
      let q : IsPermutation ls.current.posted (After' ++ new_bounds I (length sets) (length S - length sets)) = subst (IsPermutation ls.current.posted) (all_same st g first start) p in (
        (
          After',
          subst (λ (x : Cells). IsConstrained names old kind c x After') (sym e) constrained_row,
          subst (λ m. IsPermutation ls.current.posted (After' ++ new_bounds I (length sets) (m - length sets))) (sym (len ∙ ap (λ (l : Levels). length l.current.sets) g)) q,
        ),
        record {
          greatest = o.greatest;
          unspent = u;
          marked = subst (λ (l : List Cells). 0 < length l) (sym f) o.marked;
          below = subst (λ (l : List Level). ArePairs old.atoms I hs.below l) (sym (b ∙ ap (λ (l : Levels). l.below) g))
              (subst (λ (l : List Cells). ArePairs old.atoms I l old.levels.below) (sym f) o.below);
          now = subst (λ (x : Cells). IsPair old.atoms I x ls.current) (sym e)
              (row_pair old.heaps.now sets (own_links old o) qs o.now.posted y row now S list fixed r old.atoms I o.greatest o.now.names o.now.bounded
              ls.current (len ∙ ap (λ (l : Levels). length l.current.sets) g) q v);
        },
      )
  constraint_step hs e f st ls g b u len first start false p v none = (
    (
      After',
      subst (λ (x : Cells). IsConstrained names old kind c x After') (sym e) constrained_row,
      none_before I o.greatest After' (length sets) (length S - length sets) (subst (HasNoModel INFINITY) (all_same st g first start) none),
    ),
    record {
      greatest = o.greatest;
      unspent = u;
      marked = subst (λ (l : List Cells). 0 < length l) (sym f) o.marked;
      below = subst (λ (l : List Level). ArePairs old.atoms I hs.below l) (sym (b ∙ ap (λ (l : Levels). l.below) g))
          (subst (λ (l : List Cells). ArePairs old.atoms I l old.levels.below) (sym f) o.below);
    },
  )

-- ---- the row

plain_rows : (ps : List Indexical) → Fitting INFINITY ps → AllPosted (λ p. params p.range ≡ []) ps
plain_rows [] f = tt
plain_rows (p ∷ ps) f = (f.0.params, plain_rows ps f.1)

-- The row of a constraint on the term of a cell is one of the heap.
pub row_of_heap : (names : List Name) (s : State) → IsSound s → (kind : ConstraintKind) (c : Cell) → IsCell s c → (y : Expansion) → row_of names s kind c ≡ Ok y → IsRowOf s.heaps.now y
row_of_heap names s o kind c own y is =
    let h = s.heaps.now in
    let ts = arguments (seen_term (full names) h (family_of s.levels.current.sets) c) in
    let scoped = scoped_rows INFINITY kind ts (length h.slots) y is in
    record {
      grows = scoped.grows;
      named = λ x e. elim (scoped.named x e) [ inl i ↦ inl (arguments_unbound (full names) h o.now.valid (family_of s.levels.current.sets) c own.0 x i) | inr i ↦ inr i ];
      equated = equated_next INFINITY kind ts (length h.slots) y is;
      fresh = scoped.equated;
      plain = plain_rows y.ranges (expand_fitting INFINITY kind ts (length h.slots) y is);
    }

-- what is expanded is that row
pub row_read : (names : List Name) (s : State) → IsSound s → length names ≡ s.atoms → (kind : ConstraintKind) (c : Cell) → IsCell s c → (n : ℕ)
    → n ≡ length s.heaps.now.slots → expand INFINITY kind (arguments (seen_term (name_in names) s.heaps.now (family_of s.levels.current.sets) c)) n ≡ row_of
    names s kind c
row_read names s o same kind c own n e =
    ap (λ m. expand INFINITY kind (arguments (seen_term (name_in names) s.heaps.now (family_of s.levels.current.sets) c)) m) e
    ∙ ap (λ t. expand INFINITY kind (arguments t) (length s.heaps.now.slots))
    (term_read names s.heaps.now s.levels.current.sets o.now.valid (subst (λ m. HasAtomsBelow m s.heaps.now) (sym same) o.now.names) c own.0
    (subst (λ m. IsAtomBelow m c) (sym same) own.1))

pub fault_read : (d : Result Expansion QueryFault) (f : ExpandFault) (q : QueryFault) → IsFaultOf d f → fault_of f ≡ Some q → d ≡ Err q
fault_read d f q i e = by_option (fault_of f) i e where
  by_option : (m : Option QueryFault) → MatchOption m (f ≡ NoMemory) (λ q. d ≡ Err q) → m ≡ Some q → d ≡ Err q
  by_option None i e = absurd (cc)
  by_option (Some p) i e = let g : p ≡ q = cc in i ∙ ap Err g
