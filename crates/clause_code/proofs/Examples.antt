-- Two clauses by short code without a frame: append([H|T],L,[H|R]) :- append(T,L,R) with seven instructions, and skip([X,Y|T]) :- skip(T), whose inner list is
-- read in place.
use Rattle.std.proofs.Common.{◌≡◌, ℕ, suc, ◌+◌, ◌<◌, Bool, true, false, ◌==◌, if◌then◌else◌, List, [], ◌∷◌, ◌++◌, Some, slice_get, refl, sym, ◌∙◌, subst, arith}
use Rattle.std.proofs.Common.{inl, inr}
use Rattle.std.proofs.lemmas.Bool.{cases_eq}
use Rattle.clause_code.proofs.Homes.{learnt_here, learnt_else}
use Rattle.fd_language.specs.Term.{Term, Terms, Var, Comp, no_terms, term, term_count}
use Rattle.fd_language.specs.Unifier.{Equation}
use Rattle.fd_model.specs.Goal as goal
use Rattle.fd_model.specs.Goal.{Goal, Clause}
use Rattle.fd_model.specs.Children.{paired}
use Rattle.term_pool.specs.declared.AtomId.{AtomId}
use Rattle.term_pool.specs.Contents.{atom_name}
use Rattle.branch_meaning.specs.Heap.{Of, AllOf, EquationsOf}
use Rattle.branch_meaning.proofs.Lemmas.{more_of}
use Rattle.wam_code.specs.declared.instruction.Register.TheVariants.{X}
use Rattle.wam_code.specs.declared.instruction.Code.{Code}
use Rattle.wam_code.specs.declared.instruction.Code.TheVariants.{GetStructure, UnifyVariable, UnifyValue, UnifyVoid, Execute}
use Rattle.wam_code.specs.Area.{Area}
use Rattle.wam_code.specs.Places.{Places, learnt, learn, write, IsFresh, Has, IsWhole, Hold}
use Rattle.wam_code.specs.CodeMeaning.{Caller, Means}
use Rattle.wam_code.specs.Tries.{IsBefore, IsClause}
use Rattle.clause_code.specs.Pieces.{Base, base_of, Stand, past, Does, Ends}
use Rattle.clause_code.specs.NestedStructures.{whole, apart}
use Rattle.clause_code.proofs.NestedStructures.{does_split}
use Rattle.clause_code.proofs.Pieces.{ends_behind, no_parts, part_variable, part_value, part_void, does_get_structure, does_learn, ends_execute, equation}

learnt_still : (u v : ℕ) (known : ℕ → Bool) → known v ≡ true → learnt u known v ≡ true
learnt_still u v known h = by (v == u)
  where
    by : (c : Bool) → (if c then true else known v) ≡ true
    by true = refl
    by false = h

learnt_below : (u : ℕ) (known : ℕ → Bool) → ((v : ℕ) → v < u → known v ≡ true) → (v : ℕ) → v < suc u → learnt u known v ≡ true
learnt_below u known h v l = elim (cases_eq v u) [
  | inl e ↦ subst (λ x. learnt u known x ≡ true) (sym e) (learnt_here u known)
  | inr other ↦ learnt_still u v known (h v (omega (arith, l, other)))
]

module _ (b : Base) (cons name : AtomId) (k : ℕ) (there : slice_get b.predicates k ≡ Some (record { name = name; arity = 3 })) where
  abbrev pair : Term → Term → Term
  pair x y = Comp (atom_name b.pool cons) (term x (term y no_terms))

  abbrev three : Term → Term → Term → Terms
  three x y z = term x (term y (term z no_terms))

  abbrev append_clause : Clause
  append_clause = record {
    variables = 4;
    head = Comp (atom_name b.pool name) (three (pair (Var 0) (Var 1)) (Var 2) (pair (Var 0) (Var 3)));
    body = goal.Call (Comp (atom_name b.pool name) (three (Var 1) (Var 2) (Var 3))) ∷ [];
  }

  -- the second argument stays in its register
  abbrev pub append_code : List Code
  append_code = GetStructure cons 2 1 ∷ UnifyVariable (X 4) ∷ UnifyVariable (X 1) ∷ GetStructure cons 2 3 ∷ UnifyValue (X 4) ∷ UnifyVariable (X 3) ∷ Execute k ∷ []

  module _ (n : ℕ) (t1 t2 t3 : Term) (w : Caller) (p : Places) (at : ℕ) (hold : Hold p 1 (three t1 t2 t3)) (before : IsBefore p n 4) where
    abbrev p1 : Places
    p1 = write (learn p (n + 0)) (X 4) (Var (n + 0))

    abbrev p2 : Places
    p2 = write (learn p1 (n + 1)) (X 1) (Var (n + 1))

    abbrev p3 : Places
    p3 = write (learn p2 (n + 2)) (X 2) (Var (n + 2))

    abbrev p4 : Places
    p4 = write (learn p3 (n + 3)) (X 3) (Var (n + 3))

    f0 : IsFresh p (n + 0)
    f0 = (before.fresh (n + 0) (omega arith), omega (arith, before.top))

    f1 : IsFresh p1 (n + 1)
    f1 = (learnt_else (n + 0) (n + 1) p.known (λ e. omega (arith, e)) ∙ before.fresh (n + 1) (omega arith), omega (arith, before.top))

    f2 : IsFresh p2 (n + 2)
    f2 = (learnt_else (n + 1) (n + 2) p1.known (λ e. omega (arith, e)) ∙ learnt_else (n + 0) (n + 2) p.known (λ e. omega (arith, e)) ∙ before.fresh (n + 2) (omega arith), omega (arith, before.top))

    f3 : IsFresh p3 (n + 3)
    f3 = (
      learnt_else (n + 2) (n + 3) p2.known (λ e. omega (arith, e)) ∙ learnt_else (n + 1) (n + 3) p1.known (λ e. omega (arith, e))
          ∙ learnt_else (n + 0) (n + 3) p.known (λ e. omega (arith, e)) ∙ before.fresh (n + 3) (omega arith),
      omega (arith, before.top),
    )

    append_made : IsWhole p4
    append_made v l =
        learnt_below (n + 3) p3.known (λ x h. learnt_below (n + 2) p2.known (λ x h. learnt_below (n + 1) p1.known (λ x h. learnt_below (n + 0) p.known (λ x h. before.known x (omega (arith, h)))
        x (omega (arith, h))) x (omega (arith, h))) x (omega (arith, h))) v (omega (arith, l, before.top))

    abbrev last : List Equation
    last = equation t3 (pair (Var (n + 0)) (Var (n + 3))) ∷ []

    abbrev rest : List Equation
    rest = equation t2 (Var (n + 2)) ∷ last

    abbrev called : List Goal
    called = goal.Call (Comp (atom_name b.pool name) (three (Var (n + 1)) (Var (n + 2)) (Var (n + 3)))) ∷ w.goals

    abbrev front : List Code
    front = GetStructure cons 2 1 ∷ UnifyVariable (X 4) ∷ UnifyVariable (X 1) ∷ []

    abbrev back : List Code
    back = GetStructure cons 2 3 ∷ UnifyValue (X 4) ∷ UnifyVariable (X 3) ∷ []

    does_front : Does b at front p (equation t1 (pair (Var (n + 0)) (Var (n + 1))) ∷ rest) called p2 rest called
    does_front =
        does_get_structure b at cons 2 1 (UnifyVariable (X 4) ∷ UnifyVariable (X 1) ∷ []) t1 (term (Var (n + 0)) (term (Var (n + 1)) no_terms)) p p2 rest called hold.0 refl
        (part_variable b (suc at) (X 4) (n + 0) (UnifyVariable (X 1) ∷ []) (term (Var (n + 1)) no_terms) p p2 f0
        (part_variable b (suc (suc at)) (X 1) (n + 1) [] no_terms p1 p2 f1 (no_parts b (suc (suc (suc at))) p2)))

    does_second : Does b (past at front) [] p2 rest called p3 last called
    does_second = does_learn b (past at front) 2 (n + 2) t2 p2 last called f2 hold.1.0

    does_back : Does b (past at front) back p3 last called p4 [] called
    does_back =
        let from : ℕ = past at front in
        does_get_structure b from cons 2 3 (UnifyValue (X 4) ∷ UnifyVariable (X 3) ∷ []) t3 (term (Var (n + 0)) (term (Var (n + 3)) no_terms)) p3 p4 [] called hold.1.1.0 refl
        (part_value b (suc from) (X 4) (Var (n + 0)) (UnifyVariable (X 3) ∷ []) (term (Var (n + 3)) no_terms) p3 p4 refl
        (part_variable b (suc (suc from)) (X 3) (n + 3) [] no_terms p3 p4 f3 (no_parts b (suc (suc (suc from))) p4)))

    append_ends : Ends b w at append_code p (equation t1 (pair (Var (n + 0)) (Var (n + 1))) ∷ rest) called
    append_ends =
        ends_behind b w at front (back ++ (Execute k ∷ [])) p p2 _ rest called called does_front
        (ends_behind b w (past at front) [] (back ++ (Execute k ∷ [])) p2 p3 rest last called called does_second
        (ends_behind b w (past at front) back (Execute k ∷ []) p3 p4 last [] called called does_back
        (ends_execute b w (past (past at front) back) k (record { name = name; arity = 3 }) (three (Var (n + 1)) (Var (n + 2)) (Var (n + 3))) p4 there refl (refl, (refl, (refl, tt))) append_made)))

  -- It stands for the clause.
  pub append_is_clause : (area : Area) (at : ℕ) → base_of area ≡ b → Stand area at append_code → IsClause area at append_clause
  append_is_clause area at same stand = λ n as' d after shown p size below hold noted before. by n as' after shown p size hold before
    where
      by : (n : ℕ) (as' : Terms) (after : List Goal) (shown : List ℕ) (p : Places) → term_count as' ≡ 3 → Hold p 1 as' → IsBefore p n 4
          → Means area (record { goals = after; shown = shown }) at p
          (paired as' (three (pair (Var (n + 0)) (Var (n + 1))) (Var (n + 2)) (pair (Var (n + 0)) (Var (n + 3)))))
          (goal.Call (Comp (atom_name b.pool name) (three (Var (n + 1)) (Var (n + 2)) (Var (n + 3)))) ∷ after)
      by n (term t1 (term t2 (term t3 no_terms))) after shown p size hold before = append_ends n t1 t2 t3 (record { goals = after; shown = shown }) p at hold before area same stand
      by n no_terms after shown p size hold before = absurd (omega (arith, size))
      by n (term t1 no_terms) after shown p size hold before = absurd (omega (arith, size))
      by n (term t1 (term t2 no_terms)) after shown p size hold before = absurd (omega (arith, size))
      by n (term t1 (term t2 (term t3 (term t4 ts)))) after shown p size hold before = absurd (omega (arith, size))

-- ---- a list inside a list

module _ (b : Base) (cons name : AtomId) (k : ℕ) (there : slice_get b.predicates k ≡ Some (record { name = name; arity = 1 })) where
  abbrev two : Term → Term → Term
  two x y = Comp (atom_name b.pool cons) (term x (term y no_terms))

  abbrev skip_clause : Clause
  skip_clause = record {
    variables = 3;
    head = Comp (atom_name b.pool name) (term (two (Var 0) (two (Var 1) (Var 2))) no_terms);
    body = goal.Call (Comp (atom_name b.pool name) (term (Var 2) no_terms)) ∷ [];
  }

  -- the second register has the list inside
  abbrev pub skip_code : List Code
  skip_code = GetStructure cons 2 1 ∷ UnifyVoid 1 ∷ UnifyVariable (X 2) ∷ GetStructure cons 2 2 ∷ UnifyVoid 1 ∷ UnifyVariable (X 1) ∷ Execute k ∷ []

  module _ (n : ℕ) (t : Term) (w : Caller) (p : Places) (at : ℕ) (hold : p.x 1 ≡ Some t) (below : Of (λ v. v < n) t) (before : IsBefore p n 3) where
    -- with one more variable, for the list inside
    abbrev q0 : Places
    q0 = record p { top = suc p.top }

    abbrev q1 : Places
    q1 = learn q0 (n + 0)

    abbrev q2 : Places
    q2 = write (learn q1 p.top) (X 2) (Var p.top)

    abbrev q3 : Places
    q3 = learn q2 (n + 1)

    abbrev q4 : Places
    q4 = write (learn q3 (n + 2)) (X 1) (Var (n + 2))

    abbrev inside : Term
    inside = two (Var (n + 1)) (Var (n + 2))

    abbrev goals : List Goal
    goals = goal.Call (Comp (atom_name b.pool name) (term (Var (n + 2)) no_terms)) ∷ w.goals

    abbrev outer : List Code
    outer = GetStructure cons 2 1 ∷ UnifyVoid 1 ∷ UnifyVariable (X 2) ∷ []

    abbrev inner : List Code
    inner = GetStructure cons 2 2 ∷ UnifyVoid 1 ∷ UnifyVariable (X 1) ∷ []

    g0 : IsFresh q0 (n + 0)
    g0 = (before.fresh (n + 0) (omega arith), omega (arith, before.top))

    g1 : IsFresh q1 p.top
    g1 = (learnt_else (n + 0) p.top p.known (λ e. omega (arith, e, before.top)) ∙ before.fresh p.top (omega (arith, before.top)), omega arith)

    g2 : IsFresh q2 (n + 1)
    g2 = (
      learnt_else p.top (n + 1) q1.known (λ e. omega (arith, e, before.top)) ∙ learnt_else (n + 0) (n + 1) p.known (λ e. omega (arith, e))
          ∙ before.fresh (n + 1) (omega arith),
      omega (arith, before.top),
    )

    g3 : IsFresh q3 (n + 2)
    g3 = (
      learnt_else (n + 1) (n + 2) q2.known (λ e. omega (arith, e)) ∙ learnt_else p.top (n + 2) q1.known (λ e. omega (arith, e, before.top))
          ∙ learnt_else (n + 0) (n + 2) p.known (λ e. omega (arith, e)) ∙ before.fresh (n + 2) (omega arith),
      omega (arith, before.top),
    )

    old : (v : ℕ) → v < n → Has p v
    old v l = inl (before.known v l)

    whole_below : EquationsOf (Has p) (whole t (atom_name b.pool cons) (term (Var (n + 0)) no_terms) inside no_terms [])
    whole_below = ((more_of (λ v. v < n) (Has p) old t below, (inr (omega (arith, before.top)), ((inr (omega (arith, before.top)), (inr (omega (arith, before.top)), tt)), tt))), tt)

    does_apart : Does b at [] p (whole t (atom_name b.pool cons) (term (Var (n + 0)) no_terms) inside no_terms []) goals q0
        (apart p.top t (atom_name b.pool cons) (term (Var (n + 0)) no_terms) inside no_terms []) goals
    does_apart = does_split b at t (atom_name b.pool cons) (term (Var (n + 0)) no_terms) inside no_terms [] p goals (before.fresh p.top (omega (arith, before.top))) whole_below

    does_outer : Does b at outer q0 (equation t (two (Var (n + 0)) (Var p.top)) ∷ equation (Var p.top) inside ∷ []) goals q2 (equation (Var p.top) inside ∷ []) goals
    does_outer =
        does_get_structure b at cons 2 1 (UnifyVoid 1 ∷ UnifyVariable (X 2) ∷ []) t (term (Var (n + 0)) (term (Var p.top) no_terms)) q0 q2 (equation (Var p.top) inside ∷ []) goals hold refl
        (part_void b (suc at) (n + 0) (UnifyVariable (X 2) ∷ []) (term (Var p.top) no_terms) q0 q2 g0
        (part_variable b (suc (suc at)) (X 2) p.top [] no_terms q1 q2 g1 (no_parts b (suc (suc (suc at))) q2)))

    does_inner : Does b (past at outer) inner q2 (equation (Var p.top) inside ∷ []) goals q4 [] goals
    does_inner =
        let from : ℕ = past at outer in
        does_get_structure b from cons 2 2 (UnifyVoid 1 ∷ UnifyVariable (X 1) ∷ []) (Var p.top) (term (Var (n + 1)) (term (Var (n + 2)) no_terms)) q2 q4 [] goals refl refl
        (part_void b (suc from) (n + 1) (UnifyVariable (X 1) ∷ []) (term (Var (n + 2)) no_terms) q2 q4 g2
        (part_variable b (suc (suc from)) (X 1) (n + 2) [] no_terms q3 q4 g3 (no_parts b (suc (suc (suc from))) q4)))

    still : (v : ℕ) → q2.known v ≡ true → q4.known v ≡ true
    still v h = learnt_still (n + 2) v q3.known (learnt_still (n + 1) v q2.known h)

    skip_made : IsWhole q4
    skip_made v l = elim (cases_eq v p.top) [
      | inl e ↦ subst (λ x. q4.known x ≡ true) (sym e) (still p.top (learnt_here p.top q1.known))
      | inr other ↦ learnt_below (n + 2) q3.known (λ x h. learnt_below (n + 1) q2.known (λ x h. learnt_still p.top x q1.known (learnt_below (n + 0) p.known (λ x h. before.known x (omega (arith, h)))
          x (omega (arith, h)))) x (omega (arith, h))) v (omega (arith, l, other, before.top))
    ]

    skip_ends : Ends b w at skip_code p (whole t (atom_name b.pool cons) (term (Var (n + 0)) no_terms) inside no_terms []) goals
    skip_ends =
        ends_behind b w at [] skip_code p q0 _ (apart p.top t (atom_name b.pool cons) (term (Var (n + 0)) no_terms) inside no_terms []) goals goals does_apart
        (ends_behind b w at outer (inner ++ (Execute k ∷ [])) q0 q2 _ (equation (Var p.top) inside ∷ []) goals goals does_outer
        (ends_behind b w (past at outer) inner (Execute k ∷ []) q2 q4 _ [] goals goals does_inner
        (ends_execute b w (past (past at outer) inner) k (record { name = name; arity = 1 }) (term (Var (n + 2)) no_terms) q4 there refl (refl, tt) skip_made)))

  -- It stands for the clause.
  pub skip_is_clause : (area : Area) (at : ℕ) → base_of area ≡ b → Stand area at skip_code → IsClause area at skip_clause
  skip_is_clause area at same stand = λ n as' d after shown p size below hold noted before. by n as' after shown p size below hold before
    where
      by : (n : ℕ) (as' : Terms) (after : List Goal) (shown : List ℕ) (p : Places) → term_count as' ≡ 1 → AllOf (λ v. v < n) as' → Hold p 1 as' → IsBefore p n 3
          → Means area (record { goals = after; shown = shown }) at p (paired as' (term (two (Var (n + 0)) (two (Var (n + 1)) (Var (n + 2)))) no_terms))
          (goal.Call (Comp (atom_name b.pool name) (term (Var (n + 2)) no_terms)) ∷ after)
      by n (term t no_terms) after shown p size below hold before = skip_ends n t (record { goals = after; shown = shown }) p at hold.0 below.0 before area same stand
      by n no_terms after shown p size below hold before = absurd (omega (arith, size))
      by n (term t (term u us)) after shown p size below hold before = absurd (omega (arith, size))
