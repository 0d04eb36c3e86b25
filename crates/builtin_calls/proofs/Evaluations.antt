-- An evaluation, step by step.
use Rattle.std.proofs.Common.{◌≡◌, ℕ, ◌+◌, ◌<◌, ◌≤◌, ℤ, Bool, true, false, not, cond, refl, ap, sym, ◌∙◌, subst, arith, inl, inr, List, [], ◌∷◌, ◌++◌, length}
use Rattle.std.proofs.Common.{get_or, Some, None, Bor}
use Rattle.std.specs.Prelude.{All, Result, Ok, Err, codes}
use Rattle.std.specs.Str.{bytes_eq}
use Rattle.std.proofs.lemmas.Bool.{not-true}
use Rattle.fd_language.specs.Family.{Family}
use Rattle.term_pool.proofs.Lemmas.{size_above_zero}
use Rattle.term_pool.specs.declared.AtomId.{AtomId}
use Rattle.term_pool.specs.Contents.{name_in}
use Rattle.term_pool.specs.Terms.{size}
use Rattle.fd_language.specs.Term.{Name, Term, Comp}
use Rattle.heap_cells.specs.declared.Cell.{Cell}
use Rattle.heap_cells.specs.declared.Seen.TheVariants as seen
use Rattle.heap_cells.specs.Cells.{Cells, Compound, IsOf}
use Rattle.heap_cells.specs.Terms.{Naming, terms_by}
use Rattle.heap_cells.specs.Atoms.{HasAtomsBelow, IsAtomBelow}
use Rattle.heap_cells.specs.HeapInvariant.{IsHeap}
use Rattle.heap_cells.proofs.Lemmas.{all_front, last_of, all_push, head_of, tail_of}
use Rattle.builtin_calls.specs.declared.evaluation.EvalFault.{EvalFault}
use Rattle.builtin_calls.specs.declared.evaluation.EvalFault.TheVariants as fault
use Rattle.builtin_calls.specs.declared.operations.Operation.{Operation}
use Rattle.builtin_calls.specs.declared.operations.Operation.TheVariants.{Add, Subtract, Multiply, Divide, Modulo}
use Rattle.builtin_calls.specs.declared.operations.OpenOperation.{OpenOperation}
use Rattle.builtin_calls.specs.declared.operations.OpenOperation.TheVariants.{Left, Right, Opposite}
use Rattle.builtin_calls.specs.declared.evaluation.Step.{Step}
use Rattle.builtin_calls.specs.declared.evaluation.Step.TheVariants.{Enter, Leave}
use Rattle.fd_model.specs.Arithmetic.{ValueFault, not_a_number, Value, value_of, by_name, value_of_both, value_of_one, opposite_of, integer_sum}
use Rattle.fd_model.specs.Arithmetic.{integer_difference, integer_product, quotient_of, modulo_of}
use Rattle.heap_cells.specs.SeenTerms.{seen_term}
use Rattle.builtin_calls.specs.CellTops.{IsHeld}
use Rattle.builtin_calls.specs.Outcomes.{IsFault, IsNamedBy, Tells, meaning, operation_of}
use Rattle.builtin_calls.specs.Evaluations.{after, resumed, step_value, TellsDescent, IsOwn, IsOwnOperation, IsOwnStep, unnamed, burden, GoesOn, Leads}
use Rattle.builtin_calls.specs.Evaluations.{TellsAscent, IsEntered}

-- the operation that a name means
operation_by : (a b c d e : Bool) (l r : Value) (o : Operation) → cond a (Some Add) (cond b (Some Subtract) (cond c (Some Multiply) (cond d (Some Divide) (cond e (Some Modulo) None)))) ≡ Some o
    → cond a (value_of_both integer_sum l r) (cond b (value_of_both integer_difference l r)
    (cond c (value_of_both integer_product l r) (cond d (value_of_both quotient_of l r) (cond e (value_of_both modulo_of l r) (Err not_a_number)))))
    ≡ value_of_both (meaning o) l r
operation_by true b c d e l r o h = let f : Add ≡ o = cc in ap (λ x. value_of_both (meaning x) l r) f
operation_by false true c d e l r o h = let f : Subtract ≡ o = cc in ap (λ x. value_of_both (meaning x) l r) f
operation_by false false true d e l r o h = let f : Multiply ≡ o = cc in ap (λ x. value_of_both (meaning x) l r) f
operation_by false false false true e l r o h = let f : Divide ≡ o = cc in ap (λ x. value_of_both (meaning x) l r) f
operation_by false false false false true l r o h = let f : Modulo ≡ o = cc in ap (λ x. value_of_both (meaning x) l r) f
operation_by false false false false false l r o h = absurd (let f : ⊥ = cc in f)

by_operation : (f : Name) (l r : Value) (o : Operation) → operation_of f ≡ Some o → by_name f l r ≡ value_of_both (meaning o) l r
by_operation f l r o h = operation_by (bytes_eq f (codes "+")) (bytes_eq f (codes "-")) (bytes_eq f (codes "*")) (bytes_eq f (codes "//")) (bytes_eq f (codes "mod")) l r o h

-- an operation of two operands whose values are known
pub both_valued : (names : List Name) (h : Cells) (G : Family) (c : Cell) (f : AtomId) (args : List Cell) → f.number < length names
    → ((name : Naming) → seen_term name h G c ≡ Comp (name f) (terms_by (seen_term name h G) args)) → 2 ≤ length args → length args < 3
    → (d : Cell) (text : Name) (o : Operation) → text ≡ name_in names f → operation_of text ≡ Some o
    → (a b : ℤ) → ((name : Naming) → value_of (seen_term name h G (get_or args 0 d)) ≡ Ok a)
    → ((name : Naming) → value_of (seen_term name h G (get_or args 1 d)) ≡ Ok b) → (r : Result ℤ EvalFault) → Tells r (meaning o a b) → (name : Naming)
    → IsNamedBy names name → Tells r (value_of (seen_term name h G c))
both_valued names h G c f [] there is p q d text o x m a b u v r t name n = absurd (omega arith)
both_valued names h G c f (k ∷ []) there is p q d text o x m a b u v r t name n = absurd (omega arith)
both_valued names h G c f (k ∷ l ∷ []) there is p q d text o x m a b u v r t name n =
    let by = seen_term name h G in
    let e : value_of (by c) ≡ meaning o a b =
    ap value_of (is name) ∙ by_operation (name f) (value_of (by k)) (value_of (by l)) o (ap operation_of (n f there ∙ sym x) ∙ m)
    ∙ ap (λ y. value_of_both (meaning o) y (value_of (by l))) (u name) ∙ ap (λ y. value_of_both (meaning o) (Ok a) y) (v name) in
    subst (Tells r) (sym e) t
both_valued names h G c f (k ∷ l ∷ i ∷ ks) there is p q d text o x m a b u v r t name n = absurd (omega arith)

-- what waits
resumed-append : (by : Cell → Term) (ws : List OpenOperation) (w : OpenOperation) (v : Value) → resumed by (ws ++ w ∷ []) v ≡ resumed by ws (after by w v)
resumed-append by [] w v = refl
resumed-append by (x ∷ ws) w v = ap (after by x) (resumed-append by ws w v)

fault_after : (by : Cell → Term) (w : OpenOperation) (f : ValueFault) → after by w (Err f) ≡ Err f
fault_after by (Left o c) f = refl
fault_after by (Right o z) f = refl
fault_after by Opposite f = refl

fault_resumed : (by : Cell → Term) (ws : List OpenOperation) (f : ValueFault) → resumed by ws (Err f) ≡ Err f
fault_resumed by [] f = refl
fault_resumed by (w ∷ ws) f = ap (after by w) (fault_resumed by ws f) ∙ fault_after by w f

-- a fault ends all that waits
pub fault_through : (by : Cell → Term) (ws : List OpenOperation) (e : EvalFault) (v : Value) → IsFault e v → IsFault e (resumed by ws v)
fault_through by ws fault.Unbound v h = ap (resumed by ws) h ∙ fault_resumed by ws _
fault_through by ws fault.NotANumber v h = ap (resumed by ws) h ∙ fault_resumed by ws _
fault_through by ws fault.Overflow v h = ap (resumed by ws) h ∙ fault_resumed by ws _
fault_through by ws fault.ZeroDivisor v h = ap (resumed by ws) h ∙ fault_resumed by ws _
fault_through by ws fault.NoMemory v h = tt

burden-append : (by : Cell → Term) (ws : List OpenOperation) (w : OpenOperation) → burden by (ws ++ w ∷ []) ≡ burden by ws + burden by (w ∷ [])
burden-append by [] w = omega arith
burden-append by (Left o c ∷ ws) w = let e = burden-append by ws w in omega arith
burden-append by (Right o z ∷ ws) w = let e = burden-append by ws w in omega arith
burden-append by (Opposite ∷ ws) w = let e = burden-append by ws w in omega arith

burden_some : (by : Cell → Term) (w : OpenOperation) → 0 < burden by (w ∷ [])
burden_some by (Left o c) = omega arith
burden_some by (Right o z) = omega arith
burden_some by Opposite = omega arith

module _ (names : List Name) (h : Cells) (G : Family) where
  -- the right operand of an operation is entered
  pub left_goes : (ws old new : List OpenOperation) (w : OpenOperation) (o : Operation) (c : Cell) (z : ℤ) → w ≡ Left o c → old ≡ ws ++ w ∷ []
      → new ≡ ws ++ Right o z ∷ [] → GoesOn names h G old (Leave z) new (Enter c)
  left_goes ws old new w o c z i e f = subst (λ xs. GoesOn names h G xs (Leave z) new (Enter c)) (sym (e ∙ ap (λ x. ws ++ x ∷ []) i))
      (subst (λ xs. GoesOn names h G (ws ++ Left o c ∷ []) (Leave z) xs (Enter c)) (sym f) record {
        value = λ name n. resumed-append (seen_term name h G) ws (Left o c) (Ok z) ∙ sym (resumed-append (seen_term name h G) ws (Right o z) (value_of (seen_term name h G c)));
        own = λ s a. (
          last_of (IsOwnOperation (length names) h) ws (Left o c) a,
          all_push (IsOwnOperation (length names) h) ws (Right o z) (all_front (IsOwnOperation (length names) h) ws (Left o c ∷ []) a) tt,
        );
        falls = let p = burden-append (seen_term unnamed h G) ws (Left o c) in let q = burden-append (seen_term unnamed h G) ws (Right o z) in omega arith;
      })

  -- what waited has its value
  pub value_goes : (ws old : List OpenOperation) (w : OpenOperation) (z y : ℤ) → ((name : Naming) → after (seen_term name h G) w (Ok z) ≡ Ok y)
      → old ≡ ws ++ w ∷ [] → GoesOn names h G old (Leave z) ws (Leave y)
  value_goes ws old w z y v e = subst (λ xs. GoesOn names h G xs (Leave z) ws (Leave y)) (sym e) record {
    value = λ name n. resumed-append (seen_term name h G) ws w (Ok z) ∙ ap (resumed (seen_term name h G) ws) (v name);
    own = λ s a. (tt, all_front (IsOwnOperation (length names) h) ws (w ∷ []) a);
    falls = let p = burden-append (seen_term unnamed h G) ws w in let q = burden_some (seen_term unnamed h G) w in omega arith;
  }

  -- what waited has a fault
  pub value_fails : (ws : List OpenOperation) (w : OpenOperation) (z : ℤ) (e : EvalFault) → ((name : Naming) → IsFault e (after (seen_term name h G) w (Ok z)))
      → (name : Naming) → IsFault e (resumed (seen_term name h G) (ws ++ w ∷ []) (Ok z))
  value_fails ws w z e f name = subst (IsFault e) (sym (resumed-append (seen_term name h G) ws w (Ok z))) (fault_through (seen_term name h G) ws e (after (seen_term name h G) w (Ok z)) (f name))

  -- a term whose value is known
  pub integer_goes : (ws : List OpenOperation) (c : Cell) (y : ℤ) → ((name : Naming) → value_of (seen_term name h G c) ≡ Ok y) → GoesOn names h G ws (Enter c) ws (Leave y)
  integer_goes ws c y v = record {
    value = λ name n. ap (resumed (seen_term name h G) ws) (v name);
    own = λ s a. (tt, a);
    falls = let p = size_above_zero (seen_term unnamed h G c) in omega arith;
  }

  -- a term that has a fault
  pub term_fails : (ws : List OpenOperation) (c : Cell) (e : EvalFault) → ((name : Naming) → IsFault e (value_of (seen_term name h G c))) → (name : Naming)
      → IsFault e (resumed (seen_term name h G) ws (value_of (seen_term name h G c)))
  term_fails ws c e v name = fault_through (seen_term name h G) ws e (value_of (seen_term name h G c)) (v name)

  -- a compound term
  module _ (c : Cell) (f : AtomId) (args : List Cell) (there : f.number < length names) (own : All (IsOwn (length names) h) args) (is : (name : Naming)
      → seen_term name h G c ≡ Comp (name f) (terms_by (seen_term name h G) args)) (old : List OpenOperation) where
    entered_opposite : (d : Cell) (new : List OpenOperation) (t : Step) → args ≡ d ∷ [] → bytes_eq (name_in names f) (codes "-") ≡ true
        → new ≡ old ++ Opposite ∷ [] → t ≡ Enter d → GoesOn names h G old (Enter c) new t
    entered_opposite d new t a m e s = subst (λ x. GoesOn names h G old (Enter c) new x) (sym s) (subst (λ xs. GoesOn names h G old (Enter c) xs (Enter d)) (sym e) record {
      value = λ name n.
          let by = seen_term name h G in
          let v : value_of (by c) ≡ value_of_one opposite_of (value_of (by d)) =
          ap value_of (is name ∙ ap (λ xs. Comp (name f) (terms_by by xs)) a) ∙ ap (λ b. cond b (value_of_one opposite_of (value_of (by d))) (Err not_a_number))
          (ap (λ g. bytes_eq g (codes "-")) (n f there) ∙ m) in
          ap (resumed by old) v ∙ sym (resumed-append by old Opposite (value_of (by d)));
      own = λ s all. (head_of (IsOwn (length names) h) d [] (subst (All (IsOwn (length names) h)) a own), all_push (IsOwnOperation (length names) h) old Opposite all tt);
      falls =
          let by = seen_term unnamed h G in
          let p = burden-append by old Opposite in
          let q : size (by c) ≡ 1 + (size (by d) + 0) = ap size (is unnamed ∙ ap (λ xs. Comp (unnamed f) (terms_by by xs)) a) in
          omega arith;
    })

    entered_both : (d e : Cell) (o : Operation) (new : List OpenOperation) (t : Step) → args ≡ d ∷ e ∷ [] → operation_of (name_in names f) ≡ Some o
        → new ≡ old ++ Left o e ∷ [] → t ≡ Enter d → GoesOn names h G old (Enter c) new t
    entered_both d e o new t a m i s = subst (λ x. GoesOn names h G old (Enter c) new x) (sym s) (subst (λ xs. GoesOn names h G old (Enter c) xs (Enter d)) (sym i) record {
      value = λ name n.
          let by = seen_term name h G in
          let v : value_of (by c) ≡ value_of_both (meaning o) (value_of (by d)) (value_of (by e)) =
          ap value_of (is name ∙ ap (λ xs. Comp (name f) (terms_by by xs)) a) ∙ by_operation (name f) (value_of (by d)) (value_of (by e)) o (ap operation_of (n f there) ∙ m) in
          ap (resumed by old) v ∙ sym (resumed-append by old (Left o e) (value_of (by d)));
      own = λ s all.
          (let both = subst (All (IsOwn (length names) h)) a own in (
            head_of (IsOwn (length names) h) d (e ∷ []) both,
            all_push (IsOwnOperation (length names) h) old (Left o e) all
                (head_of (IsOwn (length names) h) e [] (tail_of (IsOwn (length names) h) d (e ∷ []) both)),
          ));
      falls =
          let by = seen_term unnamed h G in
          let p = burden-append by old (Left o e) in
          let q : size (by c) ≡ 1 + (size (by d) + (size (by e) + 0)) = ap size (is unnamed ∙ ap (λ xs. Comp (unnamed f) (terms_by by xs)) a) in
          omega arith;
    })

    entered_known : (d e : Cell) (o : Operation) (z : ℤ) (new : List OpenOperation) (t : Step) → args ≡ d ∷ e ∷ [] → operation_of (name_in names f) ≡ Some o
        → ((name : Naming) → value_of (seen_term name h G d) ≡ Ok z) → new ≡ old ++ Right o z ∷ [] → t ≡ Enter e → GoesOn names h G old (Enter c) new t
    entered_known d e o z new t a m known i s = subst (λ x. GoesOn names h G old (Enter c) new x) (sym s) (subst (λ xs. GoesOn names h G old (Enter c) xs (Enter e)) (sym i) record {
      value = λ name n.
          let by = seen_term name h G in
          let v : value_of (by c) ≡ value_of_both (meaning o) (Ok z) (value_of (by e)) =
          ap value_of (is name ∙ ap (λ xs. Comp (name f) (terms_by by xs)) a)
          ∙ by_operation (name f) (value_of (by d)) (value_of (by e)) o (ap operation_of (n f there) ∙ m)
          ∙ ap (λ y. value_of_both (meaning o) y (value_of (by e))) (known name) in
          ap (resumed by old) v ∙ sym (resumed-append by old (Right o z) (value_of (by e)));
      own = λ s all.
          (let both = subst (All (IsOwn (length names) h)) a own in
          (head_of (IsOwn (length names) h) e [] (tail_of (IsOwn (length names) h) d (e ∷ []) both), all_push (IsOwnOperation (length names) h) old (Right o z) all tt));
      falls =
          let by = seen_term unnamed h G in
          let p = burden-append by old (Right o z) in
          let q : size (by c) ≡ 1 + (size (by d) + (size (by e) + 0)) = ap size (is unnamed ∙ ap (λ xs. Comp (unnamed f) (terms_by by xs)) a) in
          omega arith;
    })

    -- a compound term is entered
    pub entered : (d : Cell) (new : List OpenOperation) → IsEntered h G (name_in names f) args old (Ok d) new → GoesOn names h G old (Enter c) new (Enter d)
    entered d new (inl k) = entered_opposite k.0 new (Enter d) k.1 k.2 k.3 (ap Enter k.4)
    entered d new (inr (inl k)) = entered_both k.0 k.1 k.2 new (Enter d) k.3 k.4 k.5 (ap Enter k.6)
    entered d new (inr (inr k)) = entered_known k.0 k.1 k.2 k.3 new (Enter d) k.4 k.5 k.6 k.7 (ap Enter k.8)

    -- or its fault is told
    pub enter_fails : (e : EvalFault) (new : List OpenOperation) → IsEntered h G (name_in names f) args old (Err e) new → (name : Naming) → IsNamedBy names name
        → IsFault e (resumed (seen_term name h G) old (value_of (seen_term name h G c)))
    enter_fails e new k name n =
        fault_through (seen_term name h G) old e (value_of (seen_term name h G c))
        (subst (λ y. IsFault e (value_of y)) (sym (is name ∙ ap (λ g. Comp g (terms_by (seen_term name h G) args)) (n f there))) (k (seen_term name h G)))

  pub leads_further : (old mid new : List OpenOperation) (s t u : Step) → Leads names h G old s mid t → GoesOn names h G mid t new u → Leads names h G old s new u
  leads_further old mid new s t u l g = record {
    value = λ name n. l.value name n ∙ g.value name n;
    own = λ o a. let b = l.own o a in g.own b.0 b.1;
    lighter = let m = l.lighter in let n = g.falls in omega arith;
  }

  pub leads_on : (old mid new : List OpenOperation) (s t u : Step) → Leads names h G old s mid t → GoesOn names h G mid t new u → GoesOn names h G old s new u
  leads_on old mid new s t u l g = record {
    value = λ name n. l.value name n ∙ g.value name n;
    own = λ o a. let b = l.own o a in g.own b.0 b.1;
    falls = let m = l.lighter in let n = g.falls in omega arith;
  }

  pub goes_leading : (old mid new : List OpenOperation) (s t u : Step) → GoesOn names h G old s mid t → Leads names h G mid t new u → GoesOn names h G old s new u
  goes_leading old mid new s t u g l = record {
    value = λ name n. g.value name n ∙ l.value name n;
    own = λ o a. let b = g.own o a in l.own b.0 b.1;
    falls = let m = l.lighter in let n = g.falls in omega arith;
  }

  -- the way down ends at a term that is no compound term
  pub descended : (old mid : List OpenOperation) (c at : Cell) (r : Result ℤ EvalFault) → Leads names h G old (Enter c) mid (Enter at)
      → ((name : Naming) → Tells r (value_of (seen_term name h G at))) → TellsDescent names h G old c r mid
  descended old mid c at (Ok z) l v = leads_on old mid mid (Enter c) (Enter at) (Leave z) l (integer_goes mid at z v)
  descended old mid c at (Err e) l v = λ name n. subst (IsFault e) (sym (l.value name n)) (term_fails mid at e v name)

  -- or at one that can't be entered
  pub descent_fails : (old mid : List OpenOperation) (c at : Cell) (e : EvalFault) → Leads names h G old (Enter c) mid (Enter at)
      → ((name : Naming) → IsNamedBy names name → IsFault e (resumed (seen_term name h G) mid (value_of (seen_term name h G at)))) → (name : Naming)
      → IsNamedBy names name → IsFault e (resumed (seen_term name h G) old (value_of (seen_term name h G c)))
  descent_fails old mid c at e l f name n = subst (IsFault e) (sym (l.value name n)) (f name n)

  -- what waited last was taken away
  pub leads_popped : (old mid ws new : List OpenOperation) (w : OpenOperation) (s : Step) (y x : ℤ) (t : Step) → y ≡ x → mid ≡ ws ++ w ∷ []
      → Leads names h G old s mid (Leave y) → GoesOn names h G (ws ++ w ∷ []) (Leave x) new t → Leads names h G old s new t
  leads_popped old mid ws new w s y x t e m l g = leads_further old mid new s (Leave y) t l
      (subst (λ z. GoesOn names h G mid (Leave z) new t) (sym e) (subst (λ (xs : List OpenOperation). GoesOn names h G xs (Leave x) new t) (sym m) g))

  pub popped_falls : (mid ws new : List OpenOperation) (w : OpenOperation) (x z : ℤ) (t : Step) → mid ≡ ws ++ w ∷ []
      → GoesOn names h G (ws ++ w ∷ []) (Leave x) new t → t ≡ Leave z → 1 + burden (seen_term unnamed h G) new < 1 + burden (seen_term unnamed h G) mid
  popped_falls mid ws new w x z t m g e = (subst (λ (xs : List OpenOperation). GoesOn names h G xs (Leave x) new (Leave z)) (sym m) (subst (GoesOn names h G (ws ++ w ∷ []) (Leave x) new) e g)).falls

  pub popped_fails : (old mid ws : List OpenOperation) (w : OpenOperation) (s : Step) (y x : ℤ) (e : EvalFault) → y ≡ x → mid ≡ ws ++ w ∷ []
      → Leads names h G old s mid (Leave y) → ((name : Naming) → IsNamedBy names name → IsFault e (resumed (seen_term name h G) (ws ++ w ∷ []) (Ok x)))
      → (name : Naming) → IsNamedBy names name → IsFault e (resumed (seen_term name h G) old (step_value (seen_term name h G) s))
  popped_fails old mid ws w s y x e q m l f name n = subst (IsFault e)
      (sym (l.value name n ∙ ap (resumed (seen_term name h G) mid) (ap Ok q)
      ∙ ap (λ (xs : List OpenOperation). resumed (seen_term name h G) xs (Ok x)) m)) (f name n)

  -- the way down to an integer, and the way up from there
  pub climbed : (old mid new : List OpenOperation) (at next : Cell) (z y : ℤ) (t : Step) → GoesOn names h G old (Enter at) mid (Leave z) → y ≡ z
      → TellsAscent names h G mid y (Ok t) new → t ≡ Enter next → GoesOn names h G old (Enter at) new (Enter next)
  climbed old mid new at next z y t g e a i = goes_leading old mid new (Enter at) (Leave z) (Enter next) g
      (subst (λ x. Leads names h G mid (Leave x) new (Enter next)) e (subst (λ s. TellsAscent names h G mid y (Ok s) new) i a))

  pub climbed_out : (old mid new : List OpenOperation) (at : Cell) (z y x : ℤ) (t : Step) → GoesOn names h G old (Enter at) mid (Leave z) → y ≡ z
      → TellsAscent names h G mid y (Ok t) new → t ≡ Leave x → GoesOn names h G old (Enter at) [] (Leave x)
  climbed_out old mid new at z y x t g e a i = goes_leading old mid [] (Enter at) (Leave z) (Leave x) g
      (subst (λ v. Leads names h G mid (Leave v) [] (Leave x)) e (subst (λ s. TellsAscent names h G mid y (Ok s) new) i a))

  pub climbed_fails : (old mid : List OpenOperation) (at : Cell) (z y : ℤ) (e : EvalFault) → GoesOn names h G old (Enter at) mid (Leave z) → y ≡ z
      → ((name : Naming) → IsNamedBy names name → IsFault e (resumed (seen_term name h G) mid (Ok y)))
      → (name : Naming) → IsNamedBy names name → IsFault e (resumed (seen_term name h G) old (value_of (seen_term name h G at)))
  climbed_fails old mid at z y e g q f name n = subst (IsFault e) (sym (g.value name n ∙ ap (resumed (seen_term name h G) mid) (ap Ok (sym q)))) (f name n)

-- the arguments of a compound term of the heap
pub held_own : (n : ℕ) (h : Cells) → IsHeap h → HasAtomsBelow n h → (f : AtomId) (args : Bor (List Cell)) → IsHeld h (seen.Struct f args) → All (IsOwn n h) args.now
held_own n h v a f args k i d l = (
  subst (λ (b : Compound). All (IsOf h) b.args) k.2 (v.parts k.0) i d l,
  subst (λ (b : Compound). All (IsAtomBelow n) b.args) k.2 (a.args k.0) i d l,
)

-- its name
pub held_name : (n : ℕ) (h : Cells) → HasAtomsBelow n h → (f : AtomId) (args : Bor (List Cell)) → IsHeld h (seen.Struct f args) → f.number < n
held_name n h a f args k = subst (λ (b : Compound). b.name.number < n) k.2 (a.names k.0 k.1)

-- a list of two
pub two_of : (cs : List Cell) (d : Cell) → 2 ≤ length cs → length cs < 3 → cs ≡ get_or cs 0 d ∷ get_or cs 1 d ∷ []
two_of [] d a b = absurd (omega arith)
two_of (x ∷ []) d a b = absurd (omega arith)
two_of (x ∷ y ∷ []) d a b = refl
two_of (x ∷ y ∷ z ∷ zs) d a b = absurd (omega arith)

one_of : (xs : List ℕ) → 1 ≤ length xs → length xs < 2 → xs ≡ get_or xs 0 0 ∷ []
one_of [] a b = absurd (omega arith)
one_of (x ∷ []) a b = refl
one_of (x ∷ y ∷ ys) a b = absurd (omega arith)

-- the operation whose name is one character
pub operation_at : (text bytes : Name) (o : Operation) → bytes ≡ text → 1 ≤ length bytes → length bytes < 2 → operation_of (get_or bytes 0 0 ∷ []) ≡ Some o → operation_of text ≡ Some o
operation_at text bytes o e a b m = ap operation_of (sym e ∙ one_of bytes a b) ∙ m

-- a compound term with one argument and another name is no operation
pub no_opposite : (f : Name) (args : List Cell) → 1 ≤ length args → length args < 2 → not (bytes_eq f (codes "-")) ≡ true → (by : Cell → Term) → value_of (Comp f (terms_by by args)) ≡ Err not_a_number
no_opposite f [] a b e by = absurd (omega arith)
no_opposite f (c ∷ []) a b e by = ap (λ x. cond x (value_of_one opposite_of (value_of (by c))) (Err not_a_number)) (not-true (bytes_eq f (codes "-")) e)
no_opposite f (c ∷ d ∷ cs) a b e by = absurd (omega arith)

-- nor is one with three or more
pub too_many : (f : Name) (args : List Cell) → 3 ≤ length args → (by : Cell → Term) → value_of (Comp f (terms_by by args)) ≡ Err not_a_number
too_many f [] a by = absurd (omega arith)
too_many f (c ∷ []) a by = absurd (omega arith)
too_many f (c ∷ d ∷ []) a by = absurd (omega arith)
too_many f (c ∷ d ∷ e ∷ cs) a by = refl

-- an evaluation so far
pub record IsUnderWay (names : List Name) (h : Cells) (G : Family) (top : Cell) (ws : List OpenOperation) (s : Step) : Type 0 where
  pub value : (name : Naming) → IsNamedBy names name → value_of (seen_term name h G top) ≡ resumed (seen_term name h G) ws (step_value (seen_term name h G) s)
  pub own : IsOwnStep (length names) h s
  pub waiting : All (IsOwnOperation (length names) h) ws

pub under_way_further : (names : List Name) (h : Cells) (G : Family) (top : Cell) (old new : List OpenOperation) (s t : Step) → IsUnderWay names h G top old s
    → GoesOn names h G old s new t → IsUnderWay names h G top new t
under_way_further names h G top old new s t w g =
    let o = g.own w.own w.waiting in
    record { value = λ name n. w.value name n ∙ g.value name n; own = o.0; waiting = o.1 }

-- a fault on the way is that of the whole
pub way_fails : (names : List Name) (h : Cells) (G : Family) (top : Cell) (ws : List OpenOperation) (s : Step) (e : EvalFault) → IsUnderWay names h G top ws s
    → ((name : Naming) → IsNamedBy names name → IsFault e (resumed (seen_term name h G) ws (step_value (seen_term name h G) s)))
    → (name : Naming) → IsNamedBy names name → IsFault e (value_of (seen_term name h G top))
way_fails names h G top ws s e w f name n = subst (IsFault e) (sym (w.value name n)) (f name n)

-- the last value is that of the whole
pub way_ends : (names : List Name) (h : Cells) (G : Family) (top : Cell) (ws : List OpenOperation) (s : Step) (z : ℤ) → IsUnderWay names h G top ws s → ws ≡ []
    → s ≡ Leave z → (name : Naming) → IsNamedBy names name → value_of (seen_term name h G top) ≡ Ok z
way_ends names h G top ws s z w e f name n = w.value name n ∙ ap (λ xs. resumed (seen_term name h G) xs (step_value (seen_term name h G) s)) e ∙ ap (step_value (seen_term name h G)) f
