-- Laid out code is verified.
use Rattle.std.proofs.Common.{◌≡◌, ◌⊎◌, ℕ, zero, suc, ◌+◌, ◌<◌, ◌≤◌, IsTrue, List, Some, map, replicate, length, slice_get, refl, ap, sym, ◌∙◌, subst, inl, inr}
use Rattle.std.proofs.Common.{arith}
use Rattle.std.proofs.lemmas.List.{length-map}
use Rattle.std.proofs.lemmas.Option.{slice_get_within}
use Rattle.fd_model.specs.Goal.{Program}
use Rattle.fd_model.specs.ConstraintExpansion.{arguments}
use Rattle.wam_code.specs.declared.instruction.Code.{Code}
use Rattle.wam_code.specs.declared.instruction.Code.TheVariants.{AnswerNow, Proceed, Execute, TryMeElse, RetryMeElse}
use Rattle.wam_code.specs.declared.parts.Entry.{Entry}
use Rattle.wam_code.specs.Area.{Area, Span, State, Holds, HasState, HasEntry, HasQuery, name_of}
use Rattle.wam_code.specs.Effect.{slot_at, is_cell}
use Rattle.wam_code.specs.VerifiedCode.{Names, HandedTo, Leads, BeginsWith, IsIn, IsQuery, is_other, NamesOther, is_before, is_behind, HoldsOne, AreChoices}
use Rattle.wam_code.specs.VerifiedCode.{IsThere, IsVerifiedBy, IsVerified}
use Rattle.fd_language.specs.Term.{term_count}
use Rattle.wam_code.proofs.Lemmas.{covers_self}
use Rattle.clause_code.specs.SafeCode.{is_plain}
use Rattle.clause_compiler.specs.EntryState.{given}
use Rattle.clause_compiler.specs.Layout.{joined, offset, is_first, Passes, BeginsClause, IsLaidOut}
use Rattle.clause_compiler.proofs.Lists.{get_there, offset_within, same_some}
use Rattle.clause_compiler.proofs.EntryState.{given_first, given_covers, choice_keeps}
use Rattle.clause_compiler.proofs.SafePieces.{piece_some, piece_there, piece_leads}
use Rattle.clause_compiler.proofs.Sorts.{Chooses, listing_falls, choice_no_other, plain_no_other, no_try_me, no_retry_me, plain_not_before, plain_not_behind}
use Rattle.clause_compiler.proofs.Sorts.{choice_no_answer, first_not_behind}
use Rattle.clause_compiler.proofs.CodePlaces.{from_clauses, choice_states, clause_states, query_states, all_states, all_long, holds_choice, state_choice}
use Rattle.clause_compiler.proofs.CodePlaces.{state_clause, state_query, InChoice, InClause, InQuery, locate}
use Rattle.clause_compiler.proofs.Regions.{span_at, in_span, one_query, clause_begins, names_lead, falls_lead, stays_in, stays_out}

get_replicate : {A : Type 0} (n : ℕ) (x : A) (k : ℕ) → k < n → slice_get (replicate n x) k ≡ Some x
get_replicate zero x k l = absurd (omega (arith, l))
get_replicate (suc n) x zero l = refl
get_replicate (suc n) x (suc k) l = get_replicate n x k (omega (arith, l))

module _ (a : Area) (prog : Program) (l : IsLaidOut a prog) where
  abbrev ss : List State
  ss = all_states a prog l

  -- ---- each kind of place has its state
  choice_has : (at : ℕ) (i : Code) (w : InChoice a prog l at i) (m : ℕ) → m < length w.is → HasState ss (w.it.e.at + m) (given w.it.e.arity)
  choice_has at i w m b =
      let p = l.entry w.k w.it.e w.it.entry in
      subst (λ o. HasState ss (o + m) (given w.it.e.arity)) (sym p)
      (state_choice a prog l w.k m w.ss (given w.it.e.arity) w.states (ap (λ x. slice_get x m) w.it.states ∙ get_replicate (length w.is) (given w.it.e.arity) m b))

  clause_has : (k : ℕ) (at : ℕ) (i : Code) (w : InClause a prog l at i) (m : ℕ) (t : State) → slice_get w.it.code.states m ≡ Some t → HasState ss ((from_clauses a prog l + offset l.clauses w.k) + m) t
  clause_has k at i w m t e = state_clause a prog l w.k m w.ss t w.states (ap (λ x. slice_get x m) w.it.states ∙ e)

  query_has : (at : ℕ) (i : Code) (w : InQuery a prog l at i) (m : ℕ) (t : State) → slice_get w.it.code.code.states m ≡ Some t
      → HasState ss ((from_clauses a prog l + (length (joined l.clauses) + offset l.queries w.k)) + m) t
  query_has at i w m t e = state_query a prog l w.k m w.ss t w.states (ap (λ x. slice_get x m) w.it.states ∙ e)

  -- the state of a query's place
  query_state : (at : ℕ) (i : Code) (w : InQuery a prog l at i) (s : State) → HasState ss at s → slice_get w.it.code.code.states w.n ≡ Some s
  query_state at i w s h =
      let c = w.it.code.code in
      let b = slice_get_within w.is w.n i w.get in
      let m = c.safe.states in
      let t = get_there c.states w.n (omega (arith, b, m)) in
      let same : t.0 ≡ s = same_some ss at t.0 s (subst (λ o. HasState ss o t.0) (sym w.place) (query_has at i w w.n t.0 t.1)) h in
      subst (λ x. slice_get c.states w.n ≡ Some x) same t.1

  clause_state : (at : ℕ) (i : Code) (w : InClause a prog l at i) (s : State) → HasState ss at s → slice_get w.it.code.states w.n ≡ Some s
  clause_state at i w s h =
      let c = w.it.code in
      let b = slice_get_within w.is w.n i w.get in
      let m = c.safe.states in
      let t = get_there c.states w.n (omega (arith, b, m)) in
      let same : t.0 ≡ s = same_some ss at t.0 s (subst (λ o. HasState ss o t.0) (sym w.place) (clause_has 0 at i w w.n t.0 t.1)) h in
      subst (λ x. slice_get c.states w.n ≡ Some x) same t.1

  -- ---- 1. what each place needs is there

  -- a clause's first place has what its predicate gives
  clause_handed : (arity to : ℕ) → BeginsClause prog.clauses (from_clauses a prog l) l.clauses arity to → HandedTo ss (given arity) to
  clause_handed arity to h =
      let b = slice_get_within prog.clauses h.0 h.1 h.2 in
      let m = l.each_clause in
      let is = get_there l.clauses h.0 (omega (arith, b, m)) in
      let n = (clause_states a prog l).size in
      let st = get_there (clause_states a prog l).choice h.0 (omega (arith, b, m, n)) in
      let it = (clause_states a prog l).each h.0 is.0 st.0 is.1 st.1 in
      let begins = it.code.safe.begins in
      let there : HasState ss ((from_clauses a prog l + offset l.clauses h.0) + 0) it.code.first = state_clause a prog l h.0 0 st.0 it.code.first st.1 (ap (λ x. slice_get x 0) it.states ∙ begins) in
      let place : (from_clauses a prog l + offset l.clauses h.0) + 0 ≡ to = (let e = h.4 in omega (arith, e)) in
      let c = same_some prog.clauses h.0 it.c h.1 it.clause h.2 in (
        it.code.first,
        subst (λ o. HasState ss o it.code.first) place there,
        given_covers arity (term_count (arguments (it.c).head)) it.code.first (ap (λ x. term_count (arguments x.head)) c ∙ h.3) it.code.begins,
      )

  choice_leads : (at : ℕ) (i : Code) (w : InChoice a prog l at i) (s : State) → HasState ss at s → Leads a ss at i s
  choice_leads at i w s h =
      let c = w.it.choices in
      let b = slice_get_within w.is w.n i w.get in
      let own : HasState ss at (given w.it.e.arity) = subst (λ o. HasState ss o (given w.it.e.arity)) (sym w.place) (choice_has at i w w.n b) in
      let same : given w.it.e.arity ≡ s = same_some ss at (given w.it.e.arity) s own h in
      subst (Leads a ss at i) same (
        given w.it.e.arity,
        choice_keeps a.entries w.it.e.arity i (c.lists w.n i w.get) (c.argument w.n i w.get),
        (λ to g. arrive to (c.leads w.n i to w.get g)),
        λ g.
            let t = c.behind w.n (i, w.get, listing_falls i (c.lists w.n i w.get) g) in
            let m = slice_get_within w.is (suc w.n) t.0 t.1 in
            let place : w.it.e.at + suc w.n ≡ suc at = (let p = w.place in omega (arith, p)) in
            (given w.it.e.arity, subst (λ o. HasState ss o (given w.it.e.arity)) place (choice_has at i w (suc w.n) m), covers_self (given w.it.e.arity)),
      )
    where
      arrive : (to : ℕ) → BeginsClause prog.clauses (from_clauses a prog l) l.clauses w.it.e.arity to
          ⊎ ((m : ℕ) × (to ≡ w.it.e.at + m) × (w.n < m) × Passes w.is is_first m) → HandedTo ss (given w.it.e.arity) to
      arrive to (inl g) = clause_handed w.it.e.arity to g
      arrive to (inr g) =
          let m = slice_get_within w.is g.0 g.3.0 g.3.1 in
          (given w.it.e.arity, subst (λ o. HasState ss o (given w.it.e.arity)) (sym g.1) (choice_has at i w g.0 m), covers_self (given w.it.e.arity))

  leads_at : (at : ℕ) (i : Code) (s : State) → Holds a at i → HasState ss at s → Leads a ss at i s
  leads_at at i s h g = by (locate a prog l at i h)
    where
      by : InChoice a prog l at i ⊎ (InClause a prog l at i ⊎ InQuery a prog l at i) → Leads a ss at i s
      by (inl w) = choice_leads at i w s g
      by (inr (inl w)) =
          let c = w.it.code in
          subst (λ o. Leads a ss o i s) (sym w.place)
          (piece_leads a (from_clauses a prog l + offset l.clauses w.k) w.is c.states c.first c.safe ss (λ m t e. clause_has 0 at i w m t e) w.n i s w.get
          (clause_state at i w s g))
      by (inr (inr w)) =
          let c = w.it.code.code in
          subst (λ o. Leads a ss o i s) (sym w.place)
          (piece_leads a (from_clauses a prog l + (length (joined l.clauses) + offset l.queries w.k)) w.is c.states c.first c.safe ss
          (λ m t e. query_has at i w m t e) w.n i s w.get (query_state at i w s g))

  -- ---- 3. where it begins

  -- A predicate begins before the clauses, with an instruction that no other one need stand before.
  entry_first : (n : ℕ) (e : Entry) → HasEntry a n e → (i : Code) × Holds a e.at i × IsTrue (is_first i) × (e.at < from_clauses a prog l)
  entry_first n e h =
      let b = slice_get_within a.entries n e h in
      let m = l.each_choice in
      let is = get_there l.choices n (omega (arith, b, m)) in
      let f = (l.choice n e is.0 h is.1).first in
      let p = l.entry n e h in
      let place : offset l.choices n + 0 ≡ e.at = omega (arith, p) in
      let w = slice_get_within is.0 0 f.0 f.1 in
      let o = offset_within l.choices n is.0 is.1 in
      (f.0, subst (λ x. Holds a x f.0) place (holds_choice a prog l n 0 is.0 f.0 is.1 f.1), f.2, omega (arith, o, p, w))

  entry_has : (n : ℕ) (e : Entry) → HasEntry a n e → HasState ss e.at (given e.arity)
  entry_has n e h =
      let b = slice_get_within a.entries n e h in
      let m = l.each_choice in
      let is = get_there l.choices n (omega (arith, b, m)) in
      let k = (choice_states a prog l).size in
      let st = get_there (choice_states a prog l).choice n (omega (arith, b, m, k)) in
      let it = (choice_states a prog l).each n is.0 st.0 is.1 st.1 in
      let same : it.e ≡ e = same_some a.entries n it.e e it.entry h in
      let f = it.choices.first in
      let w = slice_get_within is.0 0 f.0 f.1 in
      let p = l.entry n e h in
      let place : offset l.choices n + 0 ≡ e.at = omega (arith, p) in
      let there : HasState ss (offset l.choices n + 0) (given (it.e).arity) = state_choice a prog l n 0 st.0 (given (it.e).arity) st.1
      (ap (λ x. slice_get x 0) it.states ∙ get_replicate (length is.0) (given (it.e).arity) 0 w) in
      subst (λ o. HasState ss o (given e.arity)) place (subst (λ x. HasState ss (offset l.choices n + 0) (given x.arity)) same there)

  query_begins : (n : ℕ) (q : Span) → HasQuery a n q → BeginsWith ss q.at 0
  query_begins n q h =
      let s = span_at a prog l n q h in
      let b = slice_get_within l.queries n s.is s.piece in
      let k = (query_states a prog l).size in
      let st = get_there (query_states a prog l).choice n (omega (arith, b, k)) in
      let it = (query_states a prog l).each n s.is st.0 s.piece st.1 in
      let code = it.code.code in
      let same : it.s ≡ q = same_some a.queries n it.s q it.span h in
      let p = it.code.begins in
      let place : (from_clauses a prog l + (length (joined l.clauses) + offset l.queries n)) + 0 ≡ it.s.at = omega (arith, p) in
      let there = state_query a prog l n 0 st.0 code.first st.1 (ap (λ x. slice_get x 0) it.states ∙ code.safe.begins) in
      subst (λ x. BeginsWith ss x.at 0) same (code.first, subst (λ o. HasState ss o code.first) place there, code.begins)

  -- ---- 4. queries

  -- the place of a query, with the query's own number and span
  module _ (k : ℕ) (s : Span) (h : HasQuery a k s) where
    spot : (at : ℕ) (i : Code) → IsIn s at → Holds a at i → (w : InQuery a prog l at i) × (w.it.s ≡ s)
    spot at i b g = by (locate a prog l at i g)
      where
        by : InChoice a prog l at i ⊎ (InClause a prog l at i ⊎ InQuery a prog l at i) → (w : InQuery a prog l at i) × (w.it.s ≡ s)
        by (inl w) = absurd (let o = (span_at a prog l k s h).behind in let p = w.place in let j = w.inside in let n = slice_get_within w.is w.n i w.get in omega (arith, o, p, j, n, b.0))
        by (inr (inl w)) = absurd (let o = (span_at a prog l k s h).behind in let p = w.place in let j = w.inside in let n = slice_get_within w.is w.n i w.get in omega (arith, o, p, j, n, b.0))
        by (inr (inr w)) =
            let e : w.k ≡ k = one_query a prog l w.k k at w.it.s s w.it.span h (in_span a prog l at i w) b in
            (w, same_some a.queries k w.it.s s (subst (λ m. HasQuery a m w.it.s) e w.it.span) h)

    last_place : (at : ℕ) (i : Code) (w : InQuery a prog l at i) → w.it.s ≡ s → suc at ≡ s.end → suc w.n ≡ length w.is
    last_place at i w same e =
        let f = w.it.code.ends in
        let g = ap (λ x. x.end) same in
        let p = w.place in
        omega (arith, e, f, g, p)

    code_there : (at : ℕ) → IsIn s at → (i : Code) × Holds a at i
    code_there at b = get_there a.code at (let e = (span_at a prog l k s h).inside in omega (arith, b.1, e))

    some : s.at < s.end
    some =
        let w = span_at a prog l k s h in
        let c = w.code.code in
        let n = piece_some a (from_clauses a prog l + (length (joined l.clauses) + offset l.queries k)) w.is c.states c.first c.safe in
        let b = w.code.begins in
        let e = w.code.ends in
        omega (arith, n, b, e)

    last : (at : ℕ) → suc at ≡ s.end → Holds a at AnswerNow
    last at e =
        let inside : IsIn s at = (let z = some in omega (arith, z, e), omega (arith, e)) in
        let c = code_there at inside in
        let w = spot at c.0 inside c.1 in
        let n = last_place at c.0 w.0 w.1 e in
        let answer : slice_get w.0.is w.0.n ≡ Some AnswerNow = w.0.it.code.code.last w.0.n n in
        subst (λ x. Holds a at x) (same_some w.0.is w.0.n c.0 AnswerNow w.0.get answer) c.1

    shown : (at : ℕ) (t : State) → suc at ≡ s.end → HasState ss at t → (n : ℕ) → 1 ≤ n → n ≤ length s.names → IsTrue (is_cell (slot_at t.frame n))
    shown at t e g n low high =
        let inside : IsIn s at = (let z = some in omega (arith, z, e), omega (arith, e)) in
        let c = code_there at inside in
        let w = spot at c.0 inside c.1 in
        let names = w.0.it.code.names in
        let many : length s.names ≡ length (w.0.it.q).shown = sym (length-map s.names (name_of a)) ∙ ap (λ x. length (map (name_of a) x.names)) (sym w.1) ∙ ap length names ∙ w.0.it.code.shown in
        w.0.it.code.code.shown w.0.n t (last_place at c.0 w.0 w.1 e) (query_state at c.0 w.0 t g) n low (omega (arith, high, many))

    its_query : IsQuery a ss s
    its_query = record {
      some = some;
      within = (span_at a prog l k s h).inside;
      last = last;
      shown = shown;
      no_proceed = λ at b g. let w = spot at Proceed b g in w.0.it.code.code.no_proceed w.0.n w.0.get;
      no_execute = λ at e b g. let w = spot at (Execute e) b g in w.0.it.code.code.no_execute w.0.n e w.0.get;
      no_entry = λ n e g b. let f = (entry_first n e g).3 in let o = (span_at a prog l k s h).behind in omega (arith, f, o, b.0);
      stays = λ at to b g. stays_in a prog l k at to s h (names_lead a prog l at to g) b;
      not_named = λ at to b g c. b (stays_out a prog l k at to s h (names_lead a prog l at to g) c);
      not_fallen = λ at to b g c. b (stays_out a prog l k at to s h (falls_lead a prog l at to g) c);
    }

  answer_ends : (at : ℕ) → Holds a at AnswerNow → (n : ℕ) × (q : Span) × HasQuery a n q × (suc at ≡ q.end)
  answer_ends at h = by (locate a prog l at AnswerNow h)
    where
      by : InChoice a prog l at AnswerNow ⊎ (InClause a prog l at AnswerNow ⊎ InQuery a prog l at AnswerNow) → (n : ℕ) × (q : Span) × HasQuery a n q × (suc at ≡ q.end)
      by (inl w) = absurd (choice_no_answer (w.it.choices.lists w.n AnswerNow w.get))
      by (inr (inl w)) = absurd (w.it.code.no_answer w.n w.get)
      by (inr (inr w)) =
          let e = w.it.code.code.answer w.n w.get in
          let f = w.it.code.ends in
          let p = w.place in
          (w.k, w.it.s, w.it.span, omega (arith, e, f, p))

  -- ---- 5. choices

  -- an instruction is of choices, or plain
  sort_of : (at : ℕ) (i : Code) → Holds a at i → Chooses i ⊎ IsTrue (is_plain i)
  sort_of at i h = by (locate a prog l at i h)
    where
      by : InChoice a prog l at i ⊎ (InClause a prog l at i ⊎ InQuery a prog l at i) → Chooses i ⊎ IsTrue (is_plain i)
      by (inl w) = inl (w.it.choices.lists w.n i w.get)
      by (inr (inl w)) = inr (w.it.code.safe.plain w.n i w.get)
      by (inr (inr w)) = inr (w.it.code.code.safe.plain w.n i w.get)

  no_other : (to : ℕ) → HoldsOne a is_other to → ⊥
  no_other to h = by (sort_of to h.0 h.1)
    where
      by : Chooses h.0 ⊎ IsTrue (is_plain h.0) → ⊥
      by (inl w) = choice_no_other h.0 w h.2
      by (inr w) = plain_no_other h.0 w h.2

  no_chain : (at to : ℕ) → NamesOther a at to → ⊥
  no_chain at to (inl h) = no_try_me to (sort_of at (TryMeElse to) h)
  no_chain at to (inr h) = no_retry_me to (sort_of at (RetryMeElse to) h)

  -- lists stand in choices
  list_before : (at : ℕ) (h : HoldsOne a is_before at) → InChoice a prog l at h.0
  list_before at h = by (locate a prog l at h.0 h.1)
    where
      by : InChoice a prog l at h.0 ⊎ (InClause a prog l at h.0 ⊎ InQuery a prog l at h.0) → InChoice a prog l at h.0
      by (inl w) = w
      by (inr (inl w)) = absurd (plain_not_before h.0 (w.it.code.safe.plain w.n h.0 w.get) h.2)
      by (inr (inr w)) = absurd (plain_not_before h.0 (w.it.code.code.safe.plain w.n h.0 w.get) h.2)

  list_behind : (at : ℕ) (h : HoldsOne a is_behind at) → InChoice a prog l at h.0
  list_behind at h = by (locate a prog l at h.0 h.1)
    where
      by : InChoice a prog l at h.0 ⊎ (InClause a prog l at h.0 ⊎ InQuery a prog l at h.0) → InChoice a prog l at h.0
      by (inl w) = w
      by (inr (inl w)) = absurd (plain_not_behind h.0 (w.it.code.safe.plain w.n h.0 w.get) h.2)
      by (inr (inr w)) = absurd (plain_not_behind h.0 (w.it.code.code.safe.plain w.n h.0 w.get) h.2)

  in_choice_early : (at : ℕ) (i : Code) (w : InChoice a prog l at i) → at < from_clauses a prog l
  in_choice_early at i w = let p = w.place in let j = w.inside in let n = slice_get_within w.is w.n i w.get in omega (arith, p, j, n)

  -- the place of an instruction of the same choices
  choice_place : (at : ℕ) (i : Code) (w : InChoice a prog l at i) (m : ℕ) (j : Code) → slice_get w.is m ≡ Some j → Holds a (w.it.e.at + m) j
  choice_place at i w m j e =
      let p = l.entry w.k w.it.e w.it.entry in
      subst (λ o. Holds a (o + m) j) (sym p) (holds_choice a prog l w.k m w.is j w.piece e)

  not_both : (at : ℕ) (i : Code) → Holds a at i → IsTrue (is_first i) → HoldsOne a is_behind at → ⊥
  not_both at i h f g = let same = same_some a.code at g.0 i g.1 h in first_not_behind i f (subst (λ x. IsTrue (is_behind x)) same g.2)

  behind_next : (at : ℕ) → HoldsOne a is_before at → HoldsOne a is_behind (suc at)
  behind_next at h =
      let w = list_before at h in
      let g = w.it.choices.behind w.n (h.0, w.get, h.2) in
      let place : w.it.e.at + suc w.n ≡ suc at = (let p = w.place in omega (arith, p)) in
      (g.0, subst (λ o. Holds a o g.0) place (choice_place at h.0 w (suc w.n) g.0 g.1), g.2)

  before_it : (to : ℕ) → HoldsOne a is_behind to → (at : ℕ) × (to ≡ suc at) × HoldsOne a is_before at
  before_it to h =
      let w = list_behind to h in
      let g = w.it.choices.before w.n (h.0, w.get, h.2) in
      let p = w.place in
      let e = g.1 in
      (w.it.e.at + g.0, omega (arith, p, e), (g.2.0, choice_place to h.0 w g.0 g.2.0 g.2.1, g.2.2))

  behind_not_named : (at to : ℕ) → HoldsOne a is_behind to → Names a at to → ⊥
  behind_not_named at to h g = by (locate a prog l at g.0 g.1)
    where
      late : from_clauses a prog l ≤ at → ⊥
      late o =
          let r = names_lead a prog l at to g in
          let e = in_choice_early to h.0 (list_behind to h) in
          let z = r.ahead in
          omega (arith, o, e, z)

      arrive : (w : InChoice a prog l at g.0) → BeginsClause prog.clauses (from_clauses a prog l) l.clauses w.it.e.arity to ⊎ ((m : ℕ) × (to ≡ w.it.e.at + m) × (w.n < m) × Passes w.is is_first m) → ⊥
      arrive w (inl c) = let e = in_choice_early to h.0 (list_behind to h) in let b = clause_begins a prog l w.it.e.arity to c in omega (arith, e, b.0)
      arrive w (inr c) = not_both to c.3.0 (subst (λ o. Holds a o c.3.0) (sym c.1) (choice_place at g.0 w c.0 c.3.0 c.3.1)) c.3.2 h

      by : InChoice a prog l at g.0 ⊎ (InClause a prog l at g.0 ⊎ InQuery a prog l at g.0) → ⊥
      by (inl w) = arrive w (w.it.choices.leads w.n g.0 to w.get g.2)
      by (inr (inl w)) = late (let p = w.place in omega (arith, p))
      by (inr (inr w)) = late (let p = w.place in omega (arith, p))

  choices : AreChoices a
  choices = record {
    others = λ at to h. absurd (no_chain at to h);
    named_once = λ to h. absurd (no_other to h);
    named_alone = λ at to h g. absurd (no_other to h);
    not_fallen = λ at to h g. no_other to h;
    no_start = λ to h. absurd (no_other to h);
    behind = behind_next;
    before = before_it;
    not_named = behind_not_named;
    no_start_behind = λ to h. record {
      entries = λ n e g s. let f = entry_first n e g in not_both to f.0 (subst (λ o. Holds a o f.0) s f.1) f.2 h;
      queries = λ n q g s. let e = in_choice_early to h.0 (list_behind to h) in let b = (span_at a prog l n q g).behind in omega (arith, e, b, s);
    };
  }

  -- ---- 6. what is named is there
  there_at : (at : ℕ) (i : Code) → Holds a at i → IsThere a i
  there_at at i h = by (locate a prog l at i h)
    where
      by : InChoice a prog l at i ⊎ (InClause a prog l at i ⊎ InQuery a prog l at i) → IsThere a i
      by (inl w) = w.it.choices.there w.n i w.get
      by (inr (inl w)) = let c = w.it.code in piece_there a (from_clauses a prog l + offset l.clauses w.k) w.is c.states c.first c.safe w.n i w.get
      by (inr (inr w)) = let c = w.it.code.code in piece_there a (from_clauses a prog l + (length (joined l.clauses) + offset l.queries w.k)) w.is c.states c.first c.safe w.n i w.get

  -- ---- all of it
  by_states : IsVerifiedBy a ss
  by_states = record {
    states = all_long a prog l;
    leads = leads_at;
    ahead = λ at to h. let r = names_lead a prog l at to h in (r.ahead, r.within);
    next = λ at to h. (falls_lead a prog l at to h).within;
    entries = λ n e h. (given e.arity, entry_has n e h, given_first e.arity);
    firsts = query_begins;
    queries = λ n q h. its_query n q h;
    apart = λ n m at p q f g b d. one_query a prog l n m at p q f g b d;
    answers = answer_ends;
    choices = choices;
    there = there_at;
    keys = l.keys;
    predicate_names = l.predicate_names;
    query_names = l.query_names;
  }

  pub laid_out_verified : IsVerified a
  laid_out_verified = (ss, by_states)
