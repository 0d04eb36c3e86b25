-- Where a place of laid out code is, and what is known there.
use Rattle.std.proofs.Common.{◌≡◌, ◌⊎◌, ℕ, ◌+◌, ◌≤◌, List, ◌++◌, Some, replicate, length, slice_get, refl, ap, sym, ◌∙◌, subst, inl, inr, arith}
use Rattle.std.proofs.lemmas.List.{length-append, length-replicate}
use Rattle.std.proofs.lemmas.Option.{slice_get_within}
use Rattle.fd_model.specs.Goal.{Clause, Query, Program}
use Rattle.wam_code.specs.declared.instruction.Code.{Code}
use Rattle.wam_code.specs.declared.parts.Entry.{Entry}
use Rattle.wam_code.specs.Area.{Area, Span, State, Holds, HasState, HasEntry, HasQuery}
use Rattle.clause_code.specs.Pieces.{base_of}
use Rattle.clause_code.specs.SafeCode.{IsClauseCode}
use Rattle.clause_compiler.specs.EntryState.{given}
use Rattle.clause_compiler.specs.Layout.{joined, offset, AreChoicesOf, BeginsClause, IsSpanOf, IsLaidOut}
use Rattle.clause_compiler.proofs.Lists.{get_there, get_left, get_right, split_get, get_joined, Found, find_joined, offset_within, same_offset, same_length}
use Rattle.clause_compiler.proofs.Lists.{Chosen, choose}

module _ (a : Area) (prog : Program) (l : IsLaidOut a prog) where
  -- where the clauses begin, and where the queries do
  abbrev pub from_clauses : ℕ
  from_clauses = length (joined l.choices)

  abbrev pub from_queries : ℕ
  from_queries = from_clauses + length (joined l.clauses)

  -- ---- pieces with their states

  pub record ChoiceAt (k : ℕ) (is : List Code) (ss : List State) : Type 0 where
    pub e : Entry
    pub entry : HasEntry a k e
    pub states : ss ≡ replicate (length is) (given e.arity)
    pub choices : AreChoicesOf a (BeginsClause prog.clauses from_clauses l.clauses e.arity) e.at e.arity is

  pub record ClauseAt (k : ℕ) (is : List Code) (ss : List State) : Type 0 where
    pub c : Clause
    pub clause : slice_get prog.clauses k ≡ Some c
    pub code : IsClauseCode (base_of a) (from_clauses + offset l.clauses k) is c
    pub states : ss ≡ code.states

  pub record QueryAt (k : ℕ) (is : List Code) (ss : List State) : Type 0 where
    pub q : Query
    pub s : Span
    pub query : slice_get prog.queries k ≡ Some q
    pub span : HasQuery a k s
    pub code : IsSpanOf a (from_clauses + (length (joined l.clauses) + offset l.queries k)) q s is
    pub states : ss ≡ code.code.states

  pub choice_states : Chosen ChoiceAt l.choices
  choice_states = choose ChoiceAt l.choices (λ k is f.
      let e = get_there a.entries k (let b = slice_get_within l.choices k is f in let m = l.each_choice in omega (arith, b, m)) in
      (replicate (length is) (given (e.0).arity), record { e = e.0; entry = e.1; states = refl; choices = l.choice k e.0 is e.1 f }))

  pub clause_states : Chosen ClauseAt l.clauses
  clause_states = choose ClauseAt l.clauses (λ k is f.
      let c = get_there prog.clauses k (let b = slice_get_within l.clauses k is f in let m = l.each_clause in omega (arith, b, m)) in
      let code = l.clause k c.0 is c.1 f in
      (code.states, record { c = c.0; clause = c.1; code = code; states = refl }))

  pub query_states : Chosen QueryAt l.queries
  query_states = choose QueryAt l.queries (λ k is f.
      let q = get_there prog.queries k (let b = slice_get_within l.queries k is f in let m = l.each_query in omega (arith, b, m)) in
      let s = get_there a.queries k (let b = slice_get_within l.queries k is f in let m = l.each_query in let n = l.each_span in omega (arith, b, m, n)) in
      let code = l.query k q.0 s.0 is q.1 s.1 f in
      (code.code.states, record { q = q.0; s = s.0; query = q.1; span = s.1; code = code; states = refl }))

  -- the states of all places
  abbrev pub all_states : List State
  all_states = joined choice_states.choice ++ (joined clause_states.choice ++ joined query_states.choice)

  -- ---- as many states as instructions

  choice_size : (k : ℕ) (is : List Code) (ss : List State) → slice_get l.choices k ≡ Some is → slice_get choice_states.choice k ≡ Some ss → length ss ≡ length is
  choice_size k is ss f g = let c = choice_states.each k is ss f g in ap length c.states ∙ length-replicate (length is) (given (c.e).arity)

  clause_size : (k : ℕ) (is : List Code) (ss : List State) → slice_get l.clauses k ≡ Some is → slice_get clause_states.choice k ≡ Some ss → length ss ≡ length is
  clause_size k is ss f g = let c = clause_states.each k is ss f g in ap length c.states ∙ c.code.safe.states

  query_size : (k : ℕ) (is : List Code) (ss : List State) → slice_get l.queries k ≡ Some is → slice_get query_states.choice k ≡ Some ss → length ss ≡ length is
  query_size k is ss f g = let c = query_states.each k is ss f g in ap length c.states ∙ c.code.code.safe.states

  choices_long : length (joined choice_states.choice) ≡ from_clauses
  choices_long = same_length l.choices choice_states.choice choice_states.size choice_size

  clauses_long : length (joined clause_states.choice) ≡ length (joined l.clauses)
  clauses_long = same_length l.clauses clause_states.choice clause_states.size clause_size

  pub code_long : length a.code ≡ from_queries + length (joined l.queries)
  code_long =
      let e = ap length l.code in
      let m = length-append (joined l.choices) (joined l.clauses ++ joined l.queries) in
      let n = length-append (joined l.clauses) (joined l.queries) in
      omega (arith, e, m, n)

  pub all_long : length all_states ≡ length a.code
  all_long =
      let m = length-append (joined choice_states.choice) (joined clause_states.choice ++ joined query_states.choice) in
      let n = length-append (joined clause_states.choice) (joined query_states.choice) in
      let q = same_length l.queries query_states.choice query_states.size query_size in
      omega (arith, m, n, q, choices_long, clauses_long, code_long)

  -- ---- from a piece to the places

  pub holds_choice : (k n : ℕ) (is : List Code) (i : Code) → slice_get l.choices k ≡ Some is → slice_get is n ≡ Some i → Holds a (offset l.choices k + n) i
  holds_choice k n is i f g =
      ap (λ c. slice_get c (offset l.choices k + n)) l.code ∙ get_left (joined l.choices) (joined l.clauses ++ joined l.queries) (offset l.choices k + n) i (get_joined l.choices k n is i f g)

  pub holds_query : (k n : ℕ) (is : List Code) (i : Code) → slice_get l.queries k ≡ Some is → slice_get is n ≡ Some i
      → Holds a ((from_clauses + (length (joined l.clauses) + offset l.queries k)) + n) i
  holds_query k n is i f g =
      ap (λ c. slice_get c ((from_clauses + (length (joined l.clauses) + offset l.queries k)) + n)) l.code
      ∙ ap (slice_get (joined l.choices ++ (joined l.clauses ++ joined l.queries)))
      (let e : (from_clauses + (length (joined l.clauses) + offset l.queries k)) + n ≡ length
      (joined l.choices) + (length (joined l.clauses) + (offset l.queries k + n)) = omega arith in e)
      ∙ get_right (joined l.choices) (joined l.clauses ++ joined l.queries) (length (joined l.clauses) + (offset l.queries k + n))
      ∙ get_right (joined l.clauses) (joined l.queries) (offset l.queries k + n)
      ∙ get_joined l.queries k n is i f g

  pub state_choice : (k n : ℕ) (ss : List State) (s : State) → slice_get choice_states.choice k ≡ Some ss → slice_get ss n ≡ Some s → HasState all_states (offset l.choices k + n) s
  state_choice k n ss s f g =
      let e = same_offset l.choices choice_states.choice choice_states.size choice_size k in
      subst (λ o. slice_get all_states (o + n) ≡ Some s) e
      (get_left (joined choice_states.choice) (joined clause_states.choice ++ joined query_states.choice) (offset choice_states.choice k + n) s
      (get_joined choice_states.choice k n ss s f g))

  pub state_clause : (k n : ℕ) (ss : List State) (s : State) → slice_get clause_states.choice k ≡ Some ss → slice_get ss n ≡ Some s → HasState all_states ((from_clauses + offset l.clauses k) + n) s
  state_clause k n ss s f g =
      let e = same_offset l.clauses clause_states.choice clause_states.size clause_size k in
      let place : (from_clauses + offset l.clauses k) + n ≡ length (joined choice_states.choice) + (offset clause_states.choice k + n) = omega (arith, e, choices_long) in
      ap (slice_get all_states) place
      ∙ get_right (joined choice_states.choice) (joined clause_states.choice ++ joined query_states.choice) (offset clause_states.choice k + n)
      ∙ get_left (joined clause_states.choice) (joined query_states.choice) (offset clause_states.choice k + n) s (get_joined clause_states.choice k n ss s f g)

  pub state_query : (k n : ℕ) (ss : List State) (s : State) → slice_get query_states.choice k ≡ Some ss → slice_get ss n ≡ Some s
      → HasState all_states ((from_clauses + (length (joined l.clauses) + offset l.queries k)) + n) s
  state_query k n ss s f g =
      let e = same_offset l.queries query_states.choice query_states.size query_size k in
      let place : (from_clauses + (length (joined l.clauses) + offset l.queries k)) + n ≡ length
      (joined choice_states.choice) + (length (joined clause_states.choice) + (offset query_states.choice k + n)) = omega (
        arith,
        e,
        choices_long,
        clauses_long,
      ) in
      ap (slice_get all_states) place
      ∙ get_right (joined choice_states.choice) (joined clause_states.choice ++ joined query_states.choice) (length (joined clause_states.choice) + (offset query_states.choice k + n))
      ∙ get_right (joined clause_states.choice) (joined query_states.choice) (offset query_states.choice k + n)
      ∙ get_joined query_states.choice k n ss s f g

  -- ---- from a place to its piece

  pub record InChoice (at : ℕ) (i : Code) : Type 0 where
    pub k : ℕ
    pub n : ℕ
    pub is : List Code
    pub ss : List State
    pub piece : slice_get l.choices k ≡ Some is
    pub states : slice_get choice_states.choice k ≡ Some ss
    pub it : ChoiceAt k is ss
    pub get : slice_get is n ≡ Some i
    pub place : at ≡ it.e.at + n
    pub inside : it.e.at + length is ≤ from_clauses

  pub record InClause (at : ℕ) (i : Code) : Type 0 where
    pub k : ℕ
    pub n : ℕ
    pub is : List Code
    pub ss : List State
    pub piece : slice_get l.clauses k ≡ Some is
    pub states : slice_get clause_states.choice k ≡ Some ss
    pub it : ClauseAt k is ss
    pub get : slice_get is n ≡ Some i
    pub place : at ≡ (from_clauses + offset l.clauses k) + n
    pub inside : (from_clauses + offset l.clauses k) + length is ≤ from_queries

  pub record InQuery (at : ℕ) (i : Code) : Type 0 where
    pub k : ℕ
    pub n : ℕ
    pub is : List Code
    pub ss : List State
    pub piece : slice_get l.queries k ≡ Some is
    pub states : slice_get query_states.choice k ≡ Some ss
    pub it : QueryAt k is ss
    pub get : slice_get is n ≡ Some i
    pub place : at ≡ (from_clauses + (length (joined l.clauses) + offset l.queries k)) + n
    pub inside : (from_clauses + (length (joined l.clauses) + offset l.queries k)) + length is ≤ length a.code

  pub locate : (at : ℕ) (i : Code) → Holds a at i → InChoice at i ⊎ (InClause at i ⊎ InQuery at i)
  locate at i h = first (split_get (joined l.choices) (joined l.clauses ++ joined l.queries) at i (ap (λ c. slice_get c at) (sym l.code) ∙ h))
    where
      in_choice : Found l.choices at i → InChoice at i
      in_choice f =
          let s = get_there choice_states.choice f.list (let b = slice_get_within l.choices f.list f.elements f.at_list in let m = choice_states.size in omega (arith, b, m)) in
          let it = choice_states.each f.list f.elements s.0 f.at_list s.1 in
          let p = l.entry f.list it.e it.entry in
          record {
            k = f.list;
            n = f.index;
            is = f.elements;
            ss = s.0;
            piece = f.at_list;
            states = s.1;
            it = it;
            get = f.at_index;
            place = (let m = f.sum in
                omega (arith, m, p));
            inside = (let w = offset_within l.choices f.list f.elements f.at_list in omega (arith, w, p));
          }

      in_clause : (m : ℕ) → at ≡ from_clauses + m → Found l.clauses m i → InClause at i
      in_clause m e f =
          let s = get_there clause_states.choice f.list (let b = slice_get_within l.clauses f.list f.elements f.at_list in let z = clause_states.size in omega (arith, b, z)) in
          record {
            k = f.list;
            n = f.index;
            is = f.elements;
            ss = s.0;
            piece = f.at_list;
            states = s.1;
            it = clause_states.each f.list f.elements s.0 f.at_list s.1;
            get = f.at_index;
            place = (let o = f.sum in
                omega (arith, o, e));
            inside = (let w = offset_within l.clauses f.list f.elements f.at_list in omega (arith, w));
          }

      in_query : (m o : ℕ) → at ≡ from_clauses + m → m ≡ length (joined l.clauses) + o → Found l.queries o i → InQuery at i
      in_query m o e g f =
          let s = get_there query_states.choice f.list (let b = slice_get_within l.queries f.list f.elements f.at_list in let z = query_states.size in omega (arith, b, z)) in
          record {
            k = f.list;
            n = f.index;
            is = f.elements;
            ss = s.0;
            piece = f.at_list;
            states = s.1;
            it = query_states.each f.list f.elements s.0 f.at_list s.1;
            get = f.at_index;
            place = (let t = f.sum in
                omega (arith, t, e, g));
            inside = (let w = offset_within l.queries f.list f.elements f.at_list in omega (arith, w, code_long));
          }

      second : (m : ℕ) → at ≡ from_clauses + m → (slice_get (joined l.clauses) m ≡ Some i)
          ⊎ ((o : ℕ) × (m ≡ length (joined l.clauses) + o) × (slice_get (joined l.queries) o ≡ Some i)) → InClause at i ⊎ InQuery at i
      second m e (inl g) = inl (in_clause m e (find_joined l.clauses m i g))
      second m e (inr g) = inr (in_query m g.0 e g.1 (find_joined l.queries g.0 i g.2))

      first : (slice_get (joined l.choices) at ≡ Some i)
          ⊎ ((m : ℕ) × (at ≡ length (joined l.choices) + m) × (slice_get (joined l.clauses ++ joined l.queries) m ≡ Some i))
          → InChoice at i ⊎ (InClause at i ⊎ InQuery at i)
      first (inl g) = inl (in_choice (find_joined l.choices at i g))
      first (inr g) = inr (second g.0 g.1 (split_get (joined l.clauses) (joined l.queries) g.0 i g.2))
