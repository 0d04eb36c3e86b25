-- Where the places of laid out code lead: choices to each other and to clauses, and each piece to itself.
use Rattle.std.proofs.Common.{◌≡◌, ◌⊎◌, ℕ, suc, ◌+◌, ◌-◌, ◌<◌, ◌≤◌, IsTrue, List, Some, length, slice_get, sym, subst, inl, inr, arith}
use Rattle.std.proofs.lemmas.Option.{slice_get_within}
use Rattle.fd_language.specs.Family.{has}
use Rattle.fd_model.specs.Goal.{Program, Query}
use Rattle.wam_code.specs.declared.instruction.Code.{Code}
use Rattle.wam_code.specs.Area.{Area, Span, HasQuery}
use Rattle.wam_code.specs.VerifiedCode.{named, goes_on, Names, Falls, IsIn}
use Rattle.clause_compiler.specs.Layout.{joined, offset, is_first, IsSpanOf, Passes, IsLaidOut, BeginsClause}
use Rattle.clause_compiler.proofs.Lists.{get_there, offset_within, one_list, same_some}
use Rattle.clause_compiler.proofs.SafePieces.{piece_some, piece_names, piece_falls}
use Rattle.clause_compiler.proofs.Sorts.{listing_falls}
use Rattle.clause_compiler.proofs.CodePlaces.{from_clauses, from_queries, code_long, InChoice, InClause, InQuery, locate}

module _ (a : Area) (prog : Program) (l : IsLaidOut a prog) where
  -- ---- queries

  -- a query with its code
  pub record SpanAt (k : ℕ) (s : Span) : Type 0 where
    pub q : Query
    pub is : List Code
    pub query : slice_get prog.queries k ≡ Some q
    pub piece : slice_get l.queries k ≡ Some is
    pub code : IsSpanOf a (from_clauses a prog l + (length (joined l.clauses) + offset l.queries k)) q s is
    pub inside : s.end ≤ length a.code
    pub behind : from_queries a prog l ≤ s.at

  pub span_at : (k : ℕ) (s : Span) → HasQuery a k s → SpanAt k s
  span_at k s h =
      let b = slice_get_within a.queries k s h in
      let m = l.each_span in
      let q = get_there prog.queries k (omega (arith, b, m)) in
      let n = l.each_query in
      let is = get_there l.queries k (omega (arith, b, m, n)) in
      let code = l.query k q.0 s is.0 q.1 h is.1 in
      let w = offset_within l.queries k is.0 is.1 in
      let c = code_long a prog l in
      let e = code.begins in
      let f = code.ends in
      record { q = q.0; is = is.0; query = q.1; piece = is.1; code = code; inside = omega (arith, w, c, f); behind = omega (arith, e) }

  pub in_span : (at : ℕ) (i : Code) (w : InQuery a prog l at i) → IsIn w.it.s at
  in_span at i w =
      let b = w.it.code.begins in
      let e = w.it.code.ends in
      let p = w.place in
      let n = slice_get_within w.is w.n i w.get in
      (omega (arith, b, p), omega (arith, e, p, n))

  -- No place is one of two queries'.
  pub one_query : (n m at : ℕ) (p q : Span) → HasQuery a n p → HasQuery a m q → IsIn p at → IsIn q at → n ≡ m
  one_query n m at p q f g b d =
      let s = span_at n p f in
      let t = span_at m q g in
      let sb = s.code.begins in
      let se = s.code.ends in
      let tb = t.code.begins in
      let te = t.code.ends in
      one_list l.queries n m (at - p.at) (at - q.at) s.is t.is s.piece t.piece (omega (arith, b.0, b.1, sb, se)) (omega (arith, d.0, d.1, tb, te)) (omega (arith, b.0, d.0, sb, tb))

  pub same_span : (k m at : ℕ) (s t : Span) → HasQuery a k s → HasQuery a m t → IsIn s at → IsIn t at → s ≡ t
  same_span k m at s t f g b d = let e = one_query k m at s t f g b d in same_some a.queries k s t f (subst (λ j. HasQuery a j t) (sym e) g)

  -- ---- where a place leads

  -- to a place ahead, on this side of the queries or in the same query
  pub record Leading (at to : ℕ) : Type 0 where
    pub ahead : at < to
    pub within : to < length a.code
    pub sides : ((at < from_queries a prog l) × (to < from_queries a prog l)) ⊎ ((k : ℕ) × (s : Span) × HasQuery a k s × IsIn s at × IsIn s to)

  queries_behind : from_queries a prog l ≤ length a.code
  queries_behind = let c = code_long a prog l in omega (arith, c)

  before_queries : (at to : ℕ) → at < to → to < from_queries a prog l → Leading at to
  before_queries at to h w = record { ahead = h; within = omega (arith, w, queries_behind); sides = inl (omega (arith, h, w), w) }

  inside_query : (at i to : ℕ) → at < to → (k : ℕ) (s : Span) → HasQuery a k s → s.end ≤ length a.code → IsIn s at → to < s.end → Leading at to
  inside_query at i to h k s f b d e = record { ahead = h; within = omega (arith, b, e); sides = inr (k, s, f, d, (omega (arith, d.0, h), e)) }

  -- a clause begins behind the choices, with an instruction
  pub clause_begins : (arity to : ℕ) → BeginsClause prog.clauses (from_clauses a prog l) l.clauses arity to → (from_clauses a prog l ≤ to) × (to < from_queries a prog l)
  clause_begins arity to h =
      let b = slice_get_within prog.clauses h.0 h.1 h.2 in
      let m = l.each_clause in
      let is = get_there l.clauses h.0 (omega (arith, b, m)) in
      let c = l.clause h.0 h.1 is.0 h.2 is.1 in
      let s = piece_some a (from_clauses a prog l + offset l.clauses h.0) is.0 c.states c.first c.safe in
      let w = offset_within l.clauses h.0 is.0 is.1 in
      let e = h.4 in
      (omega (arith, e), omega (arith, e, s, w))

  choice_names : (at to : ℕ) (i : Code) (w : InChoice a prog l at i) → IsTrue (has (named a i) to) → Leading at to
  choice_names at to i w h = by (w.it.choices.leads w.n i to w.get h)
    where
      by : BeginsClause prog.clauses (from_clauses a prog l) l.clauses w.it.e.arity to ⊎ ((m : ℕ) × (to ≡ w.it.e.at + m) × (w.n < m) × Passes w.is is_first m) → Leading at to
      by (inl g) =
          let c = clause_begins w.it.e.arity to g in
          let p = w.place in
          let n = slice_get_within w.is w.n i w.get in
          let j = w.inside in
          before_queries at to (omega (arith, c.0, p, n, j)) c.1
      by (inr g) =
          let p = w.place in
          let n = slice_get_within w.is g.0 g.3.0 g.3.1 in
          let j = w.inside in
          let e = g.1 in
          let o = g.2 in
          before_queries at to (omega (arith, p, e, o)) (omega (arith, e, n, j))

  choice_falls : (at to : ℕ) (i : Code) (w : InChoice a prog l at i) → IsTrue (goes_on i) → to ≡ suc at → Leading at to
  choice_falls at to i w h e =
      let g = w.it.choices.behind w.n (i, w.get, listing_falls i (w.it.choices.lists w.n i w.get) h) in
      let n = slice_get_within w.is (suc w.n) g.0 g.1 in
      let p = w.place in
      let j = w.inside in
      before_queries at to (omega (arith, e)) (omega (arith, e, p, n, j))

  clause_names : (at to : ℕ) (i : Code) (w : InClause a prog l at i) → IsTrue (has (named a i) to) → Leading at to
  clause_names at to i w h =
      let c = w.it.code in
      let g = piece_names a (from_clauses a prog l + offset l.clauses w.k) w.is c.states c.first c.safe w.n i to w.get h in
      let p = w.place in
      let j = w.inside in
      before_queries at to (let o = g.0 in omega (arith, p, o)) (let o = g.1 in omega (arith, j, o))

  clause_falls : (at to : ℕ) (i : Code) (w : InClause a prog l at i) → IsTrue (goes_on i) → to ≡ suc at → Leading at to
  clause_falls at to i w h e =
      let c = w.it.code in
      let g = piece_falls a (from_clauses a prog l + offset l.clauses w.k) w.is c.states c.first c.safe w.n i w.get h in
      let p = w.place in
      let j = w.inside in
      before_queries at to (omega (arith, e)) (omega (arith, e, p, j, g))

  query_names : (at to : ℕ) (i : Code) (w : InQuery a prog l at i) → IsTrue (has (named a i) to) → Leading at to
  query_names at to i w h =
      let c = w.it.code.code in
      let g = piece_names a (from_clauses a prog l + (length (joined l.clauses) + offset l.queries w.k)) w.is c.states c.first c.safe w.n i to w.get h in
      let p = w.place in
      let e = w.it.code.ends in
      let j = w.inside in
      inside_query at 0 to (let o = g.0 in omega (arith, p, o)) w.k w.it.s w.it.span (omega (arith, e, j)) (in_span at i w) (let o = g.1 in omega (arith, e, o))

  query_falls : (at to : ℕ) (i : Code) (w : InQuery a prog l at i) → IsTrue (goes_on i) → to ≡ suc at → Leading at to
  query_falls at to i w h f =
      let c = w.it.code.code in
      let g = piece_falls a (from_clauses a prog l + (length (joined l.clauses) + offset l.queries w.k)) w.is c.states c.first c.safe w.n i w.get h in
      let p = w.place in
      let e = w.it.code.ends in
      let j = w.inside in
      inside_query at 0 to (omega (arith, f)) w.k w.it.s w.it.span (omega (arith, e, j)) (in_span at i w) (omega (arith, f, e, p, g))

  pub names_lead : (at to : ℕ) → Names a at to → Leading at to
  names_lead at to h = by (locate a prog l at h.0 h.1)
    where
      by : InChoice a prog l at h.0 ⊎ (InClause a prog l at h.0 ⊎ InQuery a prog l at h.0) → Leading at to
      by (inl w) = choice_names at to h.0 w h.2
      by (inr (inl w)) = clause_names at to h.0 w h.2
      by (inr (inr w)) = query_names at to h.0 w h.2

  pub falls_lead : (at to : ℕ) → Falls a at to → Leading at to
  falls_lead at to h = by (locate a prog l at h.0 h.1)
    where
      by : InChoice a prog l at h.0 ⊎ (InClause a prog l at h.0 ⊎ InQuery a prog l at h.0) → Leading at to
      by (inl w) = choice_falls at to h.0 w h.2 h.3
      by (inr (inl w)) = clause_falls at to h.0 w h.2 h.3
      by (inr (inr w)) = query_falls at to h.0 w h.2 h.3

  -- What leads from or to a query's place stays in the query.
  pub stays_in : (k at to : ℕ) (s : Span) → HasQuery a k s → Leading at to → IsIn s at → IsIn s to
  stays_in k at to s h g b = by g.sides
    where
      by : ((at < from_queries a prog l) × (to < from_queries a prog l)) ⊎ ((m : ℕ) × (t : Span) × HasQuery a m t × IsIn t at × IsIn t to) → IsIn s to
      by (inl w) = absurd (let e = (span_at k s h).behind in omega (arith, w.0, b.0, e))
      by (inr w) = subst (λ r. IsIn r to) (same_span w.0 k at w.1 s w.2 h w.3 b) w.4

  pub stays_out : (k at to : ℕ) (s : Span) → HasQuery a k s → Leading at to → IsIn s to → IsIn s at
  stays_out k at to s h g b = by g.sides
    where
      by : ((at < from_queries a prog l) × (to < from_queries a prog l)) ⊎ ((m : ℕ) × (t : Span) × HasQuery a m t × IsIn t at × IsIn t to) → IsIn s at
      by (inl w) = absurd (let e = (span_at k s h).behind in omega (arith, w.1, b.0, e))
      by (inr w) = subst (λ r. IsIn r at) (same_span w.0 k to w.1 s w.2 h w.4 b) w.3
