-- What is kept of the sentences so far, and of one more.
use Rattle.std.proofs.Common.{◌≡◌, ℕ, ◌+◌, ◌<◌, ◌≤◌, List, [], ◌∷◌, ◌++◌, length, map, take, get_or, refl, sym, ap, ◌∙◌, subst, arith, length-append}
use Rattle.std.specs.Prelude.{All}
use Rattle.std.specs.List.{AllByRecursion}
use Rattle.std.proofs.lemmas.List.{map-append}
use Rattle.std.proofs.lemmas.List.Elements.{All-append, All-weaker, recursion_from_All}
use Rattle.fd_language.proofs.Lemmas.{two}
use Rattle.fd_language.specs.Reading as reading
use Rattle.fd_model.specs.Goal as model
use Rattle.fd_model.specs.Queries.{query_of, queries_by, queries_of, clause_of, clauses_by, clauses_of, body_of}
use Rattle.fd_model.specs.Refusals.{SentenceKind, query, clause, directive, fact, form_of}
use Rattle.term_pool.specs.Contents.{Contents, atom_name}
use Rattle.term_pool.specs.Terms.{term_of}
use Rattle.term_reader.specs.declared.reader.Sentence.{Sentence}
use Rattle.term_reader.specs.declared.reader.Sentences.{Sentences}
use Rattle.term_reader.specs.Sentences.{sentence_of}
use Rattle.clause_check.specs.declared.program.FlatGoal.{FlatGoal}
use Rattle.clause_check.specs.declared.program.FlatClause.{FlatClause}
use Rattle.clause_check.specs.declared.check.Parts.{Parts}
use Rattle.clause_check.specs.GoalStores.{stored}
use Rattle.clause_check.specs.Parts.{IsQueryWithin, queries_kept, KeepsSentences, AddsSentence}
use Rattle.clause_check.specs.Programs.{FlatQuery, clause_by, query_by, query_kept, IsClause}
use Rattle.clause_check.proofs.FlatGoals.{part_later, part_more, trees_length}
use Rattle.clause_check.proofs.BodyWalk.{grown_stored}
use Rattle.term_reader.proofs.Lemmas.{sentences_more}

-- ---- the definition's clauses and queries

clauses_append : (N : ℕ) (xs : List reading.Sentence) (x : reading.Sentence) → clauses_of N (xs ++ x ∷ []) ≡ clauses_of N xs ++ clauses_by N x.names (form_of x.term) []
clauses_append N [] x = refl
clauses_append N (y ∷ ys) x = by_form (form_of y.term) (clauses_append N ys x)
  where
    by_form : (f : SentenceKind) → clauses_of N (ys ++ x ∷ []) ≡ clauses_of N ys ++ clauses_by N x.names (form_of x.term) []
        → clauses_by N y.names f (clauses_of N (ys ++ x ∷ [])) ≡ clauses_by N y.names f (clauses_of N ys) ++ clauses_by N x.names (form_of x.term) []
    by_form (query b) h = h
    by_form (clause a b) h = ap (λ (ks : List model.Clause). clause_of y.names a (body_of N b) ∷ ks) h
    by_form directive h = h
    by_form (fact t) h = ap (λ (ks : List model.Clause). clause_of y.names t [] ∷ ks) h

queries_append : (N : ℕ) (xs : List reading.Sentence) (x : reading.Sentence) → queries_of N (xs ++ x ∷ []) ≡ queries_of N xs ++ queries_by N x.names (form_of x.term) []
queries_append N [] x = refl
queries_append N (y ∷ ys) x = by_form (form_of y.term) (queries_append N ys x)
  where
    by_form : (f : SentenceKind) → queries_of N (ys ++ x ∷ []) ≡ queries_of N ys ++ queries_by N x.names (form_of x.term) []
        → queries_by N y.names f (queries_of N (ys ++ x ∷ [])) ≡ queries_by N y.names f (queries_of N ys) ++ queries_by N x.names (form_of x.term) []
    by_form (query b) h = ap (λ (qs : List model.Query). query_of N y.names b ∷ qs) h
    by_form (clause a b) h = h
    by_form directive h = h
    by_form (fact t) h = h

-- ---- more goals

module _ (c : Contents) (n m : ℕ) (l : n ≤ m) where
  pub clause_later : (k : FlatClause) → IsClause c n k → IsClause c m k
  clause_later k h = record { head = h.head; named = h.named; body = part_later c n m k.body l h.body }

  query_later : (q : FlatQuery) → IsQueryWithin c n q → IsQueryWithin c m q
  query_later q h = record { names = h.names; goals = part_later c n m q.goals l h.goals }

module _ (c : Contents) (goals more : List model.Goal) (n : ℕ) (l : n ≤ length goals) where
  pub clauses_same : (ks : List FlatClause) → AllByRecursion (IsClause c n) ks → map (clause_by c (goals ++ more)) ks ≡ map (clause_by c goals) ks
  clauses_same [] h = refl
  clauses_same (k ∷ ks) h =
      two (λ (x : model.Clause) (xs : List model.Clause). x ∷ xs)
      (ap (λ (gs : List model.Goal). let x : model.Clause = record { variables = k.variables; head = term_of c k.head; body = gs } in
      x) (part_more goals more k.body.from k.body.to (let u = h.0.body.within in omega (arith, u, l))))
      (clauses_same ks h.1)

  pub queries_same : (qs : List FlatQuery) → AllByRecursion (IsQueryWithin c n) qs → map (query_by c (goals ++ more)) qs ≡ map (query_by c goals) qs
  queries_same [] h = refl
  queries_same (q ∷ qs) h =
      two (λ (x : model.Query) (xs : List model.Query). x ∷ xs)
      (ap (λ (gs : List model.Goal). let x : model.Query = record { variables = q.variables; names = map (atom_name c) q.names; shown = q.shown; goals = gs } in x)
      (part_more goals more q.goals.from q.goals.to (let u = h.0.goals.within in omega (arith, u, l)))) (queries_same qs h.1)

-- ---- one sentence more

pub stands_more : (N : ℕ) (s : Sentences) (old new : Parts) (i : ℕ) (d : Sentence) → i < length s.list.items → d ≡ get_or s.list.items i d
    → KeepsSentences N s.pool old (take i s.list.items) → AddsSentence N s old new d
    → KeepsSentences N s.pool new (take (i + 1) s.list.items)
stands_more N s old new i d h e k added =
    let c = s.pool in
    let a = added.adds in
    let n = length old.store.goals.items in
    let m = length new.store.goals.items in
    let l : n ≤ m = omega (arith, ap (length {A = FlatGoal}) a.grown.goals.1, length-append old.store.goals.items a.grown.goals.0) in
    let trees = stored c old.store in
    let more = grown_stored c old.store new.store k.store a.grown in
    let size : n ≤ length trees = omega (arith, trees_length c old.store.ranges.items old.store.goals.items) in
    let ks = old.clauses.items in
    let qs = queries_kept old in
    let before = map (sentence_of c) (take i s.list.items) in
    let x = sentence_of c d in
    let after = sentences_more s i d h e in
    let kept : queries_kept new ≡ qs ++ map query_kept a.more_queries = ap (map query_kept) a.added_queries ∙ map-append query_kept old.queries.items a.more_queries in
    let old_clauses : map (clause_by c (stored c new.store)) ks ≡ clauses_of N before =
    ap (λ (gs : List model.Goal). map (clause_by c gs) ks) more.1 ∙ clauses_same c trees more.0 n size ks (recursion_from_All (IsClause c n) ks k.clauses) ∙ k.clauses_are in
    let old_queries : map (query_by c (stored c new.store)) qs ≡ queries_of N before =
    ap (λ (gs : List model.Goal). map (query_by c gs) qs) more.1 ∙ queries_same c trees more.0 n size qs (recursion_from_All (IsQueryWithin c n) qs k.queries) ∙ k.queries_are in
    record {
      store = a.store;
      clauses = subst (All (IsClause c m)) (sym a.added_clauses) (All-append (IsClause c m) ks a.more_clauses (All-weaker (IsClause c n) (IsClause c m) (clause_later c n m l) ks k.clauses) a.clauses);
      queries = subst (All (IsQueryWithin c m)) (sym kept)
          (All-append (IsQueryWithin c m) qs (map query_kept a.more_queries) (All-weaker (IsQueryWithin c n) (IsQueryWithin c m) (query_later c n m l) qs k.queries) a.queries);
      clauses_are = ap (map (clause_by c (stored c new.store))) a.added_clauses ∙ map-append (clause_by c (stored c new.store)) ks a.more_clauses
          ∙ two (λ (xs ys : List model.Clause). xs ++ ys) old_clauses a.clauses_are ∙ sym (clauses_append N before x) ∙ ap (clauses_of N) (sym after);
      queries_are = ap (map (query_by c (stored c new.store))) kept ∙ map-append (query_by c (stored c new.store)) qs (map query_kept a.more_queries)
          ∙ two (λ (xs ys : List model.Query). xs ++ ys) old_queries a.queries_are ∙ sym (queries_append N before x) ∙ ap (queries_of N) (sym after);
    }
