-- What is kept of a sentence.
use Rattle.std.proofs.Common.{◌≡◌, ℕ, ◌<◌, List, [], ◌∷◌, ◌++◌, length, map, filter, Option, Some, None, refl, sym, ap, ◌∙◌, subst, append-nil}
use Rattle.std.proofs.lemmas.List.{length-map}
use Rattle.std.proofs.lemmas.List.Elements.{All-nil, All-cons}
use Rattle.fd_language.specs.Term.{Name, Term}
use Rattle.fd_language.specs.PlacedTerm.{PlacedTerm, plain}
use Rattle.fd_language.specs.declared.TheConstants.{INFINITY}
use Rattle.fd_model.specs.Goal as model
use Rattle.fd_model.specs.Queries.{body_of, is_shown, shown_from, queries_by, clause_of, clauses_by}
use Rattle.fd_model.specs.Refusals as refusals
use Rattle.fd_model.specs.Refusals.{functor_of, head_by_functor, head_refusal, or_later, goals_of, goals_refusal, clause_refusal}
use Rattle.term_pool.specs.declared.TermId.{TermId}
use Rattle.term_pool.specs.Contents.{Contents, atom_name}
use Rattle.term_pool.specs.Terms.{term_of}
use Rattle.term_pool.specs.PlacedTerms.{placed_of}
use Rattle.term_reader.proofs.Lemmas.{plain_placed}
use Rattle.term_reader.specs.declared.reader.Sentence.{Sentence}
use Rattle.term_reader.specs.declared.reader.Sentences.{Sentences}
use Rattle.clause_check.specs.declared.program.FlatClause.{FlatClause}
use Rattle.clause_check.specs.declared.program.QueryParts.{QueryParts}
use Rattle.clause_check.specs.declared.goals.GoalStore.{GoalStore}
use Rattle.clause_check.specs.declared.check.Parts.{Parts}
use Rattle.clause_check.specs.GoalStores.{stored, IsStore, IsGrown, IsRead}
use Rattle.clause_check.specs.Parts.{AreShown, IsQueryWithin, AddsForm, names_in}
use Rattle.clause_check.specs.Programs.{part_of, query_kept, IsNamed, IsPart, IsClause}
use Rattle.clause_check.specs.Terms.{terms_of}
use Rattle.clause_check.proofs.FormNames.{functor_arguments}

-- a head that isn't refused is an atom or a compound term
named_by : (x : PlacedTerm) (o : Option refusals.Functor) → functor_of x ≡ o → head_by_functor x o ≡ None → IsNamed (plain x)
named_by x None e h = absurd (cc)
named_by x (Some f) e h = (f.arity, functor_arguments x f e)

pub head_named : (c : Contents) (t : TermId) → head_refusal (placed_of c t) ≡ None → IsNamed (term_of c t)
head_named c t h = subst IsNamed (plain_placed c t) (named_by (placed_of c t) (functor_of (placed_of c t)) refl h)

pub grown_refl : (g : GoalStore) → IsGrown g g
grown_refl g = record { ranges = ([], sym (append-nil g.ranges.items)); goals = ([], sym (append-nil g.goals.items)) }

same_clause : (n m : ℕ) (t u : Term) (gs hs : List model.Goal) → n ≡ m → t ≡ u → gs ≡ hs
    → (let a : model.Clause = record { variables = n; head = t; body = gs } in let b : model.Clause = record { variables = m; head = u; body = hs } in a ≡ b)
same_clause n m t u gs hs e f g =
    ap (λ (k : ℕ). let x : model.Clause = record { variables = k; head = t; body = gs } in x) e
    ∙ ap (λ (v : Term). let x : model.Clause = record { variables = m; head = v; body = gs } in x) f
    ∙ ap (λ (l : List model.Goal). let x : model.Clause = record { variables = m; head = u; body = l } in x) g

same_query : (n m : ℕ) (as' bs : List Name) (xs ys : List ℕ) (gs hs : List model.Goal) → n ≡ m → as' ≡ bs → xs ≡ ys → gs ≡ hs
    → (let a : model.Query = record { variables = n; names = as'; shown = xs; goals = gs } in let b : model.Query = record { variables = m; names = bs; shown = ys; goals = hs } in a ≡ b)
same_query n m as' bs xs ys gs hs d e f g =
    ap (λ (k : ℕ). let q : model.Query = record { variables = k; names = as'; shown = xs; goals = gs } in q) d
    ∙ ap (λ (l : List Name). let q : model.Query = record { variables = m; names = l; shown = xs; goals = gs } in q) e
    ∙ ap (λ (l : List ℕ). let q : model.Query = record { variables = m; names = bs; shown = l; goals = gs } in q) f
    ∙ ap (λ (l : List model.Goal). let q : model.Query = record { variables = m; names = bs; shown = ys; goals = l } in q) g

module _ (N : ℕ) (s : Sentences) (old new : Parts) (x : Sentence) (grown : IsGrown old.store new.store) (store : IsStore s.pool new.store) where
  abbrev c : Contents
  c = s.pool

  abbrev names : List Name
  names = names_in c x

  abbrev size : ℕ
  size = length new.store.goals.items

  abbrev trees : List model.Goal
  trees = stored c new.store

  counted : (n : ℕ) → n ≡ length x.names.items → n ≡ length names
  counted n e = e ∙ sym (length-map x.names.items (atom_name c))

  -- of a clause with this head, whose goals are these
  clause_added : (form : refusals.SentenceKind) (h : TermId) (k : FlatClause) (body : List model.Goal)
      → clause_refusal INFINITY N (terms_of s) (placed_of c x.term) form ≡ None → head_refusal (placed_of c h) ≡ None
      → h.number < length c.entries → k.head ≡ h → k.variables ≡ length x.names.items → IsPart size k.body → part_of trees k.body ≡ body
      → clauses_by N names form [] ≡ clause_of names (placed_of c h) body ∷ [] → queries_by N names form [] ≡ []
      → new.clauses.items ≡ old.clauses.items ++ k ∷ [] → new.queries.items ≡ old.queries.items → AddsForm N s old new names (placed_of c x.term) form
  clause_added form h k body a n l head count part goals clauses queries added same =
      let mine : IsClause c size k = record {
        head = subst (λ (t : TermId). t.number < length c.entries) (sym head) l;
        named = subst (λ (t : TermId). IsNamed (term_of c t)) (sym head) (head_named c h n);
        body = part;
      } in
      record {
        accepted = a;
        grown = grown;
        store = store;
        more_clauses = k ∷ [];
        more_queries = [];
        added_clauses = added;
        added_queries = same ∙ sym (append-nil old.queries.items);
        clauses = All-cons (IsClause c size) k [] mine (All-nil (IsClause c size));
        queries = All-nil (IsQueryWithin c size);
        clauses_are = ap (λ (y : model.Clause). y ∷ [])
            (same_clause k.variables (length names) (term_of c k.head) (plain (placed_of c h)) (part_of trees k.body) body (counted k.variables count)
            (ap (term_of c) head ∙ sym (plain_placed c h)) goals)
            ∙ sym clauses;
        queries_are = sym queries;
      }

  pub fact_added : (h : TermId) (k : FlatClause) → head_refusal (placed_of c h) ≡ None → h.number < length c.entries → k.head ≡ h
      → k.variables ≡ length x.names.items → IsPart size k.body → part_of trees k.body ≡ []
      → new.clauses.items ≡ old.clauses.items ++ k ∷ [] → new.queries.items ≡ old.queries.items → AddsForm N s old new names (placed_of c x.term) (refusals.fact (placed_of c h))
  fact_added h k n l head count part goals added same = clause_added (refusals.fact (placed_of c h)) h k [] n n l head count part goals refl refl added same

  pub rule_added : (h b : TermId) (k : FlatClause) → head_refusal (placed_of c h) ≡ None → h.number < length c.entries → k.head ≡ h
      → k.variables ≡ length x.names.items → IsRead N s old.store new.store (placed_of c b) k.body
      → new.clauses.items ≡ old.clauses.items ++ k ∷ [] → new.queries.items ≡ old.queries.items → AddsForm N s old new names (placed_of c x.term) (refusals.clause (placed_of c h) (placed_of c b))
  rule_added h b k n l head count read added same =
      clause_added (refusals.clause (placed_of c h) (placed_of c b)) h k (body_of N (placed_of c b))
      (ap (λ (o : Option refusals.Refusal). or_later o (goals_refusal INFINITY N (terms_of s) (goals_of (placed_of c b)))) n ∙ read.accepted) n l head count read.part read.goals refl refl added same

  pub query_added : (b : TermId) (q : QueryParts) → AreShown c x.names.items q.names.items q.shown.items → q.variables ≡ length x.names.items → IsRead N s old.store new.store (placed_of c b) q.goals
      → new.clauses.items ≡ old.clauses.items → new.queries.items ≡ old.queries.items ++ q ∷ [] → AddsForm N s old new names (placed_of c x.term) (refusals.query (placed_of c b))
  query_added b q shown count read same added = record {
    accepted = read.accepted;
    grown = grown;
    store = store;
    more_clauses = [];
    more_queries = q ∷ [];
    added_clauses = same ∙ sym (append-nil old.clauses.items);
    added_queries = added;
    clauses = All-nil (IsClause c size);
    queries = All-cons (IsQueryWithin c size) (query_kept q) [] (record { names = shown.within; goals = read.part }) (All-nil (IsQueryWithin c size));
    clauses_are = refl;
    queries_are = ap (λ (y : model.Query). y ∷ [])
        (same_query q.variables (length names) (map (atom_name c) q.names.items) (filter is_shown names) q.shown.items (shown_from 0 names) (part_of trees q.goals) (body_of N (placed_of c b))
        (counted q.variables count) shown.names_are shown.numbers_are read.goals);
  }
