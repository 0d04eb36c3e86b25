-- What is kept of sentences. N is the greatest number that a variable may have.
use Rattle.std.specs.Prelude.{◌≡◌, ℕ, ◌<◌, List, [], ◌++◌, length, map, filter, None, All}
use Rattle.fd_language.specs.Term.{Name}
use Rattle.fd_language.specs.PlacedTerm.{PlacedTerm}
use Rattle.fd_language.specs.declared.TheConstants.{INFINITY}
use Rattle.fd_model.specs.Queries.{is_shown, shown_from, queries_by, queries_of, clauses_by, clauses_of}
use Rattle.fd_model.specs.Refusals as refusals
use Rattle.fd_model.specs.Refusals.{form_of, clause_refusal, sentence_refusal}
use Rattle.term_pool.specs.declared.AtomId.{AtomId}
use Rattle.term_pool.specs.Contents.{Contents, atom_name}
use Rattle.term_pool.specs.PlacedTerms.{placed_of}
use Rattle.term_reader.specs.declared.reader.Sentence.{Sentence}
use Rattle.term_reader.specs.declared.reader.Sentences.{Sentences}
use Rattle.term_reader.specs.Sentences.{sentence_of}
use Rattle.clause_check.specs.declared.program.FlatClause.{FlatClause}
use Rattle.clause_check.specs.declared.program.QueryParts.{QueryParts}
use Rattle.clause_check.specs.declared.check.Parts.{Parts}
use Rattle.clause_check.specs.declared.terms.SentenceForm.{SentenceForm}
use Rattle.clause_check.specs.GoalStores.{stored, IsStore, IsGrown}
use Rattle.clause_check.specs.Programs.{FlatQuery, clause_by, query_by, query_kept, IsPart, IsClause}
use Rattle.clause_check.specs.Terms.{terms_of, form_in}

-- the shown variables, of those with these names
pub record AreShown (c : Contents) (all names : List AtomId) (numbers : List ℕ) : Type 0 where
  pub within : All (λ a. a.number < length c.names) names
  pub names_are : map (atom_name c) names ≡ filter is_shown (map (atom_name c) all)
  pub numbers_are : numbers ≡ shown_from 0 (map (atom_name c) all)

-- the names of the pool, and the goals of the first n
pub record IsQueryWithin (c : Contents) (n : ℕ) (q : FlatQuery) : Type 0 where
  pub names : All (λ a. a.number < length c.names) q.names
  pub goals : IsPart n q.goals

abbrev pub queries_kept : Parts → List FlatQuery
queries_kept p = map query_kept p.queries.items

-- what is kept of these sentences
pub record KeepsSentences (N : ℕ) (c : Contents) (p : Parts) (sentences : List Sentence) : Type 0 where
  pub store : IsStore c p.store
  pub clauses : All (IsClause c (length p.store.goals.items)) p.clauses.items
  pub queries : All (IsQueryWithin c (length p.store.goals.items)) (queries_kept p)
  pub clauses_are : map (clause_by c (stored c p.store)) p.clauses.items ≡ clauses_of N (map (sentence_of c) sentences)
  pub queries_are : map (query_by c (stored c p.store)) (queries_kept p) ≡ queries_of N (map (sentence_of c) sentences)

-- what is kept of a sentence of this form, whose variables have these names
pub record AddsForm (N : ℕ) (s : Sentences) (old new : Parts) (names : List Name) (t : PlacedTerm) (form : refusals.SentenceKind) : Type 0 where
  pub accepted : clause_refusal INFINITY N (terms_of s) t form ≡ None
  pub grown : IsGrown old.store new.store
  pub store : IsStore s.pool new.store
  pub more_clauses : List FlatClause
  pub more_queries : List QueryParts
  pub added_clauses : new.clauses.items ≡ old.clauses.items ++ more_clauses
  pub added_queries : new.queries.items ≡ old.queries.items ++ more_queries
  pub clauses : All (IsClause s.pool (length new.store.goals.items)) more_clauses
  pub queries : All (IsQueryWithin s.pool (length new.store.goals.items)) (map query_kept more_queries)
  pub clauses_are : map (clause_by s.pool (stored s.pool new.store)) more_clauses ≡ clauses_by N names form []
  pub queries_are : map (query_by s.pool (stored s.pool new.store)) (map query_kept more_queries) ≡ queries_by N names form []

abbrev pub names_in : Contents → Sentence → List Name
names_in c x = map (atom_name c) x.names.items

abbrev pub AddsAs : ℕ → Sentences → Parts → Parts → Sentence → SentenceForm → Type 0
AddsAs N s old new x form = AddsForm N s old new (names_in s.pool x) (placed_of s.pool x.term) (form_in s.pool form)

-- a sentence that isn't refused, and what is kept of it
pub record AddsSentence (N : ℕ) (s : Sentences) (old new : Parts) (x : Sentence) : Type 0 where
  pub accepted : sentence_refusal INFINITY N (terms_of s) (placed_of s.pool x.term) ≡ None
  pub adds : AddsForm N s old new (names_in s.pool x) (placed_of s.pool x.term) (form_of (placed_of s.pool x.term))
