-- The program of sentences that are all accepted.
use Rattle.std.proofs.Common.{◌≡◌, ℕ, suc, ◌<◌, Bool, true, false, cond, List, [], ◌∷◌, length, map, filter, None, refl, sym, ap, ◌∙◌, subst}
use Rattle.std.specs.List.{AllByRecursion}
use Rattle.std.proofs.lemmas.List.{length-map}
use Rattle.std.proofs.lemmas.List.Elements.{All-from_recursion, recursion_from_All}
use Rattle.fd_language.proofs.Lemmas.{two}
use Rattle.fd_language.specs.PlacedTerm.{PlacedTerm, plain}
use Rattle.fd_language.specs.Term.{Name, Term, Terms, Var, Int, Atom, Comp, no_terms, term}
use Rattle.fd_language.specs.Lists.{Each}
use Rattle.fd_language.specs.Variables.{TermBelow, TermsBelow}
use Rattle.fd_language.specs.Reading as reading
use Rattle.fd_language.specs.declared.TheConstants.{INFINITY}
use Rattle.fd_model.specs.Goal as model
use Rattle.fd_model.specs.Queries.{is_shown, shown_from, queries_by, queries_of, program_of}
use Rattle.fd_model.specs.Refusals.{SentenceKind, query, clause, directive, fact, form_of, first_refusal}
use Rattle.fd_model.specs.RunnablePrograms.{NumbersBelow, QueriesScoped, IsScoped, IsRunnableProgram}
use Rattle.fd_model.proofs.Lemmas.{clauses_scoped, queries_scoped, accepted_runnable}
use Rattle.term_pool.specs.Contents.{Contents, atom_name}
use Rattle.term_pool.specs.Terms.{term_of}
use Rattle.term_pool.specs.PlacedTerms.{placed_of}
use Rattle.term_reader.specs.declared.reader.Sentence.{Sentence}
use Rattle.term_reader.specs.declared.reader.Sentences.{Sentences}
use Rattle.term_reader.specs.Sentences.{sentence_of, sentences_of, AreOwn}
use Rattle.term_reader.specs.GivenParts.{HasParts, HaveParts}
use Rattle.term_reader.specs.VariableNames.{VariablesBelow, AllVariablesBelow, HasNames, HaveNames}
use Rattle.term_reader.proofs.Lemmas.{plain_placed}
use Rattle.clause_check.specs.declared.check.Parts.{Parts}
use Rattle.clause_check.specs.GoalStores.{stored}
use Rattle.clause_check.specs.Parts.{IsQueryWithin, KeepsSentences, queries_kept}
use Rattle.clause_check.specs.Programs.{FlatQuery, FlatProgram, query_by, program_in, IsQuery, IsProgram}
use Rattle.clause_check.specs.Codable.{IsCodable}
use Rattle.clause_check.specs.Terms.{terms_of}
use Rattle.clause_check.proofs.Codable.{accepted_codable}

-- ---- variables of terms

mutual
  term_below : (n : ℕ) (t : Term) → VariablesBelow n t → TermBelow n t
  term_below n (Var x) h = h
  term_below n (Int z) h = tt
  term_below n (Atom a) h = tt
  term_below n (Comp f ts) h = terms_below n ts h

  terms_below : (n : ℕ) (ts : Terms) → AllVariablesBelow n ts → TermsBelow n ts
  terms_below n no_terms h = tt
  terms_below n (term t ts) h = (term_below n t h.0, terms_below n ts h.1)

names_length : (c : Contents) (s : Sentence) → length (sentence_of c s).names ≡ length s.names.items
names_length c s = length-map s.names.items (atom_name c)

sentence_below : (c : Contents) (s : Sentence) → HasNames c s → TermBelow (length (sentence_of c s).names) (plain (sentence_of c s).term)
sentence_below c s h =
    let below : TermBelow (length s.names.items) (term_of c s.term) = term_below (length s.names.items) (term_of c s.term) h.below in
    subst (λ (n : ℕ). TermBelow n (plain (placed_of c s.term))) (sym (names_length c s)) (subst (TermBelow (length s.names.items)) (sym (plain_placed c s.term)) below)

each_below : (c : Contents) (ss : List Sentence) → AllByRecursion (HasNames c) ss → Each (λ s. TermBelow (length s.names) (plain s.term)) (map (sentence_of c) ss)
each_below c [] h = tt
each_below c (s ∷ ss) h = (sentence_below c s h.0, each_below c ss h.1)

-- ---- queries

numbers_known : (n : ℕ) (xs : List ℕ) → NumbersBelow n xs → AllByRecursion (λ x. x < n) xs
numbers_known n [] h = tt
numbers_known n (x ∷ xs) h = (h.0, numbers_known n xs h.1)

query_known : (c : Contents) (n : ℕ) (goals : List model.Goal) (q : FlatQuery) → IsQueryWithin c n q → length q.names ≡ length q.shown → NumbersBelow q.variables q.shown → IsQuery c n q
query_known c n goals q w same s = record { names = w.names; same = same; shown = All-from_recursion (λ x. x < q.variables) q.shown (numbers_known q.variables q.shown s); goals = w.goals }

queries_known : (c : Contents) (n : ℕ) (goals : List model.Goal) (qs : List FlatQuery) → AllByRecursion (IsQueryWithin c n) qs → QueriesScoped (map (query_by c goals) qs)
    → Each (λ q. length q.names ≡ length q.shown) (map (query_by c goals) qs) → AllByRecursion (IsQuery c n) qs
queries_known c n goals [] w s m = tt
queries_known c n goals (q ∷ qs) w s m = (query_known c n goals q w.0 (sym (length-map q.names (atom_name c)) ∙ m.0) s.0.0, queries_known c n goals qs w.1 s.1 m.1)

-- ---- names

shown_count : (n : ℕ) (names : List Name) → length (filter is_shown names) ≡ length (shown_from n names)
shown_count n [] = refl
shown_count n (name ∷ names) = pick (is_shown name) (shown_count (suc n) names)
  where
    pick : (b : Bool) → length (filter is_shown names) ≡ length (shown_from (suc n) names)
        → length (cond b (name ∷ filter is_shown names) (filter is_shown names)) ≡ length (cond b (n ∷ shown_from (suc n) names) (shown_from (suc n) names))
    pick true e = ap suc e
    pick false e = e

form_many : (N : ℕ) (names : List Name) (f : SentenceKind) (later : List model.Query) → Each (λ q. length q.names ≡ length q.shown) later
    → Each (λ q. length q.names ≡ length q.shown) (queries_by N names f later)
form_many N names (query b) later h = (shown_count 0 names, h)
form_many N names (clause a b) later h = h
form_many N names directive later h = h
form_many N names (fact t) later h = h

sentences_many : (N : ℕ) (ss : List reading.Sentence) → Each (λ q. length q.names ≡ length q.shown) (queries_of N ss)
sentences_many N [] = tt
sentences_many N (s ∷ ss) = form_many N s.names (form_of s.term) (queries_of N ss) (sentences_many N ss)

-- ---- the program

abbrev pub program_kept : Contents → Parts → FlatProgram
program_kept c p = record { pool = c; ranges = p.store.ranges.items; goals = p.store.goals.items; clauses = p.clauses.items; queries = queries_kept p }

-- it is that of the sentences
pub program_is : (N : ℕ) (s : Sentences) (p : Parts) → KeepsSentences N s.pool p s.list.items → program_in (program_kept s.pool p) ≡ program_of N (sentences_of s)
program_is N s p k = two (λ (ks : List model.Clause) (qs : List model.Query). let made : model.Program = record { clauses = ks; queries = qs } in made) k.clauses_are k.queries_are

terms_are : (c : Contents) (ss : List Sentence) → map (λ x. x.term) (map (sentence_of c) ss) ≡ map (λ x. placed_of c x.term) ss
terms_are c [] = refl
terms_are c (s ∷ ss) = ap (λ (ts : List PlacedTerm). placed_of c s.term ∷ ts) (terms_are c ss)

each_parts : (c : Contents) (ss : List Sentence) → AllByRecursion (λ x. HasParts (placed_of c x.term)) ss → Each (λ x. HasParts x.term) (map (sentence_of c) ss)
each_parts c [] h = tt
each_parts c (s ∷ ss) h = (h.0, each_parts c ss h.1)

-- what is kept of all sentences is a program
pub kept_program : (N : ℕ) (s : Sentences) (p : Parts) → AreOwn s → HaveNames s → HaveParts s → first_refusal INFINITY N (terms_of s) (terms_of s) ≡ None
    → KeepsSentences N s.pool p s.list.items → IsProgram (program_kept s.pool p)
kept_program N s p own named parts a k =
    let c = s.pool in
    let ss = sentences_of s in
    let n = length p.store.goals.items in
    let below = each_below c s.list.items (recursion_from_All (HasNames c) s.list.items named) in
    let is : program_of N ss ≡ program_in (program_kept c p) = sym (program_is N s p k) in
    let scoped : QueriesScoped (queries_of N ss) = queries_scoped N ss below in
    let many = sentences_many N ss in
    let first : first_refusal INFINITY N (terms_of s) (map (λ x. x.term) ss) ≡ None = ap (first_refusal INFINITY N (terms_of s)) (terms_are c s.list.items) ∙ a in
    record {
      pool = own.pool;
      ranges = k.store.ranges;
      goals = k.store.goals;
      clauses = k.clauses;
      queries = All-from_recursion (IsQuery c n) (queries_kept p)
          (queries_known c n (stored c p.store) (queries_kept p) (recursion_from_All (IsQueryWithin c n) (queries_kept p) k.queries) (subst QueriesScoped (sym k.queries_are) scoped)
          (subst (λ (qs : List model.Query). Each (λ q. length q.names ≡ length q.shown) qs) (sym k.queries_are) many));
      scoped = subst IsScoped is (record { clauses = clauses_scoped N ss below; queries = scoped });
      runnable = subst (IsRunnableProgram INFINITY) is (accepted_runnable INFINITY N (terms_of s) ss first);
      codable = subst IsCodable is (accepted_codable INFINITY N (terms_of s) ss first (each_parts s.pool s.list.items (recursion_from_All (λ x. HasParts (placed_of c x.term)) s.list.items parts)));
    }
