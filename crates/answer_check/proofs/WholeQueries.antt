-- The flat query that sentences are.
use Rattle.std.proofs.Common.{◌≡◌, ℕ, zero, suc, get_or, not, ◌<◌, Bool, true, false, cond, ◌&&◌, List, [], ◌∷◌, ◌++◌, map, length, refl, sym, ap, ◌∙◌, subst}
use Rattle.std.proofs.Common.{arith, true≢false}
use Rattle.std.specs.Prelude.{All, Result, Ok, Err, filter, MatchResult}
use Rattle.std.specs.List.{list_all}
use Rattle.std.proofs.lemmas.Bool.{and_parts}
use Rattle.fd_language.specs.declared.TheConstants.{INFINITY}
use Rattle.fd_language.specs.Family.{count_up}
use Rattle.fd_language.specs.PlacedTerm.{PlacedTerm}
use Rattle.fd_language.specs.Reading as model
use Rattle.fd_language.specs.Reading.{Reading, sentences, token_fault, syntax_fault, too_deep, IsReading}
use Rattle.fd_language.specs.Term.{Name}
use Rattle.fd_model.specs.Queries.{is_shown, shown_from, query_of}
use Rattle.fd_model.specs.Refusals.{SentenceKind, query, clause, directive, fact, form_of}
use Rattle.term_pool.specs.declared.AtomId.{AtomId}
use Rattle.term_pool.specs.Contents.{Contents, atom_name}
use Rattle.term_reader.specs.declared.reader.Sentence.{Sentence}
use Rattle.term_reader.specs.Sentences.{sentence_of}
use Rattle.answer_check.specs.declared.goals.Goals.{Goals}
use Rattle.answer_check.specs.declared.outcome.Reason.TheVariants.{NotFlat}
use Rattle.answer_check.specs.declared.outcome.Stop.{Stop}
use Rattle.answer_check.specs.declared.outcome.Stop.TheVariants.{Refused, NoMemory}
use Rattle.answer_check.specs.declared.query.FlatQuery as code
use Rattle.answer_check.specs.FlatForm.{FlatGoals, FlatQuery, conjuncts, flat_goals, first_hidden, with_goals, where_shown, flat_by, flat_query}
use Rattle.answer_check.specs.Goals.{FindsGoals, StopsAt}
use Rattle.answer_check.specs.Queries.{StopsReading, FindsFlat, IsQuery, FindsQuery, StopsAs, ReadsQuery, StopsQuery}
use Rattle.answer_check.specs.TermShapes.{IsQueryForm}
use Rattle.answer_check.proofs.AnswerWords.{IsShownAll}

-- ---- one sentence

module _ (s : model.Sentence) where
  pub not_asked : (f : SentenceKind) → (IsQueryForm f → ⊥) → flat_by INFINITY s f ≡ Err 0
  not_asked (query b) h = absurd (h tt)
  not_asked (clause a b) h = refl
  not_asked directive h = refl
  not_asked (fact t) h = refl

  -- the goals stop it
  pub goals_stop : (f : SentenceKind) (b : PlacedTerm) (st : Stop) → f ≡ query b → StopsAt (flat_goals INFINITY (length s.names) (conjuncts b)) NotFlat st → StopsAt (flat_by INFINITY s f) NotFlat st
  goals_stop f b (Refused p r) e h = (ap (flat_by INFINITY s) e ∙ ap (where_shown s (query_of INFINITY s.names b)) h.0, h.1)
  goals_stop f b NoMemory e h = tt

  -- a name does
  pub name_stops : (f : SentenceKind) (b : PlacedTerm) (g : Goals) (p : ℕ) → f ≡ query b → FindsGoals (flat_goals INFINITY (length s.names) (conjuncts b)) g
      → list_all is_shown s.names ≡ false → p ≡ first_hidden s → flat_by INFINITY s f ≡ Err p
  name_stops f b g p e h hidden is =
      ap (flat_by INFINITY s) e ∙ ap (where_shown s (query_of INFINITY s.names b)) h.1
      ∙ ap (λ t. cond t (Ok (with_goals (query_of INFINITY s.names b) h.0)) (Err (first_hidden s))) hidden ∙ ap (λ n. Err n) (sym is)

  -- or it is flat
  pub sentence_found : (f : SentenceKind) (b : PlacedTerm) (g : Goals) → f ≡ query b → FindsGoals (flat_goals INFINITY (length s.names) (conjuncts b)) g
      → list_all is_shown s.names ≡ true → FindsFlat (flat_by INFINITY s f) g
  sentence_found f b g e h shown = (
    with_goals (query_of INFINITY s.names b) h.0,
    ap (flat_by INFINITY s) e ∙ ap (where_shown s (query_of INFINITY s.names b)) h.1 ∙ ap (λ t. cond t (Ok (with_goals (query_of INFINITY s.names b) h.0)) (Err (first_hidden s))) shown,
    record { constraints = h.2.constraints; order = h.2.order; labelled = h.2.labelled },
  )

  -- whose query has the sentence's names
  record HasNames (f : FlatQuery) : Type 0 where
    shown : list_all is_shown s.names ≡ true
    names : f.query.names ≡ filter is_shown s.names
    numbers : f.query.shown ≡ shown_from 0 s.names
    variables : f.query.variables ≡ length s.names

  has_names : (f : SentenceKind) (r : FlatQuery) → flat_by INFINITY s f ≡ Ok r → HasNames r
  has_names (query b) r e = by (flat_goals INFINITY (length s.names) (conjuncts b)) e where
    by : (q : Result FlatGoals ℕ) → where_shown s (query_of INFINITY s.names b) q ≡ Ok r → HasNames r
    by (Err p) e = absurd (cc (e))
    by (Ok g) e = go (list_all is_shown s.names) refl e where
      go : (t : Bool) → list_all is_shown s.names ≡ t → cond t (Ok (with_goals (query_of INFINITY s.names b) g)) (Err (first_hidden s)) ≡ Ok r → HasNames r
      go true h e = let same : with_goals (query_of INFINITY s.names b) g ≡ r = cc in subst HasNames same (record { shown = h; names = refl; numbers = refl; variables = refl })
      go false h e = absurd (cc (e))
  has_names (clause a b) r e = absurd (cc (e))
  has_names directive r e = absurd (cc (e))
  has_names (fact t) r e = absurd (cc (e))

all_kept : (ns : List Name) → list_all is_shown ns ≡ true → filter is_shown ns ≡ ns
all_kept [] h = refl
all_kept (n ∷ ns) h = let both = and_parts (is_shown n) (list_all is_shown ns) h in rw (both.0) (ap (λ ms. n ∷ ms) (all_kept ns both.1))

all_numbers : (k : ℕ) (ns : List Name) → list_all is_shown ns ≡ true → shown_from k ns ≡ count_up k (length ns)
all_numbers k [] h = refl
all_numbers k (n ∷ ns) h = let both = and_parts (is_shown n) (list_all is_shown ns) h in rw (both.0) (ap (λ ms. k ∷ ms) (all_numbers (suc k) ns both.1))

pub as_many : {A B : Type 0} (f : A → B) (xs : List A) → length (map f xs) ≡ length xs
as_many f [] = refl
as_many f (x ∷ xs) = ap suc (as_many f xs)

-- a flat query shows all its variables
pub names_shown : (f : FlatQuery) (q : code.FlatQuery) → IsQuery f q → IsShownAll f.query (map (atom_name q.pool) q.names.items)
names_shown f q i =
    let many = sym (as_many (atom_name q.pool) q.names.items) in
    record { names = i.names; shown = i.shown ∙ ap (count_up 0) many; variables = i.variables ∙ many }

-- a name that isn't shown
pub some_hidden : {X : Type 0} (f : X → Name) (xs : List X) (i : ℕ) (d : X) → i < length xs → not (is_shown (f (get_or xs i d))) ≡ true → list_all is_shown (map f xs) ≡ false
some_hidden f [] i d l h = absurd (omega (arith, l))
some_hidden f (x ∷ xs) zero d l h = by (is_shown (f x)) h where
  by : (b : Bool) → not b ≡ true → (b && list_all is_shown (map f xs)) ≡ false
  by true h = absurd (true≢false (sym h))
  by false h = refl
some_hidden f (x ∷ xs) (suc i) d l h = ap (λ b. is_shown (f x) && b) (some_hidden f xs i d (omega (arith, l)) h) ∙ by (is_shown (f x)) where
  by : (b : Bool) → (b && false) ≡ false
  by true = refl
  by false = refl

-- ---- all sentences of a text

module _ (c : Contents) where
  abbrev all : List Sentence → List model.Sentence
  all ss = map (sentence_of c) ss

  pub no_sentence : (ss : List Sentence) → ss ≡ [] → flat_query INFINITY (all ss) ≡ Err 0
  no_sentence ss e = ap (λ xs. flat_query INFINITY (all xs)) e

  many : (xs : List Sentence) (s : Sentence) → (xs ≡ [] → ⊥) → flat_query INFINITY (all (xs ++ s ∷ [])) ≡ Err 0
  many [] s h = absurd (h refl)
  many (x ∷ []) s h = refl
  many (x ∷ y ∷ xs) s h = refl

  pub many_sentences : (ss rest : List Sentence) (s : Sentence) → ss ≡ rest ++ s ∷ [] → (rest ≡ [] → ⊥) → flat_query INFINITY (all ss) ≡ Err 0
  many_sentences ss rest s e h = ap (λ xs. flat_query INFINITY (all xs)) e ∙ many rest s h

  pub one_sentence : (ss rest : List Sentence) (s : Sentence) → ss ≡ rest ++ s ∷ [] → rest ≡ [] → flat_query INFINITY (all ss) ≡ flat_by INFINITY (sentence_of c s) (form_of (sentence_of c s).term)
  one_sentence ss rest s e none = ap (λ xs. flat_query INFINITY (all xs)) (e ∙ ap (λ xs. xs ++ s ∷ []) none)

  pub sentence_query : (s : Sentence) (found : Result FlatQuery ℕ) (q : code.FlatQuery)
      → found ≡ flat_by INFINITY (sentence_of c s) (form_of (sentence_of c s).term) → All (λ a. a.number < length c.names) s.names.items
      → FindsFlat (flat_by INFINITY (sentence_of c s) (form_of (sentence_of c s).term)) q.goals → q.pool ≡ c → q.names.items ≡ s.names.items → FindsQuery found q
  sentence_query s found q is within f pool names =
      let m = has_names (sentence_of c s) (form_of (sentence_of c s).term) f.0 f.1 in
      let name = λ (a : AtomId). atom_name c a in
      let same : q.names.items ≡ s.names.items = names in
      let many = as_many (atom_name c) s.names.items in (
        f.0,
        is ∙ f.1,
        record {
          within = subst (λ (d : Contents). All (λ a. a.number < length d.names) q.names.items) (sym pool) (subst (All (λ a. a.number < length c.names)) (sym names) within);
          names = m.names ∙ all_kept (map (atom_name c) s.names.items) m.shown ∙ ap (λ ns. map (atom_name c) ns) (sym names) ∙ ap (λ (d : Contents). map (atom_name d) q.names.items) (sym pool);
          shown = m.numbers ∙ all_numbers 0 (map (atom_name c) s.names.items) m.shown ∙ ap (count_up 0) (many ∙ ap (λ ns. length ns) (sym names));
          variables = m.variables ∙ many ∙ ap (λ ns. length ns) (sym names);
          goals = f.2;
        },
      )

-- ---- a text that is none

pub stops_as : (r : Reading) (st : Stop) → StopsReading r st → StopsAs r st
stops_as (sentences ss) (Refused p s) h = absurd (cc (h))
stops_as (sentences ss) NoMemory h = tt
stops_as (token_fault cause place) st h = h
stops_as (syntax_fault place) st h = h
stops_as (too_deep place) st h = h

-- a flat query shows all its variables
pub shown_query : (s : model.Sentence) (f : SentenceKind) (r : FlatQuery) → flat_by INFINITY s f ≡ Ok r → (ns : List Name) × IsShownAll r.query ns
shown_query s f r e =
    let m = has_names s f r e in (
      s.names,
      record {
        names = m.names ∙ all_kept s.names m.shown;
        shown = m.numbers ∙ all_numbers 0 s.names m.shown;
        variables = m.variables;
      },
    )

pub reads_text : (text : List ℕ) (ss : List model.Sentence) (r : Result code.FlatQuery Stop) → IsReading text (sentences ss)
    → MatchResult r (FindsQuery (flat_query INFINITY ss)) (StopsAt (flat_query INFINITY ss) NotFlat) → MatchResult r (ReadsQuery text) (StopsQuery text)
reads_text text ss (Ok q) h m = (sentences ss, h, m)
reads_text text ss (Err s) h m = (sentences ss, h, m)
