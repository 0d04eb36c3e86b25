-- The program of accepted sentences can run: its goals post ranges that fit.
use Rattle.std.proofs.Common.{◌≡◌, ℕ, Bool, true, false, cond, List, [], ◌∷◌, ◌++◌, map, Option, Some, None, IsTrue, refl, sym, subst, inl, inr, arith}
use Rattle.std.specs.Prelude.{◌&&◌, ◌||◌, codes}
use Rattle.std.specs.Str.{bytes_eq}
use Rattle.fd_language.specs.PlacedTerm.{PlacedTerm, var, int, atom, comp, no_parts, part}
use Rattle.fd_language.specs.Check.{range_fits}
use Rattle.fd_language.specs.Reading.{Sentence}
use Rattle.fd_language.specs.RangeVerdict.{verdict, range_within, has_one_use}
use Rattle.fd_language.specs.Spelling.{read_range, not_a_range, least_place}
use Rattle.fd_language.specs.declared.range_node.Offence.{Offence}
use Rattle.fd_language.specs.declared.range_node.Offence.TheVariants.{NotMonotone, NotNatural, BadDivisor, TooWide}
use Rattle.fd_language.proofs.Lemmas.{verdict_agrees}
use Rattle.fd_model.specs.Forms.{GoalForm, truth, failure, unification, posting, cutting, constraint, labelling, optimum, builtin, form_named, is_named}
use Rattle.fd_model.specs.Forms.{reserved_names}
use Rattle.fd_model.specs.Goal.{Goals, no_goals, goal, If, Not, Clause, Query}
use Rattle.fd_model.specs.Queries.{either_way, best_of, first_part, goal_by_form, goal_named, form_of_functor, goal_of, followed, body_goals, queries_by}
use Rattle.fd_model.specs.Queries.{queries_of, clauses_by, clauses_of, program_of}
use Rattle.fd_model.specs.Refusals.{Refusal, Functor, SentenceKind, query, clause, directive, fact, form_of, functor_of, goals_of, second_part, or_later}
use Rattle.fd_model.specs.Refusals.{unspelled, offence_refusal, range_refusal, form_refusal, by_form, by_functor, goal_refusal, goals_refusal, head_refusal}
use Rattle.fd_model.specs.Refusals.{wide_places, too_wide, clause_refusal, sentence_refusal, first_refusal}
use Rattle.fd_model.specs.RunnablePrograms.{IsRunnable, AllRunnable, ClausesRunnable, QueriesRunnable, IsRunnableProgram}
use Rattle.fd_model.proofs.Bodies.{either_is}
use Rattle.fd_model.proofs.Existence.{runnable_listed}

pub first_none : (a b : Option Refusal) → or_later a b ≡ None → a ≡ None
first_none None b e = refl
first_none (Some r) b e = e

pub later_none : (a b : Option Refusal) → or_later a b ≡ None → b ≡ None
later_none None b e = e
later_none (Some r) b e = absurd cc

pub unoffended : (o : Option Offence) → offence_refusal o ≡ None → o ≡ None
unoffended None e = refl
unoffended (Some (NotMonotone p)) e = absurd cc
unoffended (Some (NotNatural p)) e = absurd cc
unoffended (Some (BadDivisor p)) e = absurd cc
unoffended (Some (TooWide p)) e = absurd cc

otherwise : (a : Bool) (x : Refusal) (z : Option Refusal) → cond a (Some x) z ≡ None → z ≡ None
otherwise true x z e = absurd cc
otherwise false x z e = e

fitting : (a b c : Bool) → (a && (b && c)) ≡ true → b ≡ true
fitting a b c h = grind arith

-- a range that isn't refused fits
range_fit : (M N : ℕ) (r : PlacedTerm) → range_refusal M N r ≡ None → IsTrue (range_fits M (read_range N r).tree true)
range_fit M N r h =
    let places = (read_range N r).places in
    let value = (read_range N r).tree in
    let none = unoffended (verdict M places value) (later_none (unspelled (not_a_range N r)) (offence_refusal (verdict M places value)) h) in
    fitting (range_within M value) (range_fits M value true) (has_one_use value) ((verdict_agrees M places value).0 none)

best_runs : (M : ℕ) (least : Bool) (o : Option GoalForm) (g c : PlacedTerm) → IsRunnable M (best_of least o g c)
best_runs M least None g c = tt
best_runs M least (Some truth) g c = tt
best_runs M least (Some failure) g c = tt
best_runs M least (Some cutting) g c = tt
best_runs M least (Some unification) g c = tt
best_runs M least (Some posting) g c = tt
best_runs M least (Some (constraint k)) g c = tt
best_runs M least (Some (labelling o)) g c = tt
best_runs M least (Some (optimum l)) g c = tt
best_runs M least (Some (builtin k)) g c = tt

-- a goal of the language that isn't refused
form_runs : (M N : ℕ) (t : PlacedTerm) (form : GoalForm) → form_refusal M N t form ≡ None → IsRunnable M (goal_by_form N form t)
form_runs M N t truth h = tt
form_runs M N t failure h = tt
form_runs M N t unification h = tt
form_runs M N t posting h = range_fit M N (second_part t) h
form_runs M N t cutting h = tt
form_runs M N t (optimum least) h = best_runs M least (form_of_functor (functor_of (first_part t))) (first_part t) (second_part t)
form_runs M N t (constraint k) h = tt
form_runs M N t (labelling o) h = tt
form_runs M N t (builtin k) h = tt

by_form_runs : (M N : ℕ) (all : List PlacedTerm) (t : PlacedTerm) (f : Functor) (o : Option GoalForm) → by_form M N all t f o ≡ None → IsRunnable M (goal_named N o t)
by_form_runs M N all t f (Some form) h = form_runs M N t form h
by_form_runs M N all t f None h = tt

by_name : (M N : ℕ) (all : List PlacedTerm) (t : PlacedTerm) (o : Option Functor) → by_functor M N all t o ≡ None → IsRunnable M (goal_named N (form_of_functor o) t)
by_name M N all t None h = absurd cc
by_name M N all t (Some f) h =
    by_form_runs M N all t f (form_named f.name f.arity) (otherwise (is_named reserved_names f.name) _ (by_form M N all t f (form_named f.name f.arity)) h)

followed_runs : (M : ℕ) (gs hs : Goals) → AllRunnable M gs → AllRunnable M hs → AllRunnable M (followed gs hs)
followed_runs M no_goals hs h k = k
followed_runs M (goal g gs) hs h k = (h.0, followed_runs M gs hs h.1 k)

first_run : (M N : ℕ) (all as' bs : List PlacedTerm) → goals_refusal M N all (as' ++ bs) ≡ None → goals_refusal M N all as' ≡ None
first_run M N all [] bs h = refl
first_run M N all (a ∷ as') bs h =
    subst (λ o. or_later o (goals_refusal M N all as') ≡ None) (sym (first_none (goal_refusal M N all a) (goals_refusal M N all (as' ++ bs)) h))
    (first_run M N all as' bs (later_none (goal_refusal M N all a) (goals_refusal M N all (as' ++ bs)) h))

later_run : (M N : ℕ) (all as' bs : List PlacedTerm) → goals_refusal M N all (as' ++ bs) ≡ None → goals_refusal M N all bs ≡ None
later_run M N all [] bs h = h
later_run M N all (a ∷ as') bs h = later_run M N all as' bs (later_none (goal_refusal M N all a) (goals_refusal M N all (as' ++ bs)) h)

one_runs : (M N : ℕ) (all : List PlacedTerm) (t : PlacedTerm) → goals_refusal M N all (t ∷ []) ≡ None → AllRunnable M (goal (goal_of N t) no_goals)
one_runs M N all t h = (by_name M N all t (functor_of t) (first_none (goal_refusal M N all t) None h), tt)

either_runs : (M : ℕ) (gs hs : Goals) → AllRunnable M gs → AllRunnable M hs → IsRunnable M (either_way gs hs)
either_runs M gs hs h k = elim (either_is gs hs) [
  | inl e ↦ subst (IsRunnable M) (sym e.3) (let own = (subst (AllRunnable M) e.2 h).0 in (own.0, own.1, k))
  | inr e ↦ subst (IsRunnable M) (sym e) (h, k)
]

-- by the name of a term with two parts
two_runs : (M N : ℕ) (all : List PlacedTerm) (comma semicolon arrow : Bool) (t : PlacedTerm) (as' bs : List PlacedTerm) (gs hs : Goals)
    → (goals_refusal M N all as' ≡ None → AllRunnable M gs) → (goals_refusal M N all bs ≡ None → AllRunnable M hs)
    → goals_refusal M N all (cond (comma || (semicolon || (arrow || false))) (as' ++ bs) (t ∷ [])) ≡ None
    → AllRunnable M (cond comma (followed gs hs) (cond semicolon (goal (either_way gs hs) no_goals) (cond arrow (goal (If gs hs) no_goals) (goal (goal_of N t) no_goals))))
two_runs M N all true b c t as' bs gs hs left right h = followed_runs M gs hs (left (first_run M N all as' bs h)) (right (later_run M N all as' bs h))
two_runs M N all false true c t as' bs gs hs left right h = (either_runs M gs hs (left (first_run M N all as' bs h)) (right (later_run M N all as' bs h)), tt)
two_runs M N all false false true t as' bs gs hs left right h = ((left (first_run M N all as' bs h), right (later_run M N all as' bs h)), tt)
two_runs M N all false false false t as' bs gs hs left right h = one_runs M N all t h

-- and of one with one part
negation_runs : (M N : ℕ) (all : List PlacedTerm) (is : Bool) (t : PlacedTerm) (as' : List PlacedTerm) (gs : Goals) → (goals_refusal M N all as' ≡ None → AllRunnable M gs)
    → goals_refusal M N all (cond (is || false) as' (t ∷ [])) ≡ None → AllRunnable M (cond is (goal (Not gs) no_goals) (goal (goal_of N t) no_goals))
negation_runs M N all true t as' gs own h = (own h, tt)
negation_runs M N all false t as' gs own h = one_runs M N all t h

-- a body of which no goal is refused
body_runs : (M N : ℕ) (all : List PlacedTerm) (t : PlacedTerm) → goals_refusal M N all (goals_of t) ≡ None → AllRunnable M (body_goals N t)
body_runs M N all (comp f p (part a (part b no_parts))) h =
    two_runs M N all (bytes_eq f (codes ",")) (bytes_eq f (codes ";")) (bytes_eq f (codes "->")) (comp f p (part a (part b no_parts))) (goals_of a) (goals_of b)
    (body_goals N a) (body_goals N b) (body_runs M N all a) (body_runs M N all b) h
body_runs M N all (comp f p (part a (part b (part c ts)))) h = one_runs M N all (comp f p (part a (part b (part c ts)))) h
body_runs M N all (comp f p (part a no_parts)) h = negation_runs M N all (bytes_eq f (codes "\\+")) (comp f p (part a no_parts)) (goals_of a) (body_goals N a) (body_runs M N all a) h
body_runs M N all (comp f p no_parts) h = one_runs M N all (comp f p no_parts) h
body_runs M N all (var x p) h = one_runs M N all (var x p) h
body_runs M N all (int z p) h = one_runs M N all (int z p) h
body_runs M N all (atom a p) h = one_runs M N all (atom a p) h

query_runs : (M N : ℕ) (all : List PlacedTerm) (s : Sentence) (f : SentenceKind) (later : List Query) → clause_refusal M N all s.term f ≡ None
    → QueriesRunnable M later → QueriesRunnable M (queries_by N s.names f later)
query_runs M N all s (query b) later h g = (runnable_listed M (body_goals N b) (body_runs M N all b h), g)
query_runs M N all s (clause a b) later h g = g
query_runs M N all s directive later h g = g
query_runs M N all s (fact t) later h g = g

clause_runs : (M N : ℕ) (all : List PlacedTerm) (s : Sentence) (f : SentenceKind) (later : List Clause) → clause_refusal M N all s.term f ≡ None
    → ClausesRunnable M later → ClausesRunnable M (clauses_by N s.names f later)
clause_runs M N all s (query b) later h g = g
clause_runs M N all s (clause a b) later h g = (runnable_listed M (body_goals N b) (body_runs M N all b (later_none (head_refusal a) (goals_refusal M N all (goals_of b)) h)), g)
clause_runs M N all s directive later h g = g
clause_runs M N all s (fact t) later h g = (tt, g)

sentences_run : (M N : ℕ) (all : List PlacedTerm) (ss : List Sentence) → first_refusal M N all (map (λ s. s.term) ss) ≡ None → ClausesRunnable M (clauses_of N ss) × QueriesRunnable M (queries_of N ss)
sentences_run M N all [] h = (tt, tt)
sentences_run M N all (s ∷ ss) h =
    let here = first_none (sentence_refusal M N all s.term) (first_refusal M N all (map (λ s. s.term) ss)) h in
    let mine = later_none (too_wide (least_place (wide_places s.term))) (clause_refusal M N all s.term (form_of s.term)) here in
    let others = sentences_run M N all ss (later_none (sentence_refusal M N all s.term) (first_refusal M N all (map (λ s. s.term) ss)) h) in
    (clause_runs M N all s (form_of s.term) (clauses_of N ss) mine others.0, query_runs M N all s (form_of s.term) (queries_of N ss) mine others.1)

-- sentences of which none is refused have a program that can run
pub accepted_runnable : (M N : ℕ) (all : List PlacedTerm) (ss : List Sentence) → first_refusal M N all (map (λ s. s.term) ss) ≡ None → IsRunnableProgram M (program_of N ss)
accepted_runnable M N all ss h = let both = sentences_run M N all ss h in record { clauses = both.0; queries = both.1 }
