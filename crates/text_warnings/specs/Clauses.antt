-- The clauses of a text, and what its clauses and queries call.
use Rattle.std.specs.Prelude.{◌≡◌, ℕ, Bool, true, ◌&&◌, List, [], ◌∷◌, ◌++◌, Option, Some, None, if◌then◌else◌, codes}
use Rattle.std.specs.List.{list_any, filter_map, flat_map}
use Rattle.fd_language.specs.Term.{Name}
use Rattle.fd_language.specs.PlacedTerm.{PlacedTerm, comp, no_parts, part, place}
use Rattle.fd_language.specs.Reading.{Sentence}
use Rattle.fd_model.specs.Forms.{joining_names, is_named}
use Rattle.fd_model.specs.Refusals.{Functor, same_functor, functor_of, SentenceKind, query, clause, directive, fact, form_of}

-- the goals that ask for a best leaf: the first of their two arguments is a goal
abbrev pub cost_names : List Name
cost_names = codes "fd_minimize" ∷ codes "fd_maximize" ∷ []

-- the goals of a body in the order of the text; those of which `,`, `;`, `->` and `\+` are made, and that of a goal that asks for a best leaf, stand in its
-- place
abbrev pub goals_in : PlacedTerm → List PlacedTerm
goals_in (comp f p (part a no_parts)) =
    if is_named (joining_names 1) f then goals_in a else comp f p (part a no_parts) ∷ []
goals_in (comp f p (part a (part b no_parts))) =
    if is_named (joining_names 2) f then goals_in a ++ goals_in b
    else if is_named cost_names f then goals_in a
    else comp f p (part a (part b no_parts)) ∷ []
goals_in t = t ∷ []

-- what a body calls, by name and number of arguments
abbrev pub calls_of : PlacedTerm → List Functor
calls_of body = filter_map functor_of (goals_in body)

-- a clause or a fact: the predicate that it is of, the place of its head, and what its body calls
pub record UserClause : Type 0 where
  pub functor : Functor
  pub place : ℕ
  pub calls : List Functor

-- a head that is neither an atom nor a compound term makes no clause
abbrev pub clause_headed : Option Functor → ℕ → List Functor → List UserClause
clause_headed None p calls = []
clause_headed (Some f) p calls = record { functor = f; place = p; calls = calls } ∷ []

abbrev pub clauses_by : SentenceKind → List UserClause
clauses_by (query b) = []
clauses_by (clause h b) = clause_headed (functor_of h) (place h) (calls_of b)
clauses_by directive = []
clauses_by (fact h) = clause_headed (functor_of h) (place h) []

-- those of a text, in its order
abbrev pub clauses_in : List Sentence → List UserClause
clauses_in ss = flat_map (λ s. clauses_by (form_of s.term)) ss

abbrev pub query_calls_by : SentenceKind → List Functor
query_calls_by (query b) = calls_of b
query_calls_by _ = []

-- what the queries of a text call
abbrev pub query_calls : List Sentence → List Functor
query_calls ss = flat_map (λ s. query_calls_by (form_of s.term)) ss

abbrev pub is_among : List Functor → Functor → Bool
is_among fs f = list_any (same_functor f) fs

-- some clause of the predicate g calls f
abbrev pub calls_through : List UserClause → Functor → Functor → Bool
calls_through ks g f = list_any (λ k. same_functor g k.functor && is_among k.calls f) ks

-- Where the queries call these, and the clauses are these: a predicate is reached that a query calls, or a clause of a predicate that is reached.
pub data IsReachedFrom (asked : List Functor) (ks : List UserClause) : Functor → Type 0 where
  by_query : {f : Functor} → is_among asked f ≡ true → IsReachedFrom asked ks f
  by_clause : {g f : Functor} → IsReachedFrom asked ks g → calls_through ks g f ≡ true → IsReachedFrom asked ks f

-- some query of the text reaches the predicate
abbrev pub IsReached : List Sentence → Functor → Type 0
IsReached ss f = IsReachedFrom (query_calls ss) (clauses_in ss) f
