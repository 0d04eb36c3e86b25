-- The queries of a text, as they stand in it.
use Rattle.std.specs.Prelude.{ℕ, suc, ◌==◌, if◌then◌else◌, List, [], ◌∷◌, ◌++◌, filter, Option, Some, None, codes}
use Rattle.std.specs.Str.{bytes_eq}
use Rattle.fd_language.specs.Term.{Name}
use Rattle.fd_language.specs.PlacedTerm.{PlacedTerm, comp, part, no_parts}
use Rattle.fd_language.specs.Reading.{Sentence}
use Rattle.fd_model.specs.Goal.{Query}
use Rattle.fd_model.specs.Refusals.{SentenceKind, query, clause, directive, fact, form_of}
use Rattle.fd_model.specs.Queries.{query_of}

-- the goals of a body, which `,` separates: each of these terms is one goal of the query
abbrev pub parts_of : PlacedTerm → List PlacedTerm
parts_of (comp f p (part a (part b no_parts))) = if bytes_eq f (codes ",") then parts_of a ++ parts_of b else comp f p (part a (part b no_parts)) ∷ []
parts_of t = t ∷ []

-- a query: its number from 1, what it is, the names of its variables, and its goals as they stand in the text
pub record TextQuery : Type 0 where
  pub number : ℕ
  pub query : Query
  pub names : List Name
  pub terms : List PlacedTerm

abbrev pub numbered_query : ℕ → ℕ → List Name → PlacedTerm → TextQuery
numbered_query N k names body = record { number = k; query = query_of N names body; names = names; terms = parts_of body }

-- by the kind of a sentence, where the next query has the number k
abbrev pub by_kind : ℕ → List Name → SentenceKind → ℕ → (ℕ → List TextQuery) → List TextQuery
by_kind N names (query b) k later = numbered_query N k names b ∷ later (suc k)
by_kind N names (clause h b) k later = later k
by_kind N names directive k later = later k
by_kind N names (fact h) k later = later k

abbrev pub text_queries_from : ℕ → List Sentence → ℕ → List TextQuery
text_queries_from N [] k = []
text_queries_from N (s ∷ ss) k = by_kind N s.names (form_of s.term) k (text_queries_from N ss)

-- those of a text; N is the greatest number that a variable may have
abbrev pub text_queries : ℕ → List Sentence → List TextQuery
text_queries N ss = text_queries_from N ss 1

-- all, or the one with this number, if there is one
abbrev pub asked_queries : Option ℕ → List TextQuery → List TextQuery
asked_queries None qs = qs
asked_queries (Some k) qs = filter (λ q. q.number == k) qs
