-- The queries of a text, and their places.
use Rattle.std.specs.Prelude.{◌≡◌, ◌⊎◌, ℕ, Bool, true, false, List, [], map, filter}
use Rattle.fd_language.specs.PlacedTerm.{PlacedTerm, place}
use Rattle.fd_language.specs.Reading.{Sentence}
use Rattle.fd_model.specs.Refusals.{Refusal, SentenceKind, query, form_of}
use Rattle.clpwhere.specs.WarnedLines.{IsReadAs, IsUnread}

abbrev pub is_query_form : SentenceKind → Bool
is_query_form (query b) = true
is_query_form _ = false

-- the term is `?- B`
abbrev pub is_query : PlacedTerm → Bool
is_query t = is_query_form (form_of t)

-- the places of the queries among sentences, in the order of the text
abbrev pub query_places : List Sentence → List ℕ
query_places ss = map (λ s. place s.term) (filter (λ s. is_query s.term) ss)

-- those of a text of bytes; one that isn't read as sentences has none
abbrev pub AreQueries : List ℕ → List ℕ → Type 0
AreQueries bytes places =
    ((ss : List Sentence) × IsReadAs bytes ss × (places ≡ query_places ss))
    ⊎ ((r : Refusal) × IsUnread bytes r × (places ≡ []))
