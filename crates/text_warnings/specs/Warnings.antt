-- What a text is warned of.
use Rattle.std.specs.Prelude.{◌≡◌, ◌↔◌, ℕ, suc, ◌==◌, ◌&&◌, Bool, true, not, List, [], ◌∷◌, ◌++◌, map, filter, if◌then◌else◌}
use Rattle.std.specs.List.{flat_map}
use Rattle.std.specs.List.Sorted.{IsNonDecreasingBy}
use Rattle.fd_language.specs.Term.{Name}
use Rattle.fd_language.specs.PlacedTerm.{PlacedTerm, PlacedTerms, var, int, atom, comp, no_parts, part}
use Rattle.fd_language.specs.Reading.{Sentence}
use Rattle.fd_model.specs.Queries.{is_shown}
use Rattle.fd_model.specs.Refusals.{Functor, same_functor, SentenceKind, query, form_of}
pub use Rattle.text_warnings.specs.Concerns.{Concern, single, apart, two_files, unreached, below_zero, empty_range, unevaluated, open_test, open_negation, Warning, warning}
use Rattle.text_warnings.specs.SilentLosses.{losses}
use Rattle.text_warnings.specs.OpenVariables.{open_variables}
use Rattle.text_warnings.specs.Runs.{firsts_behind, resumed_behind, repeated_behind}
use Rattle.text_warnings.specs.Files.{file_of, is_last, FilePredicate, same_predicate}
use Rattle.text_warnings.specs.Clauses.{UserClause, clauses_in, is_among, IsReached}

-- ---- variables that occur once

-- the places of a variable in a term, in the order of the text
abbrev mutual
  pub places_of : ℕ → PlacedTerm → List ℕ
  places_of n (var x p) = if x == n then p ∷ [] else []
  places_of n (int z p) = []
  places_of n (atom a p) = []
  places_of n (comp f p ts) = places_in n ts

  pub places_in : ℕ → PlacedTerms → List ℕ
  places_in n no_parts = []
  places_in n (part t ts) = places_of n t ++ places_in n ts

-- of a variable with this name and these places: it has just one, and its name doesn't begin with `_`
abbrev pub single_at : Name → List ℕ → List Warning
single_at name [] = []
single_at name (p ∷ []) = if is_shown name then warning p (single name) ∷ [] else []
single_at name (p ∷ q ∷ ps) = []

-- of the variables of a term, where the first name is that of the number n
abbrev pub singles_from : ℕ → List Name → PlacedTerm → List Warning
singles_from n [] t = []
singles_from n (name ∷ names) t = single_at name (places_of n t) ++ singles_from (suc n) names t

-- a query shows its variables, so one that occurs once in it is no mistake
abbrev pub singles_by : SentenceKind → List Name → PlacedTerm → List Warning
singles_by (query b) names t = []
singles_by _ names t = singles_from 0 names t

abbrev pub singles_in : Sentence → List Warning
singles_in s = singles_by (form_of s.term) s.names s.term

abbrev pub singles : List Sentence → List Warning
singles ss = flat_map singles_in ss

-- ---- predicates

abbrev pub head_of : UserClause → Functor
head_of k = k.functor

-- the predicate of a clause in its file, where the further files begin at these places
abbrev pub in_file : List ℕ → UserClause → FilePredicate
in_file starts k = record { file = file_of starts k.place; functor = k.functor }

-- in each file the clauses of one predicate stand together: a clause of it that has an earlier one there, but not right before it, is warned of. Queries
-- between them don't count.
abbrev pub aparts : List ℕ → List UserClause → List Warning
aparts starts ks = map (λ k. warning k.place (apart k.functor)) (resumed_behind same_predicate (in_file starts) [] ks)

-- the first clause of each predicate in each file
abbrev pub openings : List ℕ → List UserClause → List UserClause
openings starts ks = firsts_behind same_predicate (in_file starts) [] ks

-- those of them whose predicate has clauses in an earlier file: such a clause isn't apart from the others
abbrev pub in_two_files : List ℕ → List UserClause → List Warning
in_two_files starts ks = map (λ k. warning k.place (two_files k.functor)) (repeated_behind same_functor head_of [] (openings starts ks))

-- the first clause of each predicate that isn't reached, where it stands in the last file: a file in front of others may have more than they call
abbrev pub unreached_of : List ℕ → (Functor → Bool) → List UserClause → List Warning
unreached_of starts reached ks =
    map (λ k. warning k.place (unreached k.functor))
    (filter (λ k. not (reached k.functor) && is_last starts k.place) (firsts_behind same_functor head_of [] ks))

-- of predicates
abbrev pub of_predicates : List ℕ → (Functor → Bool) → List UserClause → List Warning
of_predicates starts reached ks = aparts starts ks ++ (in_two_files starts ks ++ unreached_of starts reached ks)

-- ---- the whole text

-- all warnings of a text whose further files begin at these places; at one place they come in this order
abbrev pub all_warnings : List ℕ → (Functor → Bool) → List Sentence → List Warning
all_warnings starts reached ss = singles ss ++ (losses ss ++ (open_variables ss ++ of_predicates starts reached (clauses_in ss)))

-- a clause of the predicate stands in the text
abbrev pub has_clause : List Sentence → Functor → Bool
has_clause ss f = is_among (map head_of (clauses_in ss)) f

-- of a predicate it tells whether a query reaches it
abbrev pub TellsReached : List Sentence → (Functor → Bool) → Type 0
TellsReached ss reached = (f : Functor) → has_clause ss f ≡ true → (reached f ≡ true) ↔ IsReached ss f

-- the warnings of a text whose further files begin at these places, in the order of their places
pub record AreWarnings (starts : List ℕ) (ss : List Sentence) (ws : List Warning) : Type 0 where
  pub reached : Functor → Bool
  pub tells : TellsReached ss reached
  pub rising : IsNonDecreasingBy (λ w. w.place) ws
  -- at each place stand just those that belong there
  pub same : (p : ℕ) → filter (λ w. w.place == p) ws ≡ filter (λ w. w.place == p) (all_warnings starts reached ss)
