-- What is kept of predicates by their numbers, and what is reached among numbers.
use Rattle.std.specs.Prelude.{◌≡◌, ◌↔◌, ℕ, ◌<◌, ◌==◌, ◌&&◌, Bool, true, false, not, List, [], ◌++◌, length, map, filter, All, Option, None, Some, position}
use Rattle.std.specs.Prelude.{slice_index_or, if◌then◌else◌}
use Rattle.std.specs.List.{filter_map, flat_map, list_any}
use Rattle.std.proofs.Common.{Vec, Global}
use Rattle.fd_model.specs.Refusals as refusals
use Rattle.term_pool.specs.Contents.{Contents}
use Rattle.text_warnings.specs.Runs.{firsts_behind, resumed_behind, repeated_behind}
pub use Rattle.text_warnings.specs.Numbers.{is_in}
use Rattle.text_warnings.specs.Files.{file_of, is_last}
use Rattle.term_reader.specs.declared.reader.Sentences.{Sentences}
use Rattle.term_reader.specs.Sentences.{sentences_of}
use Rattle.text_warnings.specs.Clauses.{query_calls}
use Rattle.text_warnings.specs.Terms.{functor_in, same_numbers, same_filed}
use Rattle.text_warnings.specs.WarningViews.{key_of, body_calls}
use Rattle.text_warnings.specs.declared.Concern.TheVariants.{Apart, TwoFiles, Unreached}
use Rattle.text_warnings.specs.declared.Warning.{Warning}
use Rattle.text_warnings.specs.declared.terms.Functor.{Functor}
use Rattle.text_warnings.specs.declared.terms.Filed.{Filed}
use Rattle.text_warnings.specs.declared.clauses.Clause.{Clause}

abbrev pub firsts : List Clause → List Clause
firsts ks = firsts_behind same_numbers key_of [] ks

abbrev pub repeated : List Clause → List Clause
repeated ks = repeated_behind same_numbers key_of [] ks

-- the predicate of a clause in its file
abbrev pub filed_at : List ℕ → Clause → Filed
filed_at starts k = record { file = file_of starts k.place; functor = k.functor }

-- the first clause of each predicate in each file
abbrev pub file_firsts : List ℕ → List Clause → List Clause
file_firsts starts ks = firsts_behind same_filed (filed_at starts) [] ks

abbrev pub resumed : List ℕ → List Clause → List Clause
resumed starts ks = resumed_behind same_filed (filed_at starts) [] ks

-- the functors of clauses, and no others
abbrev pub AreKeys : List Clause → List Functor → Type 0
AreKeys ks keys = (f : Functor) → list_any (same_numbers f) keys ≡ list_any (same_numbers f) (map key_of ks)

-- the warning of a clause that doesn't stand with those of its predicate
abbrev pub apart_at : Clause → Warning
apart_at k = record { place = k.place; concern = Apart k.functor }

-- the warning of a clause whose predicate has clauses in an earlier file
abbrev pub two_at : Clause → Warning
two_at k = record { place = k.place; concern = TwoFiles k.functor }

-- the number of a predicate among these
abbrev pub number_in : Contents → List Functor → refusals.Functor → Option ℕ
number_in c keys f = position (λ g. refusals.same_functor f (functor_in c g)) keys

-- the numbers of those of them that are among these
abbrev pub numbers_in : Contents → List Functor → List refusals.Functor → List ℕ
numbers_in c keys fs = filter_map (number_in c keys) fs

-- the names of functors are of the pool
abbrev pub AreNames : Contents → List Functor → Type 0
AreNames c keys = All (λ f. f.name.number < length c.names) keys

abbrev pub is_at : ℕ → Option ℕ → Bool
is_at n None = false
is_at n (Some m) = m == n

-- what a clause calls, where it is of the predicate with the number n
abbrev pub edges_by : Contents → List Functor → ℕ → Clause → List ℕ
edges_by c keys n k = if is_at n (position (same_numbers k.functor) keys) then numbers_in c keys (body_calls c k.body) else []

-- the numbers that one leads to
abbrev pub leads_to : List (List ℕ) → ℕ → List ℕ
leads_to edges n = slice_index_or edges n []

abbrev pub AreEmpty : List (List ℕ) → Type 0
AreEmpty edges = (n : ℕ) → leads_to edges n ≡ []

-- what the clause calls stands behind the others
pub record AddsEdges (c : Contents) (keys : List Functor) (k : Clause) (old new : List (List ℕ)) : Type 0 where
  pub count : length new ≡ length old
  pub each : (n : ℕ) → n < length old → leads_to new n ≡ leads_to old n ++ edges_by c keys n k

-- each predicate leads to what its clauses call
pub record AreEdges (c : Contents) (keys : List Functor) (ks : List Clause) (edges : List (List ℕ)) : Type 0 where
  pub count : length edges ≡ length keys
  pub each : (n : ℕ) → n < length edges → leads_to edges n ≡ flat_map (edges_by c keys n) ks

-- each number of the list is below m
abbrev pub AreBelow : ℕ → List ℕ → Type 0
AreBelow m ns = (n : ℕ) → is_in ns n ≡ true → n < m

-- the list with more behind it
abbrev pub IsFrontOf : List ℕ → List ℕ → Type 0
IsFrontOf old new = (more : List ℕ) × (new ≡ old ++ more)

-- the numbers that are reached from the first ones
pub data IsLed (starts : List ℕ) (edges : List (List ℕ)) : ℕ → Type 0 where
  at_first : {n : ℕ} → is_in starts n ≡ true → IsLed starts edges n
  by_edge : {m n : ℕ} → IsLed starts edges m → is_in (leads_to edges m) n ≡ true → IsLed starts edges n

-- just the numbers that are reached
abbrev pub AreLed : List ℕ → List (List ℕ) → List ℕ → Type 0
AreLed starts edges ns = (n : ℕ) → (is_in ns n ≡ true) ↔ IsLed starts edges n

-- whether the predicate has a number that is reached
abbrev pub is_number_in : List ℕ → Option ℕ → Bool
is_number_in ns None = false
is_number_in ns (Some n) = is_in ns n

abbrev pub is_reached : List Functor → List ℕ → Functor → Bool
is_reached keys ns f = is_number_in ns (position (same_numbers f) keys)

-- the warning of the first clause of a predicate that isn't reached
abbrev pub unreached_at : Clause → Warning
unreached_at k = record { place = k.place; concern = Unreached k.functor }

-- the clause is of the last file, and its predicate isn't reached
abbrev pub is_missed : List ℕ → List Functor → List ℕ → Clause → Bool
is_missed starts keys ns k = not (is_reached keys ns k.functor) && is_last starts k.place

abbrev pub unreached_among : List ℕ → List Functor → List ℕ → List Clause → List Clause
unreached_among starts keys ns ks = filter (is_missed starts keys ns) ks

abbrev pub items_of : Vec ℕ Global → List ℕ
items_of v = v.items

-- the numbers are those of the predicates that a query of the text reaches
pub record AreReached (s : Sentences) (keys : List Functor) (ks : List Clause) (ns : List ℕ) : Type 0 where
  pub edges : List (List ℕ)
  pub lead : AreEdges s.pool keys ks edges
  pub led : AreLed (numbers_in s.pool keys (query_calls (sentences_of s))) edges ns

-- the warnings of those of the first clauses whose predicates aren't reached
pub record AddsUnreached (starts : List ℕ) (s : Sentences) (ks : List Clause) (keys : List Functor) (first : List Clause) (old new : List Warning) : Type 0 where
  pub numbers : List ℕ
  pub reached : AreReached s keys ks numbers
  pub adds : new ≡ old ++ map unreached_at (unreached_among starts keys numbers first)
