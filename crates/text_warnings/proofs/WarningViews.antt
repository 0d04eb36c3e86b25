-- What was put among the warnings, as the definitions see it.
use Rattle.std.proofs.Common.{◌≡◌, ℕ, ◌<◌, inl, inr, Bool, true, false, cond, List, [], ◌∷◌, ◌++◌, Option, length, map, get_or, refl, sym, ap, ◌∙◌, subst}
use Rattle.std.proofs.Common.{true≢false}
use Rattle.std.specs.Prelude.{◌↔◌, ◌||◌, ◌&&◌, not, filter, All}
use Rattle.std.specs.List.{list_any, AllByRecursion}
use Rattle.std.proofs.lemmas.List.{map-append}
use Rattle.std.proofs.lemmas.List.Elements.{All-append, All-map, All-from_recursion, recursion_from_All}
use Rattle.std.proofs.lemmas.List.Folds.{list_any_at}
use Rattle.fd_model.specs.Refusals as refusals
use Rattle.fd_model.specs.Refusals.{same_functor}
use Rattle.term_pool.specs.Contents.{Contents}
use Rattle.term_reader.specs.declared.reader.Sentences.{Sentences}
use Rattle.term_reader.specs.Sentences.{sentences_of, AreOwn}
use Rattle.text_warnings.specs.declared.terms.Functor.{Functor}
use Rattle.text_warnings.specs.declared.clauses.Clause.{Clause}
use Rattle.text_warnings.specs.declared.Warning.{Warning}
use Rattle.text_warnings.specs.Runs.{firsts_behind, resumed_behind, repeated_behind}
use Rattle.text_warnings.specs.Files.{is_last, same_predicate}
use Rattle.text_warnings.specs.Terms.{functor_in, filed_in, same_numbers, same_filed}
use Rattle.text_warnings.specs.Clauses.{UserClause, clauses_in, query_calls, is_among, IsReachedFrom}
use Rattle.text_warnings.specs.SilentLosses.{losses}
use Rattle.text_warnings.specs.OpenVariables.{open_variables}
use Rattle.text_warnings.specs.Warnings as model
use Rattle.text_warnings.specs.Warnings.{head_of, has_clause, in_file, aparts, openings, in_two_files, unreached_of, of_predicates, singles, all_warnings, TellsReached}
use Rattle.text_warnings.specs.WarningViews.{key_of, clause_in, warning_in, IsOwn, IsWarningWithin, Adds, AddsPredicates, AddsAll}
use Rattle.text_warnings.specs.Graphs.{apart_at, two_at, unreached_at, filed_at, file_firsts, firsts, resumed, repeated, is_number_in, is_missed, number_in, unreached_among, AddsUnreached, AreKeys, AreNames}
use Rattle.text_warnings.specs.Graphs.{AreReached}
use Rattle.text_warnings.proofs.RunSteps.{firsts_named, resumed_named, repeated_named, firsts_all, resumed_all, repeated_all}
use Rattle.text_warnings.proofs.Functors.{same_in, same_filed_in, same_itself, equal, number_same}
use Rattle.text_warnings.proofs.ReachedPredicates.{reached_as_led}
use Rattle.text_warnings.proofs.ReachedNumbers.{or_cases}
use Rattle.text_warnings.proofs.ClausePredicates.{opening_firsts}
use Rattle.text_warnings.proofs.AddedWarnings.{adds_then}

abbrev pub IsNamed : Contents → Clause → Type 0
IsNamed c k = k.functor.name.number < length c.names

pub names_of : (c : Contents) (ks : List Clause) → AllByRecursion (IsOwn c) ks → AllByRecursion (IsNamed c) ks
names_of c [] all = tt
names_of c (k ∷ ks) all = (all.0.name, names_of c ks all.1)

-- The functors of clauses have names of the pool.
pub names_own : (c : Contents) (ks : List Clause) (keys : List Functor) → All (IsOwn c) ks → AreKeys ks keys → AreNames c keys
names_own c ks keys own known = λ i d h.
    let g = get_or keys i d in
    find ks g (recursion_from_All (IsOwn c) ks own) (sym (known g) ∙ list_any_at (same_numbers g) keys i d h (same_itself g))
  where
    find : (us : List Clause) (g : Functor) → AllByRecursion (IsOwn c) us → list_any (same_numbers g) (map key_of us) ≡ true → g.name.number < length c.names
    find [] g all e = absurd (true≢false (sym e))
    find (u ∷ us) g all e = elim (or_cases (same_numbers g u.functor) (list_any (same_numbers g) (map key_of us)) e) [
      | inl h ↦ subst (λ (f : Functor). f.name.number < length c.names) (sym (equal g u.functor h)) all.0.name
      | inr h ↦ find us g all.1 h
    ]

any_heads : (c : Contents) (f : refusals.Functor) (ks : List Clause) → is_among (map head_of (map (clause_in c) ks)) f ≡ list_any (λ k. same_functor f (functor_in c k.functor)) ks
any_heads c f [] = refl
any_heads c f (k ∷ ks) = ap (λ (b : Bool). same_functor f (functor_in c k.functor) || b) (any_heads c f ks)

-- ---- clauses as the definitions see them

apart_seen : (c : Contents) (ks : List Clause) → map (warning_in c) (map apart_at ks) ≡ map (λ k. model.warning k.place (model.apart k.functor)) (map (clause_in c) ks)
apart_seen c [] = refl
apart_seen c (k ∷ ks) = ap (λ (l : List model.Warning). warning_in c (apart_at k) ∷ l) (apart_seen c ks)

two_seen : (c : Contents) (ks : List Clause) → map (warning_in c) (map two_at ks) ≡ map (λ k. model.warning k.place (model.two_files k.functor)) (map (clause_in c) ks)
two_seen c [] = refl
two_seen c (k ∷ ks) = ap (λ (l : List model.Warning). warning_in c (two_at k) ∷ l) (two_seen c ks)

unreached_seen : (c : Contents) (ks : List Clause) → map (warning_in c) (map unreached_at ks) ≡ map (λ k. model.warning k.place (model.unreached k.functor)) (map (clause_in c) ks)
unreached_seen c [] = refl
unreached_seen c (k ∷ ks) = ap (λ (l : List model.Warning). warning_in c (unreached_at k) ∷ l) (unreached_seen c ks)

filter_by : (c : Contents) (q : UserClause → Bool) (p : Clause → Bool) (k : Clause) (ks : List Clause) (a b : Bool) → a ≡ b → map (clause_in c) (filter p ks) ≡ filter q (map (clause_in c) ks)
    → map (clause_in c) (cond a (k ∷ filter p ks) (filter p ks)) ≡ cond b (clause_in c k ∷ filter q (map (clause_in c) ks)) (filter q (map (clause_in c) ks))
filter_by c q p k ks true b e rest =
    ap (λ (l : List UserClause). clause_in c k ∷ l) rest ∙ ap (λ (t : Bool). cond t (clause_in c k ∷ filter q (map (clause_in c) ks)) (filter q (map (clause_in c) ks))) e
filter_by c q p k ks false b e rest = rest ∙ ap (λ (t : Bool). cond t (clause_in c k ∷ filter q (map (clause_in c) ks)) (filter q (map (clause_in c) ks))) e

filter_seen : (c : Contents) (q : UserClause → Bool) (p : Clause → Bool) (ks : List Clause) → AllByRecursion (λ k. p k ≡ q (clause_in c k)) ks
    → map (clause_in c) (filter p ks) ≡ filter q (map (clause_in c) ks)
filter_seen c q p [] all = refl
filter_seen c q p (k ∷ ks) all = filter_by c q p k ks (p k) (q (clause_in c k)) all.0 (filter_seen c q p ks all.1)

filter_all : (P : Clause → Type 0) (p : Clause → Bool) (ks : List Clause) → AllByRecursion P ks → AllByRecursion P (filter p ks)
filter_all P p [] all = tt
filter_all P p (k ∷ ks) all = put (p k) (filter_all P p ks all.1)
  where
    put : (b : Bool) → AllByRecursion P (filter p ks) → AllByRecursion P (cond b (k ∷ filter p ks) (filter p ks))
    put true rest = (all.0, rest)
    put false rest = rest

-- ---- the warnings of predicates

module _ (starts : List ℕ) (s : Sentences) (valid : AreOwn s) (ks : List Clause) (keys : List Functor) (own : All (IsOwn s.pool) ks)
    (kept : map (clause_in s.pool) ks ≡ clauses_in (sentences_of s)) (known : AreKeys ks keys) where
  abbrev c : Contents
  c = s.pool

  mine : AllByRecursion (IsOwn c) ks
  mine = recursion_from_All (IsOwn c) ks own

  named : AllByRecursion (IsNamed c) ks
  named = names_of c ks mine

  opening_named : AllByRecursion (IsNamed c) (file_firsts starts ks)
  opening_named = firsts_all same_filed (filed_at starts) (IsNamed c) [] ks named

  keys_named : AllByRecursion (λ g. g.name.number < length c.names) keys
  keys_named = recursion_from_All (λ (g : Functor). g.name.number < length c.names) keys (names_own c ks keys own known)

  aparts_are : map (warning_in c) (map apart_at (resumed starts ks)) ≡ aparts starts (clauses_in (sentences_of s))
  aparts_are =
      apart_seen c (resumed starts ks)
      ∙ ap (map (λ (k : UserClause). model.warning k.place (model.apart k.functor)))
      (resumed_named same_filed (filed_at starts) same_predicate (in_file starts) (clause_in c) (filed_in c) (λ f. f.functor.name.number < length c.names) (λ k. refl)
      (λ a b. same_filed_in c valid.pool a b) [] ks tt named
      ∙ ap (resumed_behind same_predicate (in_file starts) []) kept)

  openings_are : map (clause_in c) (file_firsts starts ks) ≡ openings starts (clauses_in (sentences_of s))
  openings_are =
      firsts_named same_filed (filed_at starts) same_predicate (in_file starts) (clause_in c) (filed_in c) (λ f. f.functor.name.number < length c.names) (λ k. refl)
      (λ a b. same_filed_in c valid.pool a b) [] ks tt named
      ∙ ap (firsts_behind same_predicate (in_file starts) []) kept

  twos_are : map (warning_in c) (map two_at (repeated (file_firsts starts ks))) ≡ in_two_files starts (clauses_in (sentences_of s))
  twos_are =
      two_seen c (repeated (file_firsts starts ks))
      ∙ ap (map (λ (k : UserClause). model.warning k.place (model.two_files k.functor)))
      (repeated_named same_numbers key_of same_functor head_of (clause_in c) (functor_in c) (λ f. f.name.number < length c.names) (λ k. refl)
      (λ a b. same_in c valid.pool a b) [] (file_firsts starts ks) tt opening_named
      ∙ ap (repeated_behind same_functor head_of []) openings_are)

  apart_within : All (IsWarningWithin c) (map apart_at (resumed starts ks))
  apart_within = All-map (IsWarningWithin c) apart_at (resumed starts ks)
      (All-from_recursion (IsNamed c) (resumed starts ks) (resumed_all same_filed (filed_at starts) (IsNamed c) [] ks named))

  two_within : All (IsWarningWithin c) (map two_at (repeated (file_firsts starts ks)))
  two_within = All-map (IsWarningWithin c) two_at (repeated (file_firsts starts ks))
      (All-from_recursion (IsNamed c) (repeated (file_firsts starts ks)) (repeated_all same_numbers key_of (IsNamed c) [] (file_firsts starts ks) opening_named))

  module _ (ns : List ℕ) (r : AreReached s keys ks ns) where
    abbrev reached : refusals.Functor → Bool
    reached f = is_number_in ns (number_in c keys f)

    tells : TellsReached (sentences_of s) reached
    tells = λ f h.
        let has : list_any (λ k. same_functor f (functor_in c k.functor)) ks ≡ true = sym (any_heads c f ks) ∙ ap (λ (us : List UserClause). is_among (map head_of us) f) kept ∙ h in
        let found = reached_as_led c keys valid.pool keys_named (query_calls (sentences_of s)) ks r.edges named r.lead known ns r.led f has in
        subst (λ (us : List UserClause). (reached f ≡ true) ↔ IsReachedFrom (query_calls (sentences_of s)) us f) kept found

    abbrev is_warned : UserClause → Bool
    is_warned k = not (reached k.functor) && is_last starts k.place

    unreached_are : map (warning_in c) (map unreached_at (unreached_among starts keys ns (firsts ks))) ≡ unreached_of starts reached (clauses_in (sentences_of s))
    unreached_are =
        unreached_seen c (unreached_among starts keys ns (firsts ks))
        ∙ ap (map (λ (k : UserClause). model.warning k.place (model.unreached k.functor)))
        (filter_seen c is_warned (is_missed starts keys ns) (firsts ks) (tests (firsts ks) (firsts_all same_numbers key_of (IsNamed c) [] ks named))
        ∙ ap (filter is_warned)
        (firsts_named same_numbers key_of same_functor head_of (clause_in c) (functor_in c) (λ f. f.name.number < length c.names) (λ k. refl) (λ a b. same_in c valid.pool a b) [] ks tt named
        ∙ ap (firsts_behind same_functor head_of []) kept))
      where
        tests : (us : List Clause) → AllByRecursion (IsNamed c) us → AllByRecursion (λ k. is_missed starts keys ns k ≡ is_warned (clause_in c k)) us
        tests [] all = tt
        tests (u ∷ us) all =
            (ap (λ (o : Option ℕ). not (is_number_in ns o) && is_last starts u.place) (number_same c valid.pool keys u.functor all.0 keys_named), tests us all.1)

    unreached_within : All (IsWarningWithin c) (map unreached_at (unreached_among starts keys ns (firsts ks)))
    unreached_within = All-map (IsWarningWithin c) unreached_at (unreached_among starts keys ns (firsts ks))
        (All-from_recursion (IsNamed c) (unreached_among starts keys ns (firsts ks))
        (filter_all (IsNamed c) (is_missed starts keys ns) (firsts ks) (firsts_all same_numbers key_of (IsNamed c) [] ks named)))

  put_behind : (more : List model.Warning) (old mine new : List Warning) → map (warning_in c) mine ≡ more → All (IsWarningWithin c) mine → new ≡ old ++ mine → Adds c more old new
  put_behind more old mine new are within e = record {
    are = ap (map (warning_in c)) e ∙ map-append (warning_in c) old mine ∙ ap (λ (l : List model.Warning). map (warning_in c) old ++ l) are;
    within = λ all. subst (All (IsWarningWithin c)) (sym e) (All-append (IsWarningWithin c) old mine all within);
  }

  -- All kinds are put.
  pub predicates_put : (opened first : List Clause) (old one two new : List Warning) → opened ≡ file_firsts starts ks → one ≡ old ++ map apart_at (resumed starts ks)
      → first ≡ firsts opened → two ≡ one ++ map two_at (repeated opened) → AddsUnreached starts s ks keys first two new → AddsPredicates starts s old new
  predicates_put opened first old one two new o a f t u =
      let us = clauses_in (sentences_of s) in
      let is_first : first ≡ firsts ks = f ∙ ap firsts o ∙ opening_firsts starts ks in
      let last = u.adds ∙ ap (λ (l : List Clause). two ++ map unreached_at (unreached_among starts keys u.numbers l)) is_first in
      let again = t ∙ ap (λ (l : List Clause). one ++ map two_at (repeated l)) o in
      let left = unreached_of starts (reached u.numbers u.reached) us in
      record {
        reached = reached u.numbers u.reached;
        tells = tells u.numbers u.reached;
        adds = adds_then c (aparts starts us) (in_two_files starts us ++ left) old one new
            (put_behind (aparts starts us) old (map apart_at (resumed starts ks)) one aparts_are apart_within a)
            (adds_then c (in_two_files starts us) left one two new
            (put_behind (in_two_files starts us) one (map two_at (repeated (file_firsts starts ks))) two twos_are two_within again)
            (put_behind left two (map unreached_at (unreached_among starts keys u.numbers (firsts ks))) new (unreached_are u.numbers u.reached) (unreached_within u.numbers u.reached) last));
      }

-- Those of variables, those of goals behind them, and then those of predicates.
pub all_put : (starts : List ℕ) (s : Sentences) (old one two three new : List Warning) → Adds s.pool (singles (sentences_of s)) old one
    → Adds s.pool (losses (sentences_of s)) one two → Adds s.pool (open_variables (sentences_of s)) two three → AddsPredicates starts s three new → AddsAll starts s old new
all_put starts s old one two three new a l o p =
    let ss = sentences_of s in
    let ours = of_predicates starts p.reached (clauses_in ss) in
    record {
      reached = p.reached;
      tells = p.tells;
      adds = adds_then s.pool (singles ss) (losses ss ++ (open_variables ss ++ ours)) old one new a
          (adds_then s.pool (losses ss) (open_variables ss ++ ours) one two new l (adds_then s.pool (open_variables ss) ours two three new o p.adds));
    }
