-- What is kept of clauses and warnings, as the definitions see it.
use Rattle.std.specs.Prelude.{◌≡◌, ℕ, ◌<◌, Bool, List, [], ◌∷◌, ◌++◌, length, map, All, Option, Some, None}
use Rattle.fd_model.specs.Refusals as refusals
use Rattle.term_pool.specs.declared.TermId.{TermId}
use Rattle.term_pool.specs.Contents.{Contents, atom_name}
use Rattle.term_pool.specs.PlacedTerms.{placed_of}
use Rattle.term_reader.specs.declared.reader.Sentences.{Sentences}
use Rattle.term_reader.specs.Sentences.{sentences_of}
use Rattle.text_warnings.specs.Clauses.{UserClause, calls_of, clauses_in}
use Rattle.text_warnings.specs.Warnings as model
use Rattle.text_warnings.specs.Terms.{functor_in}
use Rattle.text_warnings.specs.declared.terms.Functor.{Functor}
use Rattle.text_warnings.specs.declared.clauses.Clause.{Clause}
use Rattle.text_warnings.specs.declared.Concern.{Concern}
use Rattle.text_warnings.specs.declared.Concern.TheVariants.{Single, Apart, TwoFiles, Unreached, BelowZero, EmptyRange, Unevaluated, OpenTest, OpenNegation}
use Rattle.text_warnings.specs.declared.Warning.{Warning}

-- what a body calls, where there is one
abbrev pub body_calls : Contents → Option TermId → List refusals.Functor
body_calls c None = []
body_calls c (Some b) = calls_of (placed_of c b)

abbrev pub clause_in : Contents → Clause → UserClause
clause_in c k = record { functor = functor_in c k.functor; place = k.place; calls = body_calls c k.body }

abbrev pub clauses_kept : Contents → Option Clause → List UserClause
clauses_kept c None = []
clauses_kept c (Some k) = clause_in c k ∷ []

abbrev pub IsBodyWithin : Contents → Option TermId → Type 0
IsBodyWithin c None = Unit {0}
IsBodyWithin c (Some b) = b.number < length c.entries

-- its name and its body are of the pool
pub record IsOwn (c : Contents) (k : Clause) : Type 0 where
  pub name : k.functor.name.number < length c.names
  pub body : IsBodyWithin c k.body

abbrev pub IsOwnIf : Contents → Option Clause → Type 0
IsOwnIf c None = Unit {0}
IsOwnIf c (Some k) = IsOwn c k

abbrev pub key_of : Clause → Functor
key_of k = k.functor

abbrev pub concern_in : Contents → Concern → model.Concern
concern_in c (Single name) = model.single (atom_name c name)
concern_in c (Apart f) = model.apart (functor_in c f)
concern_in c (TwoFiles f) = model.two_files (functor_in c f)
concern_in c (Unreached f) = model.unreached (functor_in c f)
concern_in c BelowZero = model.below_zero
concern_in c EmptyRange = model.empty_range
concern_in c Unevaluated = model.unevaluated
concern_in c (OpenTest name) = model.open_test (atom_name c name)
concern_in c (OpenNegation name) = model.open_negation (atom_name c name)

abbrev pub warning_in : Contents → Warning → model.Warning
warning_in c w = model.warning w.place (concern_in c w.concern)

-- its name is of the pool
abbrev pub IsConcernWithin : Contents → Concern → Type 0
IsConcernWithin c (Single name) = name.number < length c.names
IsConcernWithin c (Apart f) = f.name.number < length c.names
IsConcernWithin c (TwoFiles f) = f.name.number < length c.names
IsConcernWithin c (Unreached f) = f.name.number < length c.names
IsConcernWithin c BelowZero = Unit {0}
IsConcernWithin c EmptyRange = Unit {0}
IsConcernWithin c Unevaluated = Unit {0}
IsConcernWithin c (OpenTest name) = name.number < length c.names
IsConcernWithin c (OpenNegation name) = name.number < length c.names

abbrev pub IsWarningWithin : Contents → Warning → Type 0
IsWarningWithin c w = IsConcernWithin c w.concern

-- the warnings with these behind them
pub record Adds (c : Contents) (more : List model.Warning) (old new : List Warning) : Type 0 where
  pub are : map (warning_in c) new ≡ map (warning_in c) old ++ more
  pub within : All (IsWarningWithin c) old → All (IsWarningWithin c) new

-- the warnings of clauses that don't stand together, and of predicates that aren't reached
pub record AddsPredicates (starts : List ℕ) (s : Sentences) (old new : List Warning) : Type 0 where
  pub reached : refusals.Functor → Bool
  pub tells : model.TellsReached (sentences_of s) reached
  pub adds : Adds s.pool (model.of_predicates starts reached (clauses_in (sentences_of s))) old new

-- all warnings, where they are these
pub record AddsAll (starts : List ℕ) (s : Sentences) (old new : List Warning) : Type 0 where
  pub reached : refusals.Functor → Bool
  pub tells : model.TellsReached (sentences_of s) reached
  pub adds : Adds s.pool (model.all_warnings starts reached (sentences_of s)) old new
