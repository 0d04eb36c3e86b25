-- What is kept of a flat query, and what stops its reading.
use Rattle.std.specs.Prelude.{◌≡◌, ℕ, ◌<◌, List, length, map, min, All, Option, Some, None, Result, Ok, codes}
use Rattle.fd_language.specs.declared.TheConstants.{INFINITY}
use Rattle.fd_language.specs.Family.{count_up}
use Rattle.fd_language.specs.Reading.{Reading, sentences, token_fault, syntax_fault, too_deep, IsReading}
use Rattle.fd_model.specs.Verdict.{cause_name}
use Rattle.term_pool.specs.Contents.{atom_name}
use Rattle.answer_check.specs.declared.goals.Goals.{Goals}
use Rattle.answer_check.specs.declared.outcome.Reason.TheVariants.{NotFlat}
use Rattle.answer_check.specs.declared.outcome.Stop.{Stop}
use Rattle.answer_check.specs.declared.outcome.Stop.TheVariants.{Refused, NoMemory}
use Rattle.answer_check.specs.declared.query.FlatQuery as code
use Rattle.answer_check.specs.FlatForm.{FlatGoals, FlatQuery, flat_query}
use Rattle.answer_check.specs.Goals.{AreGoals, StopsAt}
use Rattle.answer_check.specs.Refusals.{reason_text}

abbrev pub lesser : Option ℕ → ℕ → ℕ
lesser None p = p
lesser (Some q) p = min q p

-- the refusal of what isn't sentences
abbrev pub refused_by : Reading → Option (ℕ × List ℕ)
refused_by (sentences ss) = None
refused_by (token_fault cause place) = Some (place, cause_name cause)
refused_by (syntax_fault place) = Some (place, codes "syntax")
refused_by (too_deep place) = Some (place, codes "too deep")

abbrev pub StopsReading : Reading → Stop → Type 0
StopsReading r (Refused p s) = refused_by r ≡ Some (p, reason_text s)
StopsReading r NoMemory = Unit {0}

abbrev pub goals_in : FlatQuery → FlatGoals
goals_in f = record { constraints = f.constraints; order = f.order; members = f.members }

abbrev pub FindsFlat : Result FlatQuery ℕ → Goals → Type 0
FindsFlat r g = (f : FlatQuery) × (r ≡ Ok f) × AreGoals (goals_in f) g

-- what is kept of a flat query
pub record IsQuery (f : FlatQuery) (q : code.FlatQuery) : Type 0 where
  pub within : All (λ a. a.number < length q.pool.names) q.names.items
  pub names : f.query.names ≡ map (atom_name q.pool) q.names.items
  pub shown : f.query.shown ≡ count_up 0 (length q.names.items)
  pub variables : f.query.variables ≡ length q.names.items
  pub goals : AreGoals (goals_in f) q.goals

abbrev pub FindsQuery : Result FlatQuery ℕ → code.FlatQuery → Type 0
FindsQuery r q = (f : FlatQuery) × (r ≡ Ok f) × IsQuery f q

-- the flat query that a reading is, and what stops it
abbrev pub ReadsAs : Reading → code.FlatQuery → Type 0
ReadsAs (sentences ss) q = FindsQuery (flat_query INFINITY ss) q
ReadsAs r q = ⊥

abbrev pub StopsAs : Reading → Stop → Type 0
StopsAs (sentences ss) s = StopsAt (flat_query INFINITY ss) NotFlat s
StopsAs r s = StopsReading r s

-- those of a text
abbrev pub ReadsQuery : List ℕ → code.FlatQuery → Type 0
ReadsQuery text q = (r : Reading) × IsReading text r × ReadsAs r q

abbrev pub StopsQuery : List ℕ → Stop → Type 0
StopsQuery text s = (r : Reading) × IsReading text r × StopsAs r s
