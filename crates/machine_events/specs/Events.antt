-- The events of a machine as those of a run: the texts of shown terms.
use Rattle.std.specs.Prelude.{◌≡◌, ℕ, ◌<◌, ◌==◌, if◌then◌else◌, List, [], ◌∷◌, length, map, All, Option, Some, None}
use Rattle.fd_language.specs.Term.{Name, Term, Terms, Atom, no_terms, term}
use Rattle.fd_language.specs.Variables.{variables_of_all, distinct}
use Rattle.fd_language.specs.TermTexts.{Plain, term_text}
use Rattle.fd_model.specs.Goal as model
use Rattle.fd_model.specs.Goal.{Event}
use Rattle.fd_model.specs.Lines.{as_terms, line_of, open_part, place_in}
use Rattle.term_pool.specs.Terms.{term_of}
use Rattle.machine_events.specs.declared.Shown.{Shown}
use Rattle.machine_events.specs.declared.MachineEvent.{MachineEvent}
use Rattle.machine_events.specs.declared.MachineEvent.TheVariants.{Write, Newline, Answer, End, Budget, Limit, Fault}

-- the set of a variable, where it has one
abbrev pub set_in : List (ℕ × List ℕ) → ℕ → Option (List ℕ)
set_in [] y = None
set_in (s ∷ ss) y = if s.0 == y then Some s.1 else set_in ss y

abbrev pub terms_in : Shown → List Term
terms_in s = map (term_of s.pool) s.terms.items

-- An open variable is numbered among those of the whole text. all are the text's terms, one behind the other.
abbrev pub variable_text : Shown → Terms → ℕ → List ℕ
variable_text s all y = open_part (place_in (distinct (variables_of_all all)) y) (set_in s.sets.items y)

-- the line of an answer whose variables have these names
abbrev pub shown_line : List Name → Shown → List ℕ
shown_line names s = let ts = terms_in s in line_of (variable_text s (as_terms ts)) names ts

abbrev pub first_term : List Term → Term
first_term [] = Atom []
first_term (t ∷ ts) = t

-- the text of a written term
abbrev pub written_term : Shown → List ℕ
written_term s = let t = first_term (terms_in s) in term_text Plain (variable_text s (term t no_terms)) 1200 t

-- the event of a query whose shown variables have these names
abbrev pub event_of : List Name → MachineEvent → Event
event_of names (Write s) = model.Wrote (written_term s)
event_of names Newline = model.Newline
event_of names (Answer s) = model.Answer (shown_line names s)
event_of names End = model.End
event_of names Budget = model.Budget
event_of names Limit = model.Limit
event_of names (Fault f) = model.Fault f

-- n terms of the pool
abbrev pub ShowsTerms : ℕ → Shown → Type 0
ShowsTerms n s = (length s.terms.items ≡ n) × All (λ t. t.number < length s.pool.entries) s.terms.items

-- an answer has a term for each of n names, and one term is written
abbrev pub HasTerms : ℕ → MachineEvent → Type 0
HasTerms n (Write s) = ShowsTerms 1 s
HasTerms n Newline = Unit {0}
HasTerms n (Answer s) = ShowsTerms n s
HasTerms n End = Unit {0}
HasTerms n Budget = Unit {0}
HasTerms n Limit = Unit {0}
HasTerms n (Fault f) = Unit {0}
