-- Variables that have only a domain where a goal needs more: a number in an arithmetic test, or nothing left to choose in a negation.
--
-- The goals of a clause are taken in the order of the text. A negation is one goal here, which gives no variable a value; the goals in it aren't looked into.
-- A value of one variable may give values to others by a constraint, so a clause is warned of only where no variable of the constraints in front can have got
-- a value by its head, or by any other goal in front. That constraints alone may leave a variable just one number is seen of an equation in one variable only.
use Rattle.std.specs.Prelude.{ℕ, zero, suc, ◌==◌, length, Bool, true, false, ◌&&◌, not, slice_get, List, [], ◌∷◌, ◌++◌, map, Option, Some, None, if◌then◌else◌, codes}
use Rattle.std.specs.List.{list_any, flat_map}
use Rattle.std.specs.Str.{bytes_eq}
use Rattle.fd_language.specs.Term.{Name}
use Rattle.fd_language.specs.PlacedTerm.{PlacedTerm, PlacedTerms, var, int, atom, comp, no_parts, part}
use Rattle.fd_language.specs.Reading.{Sentence}
use Rattle.fd_model.specs.Forms.{joining_names, is_named}
use Rattle.fd_model.specs.Refusals.{Functor, functor_of, SentenceKind, query, clause, form_of}
use Rattle.text_warnings.specs.Concerns.{Concern, open_test, open_negation, Warning, warning}
use Rattle.text_warnings.specs.Numbers.{is_in}
use Rattle.text_warnings.specs.TermParts.{TermParts, one, two, other, parts_of}
use Rattle.text_warnings.specs.declared.occurrences.Occurrence.{Occurrence}

-- the variables of a term, each with its place, the last one first
abbrev mutual
  pub occurrences : PlacedTerm → List Occurrence
  occurrences (var x p) = record { number = x; place = p } ∷ []
  occurrences (int z p) = []
  occurrences (atom a p) = []
  occurrences (comp f p ts) = occurrences_in ts

  pub occurrences_in : PlacedTerms → List Occurrence
  occurrences_in no_parts = []
  occurrences_in (part t ts) = occurrences_in ts ++ occurrences t

abbrev pub numbers_of : List Occurrence → List ℕ
numbers_of os = map (λ o. o.number) os

-- ---- what goals do

-- the goals of a body in the order of the text; those of which `,`, `;` and `->` are made stand in their place
abbrev pub outer_goals : PlacedTerm → List PlacedTerm
outer_goals (comp f p (part a (part b no_parts))) =
    if is_named (joining_names 2) f then outer_goals a ++ outer_goals b else comp f p (part a (part b no_parts)) ∷ []
outer_goals t = t ∷ []

-- the goals with so many arguments that only constrain their variables
abbrev pub tying_names : ℕ → List Name
tying_names (suc zero) = codes "fd_all_different" ∷ []
tying_names (suc (suc zero)) =
    codes "in" ∷ codes "#\\=" ∷ codes "#<" ∷ codes "#=<" ∷ codes "#>" ∷ codes "#>=" ∷ codes "#<=>" ∷ codes "fd_not" ∷ []
tying_names (suc (suc (suc zero))) = codes "fd_element" ∷ codes "fd_atmost" ∷ codes "fd_and" ∷ codes "fd_or" ∷ []
tying_names _ = []

abbrev pub is_tying : Option Functor → Bool
is_tying None = false
is_tying (Some f) = is_named (tying_names f.arity) f.name

-- the goals that compare two values
abbrev pub comparing_names : List Name
comparing_names = codes "=:=" ∷ codes "=\\=" ∷ codes "<" ∷ codes "=<" ∷ codes ">" ∷ codes ">=" ∷ []

-- what a goal does: it constrains its variables; it is an equation; it compares values; it gives its left side the value of its right one; it negates; or it may give each of its
-- variables a value
pub data Role : Type 0 where
  ties equates compares gives : Role
  evaluates : PlacedTerm → PlacedTerm → Role
  negates : PlacedTerm → Role

abbrev pub role_by : TermParts → Role
role_by (one f a) = if is_named (joining_names 1) f then negates a else gives
role_by (two f a b) = if bytes_eq f (codes "#=") then equates else if is_named comparing_names f then compares else if bytes_eq f (codes "is") then evaluates a b else gives
role_by other = gives

abbrev pub role_of : PlacedTerm → Role
role_of g = if is_tying (functor_of g) then ties else role_by (parts_of g)

abbrev pub is_negation : TermParts → Bool
is_negation (one f a) = is_named (joining_names 1) f
is_negation (two f a b) = false
is_negation other = false

-- ---- what stands in front

-- the variables of the constraints in front, and those that may have got a value there
pub record Passed : Type 0 where
  pub tied : List ℕ
  pub given : List ℕ

abbrev pub with_tied : Passed → PlacedTerm → Passed
with_tied s t = record { tied = s.tied ++ numbers_of (occurrences t); given = s.given }

abbrev pub with_given : Passed → PlacedTerm → Passed
with_given s t = record { tied = s.tied; given = s.given ++ numbers_of (occurrences t) }

-- an equation in which one variable stands, and just once, gives it a value
abbrev pub with_equation : Passed → PlacedTerm → Passed
with_equation s t = if length (occurrences t) == 1 then with_given s t else with_tied s t

abbrev pub with_goal : Passed → PlacedTerm → Role → Passed
with_goal s g ties = with_tied s g
with_goal s g equates = with_equation s g
with_goal s g compares = s
with_goal s g gives = with_given s g
with_goal s g (evaluates a b) = with_given s a
with_goal s g (negates a) = s

-- some variable of the constraints may have got a value
abbrev pub is_mixed : Passed → Bool
is_mixed s = list_any (is_in s.given) s.tied

-- the variable has only a domain
abbrev pub is_open : Passed → ℕ → Bool
is_open s n = not (is_mixed s) && is_in s.tied n

-- ---- warnings

-- what is said of a variable: of a test, or of a negation
abbrev pub open_concern : Bool → Name → Concern
open_concern negated name = if negated then open_negation name else open_test name

-- of a variable at this place, where it has a name
abbrev pub open_named : Bool → ℕ → Option Name → List Warning
open_named negated p None = []
open_named negated p (Some name) = warning p (open_concern negated name) ∷ []

abbrev pub open_at : List Name → Bool → Passed → Occurrence → List Warning
open_at names negated s o = if is_open s o.number then open_named negated o.place (slice_get names o.number) else []

-- of the variables of a term
abbrev pub open_in : List Name → Bool → Passed → PlacedTerm → List Warning
open_in names negated s t = flat_map (open_at names negated s) (occurrences t)

-- of the goal that a negation is of; a double negation asks whether a goal may hold, which is no mistake
abbrev pub negation_warnings : List Name → Passed → PlacedTerm → List Warning
negation_warnings names s a = if is_negation (parts_of a) then [] else open_in names true s a

-- of a goal
abbrev pub goal_warnings : List Name → Passed → PlacedTerm → Role → List Warning
goal_warnings names s g ties = []
goal_warnings names s g equates = []
goal_warnings names s g compares = open_in names false s g
goal_warnings names s g gives = []
goal_warnings names s g (evaluates a b) = open_in names false s b
goal_warnings names s g (negates a) = negation_warnings names s a

-- of goals behind others
abbrev pub warnings_behind : List Name → Passed → List PlacedTerm → List Warning
warnings_behind names s [] = []
warnings_behind names s (g ∷ gs) = goal_warnings names s g (role_of g) ++ warnings_behind names (with_goal s g (role_of g)) gs

abbrev pub nothing_passed : Passed
nothing_passed = record { tied = []; given = [] }

-- the caller may give the variables of the head values
abbrev pub open_by : List Name → SentenceKind → List Warning
open_by names (query b) = warnings_behind names nothing_passed (outer_goals b)
open_by names (clause h b) = warnings_behind names (with_given nothing_passed h) (outer_goals b)
open_by names _ = []

abbrev pub open_in_sentence : Sentence → List Warning
open_in_sentence s = open_by s.names (form_of s.term)

-- of a text, in its order
abbrev pub open_variables : List Sentence → List Warning
open_variables ss = flat_map open_in_sentence ss
