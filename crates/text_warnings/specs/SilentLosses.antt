-- What goals lose silently: numbers below 0, which no domain has; the numbers of an empty range; and sums, where `=` makes terms equal and computes nothing.
--
-- Only what a goal itself shows is told of: integers as they are written, and no sums of them, no parameters, and no members of lists. An integer below 0
-- beside `=` is left out, since the variable across may be one without a domain.
use Rattle.std.specs.Prelude.{ℕ, ℤ, pos, int_lt, Bool, false, ◌&&◌, is_none, List, [], ◌∷◌, ◌++◌, Option, Some, None, if◌then◌else◌, codes}
use Rattle.std.specs.List.{flat_map}
use Rattle.std.specs.Str.{bytes_eq}
use Rattle.fd_language.specs.Term.{Name}
use Rattle.fd_language.specs.PlacedTerm.{PlacedTerm, comp, no_parts, part, place}
use Rattle.fd_language.specs.Reading.{Sentence}
use Rattle.fd_model.specs.Forms.{is_named}
use Rattle.fd_model.specs.Refusals.{SentenceKind, query, clause, form_of}
use Rattle.text_warnings.specs.Clauses.{goals_in}
use Rattle.text_warnings.specs.Concerns.{Concern, below_zero, empty_range, unevaluated, Warning, warning}
use Rattle.text_warnings.specs.TermParts.{TermParts, one, two, other, parts_of, integer_of, is_variable}

-- a warning of this place, where the test holds
abbrev pub warned_if : Bool → ℕ → Concern → List Warning
warned_if b p c = if b then warning p c ∷ [] else []

abbrev pub is_negative : Option ℤ → Bool
is_negative None = false
is_negative (Some z) = int_lt z (pos 0)

-- the second integer is below the first one
abbrev pub is_falling : Option ℤ → Option ℤ → Bool
is_falling (Some y) (Some z) = int_lt z y
is_falling a b = false

-- an integer below 0
abbrev pub below_zero_at : PlacedTerm → List Warning
below_zero_at t = warned_if (is_negative (integer_of t)) (place t) below_zero

-- ---- ranges

-- the ranges of which both parts are ranges, and those of which the first part is
abbrev pub joined_ranges : List Name
joined_ranges = codes ":" ∷ codes "&" ∷ []

abbrev pub shifted_ranges : List Name
shifted_ranges = codes "+" ∷ codes "-" ∷ codes "*" ∷ codes "/" ∷ []

-- `a..b` at the place p
abbrev pub interval_losses : ℕ → PlacedTerm → PlacedTerm → List Warning
interval_losses p a b = below_zero_at a ++ (warned_if (is_falling (integer_of a) (integer_of b)) p empty_range ++ below_zero_at b)

-- a range with no range in it: an interval or `{a}`
abbrev pub plain_losses : ℕ → TermParts → List Warning
plain_losses p (one f a) = if bytes_eq f (codes "{}") then below_zero_at a else []
plain_losses p (two f a b) = if bytes_eq f (codes "..") then interval_losses p a b else []
plain_losses p other = []

-- What a complement leaves out is no loss, so it isn't looked into; nor is what a range is shifted, stretched or divided by.
abbrev pub range_losses : PlacedTerm → List Warning
range_losses (comp f p (part a no_parts)) = plain_losses p (one f a)
range_losses (comp f p (part a (part b no_parts))) =
    if is_named joined_ranges f then range_losses a ++ range_losses b
    else if is_named shifted_ranges f then range_losses a
    else plain_losses p (two f a b)
range_losses t = []

-- ---- goals

-- the comparisons that bound a variable, or give it a value; what `#\=` leaves out is no loss
abbrev pub bounding_names : List Name
bounding_names = codes "#=" ∷ codes "#<" ∷ codes "#=<" ∷ codes "#>" ∷ codes "#>=" ∷ []

-- a side of a comparison, where the other side is a variable
abbrev pub bound_losses : PlacedTerm → PlacedTerm → List Warning
bound_losses t across = warned_if (is_variable across && is_negative (integer_of t)) (place t) below_zero

-- arithmetic of two parts
abbrev pub arithmetic_names : List Name
arithmetic_names = codes "+" ∷ codes "-" ∷ codes "*" ∷ codes "//" ∷ codes "mod" ∷ []

abbrev pub is_arithmetic : TermParts → Bool
is_arithmetic (one f a) = bytes_eq f (codes "-") && is_none (integer_of a)
is_arithmetic (two f a b) = is_named arithmetic_names f
is_arithmetic other = false

-- a side of `=`
abbrev pub side_losses : PlacedTerm → List Warning
side_losses t = warned_if (is_arithmetic (parts_of t)) (place t) unevaluated

-- of a goal with this name and these two arguments
abbrev pub losses_named : Name → PlacedTerm → PlacedTerm → List Warning
losses_named f a b =
    if bytes_eq f (codes "in") then range_losses b
    else if bytes_eq f (codes "=") then side_losses a ++ side_losses b
    else if is_named bounding_names f then bound_losses a b ++ bound_losses b a
    else []

abbrev pub goal_losses : TermParts → List Warning
goal_losses (one f a) = []
goal_losses (two f a b) = losses_named f a b
goal_losses other = []

abbrev pub body_losses : PlacedTerm → List Warning
body_losses b = flat_map (λ g. goal_losses (parts_of g)) (goals_in b)

abbrev pub losses_by : SentenceKind → List Warning
losses_by (query b) = body_losses b
losses_by (clause h b) = body_losses b
losses_by _ = []

-- those of a text, in its order
abbrev pub losses : List Sentence → List Warning
losses ss = flat_map (λ s. losses_by (form_of s.term)) ss
