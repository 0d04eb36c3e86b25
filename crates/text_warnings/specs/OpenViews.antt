-- What is kept of the goals in front of one, as the definitions see it.
use Rattle.std.specs.Prelude.{◌≡◌, ℕ, ◌+◌, ◌<◌, Bool, List, [], ◌∷◌, ◌++◌, length, map, Option, Some, None, if◌then◌else◌, codes}
use Rattle.std.specs.Option.{option_to_list}
use Rattle.std.specs.Str.{bytes_eq}
use Rattle.fd_model.specs.Forms.{joining_names, is_named}
use Rattle.std.specs.List.{flat_map}
use Rattle.fd_language.specs.Term.{Name}
use Rattle.term_pool.specs.declared.AtomId.{AtomId}
use Rattle.term_pool.specs.declared.TermId.{TermId}
use Rattle.term_pool.specs.Contents.{Contents, atom_name}
use Rattle.term_pool.specs.Terms.{term_of, size}
use Rattle.term_pool.specs.PlacedTerms.{placed_of}
use Rattle.text_warnings.specs.Numbers.{is_in}
use Rattle.text_warnings.specs.OpenVariables as model
use Rattle.text_warnings.specs.OpenVariables.{outer_goals, comparing_names, is_mixed, goal_warnings, with_goal}
use Rattle.text_warnings.specs.Concerns as warnings
use Rattle.text_warnings.specs.WarningViews.{warning_in, Adds}
use Rattle.text_warnings.specs.declared.occurrences.Occurrence.{Occurrence}
use Rattle.text_warnings.specs.declared.Warning.{Warning}
use Rattle.text_warnings.specs.declared.open_variables.Passed.{Passed}
use Rattle.text_warnings.specs.declared.roles.Role.{Role}
use Rattle.text_warnings.specs.declared.roles.Role.TheVariants.{Ties, Equates, Compares, Gives, Evaluates, Negates}

-- a body is made of two, which are smaller, or it is one goal
abbrev pub IsJoined : Contents → TermId → Option (TermId × TermId) → Type 0
IsJoined c t None = outer_goals (placed_of c t) ≡ placed_of c t ∷ []
IsJoined c t (Some ab) =
    (ab.0.number < length c.entries) × (ab.1.number < length c.entries)
    × (outer_goals (placed_of c t) ≡ outer_goals (placed_of c ab.0) ++ outer_goals (placed_of c ab.1))
    × (size (term_of c ab.0) + size (term_of c ab.1) < size (term_of c t))

abbrev pub role_in : Contents → Role → model.Role
role_in c Ties = model.ties
role_in c Equates = model.equates
role_in c Compares = model.compares
role_in c Gives = model.gives
role_in c (Evaluates a b) = model.evaluates (placed_of c a) (placed_of c b)
role_in c (Negates a) = model.negates (placed_of c a)

abbrev pub IsRoleWithin : Contents → Role → Type 0
IsRoleWithin c Ties = Unit {0}
IsRoleWithin c Equates = Unit {0}
IsRoleWithin c Compares = Unit {0}
IsRoleWithin c Gives = Unit {0}
IsRoleWithin c (Evaluates a b) = (a.number < length c.entries) × (b.number < length c.entries)
IsRoleWithin c (Negates a) = a.number < length c.entries

abbrev pub IsRoleOf : Contents → TermId → Role → Type 0
IsRoleOf c g r = IsRoleWithin c r × (model.role_of (placed_of c g) ≡ role_in c r)

-- what a goal of one argument does, and one of two, where it isn't a constraint
abbrev pub one_part_role : Name → TermId → Role
one_part_role f a = if is_named (joining_names 1) f then Negates a else Gives

abbrev pub two_parts_role : Name → TermId → TermId → Role
two_parts_role f a b = if bytes_eq f (codes "#=") then Equates else if is_named comparing_names f then Compares else if bytes_eq f (codes "is") then Evaluates a b else Gives

-- it has just these variables, and knows whether some variable of the constraints may have got a value
pub record IsPassed (s : model.Passed) (p : Passed) : Type 0 where
  pub tied : (n : ℕ) → is_in p.tied.keys n ≡ is_in s.tied n
  pub given : (n : ℕ) → is_in p.given.keys n ≡ is_in s.given n
  pub mixed : p.mixed ≡ is_mixed s

-- it is the warning of the variable, if there is one
abbrev pub IsOpenWarning : List AtomId → Passed → Bool → Occurrence → Option Warning → Type 0
IsOpenWarning names p negated o w =
    (c : Contents) (s : model.Passed) → IsPassed s p → map (warning_in c) (option_to_list w) ≡ model.open_at (map (atom_name c) names) negated s o

-- the warnings of these variables
abbrev pub open_all : Contents → List AtomId → Bool → model.Passed → List Occurrence → List warnings.Warning
open_all c names negated s os = flat_map (model.open_at (map (atom_name c) names) negated s) os

-- the warnings of the goal are put, and it is passed
abbrev pub PassesGoal : Contents → List AtomId → TermId → Passed → Passed → List Warning → List Warning → Type 0
PassesGoal c names g p q old new =
    (s : model.Passed) → IsPassed s p
    → IsPassed (with_goal s (placed_of c g) (model.role_of (placed_of c g))) q
    × Adds c (goal_warnings (map (atom_name c) names) s (placed_of c g) (model.role_of (placed_of c g))) old new
