-- Which goals of a query stay, and which may be left out.
use Rattle.std.specs.Prelude.{ℕ, Bool, true, false, not, ◌&&◌, ◌||◌, if◌then◌else◌, List, [], ◌∷◌, map, Option, Some, None}
use Rattle.std.specs.List.{list_any}
use Rattle.fd_language.specs.Term.{Term, Var, Comp}
use Rattle.fd_language.specs.PlacedTerm.{PlacedTerm}
use Rattle.fd_language.specs.Family.{has}
use Rattle.fd_language.specs.Range.{Span, Number}
use Rattle.fd_model.specs.declared.kinds.BuiltinKind.TheVariants.{Write, Nl}
use Rattle.fd_model.specs.Goal.{Goal, Unify, Post, Label, Builtin, Cut, Best}
use Rattle.fd_model.specs.Refusals.{Functor, same_functor, functor_of}

-- ---- by what they are

abbrev pub is_compound : Term → Bool
is_compound (Comp f ts) = true
is_compound t = false

-- labellings, searches for their best leaf, equations with a compound term, cuts, and what writes: without them other goals aren't what they were
abbrev pub is_fixed : Goal → Bool
is_fixed (Unify s t) = is_compound s || is_compound t
is_fixed (Label o t) = true
is_fixed (Best o least t c) = true
is_fixed (Cut c) = true
is_fixed (Builtin Write t) = true
is_fixed (Builtin Nl t) = true
is_fixed g = false

-- the variable that a goal puts between two integers
abbrev pub domain_of : Goal → Option ℕ
domain_of (Post (Var x) (Span (Number n) (Number m))) = Some x
domain_of g = None

abbrev pub with_domain : Option ℕ → List ℕ → List ℕ
with_domain None xs = xs
with_domain (Some x) xs = x ∷ xs

-- it is the first such goal of its variable, where those of xs had one before
abbrev pub is_first : Option ℕ → List ℕ → Bool
is_first None xs = false
is_first (Some x) xs = not (has xs x)

abbrev pub fixed_from : List ℕ → List Goal → List Bool
fixed_from xs [] = []
fixed_from xs (g ∷ gs) = (if is_fixed g then true else is_first (domain_of g) xs) ∷ fixed_from (with_domain (domain_of g) xs) gs

-- of the goals of a query: those above, and the first domain of each variable
abbrev pub fixed : List Goal → List Bool
fixed gs = fixed_from [] gs

-- ---- by the words

-- Goals of these names and arities stay, and where a second list is given, all that aren't of its names and arities.
pub record Choice : Type 0 where
  pub keep : List Functor
  pub only : Option (List Functor)

abbrev pub is_among : List Functor → Option Functor → Bool
is_among fs None = false
is_among fs (Some f) = list_any (same_functor f) fs

abbrev pub is_chosen : Option (List Functor) → Option Functor → Bool
is_chosen None f = true
is_chosen (Some fs) f = is_among fs f

-- a goal by its name and arity, as it stands in the text
abbrev pub is_told_to_stay : Choice → PlacedTerm → Bool
is_told_to_stay c t = is_among c.keep (functor_of t) || not (is_chosen c.only (functor_of t))

-- ---- by both

-- kept by one of two lists; the first says how many there are
abbrev pub either : List Bool → List Bool → List Bool
either [] ks = []
either (j ∷ js) [] = j ∷ js
either (j ∷ js) (k ∷ ks) = (j || k) ∷ either js ks

-- the goals that stay, of a query's goals and of the same goals as they stand in the text
abbrev pub staying : Choice → List PlacedTerm → List Goal → List Bool
staying c ts gs = either (fixed gs) (map (is_told_to_stay c) ts)

-- ---- told goals

-- those that are kept and don't stay
abbrev pub told : List Bool → List Bool → List Bool
told stays [] = []
told [] (k ∷ ks) = k ∷ told [] ks
told (s ∷ ss) (k ∷ ks) = (k && not s) ∷ told ss ks

-- the others
abbrev pub untold : List Bool → List Bool → List Bool
untold stays ks = map not (told stays ks)

-- kept by both of two lists
abbrev pub both : List Bool → List Bool → List Bool
both [] ks = []
both (j ∷ js) [] = []
both (j ∷ js) (k ∷ ks) = (j && k) ∷ both js ks
