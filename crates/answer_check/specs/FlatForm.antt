-- The flat form of a query: constraint goals, and then one labelling of all its variables.
use Rattle.std.specs.Prelude.{ℕ, Bool, true, false, ◌&&◌, if◌then◌else◌, List, [], ◌∷◌, ◌++◌, length, is_none, slice_get, unwrap_or, Result, Ok, Err, codes}
use Rattle.std.specs.List.{list_all}
use Rattle.std.specs.Str.{bytes_eq}
use Rattle.fd_language.specs.Family.{has, count_up}
use Rattle.fd_language.specs.PlacedTerm.{PlacedTerm, PlacedTerms, var, int, atom, comp, no_parts, part, place}
use Rattle.fd_language.specs.Range.{Range, Span, One, Dom, Union, Inter, Outside, Plus, Minus, Times, Over, params, is_none_left}
use Rattle.fd_language.specs.Reading.{Sentence}
use Rattle.fd_language.specs.Spelling.{least_place}
use Rattle.fd_language.specs.Term.{Name, Terms, no_terms, term}
use Rattle.fd_model.specs.declared.kinds.ConstraintKind.{ConstraintKind}
use Rattle.fd_model.specs.declared.kinds.ConstraintKind.TheVariants.{Compare, AllDifferent, Element, Atmost}
use Rattle.fd_model.specs.Builtins.{is_integer}
use Rattle.fd_model.specs.declared.kinds.Order.{Order}
use Rattle.fd_model.specs.declared.kinds.QueryFault.{QueryFault}
use Rattle.fd_model.specs.ConstraintExpansion.{arguments}
use Rattle.fd_model.specs.FlatConstraints.{is_place, is_list_of, is_flat_comparison}
use Rattle.fd_model.specs.Goal.{Goal, Post, Constrain, Label, Query}
use Rattle.fd_model.specs.Labelling.{read_list, open_ones}
use Rattle.fd_model.specs.Members.{Member}
use Rattle.fd_model.specs.Queries.{goal_of, is_shown, query_of}
use Rattle.fd_model.specs.Refusals.{SentenceKind, query, form_of, range_refusal, second_part}

-- what is checked: the query, the constraints in front, and the labelling
pub record FlatQuery : Type 0 where
  pub query : Query
  pub constraints : List Goal
  pub order : Order
  pub members : List Member

-- ---- the goals in front of the labelling

-- no pointwise form stands in the range
abbrev pub is_plain : Range → Bool
is_plain (Span a b) = true
is_plain (One t) = true
is_plain (Dom y) = true
is_plain (Union r q) = is_plain r && is_plain q
is_plain (Inter r q) = is_plain r && is_plain q
is_plain (Outside r) = is_plain r
is_plain (Plus r c) = false
is_plain (Minus r c) = false
is_plain (Times r c) = false
is_plain (Over r c) = false

-- the range of an `in` goal is spelled and accepted, and has no parameter and no pointwise form
abbrev pub is_flat_range : ℕ → PlacedTerm → Range → Bool
is_flat_range M t r = is_none (range_refusal M M t) && (is_none_left (params r) && is_plain r)

-- a comparison without products of two variables, or a constraint on a list
abbrev pub is_linear_constraint : ℕ → ConstraintKind → Terms → Bool
is_linear_constraint M (Compare r) (term s (term t no_terms)) = is_flat_comparison M s t
is_linear_constraint M AllDifferent (term l no_terms) = is_list_of is_place l
is_linear_constraint M Element (term i (term l (term x no_terms))) = is_place i && (is_list_of is_integer l && is_place x)
is_linear_constraint M Atmost (term n (term l (term v no_terms))) = is_integer n && (is_list_of is_place l && is_integer v)
is_linear_constraint M _ _ = false

-- a term is this constraint goal of the form
abbrev pub is_flat_goal : ℕ → PlacedTerm → Goal → Bool
is_flat_goal M t (Post target r) = is_place target && is_flat_range M (second_part t) r
is_flat_goal M t (Constrain kind g) = is_linear_constraint M kind (arguments g)
is_flat_goal M t _ = false

-- ---- the labelling

-- each variable below n stands in the list
abbrev pub has_below : ℕ → List Member → Bool
has_below n ms = list_all (has (open_ones ms)) (count_up 0 n)

-- the goals so far, and the labelling
pub record FlatGoals : Type 0 where
  pub constraints : List Goal
  pub order : Order
  pub members : List Member

abbrev pub labelled_by : ℕ → ℕ → Order → Result (List Member) QueryFault → Result FlatGoals ℕ
labelled_by n p o (Ok ms) = if has_below n ms then Ok (record { constraints = []; order = o; members = ms }) else Err p
labelled_by n p o (Err f) = Err p

-- a term at this place labels a closed list of variables and integers, in which all variables below n stand
abbrev pub labelling_of : ℕ → ℕ → Goal → Result FlatGoals ℕ
labelling_of n p (Label o list) = labelled_by n p o (read_list list)
labelling_of n p _ = Err p

-- ---- the query

-- the goals of a body: `,` separates them
abbrev pub conjuncts : PlacedTerm → List PlacedTerm
conjuncts (comp f p (part a (part b no_parts))) = if bytes_eq f (codes ",") then conjuncts a ++ conjuncts b else comp f p (part a (part b no_parts)) ∷ []
conjuncts t = t ∷ []

abbrev pub behind_goal : Goal → Result FlatGoals ℕ → Result FlatGoals ℕ
behind_goal g (Ok q) = Ok (record q { constraints = g ∷ q.constraints })
behind_goal g (Err p) = Err p

-- The goals, of which the last one labels the variables below n, or the place of the first that breaks the form.
abbrev pub flat_goals : ℕ → ℕ → List PlacedTerm → Result FlatGoals ℕ
flat_goals M n [] = Err 0
flat_goals M n (t ∷ []) = labelling_of n (place t) (goal_of M t)
flat_goals M n (t ∷ u ∷ us) = if is_flat_goal M t (goal_of M t) then behind_goal (goal_of M t) (flat_goals M n (u ∷ us)) else Err (place t)

-- the places of the variables whose names begin with `_`
abbrev pub name_at : List Name → ℕ → Name
name_at names x = unwrap_or (slice_get names x) []

abbrev mutual
  pub hidden_places : List Name → PlacedTerm → List ℕ
  hidden_places names (var x p) = if is_shown (name_at names x) then [] else p ∷ []
  hidden_places names (int z p) = []
  hidden_places names (atom a p) = []
  hidden_places names (comp f p ts) = hidden_places_of names ts

  pub hidden_places_of : List Name → PlacedTerms → List ℕ
  hidden_places_of names no_parts = []
  hidden_places_of names (part t ts) = hidden_places names t ++ hidden_places_of names ts

abbrev pub first_hidden : Sentence → ℕ
first_hidden s = unwrap_or (least_place (hidden_places s.names s.term)) 0

abbrev pub with_goals : Query → FlatGoals → FlatQuery
with_goals q g = record { query = q; constraints = g.constraints; order = g.order; members = g.members }

-- where no variable's name begins with `_`
abbrev pub where_shown : Sentence → Query → Result FlatGoals ℕ → Result FlatQuery ℕ
where_shown s q (Ok g) = if list_all is_shown s.names then Ok (with_goals q g) else Err (first_hidden s)
where_shown s q (Err p) = Err p

abbrev pub flat_by : ℕ → Sentence → SentenceKind → Result FlatQuery ℕ
flat_by M s (query b) = where_shown s (query_of M s.names b) (flat_goals M (length s.names) (conjuncts b))
flat_by M s _ = Err 0

-- The query that the sentences of a text are, where they are one of the flat form, or the place where they break it: the first goal that does, then the first
-- variable whose name begins with `_`.
abbrev pub flat_query : ℕ → List Sentence → Result FlatQuery ℕ
flat_query M (s ∷ []) = flat_by M s (form_of s.term)
flat_query M _ = Err 0
