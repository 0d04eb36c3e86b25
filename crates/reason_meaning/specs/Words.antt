-- What the words of the command line ask for.
use Rattle.std.specs.Prelude.{ℕ, ◌==◌, ◌&&◌, Bool, true, false, not, List, [], ◌∷◌, Option, Some, None, is_some, unwrap_or, option_and_then, if◌then◌else◌, nat_le, codes}
use Rattle.std.specs.List.{after_last, before_last, list_any}
use Rattle.std.specs.Str.{all_ascii_digits, bytes_eq}
use Rattle.std.specs.Str.Parse.{digits_value}
use Rattle.fd_model.specs.Refusals.{Functor, functor}
use Rattle.reason_meaning.specs.Staying.{Choice}

-- ---- values

-- the number that decimal digits write, where no 0 stands first and the number lies in a range
abbrev pub number_in : ℕ → ℕ → List ℕ → Option ℕ
number_in low high [] = None
number_in low high (d ∷ ds) =
    if not (d == 48) && (all_ascii_digits (d ∷ ds)
    && (nat_le low (digits_value 10 (d ∷ ds)) && nat_le (digits_value 10 (d ∷ ds)) high))
    then Some (digits_value 10 (d ∷ ds)) else None

-- the numbers of queries and of goals, the numbers of reasons, and the greatest numbers that a variable may have
abbrev pub limit_in : List ℕ → Option ℕ
limit_in = number_in 1 1000000000000

abbrev pub reasons_in : List ℕ → Option ℕ
reasons_in = number_in 1 1000000

abbrev pub infinity_in : ℕ → List ℕ → Option ℕ
infinity_in M = number_in 1 M

-- a number of arguments
abbrev pub arity_in : List ℕ → Option ℕ
arity_in value = if bytes_eq value (codes "0") then Some 0 else number_in 1 255 value

abbrev pub is_slash : ℕ → Bool
is_slash b = b == 47

abbrev pub is_comma : ℕ → Bool
is_comma b = b == 44

abbrev pub named : List ℕ → Option ℕ → Option Functor
named [] arity = None
named name None = None
named (b ∷ bs) (Some n) = Some (functor (b ∷ bs) n)

-- `P/A`: a name, a slash, and a number of arguments; the name is what stands before the last slash
abbrev pub functor_in : List ℕ → Option Functor
functor_in value = if list_any is_slash value then named (before_last is_slash value) (arity_in (after_last is_slash value)) else None

-- the byte begins the first of the pieces
abbrev pub onto_first : ℕ → List (List ℕ) → List (List ℕ)
onto_first b [] = (b ∷ []) ∷ []
onto_first b (p ∷ ps) = (b ∷ p) ∷ ps

-- what stands between commas
abbrev pub between_commas : List ℕ → List (List ℕ)
between_commas [] = [] ∷ []
between_commas (b ∷ bs) = if is_comma b then [] ∷ between_commas bs else onto_first b (between_commas bs)

abbrev pub with_first : Option Functor → Option (List Functor) → Option (List Functor)
with_first None fs = None
with_first (Some f) None = None
with_first (Some f) (Some fs) = Some (f ∷ fs)

-- each is one
abbrev pub all_functors : List (List ℕ) → Option (List Functor)
all_functors [] = Some []
all_functors (p ∷ ps) = with_first (functor_in p) (all_functors ps)

-- `P/A,..`: one at least
abbrev pub functors_in : List ℕ → Option (List Functor)
functors_in value = all_functors (between_commas value)

-- ---- the form

-- the name is an option's, and the value is one of that option
abbrev pub is_choice : ℕ → List ℕ → List ℕ → Bool
is_choice M name value =
    if bytes_eq name (codes "--query") then is_some (limit_in value)
    else (if bytes_eq name (codes "--steps") then is_some (limit_in value)
    else (if bytes_eq name (codes "--infinity") then is_some (infinity_in M value)
    else (if bytes_eq name (codes "--more") then is_some (reasons_in value)
    else (if bytes_eq name (codes "--keep") then is_some (functors_in value)
    else (if bytes_eq name (codes "--only") then is_some (functors_in value) else false)))))

-- in words that stand in pairs, the value behind the first such name
abbrev pub value_behind : List ℕ → List (List ℕ) → Option (List ℕ)
value_behind name [] = None
value_behind name (w ∷ []) = None
value_behind name (w ∷ v ∷ rest) = if bytes_eq w name then Some v else value_behind name rest

-- the words are pairs of an option's name and a value of it, and no name stands twice
abbrev pub has_form : ℕ → List (List ℕ) → Bool
has_form M [] = true
has_form M (name ∷ []) = false
has_form M (name ∷ value ∷ rest) = is_choice M name value && (not (is_some (value_behind name rest)) && has_form M rest)

-- ---- what is asked for

-- the number of the only query that is looked at, where one is named; how many goals a query's own run may take; the greatest number that a variable may have; how
-- many reasons are told at most; and which goals the words let stay
pub record Asked : Type 0 where
  pub query : Option ℕ
  pub steps : ℕ
  pub infinity : ℕ
  pub reasons : ℕ
  pub choice : Choice

-- M is the greatest number of the universe
abbrev pub asked_by : ℕ → (List ℕ → Option (List ℕ)) → Asked
asked_by M given = record {
  query = option_and_then limit_in (given (codes "--query"));
  steps = unwrap_or (option_and_then limit_in (given (codes "--steps"))) 1000000;
  infinity = unwrap_or (option_and_then (infinity_in M) (given (codes "--infinity"))) M;
  reasons = unwrap_or (option_and_then reasons_in (given (codes "--more"))) 1;
  choice = record {
    keep = unwrap_or (option_and_then functors_in (given (codes "--keep"))) [];
    only = option_and_then functors_in (given (codes "--only"));
  };
}

-- what is asked for, where the words have the form
abbrev pub asked_of : ℕ → List (List ℕ) → Option Asked
asked_of M words = if has_form M words then Some (asked_by M (λ name. value_behind name words)) else None
