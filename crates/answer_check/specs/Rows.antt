-- Answer lines read from the front, and the answers that are kept.
use Rattle.std.specs.Prelude.{◌≡◌, ℕ, ◌≤◌, ◌&&◌, not, nat_le, nat_eq, Bool, true, false, List, [], ◌∷◌, ◌++◌, length, drop, All, Option, Some, None, option_map}
use Rattle.std.specs.Prelude.{option_and_then, Result, Ok, codes, decimal, if◌then◌else◌}
use Rattle.std.specs.List.{starts_with, before_first}
use Rattle.std.specs.Char.{is_ascii_digit}
use Rattle.std.specs.Str.{bytes_eq}
use Rattle.std.specs.Str.Parse.{digits_value}
use Rattle.fd_language.specs.declared.TheConstants.{INFINITY}
use Rattle.fd_language.specs.Term.{Name}
use Rattle.fd_model.specs.Goal.{Query}
use Rattle.answer_check.specs.declared.listed_answers.Answers.{Answers}
use Rattle.answer_check.specs.declared.outcome.Reason.TheVariants.{BadAnswer}
use Rattle.answer_check.specs.declared.outcome.Stop.{Stop}
use Rattle.answer_check.specs.AnswerLines.{AreAnswers}
use Rattle.answer_check.specs.Goals.{StopsAt}

-- what stands behind a front
abbrev pub behind : List ℕ → List ℕ → Option (List ℕ)
behind front bytes = if starts_with nat_eq bytes front then Some (drop (length front) bytes) else None

-- the number that bytes write in decimal
abbrev pub number_in : List ℕ → Option ℕ
number_in bytes =
    let n = digits_value 10 bytes in
    if bytes_eq (decimal n) bytes && nat_le n INFINITY then Some n else None

-- the digits in front
abbrev pub digits_of : List ℕ → List ℕ
digits_of bytes = before_first (λ b. not (is_ascii_digit b)) bytes

abbrev pub with_rest : List ℕ → ℕ → ℕ × List ℕ
with_rest rest n = (n, rest)

-- of bytes behind ` = `: a number, and what stands behind its digits
abbrev pub number_and_rest : List ℕ → Option (ℕ × List ℕ)
number_and_rest bytes = option_map (with_rest (drop (length (digits_of bytes)) bytes)) (number_in (digits_of bytes))

-- the number that a variable with this name is given in front, and what stands behind it
abbrev pub value_in : List ℕ → Name → List ℕ → Option (ℕ × List ℕ)
value_in between name bytes =
    option_and_then (λ named. option_and_then (λ equals. option_and_then (λ rest. number_and_rest rest)
    (behind (codes " = ") equals)) (behind name named)) (behind between bytes)

-- the numbers of all variables with these names, up to the end of the line
abbrev pub values_in : List ℕ → List Name → List ℕ → Option (List ℕ)
values_in between [] bytes = if bytes_eq bytes (codes "\n") then Some [] else None
values_in between (n ∷ ns) bytes = option_and_then (λ v. option_map (λ vs. v.0 ∷ vs) (values_in (codes ", ") ns v.1)) (value_in between n bytes)

abbrev pub answer_in : List Name → List ℕ → Option (List ℕ)
answer_in [] line = if bytes_eq line (codes "true\n") then Some [] else None
answer_in (n ∷ ns) line = values_in [] (n ∷ ns) line

-- the numbers of a line behind others, where it is an answer
abbrev pub IsRead : Option (List ℕ) → List ℕ → List ℕ → Bool → Type 0
IsRead o old new true = (ns : List ℕ) × (o ≡ Some ns) × (new ≡ old ++ ns)
IsRead o old new false = o ≡ None

-- ---- the answers that are kept

abbrev pub all_values : List (List ℕ) → List ℕ
all_values [] = []
all_values (ns ∷ nss) = ns ++ all_values nss

pub record AreRows (n : ℕ) (nss : List (List ℕ)) (values : List ℕ) (count : ℕ) : Type 0 where
  pub values_are : values ≡ all_values nss
  pub count_is : count ≡ length nss
  pub lengths : All (λ ns. length ns ≡ n) nss
  pub within : All (All (λ k. k ≤ INFINITY)) nss

abbrev pub Keeps : ℕ → List (List ℕ) → Answers → Type 0
Keeps n nss a = (a.variables ≡ n) × AreRows n nss a.values.items a.count

-- the answers in the lines, of which the first begins at a place
abbrev pub FindsRows : Query → ℕ → List (List ℕ) → Answers → Type 0
FindsRows q at ls a = (nss : List (List ℕ)) × AreAnswers INFINITY q at ls (Ok nss) × Keeps q.variables nss a

abbrev pub StopsRows : Query → ℕ → List (List ℕ) → Stop → Type 0
StopsRows q at ls s = (r : Result (List (List ℕ)) ℕ) × AreAnswers INFINITY q at ls r × StopsAt r BadAnswer s
