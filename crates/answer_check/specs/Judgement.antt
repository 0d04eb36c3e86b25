-- What is said of an input: that it is refused, or which goal each answer breaks first and whether the answers rise.
use Rattle.std.specs.Prelude.{◌≡◌, ℕ, suc, ◌<◌, ◌≤◌, Bool, true, false, ◌&&◌, List, [], ◌∷◌, ◌++◌, length, map, Option, Some, None, is_none, Result, Ok, Err}
use Rattle.std.specs.Prelude.{codes, decimal, ◌⊎◌}
use Rattle.std.specs.List.{list_all}
use Rattle.std.specs.Str.{IsUtf8}
use Rattle.std.specs.Str.Lossy.{utf8_valid_len}
use Rattle.fd_language.specs.Reading.{Reading, sentences, token_fault, syntax_fault, too_deep, IsReading}
use Rattle.fd_model.specs.declared.kinds.Order.{Order}
use Rattle.fd_model.specs.declared.kinds.Order.TheVariants.{Leftmost, FirstFail}
use Rattle.fd_model.specs.Answers.{Precedes}
use Rattle.fd_model.specs.FlatQueries.{IsSatisfied}
use Rattle.fd_model.specs.Goal.{Goal}
use Rattle.fd_model.specs.Labelling.{open_ones}
use Rattle.fd_model.specs.Lines.{line}
use Rattle.fd_model.specs.Output.{refusal}
use Rattle.fd_model.specs.Satisfaction.{Assignment}
use Rattle.fd_model.specs.Verdict.{max_text, cause_name}
use Rattle.answer_check.specs.declared.outcome.CheckStatus.{CheckStatus}
use Rattle.answer_check.specs.declared.outcome.CheckStatus.TheVariants as status
use Rattle.answer_check.specs.AnswerLines.{assigned, AreAnswers}
use Rattle.answer_check.specs.FlatForm.{FlatQuery, flat_query}
use Rattle.answer_check.specs.Parts.{Parts, parts_of, place_behind}

-- the answers rise, or the number of the first that isn't behind the one before, or any order is right
pub data OrderVerdict : Type 0 where
  rising free : OrderVerdict
  not_rising : ℕ → OrderVerdict

-- a place and a reason, or for each answer the number of the first goal that it breaks, and the order
pub data Judgement : Type 0 where
  refused : ℕ → List ℕ → Judgement
  judged : List (Option ℕ) → OrderVerdict → Judgement

-- ---- answers

-- the number of the first goal that the assignment breaks, where the first goal has the number n, and none where it breaks none
abbrev pub IsFirstBroken : ℕ → Assignment → ℕ → List Goal → Option ℕ → Type 0
IsFirstBroken M a n [] o = o ≡ None
IsFirstBroken M a n (g ∷ gs) o =
    (IsSatisfied M M a g × IsFirstBroken M a (suc n) gs o)
    ⊎ ((IsSatisfied M M a g → ⊥) × (o ≡ Some n))

-- of each answer
abbrev pub EachFirstBroken : ℕ → List Goal → List (List ℕ) → List (Option ℕ) → Type 0
EachFirstBroken M gs [] vs = vs ≡ []
EachFirstBroken M gs (ns ∷ nss) [] = ⊥
EachFirstBroken M gs (ns ∷ nss) (v ∷ vs) = IsFirstBroken M (assigned ns) 1 gs v × EachFirstBroken M gs nss vs

-- the values of variables in an answer
abbrev pub values_of : List ℕ → List ℕ → List ℕ
values_of xs ns = map (assigned ns) xs

abbrev pub order_by : Option ℕ → OrderVerdict
order_by None = rising
order_by (Some k) = not_rising k

-- the number of the first answer whose values of xs don't come behind those of the one before, where the answer behind ns has the number k
abbrev pub IsFirstFalling : List ℕ → List ℕ → ℕ → List (List ℕ) → Option ℕ → Type 0
IsFirstFalling xs ns k [] o = o ≡ None
IsFirstFalling xs ns k (ms ∷ mss) o =
    (Precedes (values_of xs ns) (values_of xs ms) × IsFirstFalling xs ms (suc k) mss o)
    ⊎ ((Precedes (values_of xs ns) (values_of xs ms) → ⊥) × (o ≡ Some k))

abbrev pub IsRisingBy : List ℕ → List (List ℕ) → OrderVerdict → Type 0
IsRisingBy xs [] v = v ≡ rising
IsRisingBy xs (ns ∷ nss) v = (o : Option ℕ) × IsFirstFalling xs ns 2 nss o × (v ≡ order_by o)

-- by the variables of the labelled list, where the leftmost is taken first
abbrev pub IsOrderOf : Order → List ℕ → List (List ℕ) → OrderVerdict → Type 0
IsOrderOf Leftmost xs nss v = IsRisingBy xs nss v
IsOrderOf FirstFail xs nss v = v ≡ free

-- ---- inputs

abbrev pub JudgesAnswers : ℕ → FlatQuery → Result (List (List ℕ)) ℕ → Judgement → Type 0
JudgesAnswers M f (Err p) j = j ≡ refused p (codes "bad answer")
JudgesAnswers M f (Ok nss) j =
    (vs : List (Option ℕ)) × (v : OrderVerdict) × EachFirstBroken M f.constraints nss vs × IsOrderOf f.order (open_ones f.members) nss v × (j ≡ judged vs v)

-- the lines of a query's answers, of which the first begins at a place
abbrev pub JudgesQuery : ℕ → ℕ → List (List ℕ) → Result FlatQuery ℕ → Judgement → Type 0
JudgesQuery M at ls (Err p) j = j ≡ refused p (codes "not flat")
JudgesQuery M at ls (Ok f) j = (r : Result (List (List ℕ)) ℕ) × AreAnswers M f.query at ls r × JudgesAnswers M f r j

abbrev pub JudgesReading : ℕ → ℕ → List (List ℕ) → Reading → Judgement → Type 0
JudgesReading M at ls (sentences ss) j = JudgesQuery M at ls (flat_query M ss) j
JudgesReading M at ls (token_fault cause place) j = j ≡ refused place (cause_name cause)
JudgesReading M at ls (syntax_fault place) j = j ≡ refused place (codes "syntax")
JudgesReading M at ls (too_deep place) j = j ≡ refused place (codes "too deep")

-- an input of this size with these parts
abbrev pub JudgesParts : ℕ → ℕ → Option Parts → Judgement → Type 0
JudgesParts M size None j = j ≡ refused size (codes "no answers")
JudgesParts M size (Some p) j = (r : Reading) × IsReading p.text r × JudgesReading M (place_behind p) p.lines r j

-- The size decides first, then whether the bytes are UTF-8, then whether there is a second part, then the tokens and the grammar of the first, then the flat
-- form, then the lines of the second.
abbrev pub IsJudged : ℕ → List ℕ → Judgement → Type 0
IsJudged M input j =
    ((max_text < length input) × (j ≡ refused max_text (codes "too large")))
    ⊎ (((length input ≤ max_text) × (IsUtf8 input → ⊥) × (j ≡ refused (utf8_valid_len input) (codes "not UTF-8")))
    ⊎ ((length input ≤ max_text) × IsUtf8 input × JudgesParts M (length input) (parts_of input) j))

-- ---- what is written of a judgement, and its status

abbrev pub broken_text : Option ℕ → List ℕ
broken_text None = codes "yes"
broken_text (Some g) = codes "no " ++ decimal g

abbrev pub answer_line : ℕ → Option ℕ → List ℕ
answer_line k v = line (codes "answer " ++ (decimal k ++ (codes ": " ++ broken_text v)))

-- the lines of the answers from the number k on
abbrev pub answer_lines : ℕ → List (Option ℕ) → List ℕ
answer_lines k [] = []
answer_lines k (v ∷ vs) = answer_line k v ++ answer_lines (suc k) vs

abbrev pub order_text : OrderVerdict → List ℕ
order_text rising = codes "rising"
order_text free = codes "free"
order_text (not_rising k) = codes "not rising at " ++ decimal k

abbrev pub judgement_output : Judgement → List ℕ
judgement_output (refused place reason) = refusal place reason
judgement_output (judged vs v) = answer_lines 1 vs ++ line (codes "order: " ++ order_text v)

abbrev pub is_in_order : OrderVerdict → Bool
is_in_order rising = true
is_in_order free = true
is_in_order (not_rising k) = false

abbrev pub good_status : Bool → CheckStatus
good_status true = status.Good
good_status false = status.Bad

abbrev pub judgement_status : Judgement → CheckStatus
judgement_status (refused place reason) = status.Refused
judgement_status (judged vs v) = good_status (list_all is_none vs && is_in_order v)
