-- What is told of a query: that it has an answer, that it isn't known, or why it has none.
use Rattle.std.specs.Prelude.{◌≡◌, ℕ, zero, suc, ◌+◌, ◌-◌, ◌/◌, ◌⊎◌, ◌==◌, Bool, true, false, List, [], ◌∷◌, ◌++◌, length, take, count_by, max, codes, decimal, chars}
use Rattle.std.specs.List.{after_last}
use Rattle.std.specs.Str.Lossy.{utf8_lossy}
use Rattle.fd_language.specs.Term.{Name}
use Rattle.fd_language.specs.PlacedTerm.{PlacedTerm, place, plain}
use Rattle.fd_language.specs.TermTexts.{Quoted, term_text}
use Rattle.fd_model.specs.Goal.{Program, Query}
use Rattle.fd_model.specs.Lines.{line, event_bytes}
use Rattle.reason_meaning.specs.FewerGoals.{kept, without, all_kept, looked_at, IsWithin}
use Rattle.reason_meaning.specs.Outcomes.{Outcome, answered, unanswered, stopped, HasOutcome}
use Rattle.reason_meaning.specs.Reasons.{IsReason}
use Rattle.reason_meaning.specs.Staying.{Choice, staying, told, untold, both}
use Rattle.reason_meaning.specs.TextQueries.{TextQuery}

-- ---- goals as they stand in the text

abbrev pub is_newline : ℕ → Bool
is_newline b = b == 10

-- one more than the newlines before a place
abbrev pub line_number : List ℕ → ℕ → ℕ
line_number text p = 1 + count_by is_newline (take p text)

-- one more than the characters of the line before a place
abbrev pub column_number : List ℕ → ℕ → ℕ
column_number text p = 1 + length (chars (utf8_lossy (after_last is_newline (take p text))))

abbrev pub place_text : List ℕ → ℕ → List ℕ
place_text text p = decimal (line_number text p) ++ (codes ":" ++ decimal (column_number text p))

-- the variable's name
abbrev pub name_at : List Name → ℕ → List ℕ
name_at [] v = []
name_at (n ∷ ns) zero = n
name_at (n ∷ ns) (suc v) = name_at ns v

-- line and column of a goal's principal token, and the goal with its variables' own names
abbrev pub goal_line : List ℕ → List Name → PlacedTerm → List ℕ
goal_line text names t = line (place_text text (place t) ++ (codes ": " ++ term_text Quoted (name_at names) 999 (plain t)))

-- a text, the goals of a query as they stand in it, and the names of the query's variables
pub record Source : Type 0 where
  pub text : List ℕ
  pub names : List Name
  pub terms : List PlacedTerm

-- ---- reasons

-- Behind a told goal, by the outcome of the reason without it and that of the whole query without it. Nothing is said where the query still has no answer.
abbrev pub remark : Outcome → Outcome → List ℕ
remark unanswered y = []
remark (stopped e) y = codes "  not left out: " ++ event_bytes e
remark (answered l) unanswered = []
remark (answered l) (answered m) = codes "  without it: " ++ line m
remark (answered l) (stopped e) = codes "  without it: " ++ event_bytes e

abbrev pub counted : List Bool → List ℕ
counted ks = decimal (count_by (λ b. b) ks)

-- of a query of which these goals stay, where each run may take n goals
module _ (M N n : ℕ) (prog : Program) (q : Query) (stays : List Bool) (src : Source) where
  -- the lines of the told goals of a reason ks; the first of the goals still to be told has the number i
  pub GoalLines : List Bool → ℕ → List Bool → List PlacedTerm → List ℕ → Type 0
  GoalLines ks i [] ts out = out ≡ []
  GoalLines ks i (k ∷ more) [] out = out ≡ []
  GoalLines ks i (false ∷ more) (t ∷ ts) out = GoalLines ks (suc i) more ts out
  GoalLines ks i (true ∷ more) (t ∷ ts) out =
      (x : Outcome) × (y : Outcome) × (rest : List ℕ)
      × HasOutcome M N n prog q (kept (without i ks) q.goals) x
      × HasOutcome M N n prog q (kept (without i (all_kept q.goals)) q.goals) y
      × GoalLines ks (suc i) more ts rest
      × (out ≡ goal_line src.text src.names t ++ (remark x y ++ rest))

  -- the goals that may be left out
  abbrev pub candidates : List Bool
  candidates = told stays (all_kept q.goals)

  abbrev pub reason_line : List Bool → List ℕ
  reason_line ks = line (codes "no answer, by " ++ (counted (told stays ks) ++ (codes " of " ++ (counted candidates ++ codes " goals"))))

  -- the lines of a reason
  pub record ReasonLines (ks : List Bool) (out : List ℕ) : Type 0 where
    pub reason : IsReason M N n prog q stays ks
    pub lines : List ℕ
    pub goals : GoalLines ks 0 (told stays ks) src.terms lines
    pub bytes : out ≡ reason_line ks ++ lines

  -- all goals but the told ones of these reasons
  abbrev pub left_over : List (List Bool) → List Bool
  left_over [] = all_kept q.goals
  left_over (ks ∷ kss) = both (untold stays ks) (left_over kss)

  -- whether the last reason told no goal: what stays has no answer by itself
  abbrev pub told_nothing : List (List Bool) → Bool
  told_nothing [] = false
  told_nothing (ks ∷ kss) = count_by (λ b. b) (told stays ks) == 0

  -- So many reasons more, with no told goal that one of kss or of each other has. Fewer only where the goals that are left aren't known to have no answer, or the last
  -- reason told no goal.
  pub MoreLines : ℕ → List (List Bool) → List ℕ → Type 0
  MoreLines zero kss out = out ≡ []
  MoreLines (suc r) kss out = ((told_nothing kss ≡ true) × (out ≡ [])) ⊎ ((told_nothing kss ≡ false) × (
      ((o : Outcome) × HasOutcome M N n prog q (kept (left_over kss) q.goals) o × (o ≡ unanswered → ⊥) × (out ≡ []))
      ⊎ ((ks : List Bool) × (here : List ℕ) × (rest : List ℕ)
      × IsWithin ks (left_over kss) × ReasonLines ks here × MoreLines r (ks ∷ kss) rest × (out ≡ here ++ rest))))

  -- By the query's own outcome: where it has no answer a reason is told, and r more.
  pub OutcomeLines : ℕ → Outcome → List ℕ → Type 0
  OutcomeLines r (answered l) out = out ≡ codes "has an answer: " ++ line l
  OutcomeLines r (stopped e) out = out ≡ codes "not known: " ++ event_bytes e
  OutcomeLines r unanswered out = (ks : List Bool) × (here : List ℕ) × (rest : List ℕ) × ReasonLines ks here × MoreLines r (ks ∷ []) rest × (out ≡ here ++ rest)

-- ---- queries

-- how many goals each run may take but a query's own, which may take n: a tenth, and one at least
abbrev pub trial_steps : ℕ → ℕ
trial_steps n = max 1 (n / 10)

-- a query of the text, with the goals that stay
abbrev pub source_of : List ℕ → TextQuery → Source
source_of text t = record { text = text; names = t.names; terms = t.terms }

abbrev pub staying_in : Choice → TextQuery → List Bool
staying_in c t = staying c t.terms t.query.goals

-- What is told of a query of the text that has this outcome, with up to r reasons. Its own run may take n goals.
pub record QueryTold (M N n r : ℕ) (c : Choice) (prog : Program) (text : List ℕ) (t : TextQuery) (o : Outcome) (out : List ℕ) : Type 0 where
  pub own : HasOutcome M N n prog (looked_at t.query) (looked_at t.query).goals o
  pub lines : List ℕ
  pub told : OutcomeLines M N (trial_steps n) prog (looked_at t.query) (staying_in c t) (source_of text t) (r - 1) o lines
  pub bytes : out ≡ line (codes "query " ++ decimal t.number) ++ lines
