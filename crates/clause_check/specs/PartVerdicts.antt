-- How the parts of a text are accepted or refused. N is the greatest number that a variable may have.
use Rattle.std.specs.Prelude.{◌≡◌, ℕ, Option, None}
use Rattle.fd_language.specs.PlacedTerm.{place}
use Rattle.fd_language.specs.declared.TheConstants.{INFINITY}
use Rattle.fd_model.specs.Refusals.{form_refusal, goal_refusal, goals_of, goals_refusal, head_refusal, clause_refusal, sentence_refusal, first_refusal}
use Rattle.term_pool.specs.declared.TermId.{TermId}
use Rattle.term_pool.specs.Contents.{Contents}
use Rattle.term_pool.specs.PlacedTerms.{placed_of}
use Rattle.term_reader.specs.declared.reader.Sentence.{Sentence}
use Rattle.term_reader.specs.declared.reader.Sentences.{Sentences}
use Rattle.clause_check.specs.declared.faults.Cause.{Cause}
use Rattle.clause_check.specs.declared.faults.Fault.{Fault}
use Rattle.clause_check.specs.declared.forms.GoalKind.{GoalKind}
use Rattle.clause_check.specs.declared.goals.Task.{Task}
use Rattle.clause_check.specs.declared.terms.SentenceForm.{SentenceForm}
use Rattle.clause_check.specs.Causes.{IsCauseOf, RefusedBy}
use Rattle.clause_check.specs.Forms.{form_seen}
use Rattle.clause_check.specs.GoalStores.{ahead}
use Rattle.clause_check.specs.Terms.{terms_of, form_in}

-- a goal of the language
abbrev pub AcceptsForm : ℕ → Contents → TermId → GoalKind → Type 0
AcceptsForm N c t form = form_refusal INFINITY N (placed_of c t) (form_seen form) ≡ None

abbrev pub RefusesForm : ℕ → Contents → TermId → GoalKind → Fault → Type 0
RefusesForm N c t form e = RefusedBy c (form_refusal INFINITY N (placed_of c t) (form_seen form)) e

-- any goal
abbrev pub AcceptsGoal : ℕ → Sentences → TermId → Type 0
AcceptsGoal N s t = goal_refusal INFINITY N (terms_of s) (placed_of s.pool t) ≡ None

abbrev pub RefusesGoal : ℕ → Sentences → TermId → Fault → Type 0
RefusesGoal N s t e = RefusedBy s.pool (goal_refusal INFINITY N (terms_of s) (placed_of s.pool t)) e

-- the goals of a body, and those that a task looks at
abbrev pub RefusesBody : ℕ → Sentences → TermId → Fault → Type 0
RefusesBody N s t e = RefusedBy s.pool (goals_refusal INFINITY N (terms_of s) (goals_of (placed_of s.pool t))) e

abbrev pub RefusesTask : ℕ → Sentences → Task → Fault → Type 0
RefusesTask N s task e = RefusedBy s.pool (goals_refusal INFINITY N (terms_of s) (ahead s.pool task)) e

-- a sentence of this form
abbrev pub RefusesAs : ℕ → Sentences → Sentence → SentenceForm → Fault → Type 0
RefusesAs N s x form e = RefusedBy s.pool (clause_refusal INFINITY N (terms_of s) (placed_of s.pool x.term) (form_in s.pool form)) e

abbrev pub RefusesSentence : ℕ → Sentences → Sentence → Fault → Type 0
RefusesSentence N s x e = RefusedBy s.pool (sentence_refusal INFINITY N (terms_of s) (placed_of s.pool x.term)) e

-- the cause of the refusal of a head, where there is one
abbrev pub IsHeadCause : Contents → TermId → Option Cause → Type 0
IsHeadCause c head k = IsCauseOf c (head_refusal (placed_of c head)) (place (placed_of c head)) k

-- the whole text
abbrev pub AcceptsText : ℕ → Sentences → Type 0
AcceptsText N s = first_refusal INFINITY N (terms_of s) (terms_of s) ≡ None

abbrev pub RefusesText : ℕ → Sentences → Fault → Type 0
RefusesText N s e = RefusedBy s.pool (first_refusal INFINITY N (terms_of s) (terms_of s)) e
