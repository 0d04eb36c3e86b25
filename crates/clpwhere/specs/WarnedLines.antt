-- What is written of a text that is looked through for warnings, and with which status.
use Rattle.std.specs.Prelude.{◌≡◌, ◌⊎◌, ℕ, ◌<◌, ◌≤◌, List, [], ◌∷◌, ◌++◌, length, Option, Some, None, codes}
use Rattle.std.specs.List.{flat_map}
use Rattle.std.specs.Option.{option_map_or}
use Rattle.std.specs.Str.{IsUtf8}
use Rattle.std.specs.Str.Lossy.{utf8_valid_len}
use Rattle.fd_language.specs.Reading.{Sentence, Reading, sentences, token_fault, syntax_fault, too_deep, IsReading}
use Rattle.fd_model.specs.Refusals.{Refusal, refused_at, functor_name}
use Rattle.fd_model.specs.Verdict.{max_text, cause_name}
use Rattle.text_warnings.specs.Warnings.{Concern, single, apart, two_files, unreached, below_zero, empty_range, unevaluated, open_test, open_negation}
use Rattle.text_warnings.specs.Warnings.{Warning, AreWarnings}
use Rattle.clpwhere.specs.declared.outcome.Status.{Status}
use Rattle.clpwhere.specs.declared.outcome.Status.TheVariants.{Done, Refused, Warned}
use Rattle.clpwhere.specs.Parts.{TextParts}
use Rattle.clpwhere.specs.Files.{joined, begins, file_place}
use Rattle.clpwhere.specs.MarkedLines.{place_line, told_at}

-- what a warning says
abbrev pub concern_words : Concern → List ℕ
concern_words (single name) = name ++ codes " occurs once"
concern_words (apart f) = codes "the clauses of " ++ (functor_name f ++ codes " don't stand together")
concern_words (two_files f) = functor_name f ++ codes " has clauses in two files"
concern_words (unreached f) = codes "no query reaches " ++ functor_name f
concern_words below_zero = codes "a number below 0"
concern_words empty_range = codes "an empty range"
concern_words unevaluated = codes "= doesn't compute"
concern_words (open_test name) = name ++ codes " has only a domain here"
concern_words (open_negation name) = codes "\\+ over " ++ (name ++ codes ", which has only a domain")

abbrev pub warned_words : Concern → List ℕ
warned_words concern = codes "warning: " ++ concern_words concern

-- the sentence that explains it
abbrev pub concern_sentence : Concern → List ℕ
concern_sentence (single name) = codes "This variable stands in no other place of its clause: is it spelled right? A name that begins with _ may occur once."
concern_sentence (apart f) = codes "This clause belongs to those of its predicate above, and clauses of other predicates stand between them."
concern_sentence (two_files f) = codes "An earlier file has clauses of this predicate too: those of both belong to it, in the order of the files."
concern_sentence (unreached f) = codes "No query of the text calls this predicate, and no clause that a query reaches does."
concern_sentence below_zero = codes "Variables have the numbers 0 to 268435455: those below 0 are lost here, or there is no answer."
concern_sentence empty_range = codes "The first number of this range is over its last one, so it has no number at all."
concern_sentence unevaluated = codes "The sign = makes both sides one term and computes nothing: of numbers write #= as a constraint, or is for a value."
concern_sentence (open_test name) = codes "An arithmetic test needs the value of the variable: write it as a constraint, as #>, or label first."
concern_sentence (open_negation name) = codes "\\+ asks whether the goal has no answer at all, and doesn't hold where some value of the variable makes it true: write the opposite constraint, as #\\=."

-- a warning in four lines, at a place of a file
abbrev pub told_concern : Concern → TextParts → ℕ → List ℕ
told_concern concern file place = told_at file place (warned_words concern) (concern_sentence concern)

-- at its place in the text that files make
abbrev pub warned : List TextParts → Warning → List ℕ
warned files w = option_map_or (λ p. told_concern w.concern p.file p.place) (file_place files w.place) []

abbrev pub warned_lines : List TextParts → List Warning → List ℕ
warned_lines files ws = flat_map (warned files) ws

abbrev pub warned_status : List Warning → Status
warned_status [] = Done
warned_status (w ∷ ws) = Warned

-- the first fault of a text that isn't read as sentences
abbrev pub reading_fault : Reading → Option Refusal
reading_fault (sentences ss) = None
reading_fault (token_fault cause place) = Some (refused_at place (cause_name cause))
reading_fault (syntax_fault place) = Some (refused_at place (codes "syntax"))
reading_fault (too_deep place) = Some (refused_at place (codes "too deep"))

-- The text isn't read as sentences. Its size decides first, then whether the bytes are UTF-8, then tokens and grammar.
abbrev pub IsUnread : List ℕ → Refusal → Type 0
IsUnread text r =
    ((max_text < length text) × (r ≡ refused_at max_text (codes "too large")))
    ⊎ (((length text ≤ max_text) × (IsUtf8 text → ⊥) × (r ≡ refused_at (utf8_valid_len text) (codes "not UTF-8")))
    ⊎ ((length text ≤ max_text) × IsUtf8 text × ((v : Reading) × IsReading text v × (reading_fault v ≡ Some r))))

-- the one line of files that make such a text
abbrev pub refused_line : List TextParts → Refusal → List ℕ
refused_line files r = option_map_or (λ p. place_line p.file p.place (codes "refused: " ++ r.reason)) (file_place files r.place) []

-- the text is read as these sentences
pub record IsReadAs (text : List ℕ) (ss : List Sentence) : Type 0 where
  pub size : length text ≤ max_text
  pub utf8 : IsUtf8 text
  pub reading : IsReading text (sentences ss)

-- what is written of the text that files make, and the status: the one line of a text that isn't read, and else its warnings
abbrev pub IsWarned : List TextParts → List ℕ → Status → Type 0
IsWarned files out status =
    ((r : Refusal) × IsUnread (joined files) r × (out ≡ refused_line files r) × (status ≡ Refused))
    ⊎ ((ss : List Sentence) × (ws : List Warning) × IsReadAs (joined files) ss × AreWarnings (begins files) ss ws
    × (out ≡ warned_lines files ws) × (status ≡ warned_status ws))
