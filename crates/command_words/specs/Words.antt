-- What the words of the command line ask for.
use Rattle.std.specs.Prelude.{ℕ, ◌==◌, ◌&&◌, Bool, true, false, not, List, [], ◌∷◌, Option, Some}
use Rattle.std.specs.Prelude.{None, is_some, unwrap_or, option_and_then, if◌then◌else◌, nat_le}
use Rattle.std.specs.Prelude.{codes}
use Rattle.std.specs.Str.{all_ascii_digits, bytes_eq}
use Rattle.std.specs.Str.Parse.{digits_value}
use Rattle.clap.specs.Words.{App, Rule, Text, first_of, matches_of, new_app, new_rule, takes}
use Rattle.clap.specs.Words.{with_rule}
use Rattle.clap.specs.Simple.{on_top}
use Rattle.clap.specs.declared.builder.action.ArgAction.TheVariants.{Set}
use Rattle.fd_language.specs.declared.TheConstants.{INFINITY}
use Rattle.fd_model.specs.Output.{Options}
use Rattle.command_words.specs.declared.Options as out
use Rattle.command_words.specs.declared.AgendaName.{AgendaName}
use Rattle.command_words.specs.declared.AgendaName.TheVariants.{Fifo, Cheapest}

-- ---- the form

-- the number that decimal digits write, where no 0 stands first and the number lies in a range
abbrev pub number_in : ℕ → ℕ → Text → Option ℕ
number_in low high [] = None
number_in low high (d ∷ ds) =
    if not (d == 48) && (all_ascii_digits (d ∷ ds)
    && (nat_le low (digits_value 10 (d ∷ ds)) && nat_le (digits_value 10 (d ∷ ds)) high))
    then Some (digits_value 10 (d ∷ ds)) else None

-- the numbers of reductions and of answers that may be asked for, the greatest numbers that a variable may have, and the sizes of generated texts
abbrev pub limit_in : Text → Option ℕ
limit_in = number_in 1 1000000000000

abbrev pub infinity_in : Text → Option ℕ
infinity_in = number_in 1 INFINITY

abbrev pub size_in : Text → Option ℕ
size_in = number_in 4 12

-- an agenda by its name
abbrev pub agenda_in : Text → Option AgendaName
agenda_in value = if bytes_eq value (codes "fifo") then Some Fifo
    else (if bytes_eq value (codes "cheapest") then Some Cheapest else None)

-- the name is an option's, and the value is one of that option
abbrev pub is_choice : Text → Text → Bool
is_choice name value =
    if bytes_eq name (codes "--steps") then is_some (limit_in value)
    else (if bytes_eq name (codes "--answers") then is_some (limit_in value)
    else (if bytes_eq name (codes "--agenda") then is_some (agenda_in value)
    else (if bytes_eq name (codes "--infinity") then is_some (infinity_in value)
    else (if bytes_eq name (codes "--gen") then is_some (size_in value) else false))))

-- in words that stand in pairs, the value behind the first such name
abbrev pub value_behind : Text → List Text → Option Text
value_behind name [] = None
value_behind name (w ∷ []) = None
value_behind name (w ∷ v ∷ rest) = if bytes_eq w name then Some v else value_behind name rest

-- the words are pairs of an option's name and a value of it, and no name stands twice
abbrev pub has_form : List Text → Bool
has_form [] = true
has_form (name ∷ []) = false
has_form (name ∷ value ∷ rest) =
    is_choice name value && (not (is_some (value_behind name rest)) && has_form rest)

-- ---- the command

-- an option that is spelled as its id behind `--`, and takes one value
abbrev pub option_rule : Text → Rule
option_rule id = record (new_rule id) { long = Some id; action = Some Set }

-- no word is the program's name, and there are no flags for help and the version
abbrev pub bare_app : App
bare_app = on_top (λ s. record s {
  no_binary_name = true;
  disable_help_flag = true;
  disable_version_flag = true;
}) (new_app (codes "clpfd"))

abbrev pub command_app : App
command_app = with_rule (with_rule (with_rule (with_rule (with_rule bare_app (option_rule (codes "steps")))
    (option_rule (codes "answers"))) (option_rule (codes "agenda"))) (option_rule (codes "infinity"))) (option_rule (codes "gen"))

-- ---- what is asked for

-- the options of an output, by the values that the program's options are given
abbrev pub options_by : (Text → Option Text) → Options
options_by given = record {
  steps = unwrap_or (option_and_then limit_in (given (codes "steps"))) 1000000;
  answers = option_and_then limit_in (given (codes "answers"));
  infinity = unwrap_or (option_and_then infinity_in (given (codes "infinity"))) INFINITY;
  generate = option_and_then size_in (given (codes "gen"));
}

abbrev pub agenda_by : (Text → Option Text) → AgendaName
agenda_by given = unwrap_or (option_and_then agenda_in (given (codes "agenda"))) Fifo

-- the value of an option that clap finds among the words
abbrev pub found_value : List Text → Text → Option Text
found_value words id = first_of id (matches_of command_app words)

-- words are accepted that have the form and that clap takes
abbrev pub options_of : List Text → Option Options
options_of words = if has_form words && takes command_app words
    then Some (options_by (found_value words)) else None

abbrev pub agenda_of : List Text → AgendaName
agenda_of words = agenda_by (found_value words)

-- what is read, but for the agenda, which plays no part in an output
abbrev pub asked : out.Options → Options
asked o = record { steps = o.steps; answers = o.answers; infinity = o.infinity; generate = o.generate }
