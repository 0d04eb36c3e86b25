-- What is written of each line of the input, and of the whole.
use Rattle.std.specs.Prelude.{◌≡◌, ◌||◌, ℕ, Bool, false, List, [], ◌∷◌, ◌++◌, drop, Option, is_some, unwrap_or, option_map, option_and_then, codes, decimal}
use Rattle.std.specs.List.{flat_map, list_any}
use Rattle.std.specs.Option.{option_map_or, option_or}
use Rattle.fd_model.specs.declared.kinds.QueryFault.{QueryFault}
use Rattle.clpwhere.specs.Parts.{TextParts, QueriedParts, with_queries}
use Rattle.byte_ports.specs.Lines.{lines_of}
use Rattle.clpwhere.specs.Lines.{without_newline}
use Rattle.clpwhere.specs.BeforePlace.{read_before}
use Rattle.clpwhere.specs.Places.{line_number, column_number, before_place, characters, from_place, shown_before, shown_from, indent}
use Rattle.clpwhere.specs.declared.before_place.Before.{Before}
use Rattle.clpwhere.specs.declared.before_place.Before.TheVariants.{End}
use Rattle.clpwhere.specs.declared.reason.Reason.{Reason}
use Rattle.clpwhere.specs.declared.reason.Reason.TheVariants.{Syntax}
use Rattle.clpwhere.specs.Sentences.{reason_sentence}
use Rattle.clpwhere.specs.Refusals.{Refusal, refusal_of}
use Rattle.clpwhere.specs.FaultLines.{fault_of, fault_words, fault_sentence, query_behind, query_place}

-- words with the line and the column of a place
abbrev pub place_line : TextParts → ℕ → List ℕ → List ℕ
place_line text place words =
    text.name ++ (codes ":" ++ (decimal (line_number text.bytes place)
    ++ (codes ":" ++ (decimal (column_number text.bytes place)
    ++ (codes ": " ++ (words ++ codes "\n"))))))

-- the line of the text, and a caret under the place
abbrev pub caret_lines : List ℕ → List ℕ → List ℕ
caret_lines before rest = before ++ (rest ++ (codes "\n" ++ (indent before ++ codes "^\n")))

abbrev pub shown_lines : List ℕ → ℕ → List ℕ
shown_lines bytes place =
    caret_lines (shown_before (characters (before_place bytes place))) (shown_from (characters (from_place bytes place)))

-- words at a place, shown and explained, in four lines
abbrev pub told_at : TextParts → ℕ → List ℕ → List ℕ → List ℕ
told_at text place words sentence = place_line text place words ++ (shown_lines text.bytes place ++ (sentence ++ codes "\n"))

-- the place that is shown: where the grammar doesn't go on at the text's end, it is the end of the last token
abbrev pub shown_place : Reason → Before → ℕ → ℕ
shown_place Syntax (End at) place = at
shown_place reason before place = place

abbrev pub explained : TextParts → Refusal → List ℕ
explained text r =
    let before = read_before text.bytes r.place in
    told_at text (shown_place r.reason before r.place) r.words (reason_sentence r.reason r.words before (drop r.place text.bytes))

-- below the line of a fault the place of its query is told
abbrev pub placed_fault : QueriedParts → List ℕ → ℕ → QueryFault → Option (List ℕ)
placed_fault t words n f =
    option_map (λ place. words ++ (codes "\n" ++ told_at t.text place (fault_words n f) (fault_sentence f))) (query_place t.queries n)

-- of a line without its newline that belongs to the query with this number, where there is one
abbrev pub explained_fault : QueriedParts → Option ℕ → List ℕ → Option (List ℕ)
explained_fault t query words = option_and_then (λ f. option_and_then (λ n. placed_fault t words n f) query) (fault_of words)

-- what is written in place of a line that tells a refusal or a fault
abbrev pub explanation : QueriedParts → Option ℕ → List ℕ → Option (List ℕ)
explanation t query line =
    let words = without_newline line in
    option_or (option_map (explained t.text) (refusal_of words)) (explained_fault t query words)

-- any other line stays as it is
abbrev pub marked_line : QueriedParts → Option ℕ → List ℕ → List ℕ
marked_line t query line = unwrap_or (explanation t query line) line

abbrev pub is_explained : QueriedParts → Option ℕ → List ℕ → Bool
is_explained t query line = is_some (explanation t query line)

-- ---- the whole input: each line belongs to the query of the last line `query N` in front of it

-- what is written of lines that stand behind these
abbrev pub marked_behind : QueriedParts → List (List ℕ) → List (List ℕ) → List ℕ
marked_behind t front [] = []
marked_behind t front (line ∷ lines) = marked_line t (query_behind front) line ++ marked_behind t (front ++ line ∷ []) lines

-- the whole output for an input
abbrev pub marked : QueriedParts → List ℕ → List ℕ
marked t input = marked_behind t [] (lines_of input)

-- whether one of the lines that stand behind these is explained
abbrev pub tells_behind : QueriedParts → List (List ℕ) → List (List ℕ) → Bool
tells_behind t front [] = false
tells_behind t front (line ∷ lines) = is_explained t (query_behind front) line || tells_behind t (front ++ line ∷ []) lines

-- whether a line of the input is explained
abbrev pub is_told : QueriedParts → List ℕ → Bool
is_told t input = tells_behind t [] (lines_of input)

-- ---- without queries

-- a line that tells a refusal is explained, and any other stays as it is, whatever stands in front of it
abbrev pub plain_line : TextParts → List ℕ → List ℕ
plain_line text line = option_map_or (explained text) (refusal_of (without_newline line)) line

abbrev pub is_refusal : List ℕ → Bool
is_refusal line = is_some (refusal_of (without_newline line))

pub record IsPlain (text : TextParts) (input : List ℕ) : Type 0 where
  pub output : marked (with_queries text []) input ≡ flat_map (plain_line text) (lines_of input)
  pub tells : is_told (with_queries text []) input ≡ list_any is_refusal (lines_of input)
