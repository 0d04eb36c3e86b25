-- What the words of the command line ask for.
use Rattle.std.specs.Prelude.{◌≡◌, ◌⊎◌, ◌&&◌, ℕ, ◌==◌, Bool, not, List, [], ◌∷◌, length, map, nat_eq, codes, string_bytes, if◌then◌else◌}
use Rattle.std.specs.List.{starts_with, list_all, Contains}
use Rattle.std.specs.Str.{bytes_eq}
use Rattle.clpwhere.specs.declared.command.Asked.{Asked}
use Rattle.clpwhere.specs.declared.command.Asked.TheVariants as asked
use Rattle.clpwhere.specs.declared.command.Request as code
use Rattle.clpwhere.specs.declared.command.Request.TheVariants as coded
use Rattle.clpwhere.specs.Parts.{QueriedParts}
use Rattle.clpwhere.specs.Queries.{AreQueries}
use Rattle.clpwhere.specs.declared.command.Wanted.{Wanted}
use Rattle.clpwhere.specs.declared.command.Wanted.TheVariants as wanted

-- the usage line, lines on the words, the version, explanations by a file, those of faults too, or warnings of files
pub data Request : Type 0 where
  usage : Request
  help : Request
  version : Request
  explain : List ℕ → Request
  faults : List ℕ → Request
  warn : List (List ℕ) → Request

-- what the program keeps of it
abbrev pub seen_request : code.Request → Request
seen_request coded.Usage = usage
seen_request coded.Help = help
seen_request coded.Version = version
seen_request (coded.Explain word) = explain (string_bytes word.now)
seen_request (coded.Faults word) = faults (string_bytes word.now)
seen_request (coded.Warn words) = warn (map string_bytes words.now)

-- a word that begins with - names no file
abbrev pub is_file_name : List ℕ → Bool
is_file_name word = not (starts_with nat_eq word (codes "-"))

-- words that name files, one at least
abbrev pub are_file_names : List (List ℕ) → Bool
are_file_names words = not (length words == 0) && list_all is_file_name words

abbrev pub of_one_word : List ℕ → Request
of_one_word word =
    if bytes_eq word (codes "--help") then help
    else if bytes_eq word (codes "--version") then version
    else if is_file_name word then explain word
    else usage

abbrev pub of_two_words : List ℕ → List ℕ → Request
of_two_words word second = if bytes_eq word (codes "--faults") && is_file_name second then faults second else usage

abbrev pub of_words : List ℕ → List (List ℕ) → Request
of_words word [] = of_one_word word
of_words word (second ∷ []) = of_two_words word second
of_words word (second ∷ (third ∷ words)) = usage

-- what the words ask for
abbrev pub request_of : List (List ℕ) → Request
request_of [] = usage
request_of (word ∷ words) = if bytes_eq word (codes "--warn") && are_file_names words then warn words else of_words word words

-- The text of a file: without its queries where its refusals alone are to be explained, and with them where its faults are too.
abbrev pub IsExplainer : Request → QueriedParts → Type 0
IsExplainer r t =
    ((r ≡ explain t.text.name) × (t.queries ≡ []))
    ⊎ ((r ≡ faults t.text.name) × AreQueries t.text.bytes t.queries)

-- what names a file that can't be read
abbrev pub IsUnreadable : Request → List ℕ → Type 0
IsUnreadable r name =
    (r ≡ explain name) ⊎ ((r ≡ faults name)
    ⊎ ((names : List (List ℕ)) × (r ≡ warn names) × Contains names name))

-- the file of a request that can't be read is told in place of what was asked for
abbrev pub IsAskedBy : List (List ℕ) → Asked → Type 0
IsAskedBy words asked.Usage = request_of words ≡ usage
IsAskedBy words asked.Help = request_of words ≡ help
IsAskedBy words asked.Version = request_of words ≡ version
IsAskedBy words (asked.Unreadable name) = IsUnreadable (request_of words) (string_bytes name)
IsAskedBy words (asked.Text text) = IsExplainer (request_of words) text

abbrev pub IsWantedBy : List (List ℕ) → Wanted → Type 0
IsWantedBy words (wanted.Explanations a) = IsAskedBy words a
IsWantedBy words (wanted.Warnings files) = request_of words ≡ warn (map (λ f. f.name) files.items)
