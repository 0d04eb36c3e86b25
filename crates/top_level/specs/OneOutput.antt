-- There is exactly one output.
use Rattle.std.specs.Prelude.{◌≡◌, ℕ, List}
use Rattle.fd_model.specs.declared.Status.{Status}
use Rattle.fd_model.specs.Output.{Output}
use Rattle.command_words.specs.Words.{options_of}

-- For all words and each text there is an output with its status, and it is one.
abbrev pub OneOutput : Type 0
OneOutput =
    (M : ℕ) (words : List (List ℕ)) (text : List ℕ)
    → (out : List ℕ) × (st : Status) × Output M (options_of words) text out st × ((other : List ℕ) (s : Status) → Output M (options_of words) text other s → (other ≡ out) × (s ≡ st))
