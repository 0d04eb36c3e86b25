-- The pieces of an output, for words and a text.
use Rattle.std.specs.Prelude.{◌≡◌, ℕ, List, Option, Some, None}
use Rattle.fd_model.specs.declared.Status.{Status}
use Rattle.fd_model.specs.Output.{Options, IsSummary, usage}
use Rattle.fd_model.specs.Verdict.{Verdict, IsVerdict}
use Rattle.byte_ports.specs.Lines.{lines_of}
use Rattle.text_output.specs.Pieces.{VerdictPieces}

abbrev pub TextPieces : ℕ → Options → Option ℕ → List ℕ → List (List ℕ) → Type 0
TextPieces M o None text pieces = (v : Verdict) × IsVerdict M o.infinity text v × VerdictPieces M o.infinity v o.steps o.answers pieces
TextPieces M o (Some n) text pieces = (out : List ℕ) × (st : Status) × IsSummary M n o out st × (pieces ≡ lines_of out)

-- those of the usage line, of a summary's lines, or of the text that is read
abbrev pub OutputPieces : ℕ → Option Options → List ℕ → List (List ℕ) → Type 0
OutputPieces M None text pieces = pieces ≡ lines_of usage
OutputPieces M (Some o) text pieces = TextPieces M o o.generate text pieces
