-- Faults with the places of their queries, as the program keeps them.
use Rattle.std.specs.Prelude.{ℕ, List, ◌++◌, codes}
use Rattle.clpwhere.specs.declared.faults.PlacedFault.{PlacedFault}
use Rattle.clpwhere.specs.Parts.{TextParts}
use Rattle.clpwhere.specs.FaultLines.{fault_sentence, fault_words}
use Rattle.clpwhere.specs.MarkedLines.{told_at}

-- the line of the fault, without its newline, and below it the place of the query
abbrev pub told_fault : TextParts → List ℕ → PlacedFault → List ℕ
told_fault text words found = words ++ (codes "\n" ++ told_at text found.place (fault_words found.query found.fault) (fault_sentence found.fault))
