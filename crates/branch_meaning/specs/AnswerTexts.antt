-- The texts of answers and of written terms, by a heap's terms and a store's sets.
use Rattle.std.specs.Prelude.{ℕ, List, Option, Some, None}
use Rattle.fd_language.specs.Term.{Terms}
use Rattle.fd_language.specs.Family.{Family}
use Rattle.fd_language.specs.Variables.{variables_of_all, distinct}
use Rattle.fd_model.specs.Lines.{place_in, open_part}
use Rattle.branch_meaning.specs.HeldBranches.{HeldState}

-- the set of an open cell, where it is linked
abbrev pub cell_set : Family → Option ℕ → Option (List ℕ)
cell_set T None = None
cell_set T (Some k) = Some (T k)

-- an open cell is numbered among those of the whole text. all are the text's terms, one behind the other.
abbrev pub cell_text : HeldState → Family → Terms → ℕ → List ℕ
cell_text f T all c = open_part (place_in (distinct (variables_of_all all)) c) (cell_set T (f.link c))
