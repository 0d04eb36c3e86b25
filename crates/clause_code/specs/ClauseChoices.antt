-- Choices and lists of clauses, piece by piece.
use Rattle.std.specs.Prelude.{ℕ, List, [], ◌∷◌}
use Rattle.fd_model.specs.Goal.{Clause}
use Rattle.wam_code.specs.declared.instruction.Code.{Code}
use Rattle.wam_code.specs.declared.instruction.Code.TheVariants.{Jump, FailNow, Try, Retry, Trust}
use Rattle.wam_code.specs.Area.{Area}
use Rattle.wam_code.specs.Tries.{Shape, Tries}

-- these places try these clauses, one each
abbrev pub EachTries : Area → Shape → List ℕ → List Clause → Type 0
EachTries area s [] [] = Unit {0}
EachTries area s [] (c ∷ cs) = ⊥
EachTries area s (l ∷ ls) [] = ⊥
EachTries area s (l ∷ ls) (c ∷ cs) = Tries area s l (c ∷ []) × EachTries area s ls cs

-- the choices of a list of places: the first one, and those behind
abbrev pub rest_of_list : List ℕ → List Code
rest_of_list [] = FailNow ∷ []
rest_of_list (l ∷ []) = Trust l ∷ []
rest_of_list (l ∷ k ∷ ls) = Retry l ∷ rest_of_list (k ∷ ls)

abbrev pub list_of : List ℕ → List Code
list_of [] = FailNow ∷ []
list_of (l ∷ []) = Jump l ∷ []
list_of (l ∷ k ∷ ls) = Try l ∷ rest_of_list (k ∷ ls)
