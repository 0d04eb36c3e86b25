-- The statements of the laws.
use Rattle.std.specs.Prelude.{◌≡◌, ℕ, suc, false, List, [], ◌∷◌, ◌++◌}
use Rattle.fd_language.specs.Term.{Name, Term, Terms}
use Rattle.fd_language.specs.Unifier.{Equation}
use Rattle.fd_model.specs.Goal as goal
use Rattle.fd_model.specs.Goal.{Goal, Goals, listed, Clause}
use Rattle.branch_meaning.specs.Heap.{EquationsOf}
use Rattle.wam_code.specs.declared.instruction.Code.{Code}
use Rattle.wam_code.specs.declared.instruction.Code.TheVariants.{Jump, Either}
use Rattle.wam_code.specs.Area.{Area}
use Rattle.wam_code.specs.Places.{Places, Has, IsSettled}
use Rattle.wam_code.specs.CodeMeaning.{Caller, Means}
use Rattle.wam_code.specs.Tries.{Shape, Tries}
use Rattle.clause_code.specs.Pieces.{Base, Stand, past, Does}
use Rattle.clause_code.specs.MoreRegisters.{HasMore}
use Rattle.clause_code.specs.NestedStructures.{whole, apart}
use Rattle.clause_code.specs.ClauseChoices.{EachTries, list_of}

abbrev pub MoreRegisters : Type 0
MoreRegisters = (area : Area) (w : Caller) (at : ℕ) (p q : Places) (es : List Equation) (gs : List Goal) → HasMore p q → Means area w at q es gs → Means area w at p es gs

-- The structure that t is to be has the part u. It may be read with a variable of the code's own for the part, which is equated with it next.
abbrev pub PartsApart : Type 0
PartsApart =
    (b : Base) (at : ℕ) (t : Term) (f : Name) (xs : Terms) (u : Term) (ys : Terms) (later : List Equation) (p : Places) (gs : List Goal) → p.known p.top ≡ false
    → EquationsOf (Has p) (whole t f xs u ys later)
    → Does b at [] p (whole t f xs u ys later) gs (record p { top = suc p.top }) (apart p.top t f xs u ys later) gs

abbrev pub AnyOrder : Type 0
AnyOrder = (b : Base) (at : ℕ) (es : List Equation) (e : Equation) (ds : List Equation) (p : Places) (gs : List Goal) → EquationsOf (Has p) (es ++ (e ∷ ds))
    → Does b at [] p (es ++ (e ∷ ds)) gs p (e ∷ (es ++ ds)) gs

-- the place of the code js of B, behind the code is of A and a jump
abbrev pub other_side : ℕ → List Code → List Code → ℕ
other_side at is js = past (suc at) (is ++ (Jump (past (suc (past (suc at) is)) js) ∷ []))

-- both codes, and the jump to the place behind them
abbrev pub sides : ℕ → List Code → List Code → List Code
sides at is js = Either (other_side at is js) ∷ (is ++ (Jump (past (suc (past (suc at) is)) js) ∷ js))

-- the same with another instruction in front
abbrev pub ways : Code → ℕ → List Code → List Code → List Code
ways i at is js = i ∷ (is ++ (Jump (past (suc (past (suc at) is)) js) ∷ js))

abbrev pub BothWays : Type 0
BothWays =
    (b : Base) (at : ℕ) (is js : List Code) (x y : Goals) (p q r : Places) (gs : List Goal) → IsSettled p q
    → Does b (suc at) is q [] (listed x ++ gs) r [] gs → Does b (other_side at is js) js q [] (listed y ++ gs) r [] gs → Does b at (sides at is js) p [] (goal.Either x y ∷ gs) r [] gs

abbrev pub ListsInOrder : Type 0
ListsInOrder = (area : Area) (s : Shape) (ls : List ℕ) (cs : List Clause) (at : ℕ) → EachTries area s ls cs → Stand area at (list_of ls) → Tries area s at cs
