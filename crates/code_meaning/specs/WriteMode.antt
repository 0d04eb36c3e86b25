-- What a machine stands for between two unify instructions where a compound term is built.
use Rattle.std.specs.Prelude.{◌≡◌, ℕ, List, ◌∷◌}
use Rattle.fd_language.specs.Term.{Name, Term, Terms, Comp, term, joined_terms, term_count}
use Rattle.fd_language.specs.Unifier.{Equation}
use Rattle.fd_language.specs.Range.{Indexical}
use Rattle.fd_model.specs.Goal.{Goal, Branch}
use Rattle.fd_model.specs.RunnablePrograms.{EachBelow, NumbersBelow}
use Rattle.heap_cells.specs.declared.Cell.{Cell}
use Rattle.heap_cells.specs.Cells.{Cells}
use Rattle.heap_cells.specs.Terms.{Naming}
use Rattle.wam_code.specs.declared.instruction.Register.TheVariants.{X}
use Rattle.wam_code.specs.Area.{Area}
use Rattle.wam_code.specs.Places.{Places, write}
use Rattle.wam_code.specs.CodeMeaning.{Owed, Means, Return, Continues}
use Rattle.code_meaning.specs.Registers.{Registers, Saved}
use Rattle.code_meaning.specs.StateMeaning.{Made, IsMade}
use Rattle.code_meaning.specs.ReadMode.{AreCells}

-- what is to be done with all the terms, at the place next with the places q
abbrev pub End : Type 1
End = Terms → ℕ → Places → List Equation → List Goal → Type 0

-- In a head the first term is the argument, which is to be equal to the one that is built of the others.
abbrev pub GetEnd : Area → List ℕ → Branch → Name → End
GetEnd area shown b f all next q todo after =
    (a : Term) × (us : Terms) × (later : List Equation) × (all ≡ term a us) × (todo ≡ record { left = a; right = Comp f us } ∷ later)
    × Means area (record { goals = after; shown = shown }) next q later b.goals

-- In a body the register takes it.
abbrev pub PutEnd : Area → List ℕ → Branch → Name → ℕ → End
PutEnd area shown b f r all next q todo after = Means area (record { goals = after; shown = shown }) next (write q (X r) (Comp f all)) todo b.goals

-- These cells are gathered, and so many arguments are left, of which the instruction before still gives so many variables.
pub record Builds (M N : ℕ) (marks : List ℕ) (area : Area) (shown : List ℕ) (name : Naming) (h : Cells) (qs : List Indexical) (voids at : ℕ) (c : Registers)
    (cells : List Cell) (left : ℕ) (stack : List Saved) (b : Branch) (Ends : End) : Type 0 where
  pub p : Places
  pub q : Places
  pub next : ℕ
  pub gathered : Terms
  pub ts : Terms
  pub todo : List Equation
  pub returns : List Return
  pub after : List Goal
  pub made : IsMade M N marks name h qs c returns stack b p todo
  pub are : AreCells name h made.look (Made p b.fresh) cells gathered
  pub counted : term_count ts ≡ left
  pub owed : Owed area voids at p ts next q
  pub ends : Ends (joined_terms gathered ts) next q todo after
  pub continues : Continues area shown returns after
  pub below : EachBelow b.fresh b.goals
  pub asked : NumbersBelow b.fresh shown
