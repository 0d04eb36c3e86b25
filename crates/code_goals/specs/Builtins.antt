-- Built-in goals by how they are taken.
use Rattle.std.specs.Prelude.{◌≡◌, ◌⊎◌, Bool, true, false, Some}
use Rattle.fd_model.specs.declared.kinds.BuiltinKind.{BuiltinKind}
use Rattle.fd_model.specs.declared.kinds.BuiltinKind.TheVariants as kind
use Rattle.heap_cells.specs.declared.Cell.{Cell}
use Rattle.branch_state.specs.States.{State}
use Rattle.branch_goals.specs.declared.builtin_findings.Found.{Found}
use Rattle.branch_goals.specs.Findings.{Finds}
use Rattle.wam_code.specs.Arities.{builtin_arity}
use Rattle.wam_code.specs.Area.{Area}
use Rattle.code_areas.specs.Areas.{cell_at, Contents}
use Rattle.code_goals.specs.Tasks.{names_of}

-- a goal that says nothing
abbrev pub IsSilent : BuiltinKind → Type 0
IsSilent kind.Write = ⊥
IsSilent kind.Nl = ⊥
IsSilent _ = Unit {0}

-- a goal that says nothing, and comes to something by the terms of its arguments
abbrev pub IsFound : BuiltinKind → Type 0
IsFound kind.True = ⊥
IsFound kind.Fail = ⊥
IsFound kind.False = ⊥
IsFound kind.Unify = ⊥
IsFound kind.Write = ⊥
IsFound kind.Nl = ⊥
IsFound _ = Unit {0}

abbrev pub has_one_argument : BuiltinKind → Bool
has_one_argument kind.Var = true
has_one_argument kind.Nonvar = true
has_one_argument kind.Integer = true
has_one_argument kind.Atom = true
has_one_argument kind.Atomic = true
has_one_argument kind.Compound = true
has_one_argument _ = false

-- The second argument's cell; of a goal with one argument it is that one's too.
abbrev pub IsSecond : BuiltinKind → Contents → Cell → Cell → Type 0
IsSecond k c d e = ((builtin_arity k ≡ 1) × (e ≡ d)) ⊎ ((builtin_arity k ≡ 2) × (cell_at c.registers 2 ≡ Some e))

-- what the goal comes to whose arguments are in the first registers
pub record ComesTo (area : Area) (s : State) (c : Contents) (k : BuiltinKind) (f : Found) : Type 0 where
  pub first : Cell
  pub second : Cell
  pub at_first : cell_at c.registers 1 ≡ Some first
  pub at_second : IsSecond k c first second
  pub finds : Finds (names_of area) s k first second f
