-- The instructions of the unify group, which give a structure's arguments.
use Rattle.std.specs.Prelude.{◌≡◌, ℕ, ◌≤◌, Some}
use Rattle.wam_code.specs.declared.instruction.Code.{Code}
use Rattle.wam_code.specs.declared.instruction.Code.TheVariants.{UnifyVariable, UnifyValue, UnifyConstant, UnifyInteger, UnifyVoid}
use Rattle.wam_code.specs.Area.{State, Area, Holds}
use Rattle.wam_code.specs.Effect.{unify_effect}
use Rattle.code_safety.specs.Queries.{StaysInside}
use Rattle.code_safety.specs.declared.instruction_outcomes.Went.{Went}
use Rattle.code_safety.specs.declared.instruction_outcomes.Went.TheVariants.{On, Back}
use Rattle.term_instructions.specs.declared.arguments.Argument.{Argument}
use Rattle.term_instructions.specs.declared.arguments.Argument.TheVariants.{Variable, Value, Constant, Integer, Void}

abbrev pub code_of : Argument → Code
code_of (Variable r) = UnifyVariable r
code_of (Value r) = UnifyValue r
code_of (Constant c) = UnifyConstant c
code_of (Integer z) = UnifyInteger z
code_of (Void n) = UnifyVoid n

-- it gives one argument
abbrev pub IsOne : Argument → Type 0
IsOne (Void n) = n ≡ 1
IsOne (Variable r) = Unit {0}
IsOne (Value r) = Unit {0}
IsOne (Constant c) = Unit {0}
IsOne (Integer z) = Unit {0}

-- one of them stands there
abbrev pub IsUnifyAt : Area → ℕ → Type 0
IsUnifyAt area at = (i : Code) × (s : State) × (t : State) × Holds area at i × (unify_effect i s ≡ Some t)

-- the place behind some of them, of the same query
abbrev pub LeadsAmong : Area → ℕ → ℕ → Type 0
LeadsAmong area from to = (from ≤ to) × StaysInside area from to

-- It leads to a place behind some of them, or back.
abbrev pub LeadsFrom : Area → ℕ → Went → Type 0
LeadsFrom area from (On to) = LeadsAmong area from to
LeadsFrom area from Back = Unit {0}
