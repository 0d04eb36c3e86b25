-- How states go through pieces of code.
use Rattle.std.specs.Prelude.{◌≡◌, ℕ, Bool, true, false, IsTrue, List, [], ◌∷◌, ◌++◌, Some, length, slice_get}
use Rattle.wam_code.specs.declared.instruction.Code.{Code}
use Rattle.wam_code.specs.declared.instruction.Code.TheVariants.{Execute, Proceed, Jump, FailNow, AnswerNow, TryMeElse, RetryMeElse, TrustMe, Try, Retry, Trust}
use Rattle.wam_code.specs.declared.instruction.Code.TheVariants.{SwitchOnTerm, SwitchOnConstant, SwitchOnInteger, SwitchOnStructure, Either, EnterTest}
use Rattle.wam_code.specs.Area.{State}
use Rattle.wam_code.specs.Effect.{effect}
use Rattle.clause_code.specs.Pieces.{Base}
use Rattle.clause_code.specs.SafeCode.{unplaced, LeadsIn, IsThereIn, may_enter}

-- an instruction that hands its state to the next place alone
abbrev pub is_simple : Code → Bool
is_simple (Execute e) = false
is_simple Proceed = false
is_simple (Jump to) = false
is_simple FailNow = false
is_simple AnswerNow = false
is_simple (TryMeElse to) = false
is_simple (RetryMeElse to) = false
is_simple TrustMe = false
is_simple (Try to) = false
is_simple (Retry to) = false
is_simple (Trust to) = false
is_simple (SwitchOnTerm v c i s) = false
is_simple (SwitchOnConstant t) = false
is_simple (SwitchOnInteger t) = false
is_simple (SwitchOnStructure t) = false
is_simple (Either to) = false
is_simple (EnterTest n m to) = false
is_simple _ = true

-- an instruction inside a clause or a query, with another one behind it
abbrev pub is_inner : Code → Bool
is_inner (Jump to) = true
is_inner (Either to) = true
is_inner (EnterTest n m to) = true
is_inner i = is_simple i

-- These instructions run one after the other, from the state s to the state t.
abbrev pub Runs : Base → State → List Code → State → Type 0
Runs b s [] t = s ≡ t
Runs b s (i ∷ is) t = (u : State) × (effect (unplaced b) i s ≡ Some u) × IsTrue (is_simple i) × IsThereIn b i × Runs b u is t

-- The piece leads ahead, within itself and to the places behind it, which have these states. It begins with the state s.
pub record FlowsInto (b : Base) (at : ℕ) (is : List Code) (s : State) (behind : List State) : Type 0 where
  pub states : List State
  pub long : length states ≡ length is
  pub begins : slice_get (states ++ behind) 0 ≡ Some s
  pub leads : (n : ℕ) (i : Code) (u : State) → slice_get is n ≡ Some i → slice_get states n ≡ Some u → LeadsIn b at (states ++ behind) n i u
  pub inner : (n : ℕ) (i : Code) → slice_get is n ≡ Some i → IsTrue (is_inner i)
  pub there : (n : ℕ) (i : Code) → slice_get is n ≡ Some i → IsThereIn b i

-- The piece leads from the state s to the state t of the place behind it.
abbrev pub Flows : Base → ℕ → List Code → State → State → Type 0
Flows b at is s t = FlowsInto b at is s (t ∷ [])

-- The first instruction, where there is one, may be that of a clause.
abbrev pub MayEnter : List Code → Type 0
MayEnter is = (i : Code) → slice_get is 0 ≡ Some i → IsTrue (may_enter i)
