-- What an instruction hands on: its changes, where its needs are met.
use Rattle.std.proofs.Common.{◌≡◌, ℕ, zero, suc, List, refl}
use Rattle.wam_code.specs.declared.instruction.Code.{Code}
use Rattle.wam_code.specs.declared.instruction.Code.TheVariants.{GetVariable}
use Rattle.wam_code.specs.declared.parts.Entry.{Entry}
use Rattle.wam_code.specs.Area.{State}
use Rattle.wam_code.specs.Effect.{when, effect, effect_by, plain_effect, unify_effect}
use Rattle.code_flow.specs.StateTransfer.{plain_needs, unify_needs, needs_by, needs, changed}

plain_is : (es : List Entry) (i : Code) (s : State) → plain_effect es i s ≡ when (plain_needs es i s) (changed i s)
plain_is es (GetVariable r a) s = refl
plain_is es i s = refl

unify_is : (i : Code) (s : State) → unify_effect i s ≡ when (unify_needs i s) (changed i s)
unify_is (GetVariable r a) s = refl
unify_is i s = refl

by_owed : (n : ℕ) (es : List Entry) (i : Code) (s : State) → effect_by n es i s ≡ when (needs_by n es i s) (changed i s)
by_owed zero es i s = plain_is es i s
by_owed (suc n) es i s = unify_is i s

-- the state that an instruction hands on, or none where a need isn't met
pub effect_is : (es : List Entry) (i : Code) (s : State) → effect es i s ≡ when (needs es i s) (changed i s)
effect_is es i s = by_owed s.owed es i s
