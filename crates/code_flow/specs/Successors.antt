-- Where an instruction leads.
use Rattle.std.specs.Prelude.{◌≡◌, ℕ, suc, true, IsTrue, List, [], ◌∷◌, length, slice_get, Some, Vec}
use Rattle.std.specs.Global.{Global}
use Rattle.fd_language.specs.Family.{has}
use Rattle.wam_code.specs.declared.instruction.Code.{Code}
use Rattle.wam_code.specs.declared.instruction.Code.TheVariants.{Jump, TryMeElse, RetryMeElse, Try, Retry, Trust, SwitchOnTerm, Either, EnterTest}
use Rattle.wam_code.specs.declared.parts.Entry.{Entry}
use Rattle.wam_code.specs.Area.{State, Area, HasState}
use Rattle.wam_code.specs.Effect.{effect}
use Rattle.wam_code.specs.VerifiedCode.{named, goes_on, Covers}
use Rattle.code_listing.specs.declared.states.PlaceState.{PlaceState}
use Rattle.code_flow.specs.StateTransfer.{needs, changed, IsSame}

-- the places that it names by itself, beside those of a table
abbrev pub direct : Code → List ℕ
direct (Jump to) = to ∷ []
direct (TryMeElse to) = to ∷ []
direct (RetryMeElse to) = to ∷ []
direct (Try to) = to ∷ []
direct (Retry to) = to ∷ []
direct (Trust to) = to ∷ []
direct (Either to) = to ∷ []
direct (EnterTest n m to) = to ∷ []
direct (SwitchOnTerm v c i s) = v ∷ c ∷ i ∷ s ∷ []
direct i = []

-- The registers of each state, in whatever order.
pub record AreRegisters (ss : List PlaceState) (rs : List (Vec ℕ Global)) : Type 0 where
  pub size : length rs ≡ length ss
  pub same : (at : ℕ) (s : PlaceState) (r : Vec ℕ Global) → slice_get ss at ≡ Some s → slice_get rs at ≡ Some r → (n : ℕ) → has r.items n ≡ has s.regs.items n

-- a state covers that of a place, where the place has one
abbrev pub CoversAt : List State → State → ℕ → Type 0
CoversAt ss t to = (s : State) → HasState ss to s → Covers t s

-- the instruction finds what it needs, and what it hands on covers the states of the places that it leads to, of those that have one
abbrev pub LeadsOn : Area → List State → ℕ → Code → State → Type 0
LeadsOn a ss at i s = (t : State) × (effect a.entries i s ≡ Some t) × ((to : ℕ) → IsTrue (has (named a i) to) → CoversAt ss t to) × (IsTrue (goes_on i) → CoversAt ss t (suc at))

-- the state may be handed to each place that it leads to
pub record HandsOn (a : Area) (ss : List State) (at : ℕ) (i : Code) (t : State) : Type 0 where
  pub there : (to : ℕ) → IsTrue (has (named a i) to) → CoversAt ss t to
  pub next : IsTrue (goes_on i) → CoversAt ss t (suc at)

-- the state t is what it makes of the state s, in which it finds what it needs
pub record IsHandedOn (es : List Entry) (i : Code) (s t : State) : Type 0 where
  pub found : State
  pub same : IsSame found s
  pub meets : needs es i found ≡ true
  pub made : IsSame t (changed i found)
