-- The statements of the laws.
use Rattle.std.specs.Prelude.{◌≡◌, ℕ, ◌<◌, ◌≤◌, true, IsTrue, List, [], ◌∷◌, length, drop}
use Rattle.fd_language.specs.Unifier.{Equation}
use Rattle.fd_model.specs.Goal.{Goal, Clause}
use Rattle.wam_code.specs.declared.instruction.Code.{Code}
use Rattle.wam_code.specs.declared.instruction.Code.TheVariants.{Execute, Proceed, AnswerNow}
use Rattle.wam_code.specs.declared.parts.Entry.{Entry}
use Rattle.wam_code.specs.Area.{State, Span, Area, Holds, HasState, HasEntry, HasQuery}
use Rattle.wam_code.specs.Effect.{are_set, slot_at, is_cell}
use Rattle.wam_code.specs.VerifiedCode.{Names, Falls, Covers, HandedTo, Leads, IsIn, IsVerifiedBy}
use Rattle.wam_code.specs.CodeRegions.{IsOutside, distance, begun}
use Rattle.wam_code.specs.Places.{Places}
use Rattle.wam_code.specs.CodeMeaning.{Caller, Rule, Learns, Restates, Quietly, Means}
use Rattle.wam_code.specs.Tries.{Shape, TryRule, Tries}
use Rattle.wam_code.specs.WorkMeasure.{Thread, work}

-- Up to steps that no instruction takes, a place stands for exactly what the rule of its instruction says.
pub record PlacesFollowRules : Type 0 where
  pub there : (area : Area) (w : Caller) (at : ℕ) (p : Places) (es : List Equation) (gs : List Goal) (i : Code) → Holds area at i → Means area w at p es gs
      → (m : ℕ) × Quietly m (λ q ds. Rule area w (Means area w) i at q ds gs) p es
  pub back : (area : Area) (w : Caller) (at : ℕ) (p : Places) (es : List Equation) (gs : List Goal) (i : Code) → Holds area at i → Rule area w (Means area w) i at p es gs → Means area w at p es gs
  pub learning : (area : Area) (w : Caller) (at : ℕ) (p : Places) (es : List Equation) (gs : List Goal) → Learns (λ q ds. Means area w at q ds gs) p es → Means area w at p es gs
  pub restating : (area : Area) (w : Caller) (at : ℕ) (p : Places) (es : List Equation) (gs : List Goal) → Restates (λ q ds. Means area w at q ds gs) p es → Means area w at p es gs

-- Before a clause, a place stands for exactly what the rule of its instruction says.
pub record ChoicesFollowRules : Type 0 where
  pub there : (area : Area) (s : Shape) (i : Code) (at : ℕ) (cs : List Clause) → Holds area at i → Tries area s at cs → TryRule area (Tries area s) s i at cs
  pub back : (area : Area) (s : Shape) (i : Code) (at : ℕ) (cs : List Clause) → Holds area at i → TryRule area (Tries area s) s i at cs → Tries area s at cs

-- What is there at a place covers its state at first, and then at each place that comes next.
pub record StepsAreSafe : Type 0 where
  pub step : (a : Area) (ss : List State) → IsVerifiedBy a ss → (at : ℕ) (i : Code) (s actual : State) → Holds a at i → HasState ss at s → Covers actual s → Leads a ss at i actual
  pub entry : (a : Area) (ss : List State) → IsVerifiedBy a ss → (n : ℕ) (e : Entry) → HasEntry a n e → (regs : List ℕ) → are_set regs e.arity ≡ true → HandedTo ss (begun regs) e.at
  pub query : (a : Area) (ss : List State) → IsVerifiedBy a ss → (n : ℕ) (q : Span) → HasQuery a n q → HandedTo ss (begun []) q.at
  pub state : (a : Area) (ss : List State) → IsVerifiedBy a ss → (at : ℕ) (i : Code) → Holds a at i → (s : State) × HasState ss at s

-- A number falls with each instruction that goes on, that returns and that fails, and a cut makes it no greater.
pub record WorkFalls : Type 0 where
  pub fork : (d e f : ℕ) (ds : List ℕ) (ts : List Thread) → e < d → f < d
      → work (record { distance = e; returns = ds } ∷ record { distance = f; returns = ds } ∷ ts) < work (record { distance = d; returns = ds } ∷ ts)
  pub step : (d e : ℕ) (ds : List ℕ) (ts : List Thread) → e < d → work (record { distance = e; returns = ds } ∷ ts) < work (record { distance = d; returns = ds } ∷ ts)
  pub proceed : (d e : ℕ) (ds : List ℕ) (ts : List Thread) → work (record { distance = e; returns = ds } ∷ ts) < work (record { distance = d; returns = e ∷ ds } ∷ ts)
  pub back : (d : ℕ) (ds : List ℕ) (ts : List Thread) → work ts < work (record { distance = d; returns = ds } ∷ ts)
  pub cut : (t : Thread) (ts : List Thread) (k : ℕ) → work (t ∷ drop k ts) ≤ work (t ∷ ts)
  pub names : (a : Area) (ss : List State) → IsVerifiedBy a ss → (at to : ℕ) → Names a at to → distance a to < distance a at
  pub falls : (a : Area) (ss : List State) → IsVerifiedBy a ss → (at to : ℕ) → Falls a at to → distance a to < distance a at

pub record QueriesAreApart : Type 0 where
  pub names_inside : (a : Area) (ss : List State) → IsVerifiedBy a ss → (n : ℕ) (q : Span) → HasQuery a n q → (at to : ℕ) → IsIn q at → Names a at to → IsIn q to
  pub falls_inside : (a : Area) (ss : List State) → IsVerifiedBy a ss → (n : ℕ) (q : Span) → HasQuery a n q → (at to : ℕ) → IsIn q at → Falls a at to → IsIn q to
  pub names_outside : (a : Area) (ss : List State) → IsVerifiedBy a ss → (at to : ℕ) → IsOutside a at → Names a at to → IsOutside a to
  pub falls_outside : (a : Area) (ss : List State) → IsVerifiedBy a ss → (at to : ℕ) → IsOutside a at → Falls a at to → IsOutside a to
  pub entries : (a : Area) (ss : List State) → IsVerifiedBy a ss → (n : ℕ) (e : Entry) → HasEntry a n e → IsOutside a e.at
  pub returns : (a : Area) (ss : List State) → IsVerifiedBy a ss → (at : ℕ) → Holds a at Proceed → IsOutside a at
  pub executes : (a : Area) (ss : List State) → IsVerifiedBy a ss → (at e : ℕ) → Holds a at (Execute e) → IsOutside a at
  pub answers : (a : Area) (ss : List State) → IsVerifiedBy a ss → (at : ℕ) → IsOutside a at → ¬ Holds a at AnswerNow
  pub shown : (a : Area) (ss : List State) → IsVerifiedBy a ss → (n at : ℕ) (q : Span) → HasQuery a n q → IsIn q at → Holds a at AnswerNow → (s actual : State)
      → HasState ss at s → Covers actual s → (k : ℕ) → 1 ≤ k → k ≤ length q.names → IsTrue (is_cell (slot_at actual.frame k))
