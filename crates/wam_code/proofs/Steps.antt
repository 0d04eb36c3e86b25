-- Places and rules without the bound.
use Rattle.std.proofs.Common.{◌≡◌, ℕ, zero, suc, ◌+◌, ◌<◌, ◌≤◌, false, List, [], ◌∷◌, ◌++◌, Some, sym, ◌∙◌, subst, inl, inr, arith, zero-add, add_comm}
use Rattle.fd_language.specs.Term.{Term, Var}
use Rattle.fd_language.specs.Unifier.{Equation}
use Rattle.fd_model.specs.Goal.{Goal, listed}
use Rattle.wam_code.specs.declared.instruction.Code.{Code}
use Rattle.wam_code.specs.declared.instruction.Code.TheVariants.{GetVariable, GetValue, GetConstant, GetInteger, GetStructure, PutVariable, PutValue}
use Rattle.wam_code.specs.declared.instruction.Code.TheVariants.{PutConstant, PutInteger, PutStructure, Allocate, Deallocate, Call, Execute, Proceed, Jump}
use Rattle.wam_code.specs.declared.instruction.Code.TheVariants.{AnswerNow, Either, Builtin, Constrain, Label, Best, PostRange, Level, TestOnly, EnterTest}
use Rattle.wam_code.specs.declared.instruction.Code.TheVariants.{CutTo}
use Rattle.wam_code.specs.Area.{Area, Holds}
use Rattle.branch_meaning.specs.Heap.{EquationsOf}
use Rattle.branch_meaning.specs.EquivalentEquations.{SaysSame}
use Rattle.wam_code.specs.declared.instruction.Register.TheVariants.{X}
use Rattle.wam_code.specs.Places.{Depth, Places, write, learn, IsFresh, Has}
use Rattle.wam_code.specs.CodeMeaning.{Rest, Rests, Later, Caller, Takes, Equates, RuleWith, Rule, Learns, Restates, Quietly, Steps, no_steps, more_steps}
use Rattle.wam_code.specs.CodeMeaning.{Within, Means}

equates_grow : (p : Places) (a : ℕ) (s : Term) (es : List Equation) (F G : List Equation → Type 0) → ((ds : List Equation) → F ds → G ds) → Equates p a s es F → Equates p a s es G
equates_grow p a s es F G k h = (h.0, h.1, h.2, h.3, k _ h.4)

-- whatever the one says of a place the other one says
abbrev Grows : Rest → Rest → Type 0
Grows R S = (at : ℕ) (p : Places) (es : List Equation) (gs : List Goal) → R at p es gs → S at p es gs

takes_grow : (taken : Goal → Type 0) (R S : Rest) → Grows R S → (at : ℕ) (p : Places) (es : List Equation) (gs : List Goal) → Takes taken R at p es gs → Takes taken S at p es gs
takes_grow taken R S k at p es gs h = (h.0, h.1, h.2, h.3, h.4, h.5, h.6, k _ _ _ _ h.7)

-- A rule grows with what the later places stand for.
pub rule_grows : (area : Area) (w : Caller) (R S : Rest) (T U : Rests) → Grows R S → ((d : Depth) → Grows (T d) (U d))
    → (i : Code) (at : ℕ) (p : Places) (es : List Equation) (gs : List Goal) → RuleWith area w R T i at p es gs → RuleWith area w S U i at p es gs
rule_grows area w R S T U k l (GetVariable r a) at p es gs h = (h.0, h.1, equates_grow p a _ es _ _ (λ ds. k _ _ ds gs) h.2)
rule_grows area w R S T U k l (GetValue r a) at p es gs h = (h.0, h.1, equates_grow p a _ es _ _ (λ ds. k _ _ ds gs) h.2)
rule_grows area w R S T U k l (GetConstant c a) at p es gs h = equates_grow p a _ es _ _ (λ ds. k _ _ ds gs) h
rule_grows area w R S T U k l (GetInteger z a) at p es gs h = equates_grow p a _ es _ _ (λ ds. k _ _ ds gs) h
rule_grows area w R S T U k l (GetStructure f n a) at p es gs h = (h.0, h.1, h.2, h.3, equates_grow p a _ es _ _ (λ ds. k _ _ ds gs) h.4)
rule_grows area w R S T U k l (PutVariable r a) at p es gs h = (h.0, h.1, k _ _ _ _ h.2)
rule_grows area w R S T U k l (PutValue r a) at p es gs h = (h.0, h.1, k _ _ _ _ h.2)
rule_grows area w R S T U k l (PutConstant c a) at p es gs h = k _ _ _ _ h
rule_grows area w R S T U k l (PutInteger z a) at p es gs h = k _ _ _ _ h
rule_grows area w R S T U k l (PutStructure f n a) at p es gs h = (h.0, h.1, h.2, h.3, k _ _ _ _ h.4)
rule_grows area w R S T U k l (Allocate n) at p es gs h = k _ _ _ _ h
rule_grows area w R S T U k l Deallocate at p es gs h = k _ _ _ _ h
rule_grows area w R S T U k l (Call e) at p es gs h = takes_grow _ R S k at _ es gs h
rule_grows area w R S T U k l (Execute e) at p es gs h = h
rule_grows area w R S T U k l Proceed at p es gs h = h
rule_grows area w R S T U k l (Jump to) at p es gs h = k _ _ _ _ h
rule_grows area w R S T U k l AnswerNow at p es gs h = h
rule_grows area w R S T U k l (Either to) at p es gs h = (h.0, h.1, h.2, h.3, h.4, h.5, h.6, k _ _ _ _ h.7, k _ _ _ _ h.8)
rule_grows area w R S T U k l (Builtin b) at p es gs h = takes_grow _ R S k at p es gs h
rule_grows area w R S T U k l (Constrain c) at p es gs h = takes_grow _ R S k at p es gs h
rule_grows area w R S T U k l (Label o) at p es gs h = takes_grow _ R S k at p es gs h
rule_grows area w R S T U k l (PostRange r n) at p es gs h = takes_grow _ R S k at p es gs h
rule_grows area w R S T U k l (Best o least) at p es gs h = takes_grow _ R S k at p es gs h
rule_grows area w R S T U k l (Level n) at p es gs h = (h.0, h.1, k _ _ _ _ h.2)
rule_grows area w R S T U k l (TestOnly n) at p es gs h = (h.0, h.1, h.2, h.3, h.4, h.5, h.6, h.7, h.8, λ d. l d _ _ _ _ (h.9 d))
rule_grows area w R S T U k l (EnterTest n m to) at p es gs h = (h.0, h.1, h.2, h.3, h.4, h.5, h.6, h.7, h.8, h.9, h.10, h.11, λ d. (let r = h.12 d in (l d _ _ _ _ r.0, l d _ _ _ _ r.1)))
rule_grows area w R S T U k l (CutTo n) at p es gs h = (h.0, h.1, h.2, h.3, h.4, h.5, h.6, h.7, k _ _ _ _ h.8)
rule_grows area w R S T U k l _ at p es gs h = absurd h

learns_grow : (R S : Later) → ((p : Places) (es : List Equation) → R p es → S p es) → (p : Places) (es : List Equation) → Learns R p es → Learns S p es
learns_grow R S k p es h = (h.0, h.1, h.2, equates_grow p h.0 _ es _ _ (λ ds. k _ ds) h.3)

restates_grow : (R S : Later) → ((p : Places) (es : List Equation) → R p es → S p es) → (p : Places) (es : List Equation) → Restates R p es → Restates S p es
restates_grow R S k p es h = (h.0, h.1, h.2, h.3, h.4, h.5, k _ _ h.6)

-- with both bounds
abbrev both : Steps → Steps → Steps
both no_steps t = t
both (more_steps n f) no_steps = more_steps n f
both (more_steps n f) (more_steps m g) = more_steps (both n m) (λ d. both (f d) (g d))

-- A larger bound is as good.
first_of : (area : Area) (w : Caller) (s t : Steps) → Grows (Within area w s) (Within area w (both s t))
first_of area w no_steps t at p es gs h = absurd h
first_of area w (more_steps n f) no_steps at p es gs h = h
first_of area w (more_steps n f) (more_steps m g) at p es gs (inl h) =
    inl (
      h.0,
      h.1,
      rule_grows area w (Within area w n) (Within area w (both n m)) (λ d. Within area w (f d)) (λ d. Within area w (both (f d) (g d)))
          (λ a q ds hs. first_of area w n m a q ds hs) (λ d a q ds hs. first_of area w (f d) (g d) a q ds hs) h.0 at p es gs h.2,
    )
first_of area w (more_steps n f) (more_steps m g) at p es gs (inr (inl h)) = inr (inl (learns_grow _ _ (λ q ds. first_of area w n m at q ds gs) p es h))
first_of area w (more_steps n f) (more_steps m g) at p es gs (inr (inr h)) = inr (inr (restates_grow _ _ (λ q ds. first_of area w n m at q ds gs) p es h))

second_of : (area : Area) (w : Caller) (s t : Steps) → Grows (Within area w t) (Within area w (both s t))
second_of area w no_steps t at p es gs h = h
second_of area w (more_steps n f) no_steps at p es gs h = absurd h
second_of area w (more_steps n f) (more_steps m g) at p es gs (inl h) =
    inl (
      h.0,
      h.1,
      rule_grows area w (Within area w m) (Within area w (both n m)) (λ d. Within area w (g d)) (λ d. Within area w (both (f d) (g d)))
          (λ a q ds hs. second_of area w n m a q ds hs) (λ d a q ds hs. second_of area w (f d) (g d) a q ds hs) h.0 at p es gs h.2,
    )
second_of area w (more_steps n f) (more_steps m g) at p es gs (inr (inl h)) = inr (inl (learns_grow _ _ (λ q ds. second_of area w n m at q ds gs) p es h))
second_of area w (more_steps n f) (more_steps m g) at p es gs (inr (inr h)) = inr (inr (restates_grow _ _ (λ q ds. second_of area w n m at q ds gs) p es h))

quietly_within : (area : Area) (w : Caller) (at : ℕ) (i : Code) → Holds area at i → (gs : List Goal) → (n : Steps) (p : Places) (es : List Equation)
    → Within area w n at p es gs → (m : ℕ) × Quietly m (λ q ds. Rule area w (Means area w) i at q ds gs) p es
quietly_within area w at i f gs no_steps p es h = absurd h
quietly_within area w at i f gs (more_steps n g) p es (inl h) =
    let same : h.0 ≡ i = let e : Some h.0 ≡ Some i = sym h.1 ∙ f in cc in (
      zero,
      subst (λ j. Rule area w (Means area w) j at p es gs) same
          (rule_grows area w (Within area w n) (Means area w) (λ d. Within area w (g d)) (λ d. Means area w) (λ a q ds hs k. (n, k)) (λ d a q ds hs k. (g d, k)) h.0 at p es gs h.2),
    )
quietly_within area w at i f gs (more_steps n g) p es (inr (inl h)) =
    let r = quietly_within area w at i f gs n _ _ h.3.4 in
    (suc r.0, inl (h.0, h.1, h.2, (h.3.0, h.3.1, h.3.2, h.3.3, r.1)))
quietly_within area w at i f gs (more_steps n g) p es (inr (inr h)) =
    let r = quietly_within area w at i f gs n _ _ h.6 in
    (suc r.0, inr (h.0, h.1, h.2, h.3, h.4, h.5, r.1))

-- For a machine: what a place stands for is the rule of the instruction that stands there, up to steps that no instruction takes.
pub at_place : (area : Area) (w : Caller) (at : ℕ) (p : Places) (es : List Equation) (gs : List Goal) (i : Code) → Holds area at i → Means area w at p es gs
    → (m : ℕ) × Quietly m (λ q ds. Rule area w (Means area w) i at q ds gs) p es
at_place area w at p es gs i f h = quietly_within area w at i f gs h.0 p es h.1

-- What those steps keep holds where the instruction is taken.
pub quietly_keeps : (I G : Later)
    → ((p : Places) (es : List Equation) (a v : ℕ) (t : Term) (later : List Equation) → I p es → IsFresh p v → p.x a ≡ Some t
    → es ≡ record { left = t; right = Var v } ∷ later → I (write (learn p v) (X a) (Var v)) later)
    → ((p : Places) (es : List Equation) (top : ℕ) (ds : List Equation) → I p es → p.top ≤ top → ((v : ℕ) → p.top ≤ v → v < top → p.known v ≡ false)
    → EquationsOf (Has (record p { top = top })) ds → SaysSame (Has p) ds es → I (record p { top = top }) ds)
    → (m : ℕ) (p : Places) (es : List Equation) → I p es → Quietly m G p es → (q : Places) × (ds : List Equation) × I q ds × G q ds
quietly_keeps I G k l zero p es i g = (p, es, i, g)
quietly_keeps I G k l (suc m) p es i (inl h) = quietly_keeps I G k l m _ _ (k p es h.0 h.1 h.3.0 h.3.1 i h.2 h.3.2 h.3.3) h.3.4
quietly_keeps I G k l (suc m) p es i (inr h) = quietly_keeps I G k l m _ _ (l p es h.0 h.1 i h.2 h.3 h.4 h.5) h.6

-- ---- for a compiler

-- a bound for the other places, which behind a test may depend on what is found
abbrev Bounded : Area → Caller → Code → ℕ → Places → List Equation → List Goal → Type 0
Bounded area w i at p es gs = (n : Steps) × (f : Depth → Steps) × RuleWith area w (Within area w n) (λ d. Within area w (f d)) i at p es gs

-- where no test stands
abbrev no_tests : Depth → Steps
no_tests d = no_steps

equates_bounded : (p : Places) (a : ℕ) (s : Term) (es : List Equation) (F : Steps → List Equation → Type 0) → Equates p a s es (λ ds. (n : Steps) × F n ds) → (n : Steps) × Equates p a s es (F n)
equates_bounded p a s es F h = (h.4.0, (h.0, h.1, h.2, h.3, h.4.1))

takes_bounded : (area : Area) (w : Caller) (taken : Goal → Type 0) (at : ℕ) (p : Places) (es : List Equation) (gs : List Goal)
    → Takes taken (Means area w) at p es gs → (n : Steps) × Takes taken (Within area w n) at p es gs
takes_bounded area w taken at p es gs h = (h.7.0, (h.0, h.1, h.2, h.3, h.4, h.5, h.6, h.7.1))

rule_bounded : (area : Area) (w : Caller) (i : Code) (at : ℕ) (p : Places) (es : List Equation) (gs : List Goal) → Rule area w (Means area w) i at p es gs → Bounded area w i at p es gs
rule_bounded area w (GetVariable r a) at p es gs h = let b = equates_bounded p a _ es (λ n ds. Within area w n _ _ ds gs) h.2 in (b.0, no_tests, (h.0, h.1, b.1))
rule_bounded area w (GetValue r a) at p es gs h = let b = equates_bounded p a _ es (λ n ds. Within area w n _ _ ds gs) h.2 in (b.0, no_tests, (h.0, h.1, b.1))
rule_bounded area w (GetConstant c a) at p es gs h = let b = equates_bounded p a _ es (λ n ds. Within area w n _ _ ds gs) h in (b.0, no_tests, b.1)
rule_bounded area w (GetInteger z a) at p es gs h = let b = equates_bounded p a _ es (λ n ds. Within area w n _ _ ds gs) h in (b.0, no_tests, b.1)
rule_bounded area w (GetStructure f n a) at p es gs h = let b = equates_bounded p a _ es (λ n ds. Within area w n _ _ ds gs) h.4 in (b.0, no_tests, (h.0, h.1, h.2, h.3, b.1))
rule_bounded area w (PutVariable r a) at p es gs h = (h.2.0, no_tests, (h.0, h.1, h.2.1))
rule_bounded area w (PutValue r a) at p es gs h = (h.2.0, no_tests, (h.0, h.1, h.2.1))
rule_bounded area w (PutConstant c a) at p es gs h = (h.0, no_tests, h.1)
rule_bounded area w (PutInteger z a) at p es gs h = (h.0, no_tests, h.1)
rule_bounded area w (PutStructure f n a) at p es gs h = (h.4.0, no_tests, (h.0, h.1, h.2, h.3, h.4.1))
rule_bounded area w (Allocate n) at p es gs h = (h.0, no_tests, h.1)
rule_bounded area w Deallocate at p es gs h = (h.0, no_tests, h.1)
rule_bounded area w (Call e) at p es gs h = let b = takes_bounded area w _ at _ es gs h in (b.0, no_tests, b.1)
rule_bounded area w (Execute e) at p es gs h = (no_steps, no_tests, h)
rule_bounded area w Proceed at p es gs h = (no_steps, no_tests, h)
rule_bounded area w (Jump to) at p es gs h = (h.0, no_tests, h.1)
rule_bounded area w AnswerNow at p es gs h = (no_steps, no_tests, h)
rule_bounded area w (Either to) at p es gs h =
    let first = first_of area w h.7.0 h.8.0 _ _ _ _ h.7.1 in
    let other = second_of area w h.7.0 h.8.0 _ _ _ _ h.8.1 in
    (both h.7.0 h.8.0, no_tests, (h.0, h.1, h.2, h.3, h.4, h.5, h.6, first, other))
rule_bounded area w (Builtin b) at p es gs h = let b = takes_bounded area w _ at p es gs h in (b.0, no_tests, b.1)
rule_bounded area w (Constrain c) at p es gs h = let b = takes_bounded area w _ at p es gs h in (b.0, no_tests, b.1)
rule_bounded area w (Label o) at p es gs h = let b = takes_bounded area w _ at p es gs h in (b.0, no_tests, b.1)
rule_bounded area w (PostRange r n) at p es gs h = let b = takes_bounded area w _ at p es gs h in (b.0, no_tests, b.1)
rule_bounded area w (Best o least) at p es gs h = let b = takes_bounded area w _ at p es gs h in (b.0, no_tests, b.1)
rule_bounded area w (Level n) at p es gs h = (h.2.0, no_tests, (h.0, h.1, h.2.1))
rule_bounded area w (TestOnly n) at p es gs h = (no_steps, λ d. (h.9 d).0, (h.0, h.1, h.2, h.3, h.4, h.5, h.6, h.7, h.8, λ d. (h.9 d).1))
rule_bounded area w (EnterTest n m to) at p es gs h = (
  no_steps,
  λ d. both (h.12 d).0.0 (h.12 d).1.0,
  (
    h.0,
    h.1,
    h.2,
    h.3,
    h.4,
    h.5,
    h.6,
    h.7,
    h.8,
    h.9,
    h.10,
    h.11,
    λ d. (let r = h.12 d in (first_of area w r.0.0 r.1.0 _ _ _ _ r.0.1, second_of area w r.0.0 r.1.0 _ _ _ _ r.1.1)),
  ),
)
rule_bounded area w (CutTo n) at p es gs h = (h.8.0, no_tests, (h.0, h.1, h.2, h.3, h.4, h.5, h.6, h.7, h.8.1))
rule_bounded area w _ at p es gs h = absurd h

-- A place stands for what the rule of its instruction says.
pub from_rule : (area : Area) (w : Caller) (at : ℕ) (p : Places) (es : List Equation) (gs : List Goal) (i : Code) → Holds area at i → Rule area w (Means area w) i at p es gs → Means area w at p es gs
from_rule area w at p es gs i f h = let b = rule_bounded area w i at p es gs h in (more_steps b.0 b.1, inl (i, f, b.2))

-- A variable of the head may be taken to be what a register holds.
pub from_learning : (area : Area) (w : Caller) (at : ℕ) (p : Places) (es : List Equation) (gs : List Goal) → Learns (λ q ds. Means area w at q ds gs) p es → Means area w at p es gs
from_learning area w at p es gs h = (more_steps h.3.4.0 no_tests, inr (inl (h.0, h.1, h.2, (h.3.0, h.3.1, h.3.2, h.3.3, h.3.4.1))))

-- The equations may be restated.
pub from_restating : (area : Area) (w : Caller) (at : ℕ) (p : Places) (es : List Equation) (gs : List Goal) → Restates (λ q ds. Means area w at q ds gs) p es → Means area w at p es gs
from_restating area w at p es gs h = (more_steps h.6.0 no_tests, inr (inr (h.0, h.1, h.2, h.3, h.4, h.5, h.6.1)))
