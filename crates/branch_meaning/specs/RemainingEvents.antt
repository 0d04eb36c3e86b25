-- What is still to come for a machine: the events and reductions of the branches that its state stands for.
use Rattle.std.specs.Prelude.{◌≡◌, ℕ, suc, ◌-◌, ltb, if◌then◌else◌, List, [], ◌∷◌, ◌++◌, drop, length, Option}
use Rattle.fd_language.specs.Term.{Substitution}
use Rattle.fd_language.specs.Family.{Family}
use Rattle.fd_model.specs.Goal.{Goal, Program, Query, Branch, Event}
use Rattle.fd_model.specs.ClosedFamilies.{AllPosted}
use Rattle.fd_language.specs.Monotonicity.{IsMonotone}
use Rattle.fd_model.specs.RunnablePrograms.{AreRunnable}
use Rattle.fd_model.specs.Children.{Kept, Offer, offer, look_in, sets_in}
use Rattle.fd_model.specs.Run.{Run}

-- what a goal of a branch offers under its view, with m other branches
abbrev pub offered : ℕ → ℕ → ℕ → Program → Branch → Goal → List Goal → Substitution → Family → Offer
offered M N m prog b g rest s D = offer M N m prog (look_in b s D) (sets_in b s D) b g rest

-- the goals are runnable, and the posted ranges only shrink when domains shrink
abbrev pub IsFit : ℕ → Branch → Type 0
IsFit M b = AreRunnable M b.goals × AllPosted (λ p. IsMonotone M p.range) b.posted

abbrev pub AreFit : ℕ → List Branch → Type 0
AreFit M [] = Unit {0}
AreFit M (b ∷ bs) = IsFit M b × AreFit M bs

-- The consistent ones among the pending branches have this run. n is the budget left, and k the number of answers still allowed, or none.
pub record Ahead (M N : ℕ) (prog : Program) (q : Query) (n : ℕ) (k : Option ℕ) (pending : List Branch) (es : List Event) (r : ℕ) : Type 0 where
  pub fit : AreFit M pending
  pub branches : List Branch
  pub kept : Kept M N pending branches
  pub run : Run M N prog q n k branches es r

-- The choice points stand for a list of branches, the newest first. A level is a number of choice points, counted from the oldest. marks has, for the newest
-- and each older one, how many of the branches are consistent for which it and all that are older stand. Waits says what one of them stands for, where the
-- older ones have such marks.
abbrev pub AllWait : ℕ → ℕ → (C : Type 0) → (List ℕ → C → List Branch → Type 0) → List C → List Branch → List ℕ → Type 0
AllWait M N C Waits [] raw marks = (raw ≡ []) × (marks ≡ [])
AllWait M N C Waits (c ∷ cs) raw marks =
    (first : List Branch) × (later : List Branch) × (older : List ℕ) × (kept : List Branch)
    × Waits older c first × AllWait M N C Waits cs later older × (raw ≡ first ++ later) × Kept M N raw kept × (marks ≡ length kept ∷ older)

-- How many consistent branches there are at a level: those for which so many of the oldest choice points stand, or all where there are no more.
abbrev pub at_level : List ℕ → ℕ → ℕ
at_level [] l = 0
at_level (n ∷ ns) l = if ltb (length ns) l then n else at_level ns l

-- and above all choice points
abbrev pub at_top : List ℕ → ℕ
at_top [] = 0
at_top (n ∷ ns) = n

-- those of the oldest choice points, so many
abbrev pub oldest : {X : Type 0} → ℕ → List X → List X
oldest l xs = drop (length xs - l) xs

-- A machine that goes back to its newest choice point stands for these events and reductions.
pub record IsBack (M N : ℕ) (prog : Program) (q : Query) (C : Type 0) (Waits : List ℕ → C → List Branch → Type 0) (cs : List C) (n : ℕ) (k : Option ℕ) (es : List Event) (r : ℕ) : Type 0 where
  pub others : List Branch
  pub marks : List ℕ
  pub wait : AllWait M N C Waits cs others marks
  pub ahead : Ahead M N prog q n k others es r

-- One reduction is spent, these events are said, and then the machine stands for the rest.
abbrev pub Spends : (List Event → ℕ → Type 0) → List Event → List Event → ℕ → Type 0
Spends Then said es r = (later : List Event) × (j : ℕ) × (es ≡ said ++ later) × (r ≡ suc j) × Then later j
