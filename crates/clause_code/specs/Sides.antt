-- Bodies in which an A ; B or a test stands: what is written of them, and what is still to be written.
use Rattle.std.specs.Prelude.{◌≡◌, ◌⊎◌, ℕ, suc, ◌+◌, ◌<◌, ◌≤◌, true, List, [], ◌∷◌, ◌++◌, Some, None, length, slice_set}
use Rattle.fd_model.specs.Goal as model
use Rattle.fd_model.specs.Goal.{Goals, no_goals, goal}
use Rattle.fd_model.specs.RunnablePrograms.{EachBelow}
use Rattle.clause_check.specs.declared.program.Part.{Part}
use Rattle.clause_check.specs.declared.program.FlatGoal.{FlatGoal}
use Rattle.clause_check.specs.declared.program.FlatGoal.TheVariants as flat
use Rattle.clause_check.specs.Programs.{FlatProgram, unlisted, goal_at, goals_in, goals_between}
use Rattle.wam_code.specs.declared.instruction.Register.{Register}
use Rattle.wam_code.specs.declared.instruction.Code.{Code}
use Rattle.fd_model.specs.declared.kinds.BuiltinKind.TheVariants as kind
use Rattle.wam_code.specs.declared.instruction.Code.TheVariants.{Jump, Either, Builtin, TestOnly, EnterTest, CutTo}
use Rattle.clause_code.specs.declared.open_sides.Side.{Side}
use Rattle.clause_code.specs.declared.open_sides.Side.TheVariants.{Left, Right, Test, Held, Choice, Chosen, Denial}
use Rattle.clause_code.specs.Pieces.{Base, past}
use Rattle.clause_code.specs.Bodies.{Levels, in_test, AreFree, IsGoalsCode}
use Rattle.clause_code.specs.LevelSlots.{EachFits}
use Rattle.clause_code.specs.CodablePrograms.{EachCodable}

-- ---- one part

-- The goals before i are written; those from i on are scoped and codable, and there are level slots for them.
pub record Written (p : FlatProgram) (b : Base) (homes : List Register) (l : Levels) (at : ℕ) (old now : List Code) (from i to : ℕ) : Type 0 where
  pub js : List Code
  pub done : List model.Goal
  pub code : now ≡ old ++ js
  pub goals : IsGoalsCode b homes true l at js done
  pub whole : goals_between p from to ≡ done ++ goals_between p i to
  pub below : EachBelow (length homes) (goals_between p i to)
  pub codable : EachCodable (goals_between p i to)
  pub fits : EachFits l (goals_between p i to)
  pub free : AreFree homes l

-- ---- sides

-- the code before a part, the part, and where its cuts go
pub record Level : Type 0 where
  pub before : List Code
  pub part : Part
  pub levels : Levels

-- A level is written up to the goal x; what is behind it is the rest.
pub record Waits (p : FlatProgram) (b : Base) (homes : List Register) (low : Level) (now : List Code) (x : FlatGoal) (rest : Part) : Type 0 where
  pub number : ℕ
  pub written : Written p b homes low.levels (length low.before) low.before now low.part.from number low.part.to
  pub goal : goal_at p number ≡ x
  pub next : rest.from ≡ suc number
  pub end : rest.to ≡ low.part.to
  pub below : number < low.part.to
  pub within : low.part.to ≤ length p.goals

-- the level `high` is the left side of a goal of the level `low`
pub record IsLeft (p : FlatProgram) (b : Base) (homes : List Register) (low : Level) (either : ℕ) (right rest : Part) (high : Level) : Type 0 where
  pub now : List Code
  pub waits : Waits p b homes low now (flat.Either high.part right) rest
  pub before : high.before ≡ now ++ (Either 0 ∷ [])
  pub levels : high.levels ≡ low.levels
  pub place : either ≡ length now

-- it is the right side, and the left one is written
pub record IsRight (p : FlatProgram) (b : Base) (homes : List Register) (low : Level) (jump : ℕ) (rest : Part) (high : Level) : Type 0 where
  pub now : List Code
  pub left : Part
  pub is : List Code
  pub waits : Waits p b homes low now (flat.Either left high.part) rest
  pub code : IsGoalsCode b homes true low.levels (suc (length now)) is (goals_in p left)
  pub before : high.before ≡ now ++ (Either (length now + length is + 2) ∷ (is ++ (Jump 0 ∷ [])))
  pub levels : high.levels ≡ low.levels
  pub place : jump ≡ length now + suc (length is)

-- it is the test of C -> A
pub record IsTest (p : FlatProgram) (b : Base) (homes : List Register) (low : Level) (outer : Levels) (holds rest : Part) (high : Level) : Type 0 where
  pub now : List Code
  pub waits : Waits p b homes low now (flat.If high.part holds None) rest
  pub before : high.before ≡ now ++ (TestOnly low.levels.next ∷ [])
  pub levels : high.levels ≡ in_test low.levels low.levels.next
  pub same : outer ≡ low.levels

-- the code of a test with its cut
abbrev pub tested_code : Levels → List Code → List Code
tested_code l is = is ++ (CutTo l.next ∷ [])

-- it is A of that, and the test is written
pub record IsHeld (p : FlatProgram) (b : Base) (homes : List Register) (low : Level) (rest : Part) (high : Level) : Type 0 where
  pub now : List Code
  pub test : Part
  pub is : List Code
  pub waits : Waits p b homes low now (flat.If test high.part None) rest
  pub code : IsGoalsCode b homes true (in_test low.levels low.levels.next) (suc (length now)) is (goals_in p test)
  pub before : high.before ≡ now ++ (TestOnly low.levels.next ∷ tested_code low.levels is)
  pub levels : high.levels ≡ low.levels

-- it is the test of C -> A ; B
pub record IsChoice (p : FlatProgram) (b : Base) (homes : List Register) (low : Level) (at : ℕ) (outer : Levels) (holds other rest : Part) (high : Level) : Type 0 where
  pub now : List Code
  pub waits : Waits p b homes low now (flat.If high.part holds (Some other)) rest
  pub before : high.before ≡ now ++ (EnterTest low.levels.next (suc low.levels.next) 0 ∷ [])
  pub levels : high.levels ≡ in_test low.levels (suc low.levels.next)
  pub same : outer ≡ low.levels
  pub place : at ≡ length now

-- it is A of that, and the test is written
pub record IsChosen (p : FlatProgram) (b : Base) (homes : List Register) (low : Level) (at : ℕ) (other rest : Part) (high : Level) : Type 0 where
  pub now : List Code
  pub test : Part
  pub is : List Code
  pub waits : Waits p b homes low now (flat.If test high.part (Some other)) rest
  pub code : IsGoalsCode b homes true (in_test low.levels (suc low.levels.next)) (suc (length now)) is (goals_in p test)
  pub before : high.before ≡ now ++ (EnterTest low.levels.next (suc low.levels.next) 0 ∷ tested_code low.levels is)
  pub levels : high.levels ≡ low.levels
  pub place : at ≡ length now

-- it is B of that, and both others are written
pub record IsOther (p : FlatProgram) (b : Base) (homes : List Register) (low : Level) (jump : ℕ) (rest : Part) (high : Level) : Type 0 where
  pub now : List Code
  pub test : Part
  pub holds : Part
  pub is : List Code
  pub hs : List Code
  pub waits : Waits p b homes low now (flat.If test holds (Some high.part)) rest
  pub code : IsGoalsCode b homes true (in_test low.levels (suc low.levels.next)) (suc (length now)) is (goals_in p test)
  pub way : IsGoalsCode b homes true low.levels (past (suc (length now)) (tested_code low.levels is)) hs (goals_in p holds)
  pub before : high.before ≡ now ++ (EnterTest low.levels.next (suc low.levels.next) (length now + length (tested_code low.levels is ++ hs) + 2)
      ∷ ((tested_code low.levels is ++ hs) ++ (Jump 0 ∷ [])))
  pub levels : high.levels ≡ low.levels
  pub place : jump ≡ length now + suc (length (tested_code low.levels is ++ hs))

-- it is the test of a negation
pub record IsDenial (p : FlatProgram) (b : Base) (homes : List Register) (low : Level) (at : ℕ) (outer : Levels) (rest : Part) (high : Level) : Type 0 where
  pub now : List Code
  pub waits : Waits p b homes low now (flat.Not high.part) rest
  pub before : high.before ≡ now ++ (EnterTest low.levels.next (suc low.levels.next) 0 ∷ [])
  pub levels : high.levels ≡ in_test low.levels (suc low.levels.next)
  pub same : outer ≡ low.levels
  pub place : at ≡ length now

abbrev pub Opens : FlatProgram → Base → List Register → Level → Side → Level → Type 0
Opens p b homes low (Left either right rest) high = IsLeft p b homes low either right rest high
Opens p b homes low (Right jump rest) high = IsRight p b homes low jump rest high ⊎ IsOther p b homes low jump rest high
Opens p b homes low (Test outer holds rest) high = IsTest p b homes low outer holds rest high
Opens p b homes low (Held rest) high = IsHeld p b homes low rest high
Opens p b homes low (Choice at outer holds other rest) high = IsChoice p b homes low at outer holds other rest high
Opens p b homes low (Chosen at other rest) high = IsChosen p b homes low at other rest high
Opens p b homes low (Denial at outer rest) high = IsDenial p b homes low at outer rest high

-- each side is a level above the one before it
abbrev pub Nested : FlatProgram → Base → List Register → Level → List Side → Level → Type 0
Nested p b homes low [] high = low ≡ high
Nested p b homes low (s ∷ ss) high = (mid : Level) × Opens p b homes low s mid × Nested p b homes mid ss high

-- With these open sides, the goals of the part are the next ones to be written, and their cuts go to these levels.
pub record Stands (p : FlatProgram) (b : Base) (homes : List Register) (first : Level) (sides : List Side) (now : List Code) (part : Part) (l : Levels) : Type 0 where
  pub top : Level
  pub nested : Nested p b homes first sides top
  pub written : Written p b homes top.levels (length top.before) top.before now top.part.from part.from top.part.to
  pub end : part.to ≡ top.part.to
  pub within : part.to ≤ length p.goals
  pub levels : l ≡ top.levels

-- ---- what a goal and the end of a side change

-- Behind the first instruction of an A ; B its left side is next, behind that of a test the test, and behind another goal the rest. In a test cuts go to its
-- own slots.
abbrev pub Enters : FlatGoal → ℕ → Part → Levels → List Side → List Side → Part → Levels → Type 0
Enters (flat.Either a c) at rest l old new next m = (new ≡ old ++ (Left at c rest ∷ [])) × (next ≡ a) × (m ≡ l)
Enters (flat.If a c None) at rest l old new next m = (new ≡ old ++ (Test l c rest ∷ [])) × (next ≡ a) × (m ≡ in_test l l.next)
Enters (flat.If a c (Some o)) at rest l old new next m = (new ≡ old ++ (Choice at l c o rest ∷ [])) × (next ≡ a) × (m ≡ in_test l (suc l.next))
Enters (flat.Not a) at rest l old new next m = (new ≡ old ++ (Denial at l rest ∷ [])) × (next ≡ a) × (m ≡ in_test l (suc l.next))
Enters _ at rest l old new next m = (new ≡ old) × (next ≡ rest) × (m ≡ l)

-- the place of the instruction that has no place yet, where there is one
abbrev pub HasPlace : Side → List Code → Type 0
HasPlace (Left either right rest) code = either < length code
HasPlace (Right jump rest) code = jump < length code
HasPlace (Choice at outer holds other rest) code = Unit {0}
HasPlace (Chosen at other rest) code = at < length code
HasPlace (Denial at outer rest) code = at < length code
HasPlace _ code = Unit {0}

-- Behind the left side a jump is written, the choice leads behind it, and the right side is next; behind that the jump leads, and the rest is next. Behind a
-- test its cut is written, and then what follows where it holds; a negation fails there.
abbrev pub Leaves : Side → Levels → List Code → List Side → List Code → List Side → Part → Levels → Type 0
Leaves (Left either right rest) l old sides new later next m =
    (new ≡ slice_set (old ++ (Jump 0 ∷ [])) either (Either (length old + 1))) × (later ≡ sides ++ (Right (length old) rest ∷ [])) × (next ≡ right) × (m ≡ l)
Leaves (Right jump rest) l old sides new later next m = (new ≡ slice_set old jump (Jump (length old))) × (later ≡ sides) × (next ≡ rest) × (m ≡ l)
Leaves (Test outer holds rest) l old sides new later next m = (new ≡ old ++ (CutTo outer.next ∷ [])) × (later ≡ sides ++ (Held rest ∷ [])) × (next ≡ holds) × (m ≡ outer)
Leaves (Held rest) l old sides new later next m = (new ≡ old) × (later ≡ sides) × (next ≡ rest) × (m ≡ l)
Leaves (Choice at outer holds other rest) l old sides new later next m = (new ≡ old ++ (CutTo outer.next ∷ [])) × (later ≡ sides ++ (Chosen at other rest ∷ [])) × (next ≡ holds) × (m ≡ outer)
Leaves (Chosen at other rest) l old sides new later next m =
    (new ≡ slice_set (old ++ (Jump 0 ∷ [])) at (EnterTest l.next (suc l.next) (length old + 1))) × (later ≡ sides ++ (Right (length old) rest ∷ [])) × (next ≡ other) × (m ≡ l)
Leaves (Denial at outer rest) l old sides new later next m =
    (new ≡ slice_set (old ++ (CutTo outer.next ∷ Builtin kind.Fail ∷ [])) at (EnterTest outer.next (suc outer.next) (length old + 2))) × (later ≡ sides) × (next ≡ rest) × (m ≡ outer)

-- ---- how many turns are left

abbrev mutual
  pub turns : model.Goal → ℕ
  turns (model.Either x y) = 3 + (all_turns x + all_turns y)
  turns (model.If x y) = 3 + (all_turns x + all_turns y)
  turns (model.IfElse x y z) = 4 + (all_turns x + all_turns y + all_turns z)
  turns (model.Not x) = 2 + all_turns x
  turns _ = 1

  pub all_turns : Goals → ℕ
  all_turns no_goals = 0
  all_turns (goal g gs) = turns g + all_turns gs

abbrev pub turns_of : FlatProgram → Part → ℕ
turns_of p a = all_turns (unlisted (goals_in p a))

abbrev pub side_turns : FlatProgram → Side → ℕ
side_turns p (Left either right rest) = 2 + (turns_of p right + turns_of p rest)
side_turns p (Right jump rest) = 1 + turns_of p rest
side_turns p (Test outer holds rest) = 2 + (turns_of p holds + turns_of p rest)
side_turns p (Held rest) = 1 + turns_of p rest
side_turns p (Choice at outer holds other rest) = 3 + (turns_of p holds + turns_of p other + turns_of p rest)
side_turns p (Chosen at other rest) = 2 + (turns_of p other + turns_of p rest)
side_turns p (Denial at outer rest) = 1 + turns_of p rest

abbrev pub sides_turns : FlatProgram → List Side → ℕ
sides_turns p [] = 0
sides_turns p (s ∷ ss) = side_turns p s + sides_turns p ss
