-- Pieces of code, and what they do.
use Rattle.std.specs.Prelude.{◌≡◌, ℕ, suc, List, [], ◌∷◌, map}
use Rattle.fd_language.specs.Range.{Range}
use Rattle.fd_language.specs.Term.{Terms}
use Rattle.fd_language.specs.Unifier.{Equation}
use Rattle.fd_model.specs.Goal.{Goal}
use Rattle.term_pool.specs.declared.AtomId.{AtomId}
use Rattle.term_pool.specs.Contents.{Contents}
use Rattle.wam_code.specs.declared.instruction.Code.{Code}
use Rattle.wam_code.specs.declared.parts.Entry.{Entry}
use Rattle.wam_code.specs.Area.{Area, Holds}
use Rattle.wam_code.specs.Places.{Places}
use Rattle.wam_code.specs.CodeMeaning.{Caller, Owed, Means}

-- a predicate, wherever its code is
pub record Predicate : Type 0 where
  pub name : AtomId
  pub arity : ℕ

abbrev pub predicate_of : Entry → Predicate
predicate_of e = record { name = e.name; arity = e.arity }

-- what is settled before code is written: the pool, the ranges and the predicates
pub record Base : Type 0 where
  pub pool : Contents
  pub ranges : List Range
  pub predicates : List Predicate

abbrev pub base_of : Area → Base
base_of a = record { pool = a.pool; ranges = a.ranges; predicates = map predicate_of a.entries }

-- these instructions stand from the place on
abbrev pub Stand : Area → ℕ → List Code → Type 0
Stand area at [] = Unit {0}
Stand area at (i ∷ is) = Holds area at i × Stand area (suc at) is

-- the place behind them
abbrev pub past : ℕ → List Code → ℕ
past at [] = at
past at (i ∷ is) = past (suc at) is

-- Wherever these instructions stand at the place, they lead from these registers, equations and goals to those.
abbrev pub Does : Base → ℕ → List Code → Places → List Equation → List Goal → Places → List Equation → List Goal → Type 0
Does b at is p es gs q ds hs = (area : Area) (w : Caller) → base_of area ≡ b → Stand area at is → Means area w (past at is) q ds hs → Means area w at p es gs

-- They are the unify instructions that give these terms.
abbrev pub Parts : Base → ℕ → List Code → Places → Terms → Places → Type 0
Parts b at is p ts q = (area : Area) → base_of area ≡ b → Stand area at is → Owed area 0 at p ts (past at is) q

-- They end a clause or a query whose caller is w.
abbrev pub Ends : Base → Caller → ℕ → List Code → Places → List Equation → List Goal → Type 0
Ends b w at is p es gs = (area : Area) → base_of area ≡ b → Stand area at is → Means area w at p es gs
