-- What the state of a machine over code stands for, between two instructions.
use Rattle.std.specs.Prelude.{◌≡◌, ℕ, ◌<◌, ◌≤◌, ◌⊎◌, true, List, ◌∷◌, ◌++◌, Some, None}
use Rattle.fd_language.specs.Term.{Terms, Substitution, term_count}
use Rattle.fd_language.specs.Unifier.{Equation}
use Rattle.fd_language.specs.Range.{Indexical}
use Rattle.fd_language.specs.Family.{has}
use Rattle.fd_model.specs.ClosedFamilies.{constrained}
use Rattle.fd_model.specs.Goal.{Goal, Call, Branch}
use Rattle.fd_model.specs.RunnablePrograms.{EachBelow, NumbersBelow}
use Rattle.heap_cells.specs.Cells.{Cells}
use Rattle.heap_cells.specs.Terms.{Naming}
use Rattle.branch_meaning.specs.Heap.{EquationsOf}
use Rattle.branch_meaning.specs.EquivalentEquations.{SaysSame}
use Rattle.branch_lemmas.specs.Frames.{IsKept}
use Rattle.wam_code.specs.Area.{Area, name_of}
use Rattle.wam_code.specs.Places.{Depth, Places, made}
use Rattle.wam_code.specs.declared.parts.Entry.{Entry}
use Rattle.wam_code.specs.CodeMeaning.{Means, Return, Continues}
use Rattle.code_meaning.specs.Registers.{Registers, Saved, AreShown, AllShown, AreHeld}
use Rattle.code_meaning.specs.Depths.{IsLeveled}

-- a variable that the heap has: one of the branch's fresh first ones, or one of the code's own
abbrev pub Made : Places → ℕ → ℕ → Type 0
Made p fresh v = (p.known v ≡ true) × ((v < fresh) ⊎ (v < p.top))

-- one of the branch's that the heap has
abbrev pub IsOld : Places → ℕ → ℕ → Type 0
IsOld p fresh v = (p.known v ≡ true) × (v < fresh)

-- With the ranges qs of the store, the heap h stands for a part of a branch's equations; todo are those still to be made. The cells of the registers, and of
-- the continuations, stand for the terms that the code counts on, and their levels for its depths, where the choice points have such marks.
pub record IsMade (M N : ℕ) (marks : List ℕ) (name : Naming) (h : Cells) (qs : List Indexical) (c : Registers) (returns : List Return) (stack : List Saved)
    (b : Branch) (p : Places) (todo : List Equation) : Type 0 where
  pub done : List Equation
  pub look : Substitution
  pub kept : IsKept M N h qs done b.posted (Made p b.fresh) look
  pub same : SaysSame (λ v. v < b.fresh) (done ++ todo) b.equations
  pub xs : AreShown name h look (Made p b.fresh) p.x c.x
  pub ys : AreShown name h look (Made p b.fresh) p.y c.y
  pub saved : AllShown name h look (IsOld p b.fresh) b.fresh returns stack
  pub leveled : IsLeveled marks p.levels p.noted c returns stack
  pub own : p.own ≤ b.fresh
  -- a variable of the branch that isn't one of the clause's is made
  pub covered : (v : ℕ) → v < b.fresh → p.top ≤ v → p.known v ≡ true
  pub used : (v : ℕ) → has (constrained b.posted) v ≡ true → v < b.fresh
  pub scoped : EquationsOf (λ v. v < b.fresh) b.equations

-- The machine stands for the branch b: the place for the equations still to be made and for the branch's goals, before those of the continuations. Answers show
-- the variables shown.
pub record Stands (M N : ℕ) (marks : List ℕ) (area : Area) (shown : List ℕ) (name : Naming) (h : Cells) (qs : List Indexical) (at : ℕ) (c : Registers) (stack : List Saved) (b : Branch) : Type 0 where
  pub p : Places
  pub todo : List Equation
  pub returns : List Return
  pub after : List Goal
  pub made : IsMade M N marks name h qs c returns stack b p todo
  pub continues : Continues area shown returns after
  pub means : Means area (record { goals = after; shown = shown }) at p todo b.goals
  pub below : EachBelow b.fresh b.goals
  pub asked : NumbersBelow b.fresh shown

-- The branch's next goal is one of the predicate e. The argument registers hold its arguments, the continuations stand for the goals behind it, and noted is
-- the depth that the call has noted.
pub record IsCalling (M N : ℕ) (marks : List ℕ) (noted : Depth) (area : Area) (shown : List ℕ) (name : Naming) (h : Cells) (qs : List Indexical) (e : Entry)
    (c : Registers) (stack : List Saved) (b : Branch) : Type 0 where
  pub look : Substitution
  pub ts : Terms
  pub rest : List Goal
  pub returns : List Return
  pub counted : term_count ts ≡ e.arity
  pub goals : b.goals ≡ Call (made (name_of area e.name) ts) ∷ rest
  pub below : EachBelow b.fresh b.goals
  pub asked : NumbersBelow b.fresh shown
  pub kept : IsKept M N h qs b.equations b.posted (λ v. v < b.fresh) look
  pub held : AreHeld name h look (λ v. v < b.fresh) 1 c.x ts
  pub saved : AllShown name h look (λ v. v < b.fresh) b.fresh returns stack
  pub leveled : IsLeveled marks (λ n. None) (Some noted) c returns stack
  pub continues : Continues area shown returns rest
