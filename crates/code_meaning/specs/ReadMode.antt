-- What a machine stands for between two unify instructions on a compound term that is there.
use Rattle.std.specs.Prelude.{◌≡◌, ℕ, ◌<◌, ◌≤◌, true, List, [], ◌∷◌, ◌++◌, Some}
use Rattle.fd_language.specs.Term.{Term, Terms, no_terms, term, Substitution, term_count}
use Rattle.fd_language.specs.Unifier.{Equation}
use Rattle.fd_language.specs.Range.{Indexical}
use Rattle.fd_language.specs.Family.{Family, has}
use Rattle.fd_model.specs.Children.{paired}
use Rattle.fd_model.specs.ClosedFamilies.{constrained}
use Rattle.fd_model.specs.Goal.{Goal, Branch}
use Rattle.fd_model.specs.RunnablePrograms.{EachBelow, NumbersBelow}
use Rattle.heap_cells.specs.declared.Cell.{Cell}
use Rattle.heap_cells.specs.Cells.{Cells, IsOf}
use Rattle.heap_cells.specs.Terms.{Naming}
use Rattle.branch_meaning.specs.Heap.{Of, EquationsOf}
use Rattle.branch_meaning.specs.EquivalentEquations.{SaysSame}
use Rattle.branch_meaning.specs.Store.{posts}
use Rattle.branch_lemmas.specs.Frames.{store_touches}
use Rattle.unify_core.specs.declared.Touch.{Touch}
use Rattle.unify_core.specs.PairReduction.{IsSameSize}
use Rattle.unify_core.specs.Touches.{IsRefuted}
use Rattle.unify_core.specs.Unifications as core
use Rattle.unify_core.specs.Unifications.{cells_equal}
use Rattle.fd_model.specs.Models.{IsModel}
use Rattle.wam_code.specs.Area.{Area}
use Rattle.wam_code.specs.Places.{Places}
use Rattle.wam_code.specs.CodeMeaning.{Owed, Means, Return, Continues}
use Rattle.code_meaning.specs.Registers.{Registers, Saved, IsShown}
use Rattle.code_meaning.specs.StateMeaning.{Made, IsOld, IsMade}

-- each cell is of the heap
abbrev pub AllOwn : Cells → List Cell → Type 0
AllOwn h [] = Unit {0}
AllOwn h (c ∷ cs) = IsOf h c × AllOwn h cs

-- each cell stands for its term
abbrev pub AreCells : Naming → Cells → Substitution → (ℕ → Type 0) → List Cell → Terms → Type 0
AreCells name h look P [] no_terms = Unit {0}
AreCells name h look P [] (term t ts) = ⊥
AreCells name h look P (d ∷ ds) no_terms = ⊥
AreCells name h look P (d ∷ ds) (term t ts) = IsShown name h look P t d × AreCells name h look P ds ts

-- The same places, but that variables from base on are known too: one for each argument of a compound term that is there, which only the proof knows.
pub record IsWider (p wide : Places) (fresh base : ℕ) : Type 0 where
  pub xs : (n : ℕ) → wide.x n ≡ p.x n
  pub ys : (n : ℕ) → wide.y n ≡ p.y n
  pub levels : (n : ℕ) → wide.levels n ≡ p.levels n
  pub noted : wide.noted ≡ p.noted
  pub known : (v : ℕ) → v < base → wide.known v ≡ true → Made p fresh v
  pub made : (v : ℕ) → Made p fresh v → wide.known v ≡ true
  pub low : fresh ≤ base
  pub top : p.top ≤ base
  pub above : base ≤ wide.top

-- the equations whole, of variables below base, in the place of the branch's
abbrev pub local : Branch → List Equation → ℕ → Branch
local b whole base = record { goals = b.goals; equations = whole; posted = b.posted; fresh = base }

-- what the registers hold are terms of variables that the heap has
abbrev pub IsPlain : Places → ℕ → Type 0
IsPlain p fresh = ((n : ℕ) (t : Term) → p.x n ≡ Some t → Of (Made p fresh) t) × ((n : ℕ) (t : Term) → p.y n ≡ Some t → Of (Made p fresh) t)

-- and so do the slots of the continuations
abbrev pub ArePlain : (ℕ → Type 0) → ℕ → List Return → Type 0
ArePlain P fresh [] = Unit {0}
ArePlain P fresh (r ∷ rs) = (r.own ≤ fresh) × ((n : ℕ) (t : Term) → r.slots n ≡ Some t → Of P t) × ArePlain P fresh rs

-- What holds where the last argument is read, with the places q. whole are the equations that are made then.
pub record IsRead (b : Branch) (returns : List Return) (q : Places) (whole todo : List Equation) : Type 0 where
  pub same : SaysSame (λ v. v < b.fresh) (whole ++ todo) b.equations
  pub made : EquationsOf (Made q b.fresh) whole
  pub plain : IsPlain q b.fresh
  pub saved : ArePlain (IsOld q b.fresh) b.fresh returns
  pub own : q.own ≤ b.fresh
  pub covered : (v : ℕ) → v < b.fresh → q.top ≤ v → q.known v ≡ true
  pub used : (v : ℕ) → has (constrained b.posted) v ≡ true → v < b.fresh
  pub scoped : EquationsOf (λ v. v < b.fresh) b.equations

-- A compound term's arguments are being read: the cells left are still to be made equal to the terms that the code gives from here on. The instruction before
-- still gives so many variables.
pub record Reads (M N : ℕ) (marks : List ℕ) (area : Area) (shown : List ℕ) (name : Naming) (h : Cells) (qs : List Indexical) (voids at : ℕ) (c : Registers)
    (left : List Cell) (stack : List Saved) (b : Branch) : Type 0 where
  pub p : Places
  pub wide : Places
  pub base : ℕ
  pub q : Places
  pub next : ℕ
  -- the terms that the code gives, and those of the cells
  pub ts : Terms
  pub sides : Terms
  pub whole : List Equation
  pub todo : List Equation
  pub returns : List Return
  pub after : List Goal
  pub made : IsMade M N marks name h qs c returns stack (local b whole base) wide (paired sides ts)
  pub cells : AreCells name h made.look (Made wide base) left sides
  pub counted : term_count ts ≡ term_count sides
  pub wider : IsWider p wide b.fresh base
  pub owed : Owed area voids at p ts next q
  pub ahead : IsRead b returns q whole todo
  pub continues : Continues area shown returns after
  pub means : Means area (record { goals = after; shown = shown }) next q todo b.goals
  pub below : EachBelow b.fresh b.goals
  pub asked : NumbersBelow b.fresh shown

-- Two cells are to be equal: where they are unified, the arguments left are read next; where they can't be, the branch has no model.
pub record ReadsOnEqual (M N : ℕ) (marks : List ℕ) (area : Area) (shown : List ℕ) (name : Naming) (h : Cells) (qs : List Indexical) (to : ℕ) (c : Registers)
    (left : List Cell) (stack : List Saved) (b : Branch) (d e : Cell) : Type 0 where
  pub unified : (now : Cells) (ts : List Touch) → core.IsUnified name h d e now ts → IsSameSize h now → Reads M N marks area shown name now (qs ++ posts (store_touches ts)) 0 to c left stack b
  pub refuted : IsRefuted h (cells_equal name h d e) → (S : Family) → IsModel M N b.equations b.posted S → ⊥
