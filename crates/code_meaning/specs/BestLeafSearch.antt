-- A machine that has searched for the best leaf of a labelling, and takes the numbers that were found.
use Rattle.std.specs.Prelude.{◌≡◌, ℕ, ◌<◌, Bool, List, [], ◌∷◌, Option}
use Rattle.fd_language.specs.Monotonicity.{IsMonotone}
use Rattle.fd_language.specs.Range.{Indexical}
use Rattle.fd_language.specs.Term.{Var}
use Rattle.fd_model.specs.declared.kinds.Order.{Order}
use Rattle.fd_model.specs.Branches.{with_goals}
use Rattle.fd_model.specs.ClosedFamilies.{AllPosted}
use Rattle.fd_model.specs.Goal.{Label, Branch, Program, Query, Event}
use Rattle.fd_model.specs.BranchViews.{IsConsistent}
use Rattle.heap_cells.specs.Cells.{Cells}
use Rattle.heap_cells.specs.Terms.{Naming}
use Rattle.branch_meaning.specs.RemainingEvents.{Ahead, AllWait}
use Rattle.sought_leaves.specs.LeafSearch.{found_at, Takes}
use Rattle.wam_code.specs.Area.{Area}
use Rattle.wam_code.specs.CodeMeaning.{BestRule}
use Rattle.code_meaning.specs.Registers.{Registers, Saved}
use Rattle.code_meaning.specs.MachineStates.{Choice, Waits, IsTaking}

-- At the place of a search the machine takes the numbers that were found for these cells: each variable that the labelling picks takes the number of its cell,
-- left of them still, and then the leaf is reached. n is the budget left, and k the number of answers still allowed, or none.
pub record Leads (M N : ℕ) (area : Area) (prog : Program) (q : Query) (name : Naming) (o : Order) (least : Bool) (cells numbers : List ℕ) (left : ℕ) (h : Cells) (qs : List Indexical) (at : ℕ)
    (c : Registers) (stack : List Saved) (cs : List Choice) (n : ℕ) (k : Option ℕ) (es : List Event) (r : ℕ) : Type 0 where
  pub branch : Branch
  pub leaf : Branch
  pub others : List Branch
  pub marks : List ℕ
  pub taking : IsTaking M N marks area q.shown name h qs at c stack branch (λ p. BestRule o least p)
  pub consistent : IsConsistent M N branch.equations branch.posted
  pub monotone : AllPosted (λ p. IsMonotone M p.range) branch.posted
  pub value : ℕ → ℕ
  pub values : (x v : ℕ) → x < branch.fresh → taking.ready.made.look x ≡ Var v → value x ≡ found_at cells numbers v
  pub takes : Takes M N o taking.is.0 value left (with_goals branch (Label o taking.is.0 ∷ [])) leaf
  pub wait : AllWait M N Choice (Waits M N area q.shown name) cs others marks
  pub ahead : Ahead M N prog q n k (with_goals leaf taking.later ∷ others) es r
