-- What a goal gives in a branch, what it says and keeps, and the level of a test's cut.
use Rattle.std.proofs.Common.{◌≡◌, ℕ, suc, length, List, ◌∷◌, ap, ◌∙◌, inl, inr, arith}
use Rattle.fd_language.specs.Term.{Substitution}
use Rattle.fd_language.specs.Family.{Family}
use Rattle.fd_model.specs.Goal.{Goal, Branch, Program, Query, Event}
use Rattle.fd_model.specs.BranchViews.{IsConsistent, IsView}
use Rattle.fd_model.specs.Children.{Gives, Kept, kept_by}
use Rattle.fd_model.specs.Lines.{says}
use Rattle.branch_meaning.specs.RemainingEvents.{offered, AllWait, at_level, at_top}
use Rattle.branch_meaning.proofs.Levels.{wait_top, wait_length, level_above}

module _ (M N : ℕ) (prog : Program) (q : Query) (C : Type 0) (Waits : List ℕ → C → List Branch → Type 0) where
  -- what the goal gives, with m other branches
  abbrev pub GivesAll : ℕ → Branch → Goal → List Goal → List Branch → Type 0
  GivesAll m b g rest kids = (s : Substitution) (D : Family) → IsView M N b.equations b.posted s D → offered M N m prog b g rest s D ≡ Gives kids

  abbrev pub Speaks : Branch → Goal → List Event → Type 0
  Speaks b g said = (s : Substitution) (D : Family) → IsView M N b.equations b.posted s D → says s D b g ≡ said

  -- it keeps all other branches
  abbrev pub KeepsAll : Goal → Type 0
  KeepsAll g = (m : ℕ) → kept_by m g ≡ m

-- Where the other way of a consistent branch waits alone, the new level keeps one branch more.
module _ (M N : ℕ) (C : Type 0) (Waits : List ℕ → C → List Branch → Type 0) (cs : List C) (others : List Branch) (marks : List ℕ)
    (wait : AllWait M N C Waits cs others marks) (b : Branch) (ok : IsConsistent M N b.equations b.posted) (ds : List Branch)
    (h : Kept M N (b ∷ others) ds) where
  one_more : length ds ≡ suc (at_top marks)
  one_more = by_kept h
    where
      by_kept : Kept M N (b ∷ others) ds → length ds ≡ suc (at_top marks)
      by_kept (inl k) = ap length k.1.1 ∙ ap suc (wait_top M N C Waits cs others marks wait k.1.0 k.1.2)
      by_kept (inr k) = absurd (k.0 ok)

  -- of a cut in the test
  pub test_level : at_level (length ds ∷ marks) (suc (length cs)) ≡ suc (at_top marks)
  test_level = level_above (length ds ∷ marks) (suc (length cs)) (let e = wait_length M N C Waits cs others marks wait in omega (arith, e)) ∙ one_more
