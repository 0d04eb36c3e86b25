-- Why a query has no answer: goals of it that have none, and of which no single one can be left out.
use Rattle.std.specs.Prelude.{◌≡◌, ℕ, true, false, Bool, List, length}
use Rattle.fd_model.specs.Goal.{Program, Query}
use Rattle.reason_meaning.specs.FewerGoals.{kept, without, is_kept, IsWithin}
use Rattle.reason_meaning.specs.Outcomes.{Outcome, unanswered, HasOutcome}

-- Some goals of the query have no answer, whatever their run may take, and all that stay are among them. Of the others none can be left out: where it is, a run that may
-- take n goals finds an answer of the rest, or is stopped.
pub record IsReason (M N n : ℕ) (prog : Program) (q : Query) (stays ks : List Bool) : Type 0 where
  pub same : length ks ≡ length q.goals
  pub stay : IsWithin stays ks
  pub none : (m : ℕ) × HasOutcome M N m prog q (kept ks q.goals) unanswered
  pub needed : (i : ℕ) → is_kept ks i ≡ true → is_kept stays i ≡ false
      → (o : Outcome) × HasOutcome M N n prog q (kept (without i ks) q.goals) o × (o ≡ unanswered → ⊥)
