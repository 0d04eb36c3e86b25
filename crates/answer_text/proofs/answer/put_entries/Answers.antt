use Rattle.std.proofs.Common.{ℕ, List, subst}
use Rattle.answer_text.specs.Variables.{HasSets}
use Rattle.answer_text.proofs.answer.put_entries.Goals as goal

pub put_entries_by-requires-clause-sets : goal.put_entries_by-requires-clause-sets
put_entries_by-requires-clause-sets c =
    subst (λ (l : List (ℕ × List ℕ)). HasSets l c.in_ok-sets.sets) c.deref.ensures.value c.in_ok-sets.ensures
