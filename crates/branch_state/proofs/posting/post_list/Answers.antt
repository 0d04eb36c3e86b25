use Rattle.std.proofs.Common.{subst}
use Rattle.propagate_queue.specs.declared.store.Posted.{Posted}
use Rattle.propagate_queue.specs.StoreFields.{IsPosted}
use Rattle.branch_state.proofs.LevelModels.{kept_settled, failed_no_model}
use Rattle.branch_state.proofs.posting.post_list.Goals as goal

pub returns-in-Kept-clause-kept : goal.returns-in-Kept-clause-kept
returns-in-Kept-clause-kept g c = kept_settled c.post.new.self.current (subst (λ (p : Posted). IsPosted p c.post.new.self.current) c.in-Kept.is c.in_ok-post.ensures.done)

pub returns-in-Failed-clause-none : goal.returns-in-Failed-clause-none
returns-in-Failed-clause-none g c = failed_no_model c.post.new.self.current (subst (λ (p : Posted). IsPosted p c.post.new.self.current) c.in-Failed.is c.in_ok-post.ensures.done)
