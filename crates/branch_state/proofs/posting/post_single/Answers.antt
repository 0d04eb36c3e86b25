use Rattle.std.proofs.Common.{◌≡◌, ◌∙◌, ◌++◌, ◌∷◌, [], ap, sym, subst, length, rules}
use Rattle.fd_language.specs.Range.{Range}
use Rattle.propagate_queue.specs.declared.store.Posted.{Posted}
use Rattle.propagate_queue.specs.Instances.{posting_of}
use Rattle.propagate_queue.specs.Postings.{ranged, IsPosting}
use Rattle.propagate_queue.specs.StoreFields.{IsPosted}
use Rattle.branch_state.proofs.LevelModels.{kept_settled, failed_no_model}
use Rattle.branch_state.proofs.posting.post_single.Goals as goal

pub post_one-requires : goal.post_one-requires
post_one-requires g c =
    let is : c.in_ok-owned.owned.value ≡ c.args.code.now.value = search rules in
    subst (λ (r : Range). IsPosting (length c.args.store.now.current.sets) (posting_of r c.args.target c.args.args.now)) (sym is) c.requires

pub returns-in-Kept-clause-posted : goal.returns-in-Kept-clause-posted
returns-in-Kept-clause-posted g c =
    let is : c.in_ok-owned.owned.value ≡ c.args.code.now.value = search rules in
    c.in_ok-post_one.ensures.posted ∙ ap (λ (r : Range). c.args.store.now.current.posted ++ ranged (posting_of r c.args.target c.args.args.now) ∷ []) is

pub returns-in-Failed-clause-posted : goal.returns-in-Failed-clause-posted
returns-in-Failed-clause-posted g c =
    let is : c.in_ok-owned.owned.value ≡ c.args.code.now.value = search rules in
    c.in_ok-post_one.ensures.posted ∙ ap (λ (r : Range). c.args.store.now.current.posted ++ ranged (posting_of r c.args.target c.args.args.now) ∷ []) is

pub returns-in-Kept-clause-kept : goal.returns-in-Kept-clause-kept
returns-in-Kept-clause-kept g c = kept_settled c.post_one.new.self.current (subst (λ (p : Posted). IsPosted p c.post_one.new.self.current) c.in-Kept.is c.in_ok-post_one.ensures.done)

pub returns-in-Failed-clause-none : goal.returns-in-Failed-clause-none
returns-in-Failed-clause-none g c = failed_no_model c.post_one.new.self.current (subst (λ (p : Posted). IsPosted p c.post_one.new.self.current) c.in-Failed.is c.in_ok-post_one.ensures.done)
