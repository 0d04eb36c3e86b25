-- A frame is at rest once each linked cell whose set has one value is bound to it.
use Rattle.std.proofs.Common.{◌≡◌, ℕ, List, [], ◌∷◌, Option, Some, None, ap, sym, ◌∙◌, subst}
use Rattle.std.proofs.lemmas.Option.{none-some, same_Some}
use Rattle.fd_language.specs.Family.{Family, IsInside}
use Rattle.fd_model.specs.Models.{IsModel}
use Rattle.fd_model.specs.Goal.{Query}
use Rattle.branch_meaning.specs.HeldBranches.{HeldState, IsAtRest, open_link, link_at, fixed_held}

module _ (M N : ℕ) (q : Query) (f : HeldState) (G : Family) (most : (R : Family) → IsModel M N [] f.store R → IsInside R G) where
  pub fixed_rest : IsModel M N [] f.store G → IsAtRest M N (fixed_held f G) G
  fixed_rest model = record {
    model = model;
    most = most;
    several = λ c k n e g. (let l = linked_still (f.link c) k e in none-some k (sym (ap (λ xs. open_link xs k) g) ∙ l));
  } where
    link_still : (xs : List ℕ) (k j : ℕ) → open_link xs k ≡ Some j → k ≡ j
    link_still [] k j e = same_Some k j e
    link_still (w ∷ []) k j e = absurd (none-some j e)
    link_still (w ∷ v ∷ ws) k j e = same_Some k j e

    linked_still : (o : Option ℕ) (k : ℕ) → link_at o G ≡ Some k → open_link (G k) k ≡ Some k
    linked_still None k e = absurd (none-some k e)
    linked_still (Some j) k e = let same = link_still (G j) j k e in subst (λ i. open_link (G i) i ≡ Some k) same e
