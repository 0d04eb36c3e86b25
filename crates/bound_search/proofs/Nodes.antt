-- A level as a node of the search.
use Rattle.std.proofs.Common.{◌≡◌, ℕ, Bool, true, false, List, [], ◌∷◌, Option, Some, None, refl, ap, sym, ◌∙◌, pos, ℤ}
use Rattle.fd_language.specs.declared.TheConstants.{INFINITY}
use Rattle.fd_language.specs.Family.{has}
use Rattle.fd_language.specs.Range.{Indexical, least, greatest}
use Rattle.fd_language.specs.SingleValues.{only}
use Rattle.fd_language.proofs.Lemmas.{least_in}
use Rattle.fd_model.specs.Members as seen
use Rattle.fd_model.specs.PostedLeaves.{AreLeft, open_unless, seen_in}
use Rattle.fd_model.specs.BestPosted.{Costs}
use Rattle.fd_model.specs.BranchViews.{IsConsistent}
use Rattle.fd_model.proofs.Lemmas.{consistent_by, left_once, some_only}
use Rattle.range_code.specs.Frames.{family_of}
use Rattle.propagate_queue.specs.PropagationInvariant.{AreDomains}
use Rattle.bound_search.specs.Members.{bound}

module _ (ps : List Indexical) (sets : List (List ℕ)) (d : AreDomains ps sets) where
  -- its sets are those that its ranges leave
  pub node_left : AreLeft INFINITY ps (family_of sets)
  node_left = record { family = d.family; domains = d.domains }

  pub node_some : (x : ℕ) → (n : ℕ) × (has (family_of sets x) n ≡ true)
  node_some x = (least (family_of sets x), least_in (family_of sets x) (d.some x))

  pub node_consistent : IsConsistent INFINITY INFINITY [] ps
  node_consistent = consistent_by INFINITY ps (λ x. (least (family_of sets x), (d.domains x (least (family_of sets x))).0 (least_in (family_of sets x) (d.some x))))

  -- where the cost is one integer it is the bound
  one_bound : (wanted : Bool) (c : seen.Member) (z : ℤ) → seen_in (family_of sets) c ≡ seen.Known z → z ≡ bound wanted (family_of sets) c
  one_bound wanted (seen.Known w) z e = let k : z ≡ w = cc in k
  one_bound wanted (seen.Open x) z e = by_set (only (family_of sets x)) refl e
    where
      by_wanted : (b : Bool) (n : ℕ) → family_of sets x ≡ n ∷ [] → pos n ≡ bound b (family_of sets) (seen.Open x)
      by_wanted true n f = ap pos (sym (ap least f))
      by_wanted false n f = ap pos (sym (ap greatest f))

      by_set : (o : Option ℕ) → only (family_of sets x) ≡ o → open_unless x o ≡ seen.Known z → z ≡ bound wanted (family_of sets) (seen.Open x)
      by_set None f g = absurd (let b : ⊥ = cc in b)
      by_set (Some n) f g = (let k : z ≡ pos n = cc in k) ∙ by_wanted wanted n (some_only (family_of sets x) n f)

  pub cost_bound : (wanted : Bool) (c : seen.Member) (z : ℤ) → Costs INFINITY c ps z → z ≡ bound wanted (family_of sets) c
  cost_bound wanted c z k = one_bound wanted c z (ap (λ S. seen_in S c) (left_once INFINITY ps (family_of sets) k.family node_left k.left) ∙ k.seen)
