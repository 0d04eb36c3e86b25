-- The variables of members, one by one.
use Rattle.std.proofs.Common.{◌≡◌, ℕ, suc, ◌≤◌, List, [], ◌∷◌, ◌++◌, sym, ap, ◌∙◌, arith, append_assoc}
use Rattle.fd_model.specs.Members.{Member, Open, Known, place_of, after, placed, equated_from, fresh_after}
use Rattle.constraint_expand.specs.declared.members.Placed.{Placed}
use Rattle.constraint_expand.specs.Lists.{Places, Placing}
use Rattle.product_bool.proofs.Lemmas.{equated_more}

pub fresh_grows : (n : ℕ) (ms : List Member) → n ≤ fresh_after n ms
fresh_grows n [] = omega arith
fresh_grows n (Open x ∷ ms) = fresh_grows n ms
fresh_grows n (Known z ∷ ms) = let h = fresh_grows (suc n) ms in omega arith

pub place_fits : (n end : ℕ) (m : Member) (ms : List Member) → fresh_after n (m ∷ ms) ≡ end → after n m ≤ end
place_fits n end m ms e = let h = fresh_grows (after n m) ms in omega (arith, h)

pub placing_turns : (n : ℕ) (ms : List Member) (old new : Placed) (m : Member) (ahead : List Member) → Placing n ms old (m ∷ ahead) → Places m old new → Placing n ms new ahead
placing_turns n ms old new m ahead i p = record {
  variables = (λ j. p.variables j ++ placed (p.fresh j) ahead) ∙ append_assoc old.variables.items (place_of old.fresh m ∷ []) (placed (after old.fresh m) ahead) ∙ i.variables;
  equated = (λ j. p.equated j ++ equated_from (p.fresh j) ahead)
      ∙ append_assoc old.equated.items (equated_from old.fresh (m ∷ [])) (equated_from (after old.fresh m) ahead)
      ∙ ap (λ es. old.equated.items ++ es) (sym (equated_more old.fresh m ahead)) ∙ i.equated;
  fresh = ap (λ k. fresh_after k ahead) p.fresh ∙ i.fresh;
}
