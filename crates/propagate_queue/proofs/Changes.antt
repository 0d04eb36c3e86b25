-- What wakes readers is what they see change.
use Rattle.std.proofs.Common.{◌≡◌, ℕ, Bool, ◌||◌, ◌&&◌, ◌==◌, List, [], ◌∷◌, refl}
use Rattle.fd_language.specs.declared.range_node.Feature.{Feature}
use Rattle.fd_language.specs.declared.range_node.Feature.TheVariants as feature
use Rattle.fd_model.specs.Changes.{is_changed, sees_change}
use Rattle.dependency_chains.specs.WokenAgents.{change_of, wakes, is_woken}

same_wake : (old new : List ℕ) (f : Feature) → is_changed old new f ≡ wakes (change_of old new) f
same_wake old new feature.Min = refl
same_wake old new feature.Max = refl
same_wake old new feature.Val = refl
same_wake old new feature.Dom = refl

-- a change is seen by those whom it wakes
pub seen_is_woken : (old new : List ℕ) (x : ℕ) (ds : List (ℕ × Feature)) → sees_change old new x ds ≡ is_woken (change_of old new) x ds
seen_is_woken old new x [] = refl
seen_is_woken old new x ((y, f) ∷ ds) = both (y == x) (same_wake old new f) (seen_is_woken old new x ds) where
  both : (a : Bool) {b b' c c' : Bool} → b ≡ b' → c ≡ c' → ((a && b) || c) ≡ ((a && b') || c')
  both a e f = cc
