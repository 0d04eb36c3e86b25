-- The query as it is looked at is flat where it is flat, or flat but for a search for its best leaf.
use Rattle.std.proofs.Common.{◌≡◌, ℕ, List, [], ◌∷◌, ◌++◌, map, refl, ap, ◌∙◌}
use Rattle.fd_language.specs.Lists.{Each}
use Rattle.fd_model.specs.Goal.{Goal, Post, Constrain, Label, Best}
use Rattle.fd_model.specs.FlatQueries.{IsFlatGoal}
use Rattle.reason_meaning.specs.FewerGoals.{without_best}
use Rattle.reason_meaning.specs.ToldLaws.{LookedAt}

module _ (M N : ℕ) where
  one_same : (g : Goal) → IsFlatGoal M N g → without_best g ≡ g
  one_same (Post t r) h = refl
  one_same (Constrain k t) h = refl
  one_same _ h = absurd h

  all_same : (gs hs : List Goal) → Each (IsFlatGoal M N) gs → map without_best (gs ++ hs) ≡ gs ++ map without_best hs
  all_same [] hs h = refl
  all_same (g ∷ gs) hs h = let a = one_same g h.0 in let b = all_same gs hs h.1 in cc

pub looked_at_flat : LookedAt
looked_at_flat M N q gs o ms = (
  λ f. record { list = f.list; goals = ap (map without_best) f.goals ∙ all_same M N gs (Label o f.list ∷ []) f.flat; read = f.read; flat = f.flat; every = f.every },
  λ least c f. record { list = f.list; goals = ap (map without_best) f.goals ∙ all_same M N gs (Best o least f.list f.cost ∷ []) f.flat; read = f.read; flat = f.flat; every = f.every },
)
