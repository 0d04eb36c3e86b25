-- What a search of the code wants.
use Rattle.std.specs.Prelude.{◌≡◌, ℕ, ℤ, List, Option, Some, ◌⊎◌}
use Rattle.fd_model.specs.declared.kinds.Order.TheVariants.{Leftmost}
use Rattle.fd_model.specs.Levels.{Level}
use Rattle.fd_model.specs.BestPosted.{IsCostOf}
use Rattle.label_search.specs.declared.Member.{Member}
use Rattle.label_search.specs.declared.Member.TheVariants.{Var}
use Rattle.bound_search.specs.declared.search.Aim.{Aim}
use Rattle.label_search.specs.Picks.{IsThere}
use Rattle.bound_search.specs.Members.{AreOwn, member_of, members_of}
use Rattle.bound_search.specs.Posting.{with_bound}
use Rattle.bound_search.specs.SearchStates.{Wanted}

abbrev pub wanted : List Member → Aim → Wanted
wanted list aim = record { order = aim.order; members = members_of list; cost = member_of aim.cost; least = aim.least }

-- the members are integers and some of so many variables, and the cost is an integer or a member
pub record AreWanted (count : ℕ) (ms : List Member) (aim : Aim) : Type 0 where
  pub list : AreOwn count ms
  pub cost : IsThere count aim.cost
  pub member : IsCostOf (members_of ms) (member_of aim.cost)

-- The level stays as it is, or by Leftmost the cost gets the bound that it is better than the best so far.
abbrev pub IsBounded : Aim → Option ℤ → Level → Level → Type 0
IsBounded aim best old new =
    (new ≡ old)
    ⊎ ((x : ℕ) × (z : ℤ) × (aim.order ≡ Leftmost) × (aim.cost ≡ Var x) × (best ≡ Some z) × (new.posted ≡ with_bound old.posted x aim.least z))
