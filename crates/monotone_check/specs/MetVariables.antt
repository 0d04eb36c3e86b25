-- The variables that were met, and the clashes of those that are still to come.
use Rattle.std.specs.Prelude.{◌≡◌, ℕ, suc, List, ◌∷◌, nat_eq, Option}
use Rattle.std.specs.List.{list_any}
use Rattle.fd_language.specs.declared.range_node.RangeNode.{RangeNode}
use Rattle.fd_language.specs.declared.range_node.Offence.{Offence}
use Rattle.fd_language.specs.Family.{has}
use Rattle.fd_language.specs.RangeVerdict.{clashes, earlier, first}

-- the keys are those of the list
abbrev pub AreSeen : List ℕ → List ℕ → Type 0
AreSeen xs keys = (z : ℕ) → list_any (nat_eq z) keys ≡ has xs z

-- what one more node finds, and what was met then
abbrev pub FindsAt : ℕ → RangeNode → List ℕ → List ℕ → List ℕ → List ℕ → Option Offence → Type 0
FindsAt place node old_parameters old_named new_parameters new_named found =
    (at : ℕ → ℕ) (n : ℕ) (ns : List RangeNode) (ps ys : List ℕ) → at n ≡ place → AreSeen ps old_parameters → AreSeen ys old_named →
    (qs : List ℕ) × (zs : List ℕ) × AreSeen qs new_parameters × AreSeen zs new_named × (earlier found (first (clashes at (suc n) qs zs ns)) ≡ first (clashes at n ps ys (node ∷ ns)))
