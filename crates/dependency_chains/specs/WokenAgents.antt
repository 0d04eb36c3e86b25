-- How a set changes, and which readers that wakes.
use Rattle.std.specs.Prelude.{ℕ, Bool, true, ◌&&◌, not, ◌==◌, List}
use Rattle.std.specs.List.{list_any}
use Rattle.fd_language.specs.declared.range_node.Feature.{Feature}
use Rattle.fd_language.specs.declared.range_node.Feature.TheVariants as feature
use Rattle.fd_language.specs.Range.{least, greatest, is_several}
use Rattle.dependency_chains.specs.declared.Change.{Change}

-- whether the least member is another, whether the greatest is, and whether there is one value where there were several
abbrev pub change_of : List ℕ → List ℕ → Change
change_of old new = record { min = not (least old == least new); max = not (greatest old == greatest new); fixed = is_several old && not (is_several new) }

abbrev pub wakes : Change → Feature → Bool
wakes c feature.Min = c.min
wakes c feature.Max = c.max
wakes c feature.Val = c.fixed
wakes c feature.Dom = true

-- whether one who reads so wakes when x changes so
abbrev pub is_woken : Change → ℕ → List (ℕ × Feature) → Bool
is_woken c x fs = list_any (λ d. (d.0 == x) && wakes c d.1) fs
