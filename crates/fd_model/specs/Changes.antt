-- What a change of one variable's set changes for the ranges that read the variable.
use Rattle.std.specs.Prelude.{ℕ, Bool, true, ◌&&◌, not, ◌==◌, List}
use Rattle.std.specs.List.{list_any}
use Rattle.fd_language.specs.declared.range_node.Feature.{Feature}
use Rattle.fd_language.specs.declared.range_node.Feature.TheVariants as feature
use Rattle.fd_language.specs.Range.{least, greatest, is_several}

-- whether what is read so is another in the new set; a value is read where one is left
abbrev pub is_changed : List ℕ → List ℕ → Feature → Bool
is_changed old new feature.Min = not (least old == least new)
is_changed old new feature.Max = not (greatest old == greatest new)
is_changed old new feature.Val = is_several old && not (is_several new)
is_changed old new feature.Dom = true

-- whether one who reads these pairs of a variable and a feature may see that the set of x changed
abbrev pub sees_change : List ℕ → List ℕ → ℕ → List (ℕ × Feature) → Bool
sees_change old new x fs = list_any (λ d. (d.0 == x) && is_changed old new d.1) fs
