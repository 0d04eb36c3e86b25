-- Which items of a list are the first of their key, and which come back to the key of an earlier one.
use Rattle.std.specs.Prelude.{Bool, false, ◌&&◌, not, List, [], ◌∷◌, ◌++◌, if◌then◌else◌}
use Rattle.std.specs.List.{list_any}

module _ {K F : Type 0} (same : F → F → Bool) (key : K → F) where
  -- the key is one of these
  abbrev pub is_known : List F → F → Bool
  is_known before f = list_any (same f) before

  -- the key is the first of these
  abbrev pub is_front : List F → F → Bool
  is_front [] f = false
  is_front (g ∷ before) f = same f g

  -- the items whose key no earlier item has; before are the keys of those that stand before them, the last one first
  abbrev pub firsts_behind : List F → List K → List K
  firsts_behind before [] = []
  firsts_behind before (k ∷ ks) =
      (if is_known before (key k) then [] else k ∷ []) ++ firsts_behind (key k ∷ before) ks

  -- the items whose key an earlier item has, but not the item right before them
  abbrev pub resumed_behind : List F → List K → List K
  resumed_behind before [] = []
  resumed_behind before (k ∷ ks) =
      (if is_known before (key k) && not (is_front before (key k)) then k ∷ [] else []) ++ resumed_behind (key k ∷ before) ks

  -- the items whose key an earlier item has
  abbrev pub repeated_behind : List F → List K → List K
  repeated_behind before [] = []
  repeated_behind before (k ∷ ks) = (if is_known before (key k) then k ∷ [] else []) ++ repeated_behind (key k ∷ before) ks
