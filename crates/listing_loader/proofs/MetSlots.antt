-- Slots as they are met, node by node.
use Rattle.std.proofs.Common.{◌≡◌, ℕ, suc, ◌+◌, ◌<◌, ◌≤◌, Bool, true, false, cond, ◌&&◌, ◌==◌, nat_lt, List, [], ◌∷◌, ◌++◌, drop, length, get_or, Option, Some}
use Rattle.std.proofs.Common.{None, refl, sym, ap, ◌∙◌, arith}
use Rattle.std.specs.Prelude.{option_map}
use Rattle.std.specs.Option.{option_to_list}
use Rattle.std.proofs.lemmas.Option.{none-some, same_Some}
use Rattle.std.proofs.Math.Seq.{drop-cons}
use Rattle.fd_language.specs.declared.range_node.RangeNode.{RangeNode}
use Rattle.fd_language.specs.Range.{Leaf, leaf_of, from_leaf}
use Rattle.range_code.specs.Nodes.{node_variable, node_variables}
use Rattle.listing_loader.specs.Marks.{are_in_order}
use Rattle.listing_loader.specs.Slots.{met_behind}

-- the slots of one more node
variables_more : (n : RangeNode) (ns : List RangeNode) → node_variables (n ∷ ns) ≡ option_to_list (node_variable n) ++ node_variables ns
variables_more n ns = ap (λ l. l ++ node_variables ns) (alone (leaf_of n)) where
  alone : (o : Option Leaf) → from_leaf (λ l. l.variable ∷ []) o ≡ option_to_list (option_map (λ l. l.variable) o)
  alone None = refl
  alone (Some l) = refl

meets : (met : ℕ) (o : Option ℕ) (ys : List ℕ) (m : ℕ) → met_behind met o ≡ Some m → (are_in_order met (option_to_list o ++ ys) ≡ are_in_order m ys) × (m ≤ suc met)
meets met None ys m e = let is : met ≡ m = same_Some met m e in (ap (λ k. are_in_order k ys) is, omega (arith, is))
meets met (Some y) ys m e = go (nat_lt y met) (y == met) e where
  go : (b c : Bool) → cond b (Some met) (cond c (Some (suc met)) None) ≡ Some m → (cond b (are_in_order met ys) (c && are_in_order (suc met) ys) ≡ are_in_order m ys) × (m ≤ suc met)
  go true c f = let is : met ≡ m = same_Some met m f in (ap (λ k. are_in_order k ys) is, omega (arith, is))
  go false true f = let is : suc met ≡ m = same_Some (suc met) m f in (ap (λ k. are_in_order k ys) is, omega (arith, is))
  go false false f = absurd (none-some m f)

misses : (met : ℕ) (o : Option ℕ) (ys : List ℕ) → met_behind met o ≡ None → are_in_order met (option_to_list o ++ ys) ≡ false
misses met None ys e = absurd (none-some met (sym e))
misses met (Some y) ys e = go (nat_lt y met) (y == met) e where
  go : (b c : Bool) → cond b (Some met) (cond c (Some (suc met)) None) ≡ None → cond b (are_in_order met ys) (c && are_in_order (suc met) ys) ≡ false
  go true c f = absurd (none-some met (sym f))
  go false true f = absurd (none-some (suc met) (sym f))
  go false false f = refl

-- the nodes from an index on
rest_is : (ns : List RangeNode) (i : ℕ) (d : RangeNode) → i < length ns → node_variables (drop i ns) ≡ option_to_list (node_variable (get_or ns i d)) ++ node_variables (drop (i + 1) ns)
rest_is ns i d h =
    ap node_variables (drop-cons ns i d h) ∙ variables_more (get_or ns i d) (drop (suc i) ns)
    ∙ ap (λ k. option_to_list (node_variable (get_or ns i d)) ++ node_variables (drop k ns)) (let up : suc i ≡ i + 1 = omega arith in up)

pub slot_met : (ns : List RangeNode) (i met m : ℕ) (d : RangeNode) (all : Bool) → i < length ns → are_in_order met (node_variables (drop i ns)) ≡ all
    → met_behind met (node_variable (get_or ns i d)) ≡ Some m → (are_in_order m (node_variables (drop (i + 1) ns)) ≡ all) × (m ≤ suc met)
slot_met ns i met m d all h e f =
    let w = meets met (node_variable (get_or ns i d)) (node_variables (drop (i + 1) ns)) m f in
    (sym w.0 ∙ ap (are_in_order met) (sym (rest_is ns i d h)) ∙ e, w.1)

pub slot_missed : (ns : List RangeNode) (i met : ℕ) (d : RangeNode) (all : Bool) → i < length ns → are_in_order met (node_variables (drop i ns)) ≡ all
    → met_behind met (node_variable (get_or ns i d)) ≡ None → false ≡ all
slot_missed ns i met d all h e f = sym (misses met (node_variable (get_or ns i d)) (node_variables (drop (i + 1) ns)) f) ∙ ap (are_in_order met) (sym (rest_is ns i d h)) ∙ e
