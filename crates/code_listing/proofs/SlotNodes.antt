-- The nodes of a range, with its slots in place of its variables.
use Rattle.std.proofs.Common.{◌≡◌, ℕ, suc, ◌<◌, ◌≤◌, ◌+◌, Bool, true, false, cond, not, nat_eq, nat_lt, List, [], ◌∷◌, ◌++◌, map, take, length, get_or, refl}
use Rattle.std.proofs.Common.{sym, ◌∙◌, ap, Some, None, arith}
use Rattle.std.specs.Prelude.{position}
use Rattle.std.specs.List.{position_or_len}
use Rattle.std.specs.Option.{option_to_list}
use Rattle.std.proofs.lemmas.List.{map-append, take_more}
use Rattle.fd_language.specs.declared.range_node.RangeNode.{RangeNode}
use Rattle.fd_language.specs.declared.range_node.RangeNode.TheVariants as node
use Rattle.fd_language.specs.Range.{Range}
use Rattle.fd_language.specs.Needs.{once}
use Rattle.fd_language.specs.PostfixRanges.{nodes_of}
use Rattle.range_code.specs.Nodes.{node_variable, node_variables, rename_node}
use Rattle.range_code.specs.Slots.{slots_of, slot_of, in_slots}
use Rattle.range_code.proofs.Lemmas.{node_variables_of, one_more, renamed_nodes}

-- ---- nodes with other variables

-- ---- variables

pub met_more : (nodes : List RangeNode) (i : ℕ) (d : RangeNode) (old new : List ℕ) → i < length nodes → old ≡ once (node_variables (take i nodes))
    → ((xs : List ℕ) → old ≡ once xs → new ≡ once (xs ++ option_to_list (node_variable (get_or nodes i d)))) → new ≡ once (node_variables (take (i + 1) nodes))
met_more nodes i d old new l h f = f (node_variables (take i nodes)) h ∙ ap once (sym (ap node_variables (take_more nodes i d l) ∙ one_more (take i nodes) (get_or nodes i d)))

pub named_more : (f : RangeNode → RangeNode) (xs : List RangeNode) (i : ℕ) (d : RangeNode) (old new : List RangeNode) (y : RangeNode) → i < length xs
    → old ≡ map f (take i xs) → new ≡ old ++ y ∷ [] → y ≡ f (get_or xs i d) → new ≡ map f (take (i + 1) xs)
named_more f xs i d old new y l h e g = e ∙ (ap (λ ys. ys ++ y ∷ []) h
    ∙ (ap (λ z. map f (take i xs) ++ z ∷ []) g ∙ sym (ap (map f) (take_more xs i d l) ∙ map-append f (take i xs) (get_or xs i d ∷ []))))

-- nodes with the slots of their range's variables
pub in_slots_are : (r : Range) (ns ms : List RangeNode) (keys : List ℕ) → ns ≡ nodes_of r → keys ≡ once (node_variables ns)
    → ms ≡ map (rename_node (λ y. position_or_len (nat_eq y) keys)) ns → ms ≡ nodes_of (in_slots r)
in_slots_are r ns ms keys e k m =
    let keyed : keys ≡ slots_of r = k ∙ ap once (ap node_variables e ∙ node_variables_of r) in
    m ∙ (ap (λ l. map (rename_node (λ y. position_or_len (nat_eq y) l)) ns) keyed ∙ (ap (map (rename_node (slot_of r))) e ∙ renamed_nodes (slot_of r) r))

-- the place of what isn't among others
pub none_passes : (p : ℕ → Bool) (xs : List ℕ) (n : ℕ) → position p xs ≡ None → n ≡ length xs → n ≡ position_or_len p xs
none_passes p xs n e h = h ∙ by_test (nat_lt (position_or_len p xs) (length xs)) refl e where
  within : (xs : List ℕ) → position_or_len p xs ≤ length xs
  within [] = omega arith
  within (x ∷ xs) = more (p x) (position_or_len p xs) (length xs) (within xs) where
    more : (c : Bool) (m n : ℕ) → m ≤ n → cond (not c) (1 + m) 0 ≤ suc n
    more true m n h = omega arith
    more false m n h = omega arith

  by_test : (c : Bool) → nat_lt (position_or_len p xs) (length xs) ≡ c → cond c (Some (position_or_len p xs)) None ≡ None → length xs ≡ position_or_len p xs
  by_test true f g = absurd cc
  by_test false f g = let w = within xs in grind (arith, w, f)
