-- Unions over the elements of a list.
use Rattle.std.proofs.Common.{◌≡◌, ℕ, suc, ◌+◌, ◌-◌, ◌<◌, ◌≤◌, take, ℤ, pos, List, [], ◌∷◌, ◌++◌, length, drop, get_or, refl, sym, ap, ◌∙◌, arith, append_assoc}
use Rattle.std.proofs.Common.{append-nil}
use Rattle.std.proofs.lemmas.List.{take_rest, drop_more}
use Rattle.fd_language.specs.PostfixRanges.{nodes_of, range_nodes}
use Rattle.fd_language.specs.Range.{Range, Union}
use Rattle.fd_language.specs.declared.range_node.RangeNode.{RangeNode}
use Rattle.fd_language.specs.declared.range_node.RangeNode.TheVariants as node
use Rattle.fd_model.specs.ListRows.{union_onto, union_of}
use Rattle.constraint_expand.specs.declared.elements.Direction.{Direction}
use Rattle.constraint_expand.specs.declared.elements.Direction.TheVariants as direction
use Rattle.constraint_expand.specs.Unions.{given_at, given_from, joined_nodes}

given_nodes : (d : Direction) (y k : ℕ) (z : ℤ) (rest : List RangeNode) → range_nodes (given_at d y k z) rest ≡ nodes_of (given_at d y k z) ++ rest
given_nodes direction.ElementAt y k z rest = refl
given_nodes direction.NumberOf y k z rest = refl

pub given_cons : (d : Direction) (y k : ℕ) (z : ℤ) (zs : List ℤ) → given_from d y k (z ∷ zs) ≡ given_at d y k z ∷ given_from d y (suc k) zs
given_cons direction.ElementAt y k z zs = refl
given_cons direction.NumberOf y k z zs = refl

given_none : (d : Direction) (y k : ℕ) → given_from d y k [] ≡ []
given_none direction.ElementAt y k = refl
given_none direction.NumberOf y k = refl

joined_spelled : (d : Direction) (y k : ℕ) (zs : List ℤ) (q : Range) (rest : List RangeNode)
    → range_nodes (union_onto q (given_from d y k zs)) rest ≡ range_nodes q (joined_nodes (given_from d y k zs) ++ rest)
joined_spelled d y k [] q rest = ap (λ rs. range_nodes (union_onto q rs) rest) (given_none d y k) ∙ ap (λ rs. range_nodes q (joined_nodes rs ++ rest)) (sym (given_none d y k))
joined_spelled d y k (z ∷ zs) q rest =
    ap (λ rs. range_nodes (union_onto q rs) rest) (given_cons d y k z zs)
    ∙ joined_spelled d y (suc k) zs (Union q (given_at d y k z)) rest
    ∙ ap (range_nodes q) (given_nodes d y k z (node.Union ∷ (joined_nodes (given_from d y (suc k) zs) ++ rest))
    ∙ sym (append_assoc (nodes_of (given_at d y k z)) (node.Union ∷ joined_nodes (given_from d y (suc k) zs)) rest))
    ∙ ap (λ rs. range_nodes q (joined_nodes rs ++ rest)) (sym (given_cons d y k z zs))

-- the nodes of the union
pub union_spelled : (d : Direction) (y : ℕ) (z : ℤ) (zs : List ℤ) → nodes_of (given_at d y 1 z) ++ joined_nodes (given_from d y 2 zs) ≡ nodes_of (union_of (given_from d y 1 (z ∷ zs)))
union_spelled d y z zs =
    sym (given_nodes d y 1 z (joined_nodes (given_from d y 2 zs))) ∙ ap (range_nodes (given_at d y 1 z)) (sym (append-nil (joined_nodes (given_from d y 2 zs))))
    ∙ sym (joined_spelled d y 2 zs (given_at d y 1 z) [])
    ∙ ap (λ rs. nodes_of (union_of rs)) (sym (given_cons d y 1 z zs))

-- what is written, and what is left of all
pub record Writing (d : Direction) (y : ℕ) (all now : List RangeNode) (zs : List ℤ) (i : ℕ) : Type 0 where
  pub is : now ++ joined_nodes (given_from d y (i + 2) (drop i zs)) ≡ all

pub writing_turns : (d : Direction) (y : ℕ) (all now middle new : List RangeNode) (zs : List ℤ) (i : ℕ) (e : ℤ) → i < length zs → Writing d y all now zs i
    → middle ≡ now ++ nodes_of (given_at d y (i + 2) (get_or zs i e)) → new ≡ middle ++ node.Union ∷ [] → Writing d y all new zs (i + 1)
writing_turns d y all now middle new zs i e h w p q =
    let r : Range = given_at d y (i + 2) (get_or zs i e) in
    let count : suc (i + 2) ≡ (i + 1) + 2 = omega arith in
    let next : given_from d y (i + 2) (drop i zs) ≡ r ∷ given_from d y ((i + 1) + 2) (drop (i + 1) zs) =
    ap (given_from d y (i + 2)) (drop_more zs i e h) ∙ given_cons d y (i + 2) (get_or zs i e) (drop (i + 1) zs) ∙ ap (λ k. r ∷ given_from d y k (drop (i + 1) zs)) count in
    let rest : List RangeNode = joined_nodes (given_from d y ((i + 1) + 2) (drop (i + 1) zs)) in
    record {
      is =
          ap (λ ns. ns ++ rest) (q ∙ ap (λ ns. ns ++ node.Union ∷ []) p)
          ∙ append_assoc (now ++ nodes_of r) (node.Union ∷ []) rest ∙ append_assoc now (nodes_of r) (node.Union ∷ rest)
          ∙ ap (λ rs. now ++ joined_nodes rs) (sym next) ∙ w.is;
    }

pub writing_ends : (d : Direction) (y : ℕ) (all now : List RangeNode) (zs : List ℤ) (i : ℕ) → drop i zs ≡ [] → Writing d y all now zs i → now ≡ all
writing_ends d y all now zs i e w = sym (append-nil now) ∙ ap (λ rs. now ++ joined_nodes rs) (sym (ap (given_from d y (i + 2)) e ∙ given_none d y (i + 2))) ∙ w.is

pub union_written : (d : Direction) (y : ℕ) (zs : List ℤ) (ns : List RangeNode) (z : ℤ) → 1 ≤ length zs → z ≡ get_or zs 0 (pos 0)
    → ns ≡ nodes_of (given_at d y 1 z) ++ joined_nodes (given_from d y 2 (take (length zs - 1) (drop 1 zs)))
    → ns ≡ nodes_of (union_of (given_from d y 1 zs))
union_written d y [] ns z h e w = absurd (omega arith)
union_written d y (x ∷ xs) ns z h e w =
    w ∙ (λ i. nodes_of (given_at d y 1 (e i)) ++ joined_nodes (given_from d y 2 (take_rest (x ∷ xs) 1 i))) ∙ union_spelled d y x xs
