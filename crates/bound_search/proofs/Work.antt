-- The work that is left falls.
use Rattle.std.proofs.Common.{◌≡◌, ℕ, zero, suc, ◌+◌, ◌*◌, ◌≤◌, ◌<◌, Bool, true, false, cond, not, ◌||◌, ◌==◌, ℤ, List, [], ◌∷◌, map, filter, length, Option, Some, None, refl, ap, sym, ◌∙◌}
use Rattle.std.proofs.Common.{subst, arith, add_comm, eqb-true}
use Rattle.std.proofs.Math.Nat.{suc-mul, mul-le-mul, mul-le-mul_right}
use Rattle.std.proofs.lemmas.Bool.{true≢false}
use Rattle.fd_language.specs.declared.TheConstants.{INFINITY}
use Rattle.fd_language.specs.Family.{Family, has, IsFamily, IsInside}
use Rattle.fd_language.specs.Range.{Indexical}
use Rattle.fd_language.specs.SingleValues.{only}
use Rattle.fd_model.specs.Labelling.{open_ones}
use Rattle.fd_model.specs.Levels.{Level}
use Rattle.fd_model.specs.Members as seen
use Rattle.fd_model.specs.PostedLeaves.{AreLeft, exactly, open_unless, picked_in, seen_in, with_value}
use Rattle.fd_model.proofs.Lemmas.{among_picked, left_exactly, left_narrower, single_from}
use Rattle.range_code.specs.Frames.{family_of}
use Rattle.bound_search.specs.declared.search.Node.{Node}
use Rattle.bound_search.specs.SearchStates.{Wanted, IsNode, IsOpen, values_left}
use Rattle.bound_search.specs.Work.{open_beside, open_count, tree_size, node_work, work}
use Rattle.bound_search.proofs.BoundedLeaves.{single}
use Rattle.bound_search.proofs.Bounds.{values_under}
use Rattle.propagate_queue.specs.PropagationInvariant.{AreDomains}
use Rattle.bound_search.proofs.Nodes.{node_left, node_some}
use Rattle.domain_ranges.proofs.Lemmas.{filter_from_low, rising_length}

tree_next : (h : ℕ) → tree_size (suc h) ≡ (INFINITY + 3) * tree_size h
unfolding tree_size
tree_next h = refl

tree_zero : tree_size 0 ≡ 1
unfolding tree_size
tree_zero = refl

pub tree_some : (h : ℕ) → 1 ≤ tree_size h
tree_some zero = omega (arith, tree_zero)
tree_some (suc h) = let i = tree_some h in let e = tree_next h in omega arith

tree_grows : (h k : ℕ) → h ≤ k → tree_size h ≤ tree_size k
tree_grows zero k l = let i = tree_some k in omega (arith, tree_zero)
tree_grows (suc h) zero l = absurd (omega arith)
tree_grows (suc h) (suc k) l = let i = tree_grows h k (omega arith) in let e = tree_next h in let f = tree_next k in omega arith

-- so many trees, and the node that they stand below, are fewer than the next tree
next_tree : (r h : ℕ) → r ≤ INFINITY + 1 → 1 + r * tree_size h < tree_size (suc h)
next_tree r h l =
    let e = tree_next h in
    let i = tree_some h in
    let m : r * tree_size h ≤ (INFINITY + 1) * tree_size h = mul-le-mul_right (tree_size h) l in
    omega arith

below_tree : (r h k : ℕ) → r ≤ INFINITY + 1 → h < k → 1 + r * tree_size h < tree_size k
below_tree r h zero l p = absurd (omega arith)
below_tree r h (suc k) l p =
    let a = next_tree r h l in
    let b = tree_grows (suc h) (suc k) (omega arith) in
    omega arith

-- How many members other than x are open: under smaller sets none of which is empty, no more;
module _ (D E : Family) (rises : IsFamily INFINITY E) (inside : IsInside E D) (some : (y : ℕ) → (n : ℕ) × (has (E y) n ≡ true)) (x : ℕ) where
  abbrev beside : List ℕ → ℕ
  beside ys = length (filter (λ y. not (y == x)) ys)

  kept_single : (y n : ℕ) → only (D y) ≡ Some n → only (E y) ≡ Some n
  kept_single y n e = single INFINITY D E rises inside some y n e

  fewer_beside : (ms : List seen.Member) → beside (open_ones (map (seen_in E) ms)) ≤ beside (open_ones (map (seen_in D) ms))
  fewer_beside [] = omega arith
  fewer_beside (seen.Known z ∷ ms) = fewer_beside ms
  fewer_beside (seen.Open y ∷ ms) = by_sets (only (D y)) (only (E y)) refl refl (fewer_beside ms)
    where
      both : (t : Bool) (as' bs : List ℕ) → length as' ≤ length bs → length (cond t (y ∷ as') as') ≤ length (cond t (y ∷ bs) bs)
      both true as' bs h = omega arith
      both false as' bs h = h

      less : (t : Bool) (as' bs : List ℕ) → length as' ≤ length bs → length as' ≤ length (cond t (y ∷ bs) bs)
      less true as' bs h = omega arith
      less false as' bs h = h

      by_sets : (a b : Option ℕ) → only (D y) ≡ a → only (E y) ≡ b → beside (open_ones (map (seen_in E) ms)) ≤ beside (open_ones (map (seen_in D) ms))
          → beside (open_ones (open_unless y b ∷ map (seen_in E) ms)) ≤ beside (open_ones (open_unless y a ∷ map (seen_in D) ms))
      by_sets (Some n) (Some k) e f h = h
      by_sets (Some n) None e f h = absurd (let g = kept_single y n e in let b : ⊥ = cc in b)
      by_sets None (Some k) e f h = less (not (y == x)) (filter (λ v. not (v == x)) (open_ones (map (seen_in E) ms))) (filter (λ v. not (v == x)) (open_ones (map (seen_in D) ms))) h
      by_sets None None e f h = both (not (y == x)) (filter (λ v. not (v == x)) (open_ones (map (seen_in E) ms))) (filter (λ v. not (v == x)) (open_ones (map (seen_in D) ms))) h

  -- and where x has one value, all that are open are others.
  others_open : (v : ℕ) → only (E x) ≡ Some v → (ms : List seen.Member) → length (open_ones (map (seen_in E) ms)) ≤ beside (open_ones (map (seen_in D) ms))
  others_open v one [] = omega arith
  others_open v one (seen.Known z ∷ ms) = others_open v one ms
  others_open v one (seen.Open y ∷ ms) = by_sets (only (D y)) (only (E y)) refl refl (others_open v one ms)
    where
      less : (t : Bool) (n : ℕ) (bs : List ℕ) → n ≤ length bs → n ≤ length (cond t (y ∷ bs) bs)
      less true n bs h = omega arith
      less false n bs h = h

      more : (t : Bool) (n : ℕ) (bs : List ℕ) → not t ≡ true → n ≤ length bs → suc n ≤ length (cond (not t) (y ∷ bs) bs)
      more true n bs e h = absurd (true≢false (sym e))
      more false n bs e h = omega arith

      other : (t : Bool) → (y == x) ≡ t → only (E y) ≡ None → not t ≡ true
      other true e f = absurd (let i = ap (λ u. only (E u)) (eqb-true y x e) in let c : ⊥ = cc in c)
      other false e f = refl

      by_sets : (a b : Option ℕ) → only (D y) ≡ a → only (E y) ≡ b → length (open_ones (map (seen_in E) ms)) ≤ beside (open_ones (map (seen_in D) ms))
          → length (open_ones (open_unless y b ∷ map (seen_in E) ms)) ≤ beside (open_ones (open_unless y a ∷ map (seen_in D) ms))
      by_sets (Some n) (Some k) e f h = h
      by_sets (Some n) None e f h = absurd (let g = kept_single y n e in let b : ⊥ = cc in b)
      by_sets None (Some k) e f h = less (not (y == x)) (length (open_ones (map (seen_in E) ms))) (filter (λ v. not (v == x)) (open_ones (map (seen_in D) ms))) h
      by_sets None None e f h = more (y == x) (length (open_ones (map (seen_in E) ms))) (filter (λ v. not (v == x)) (open_ones (map (seen_in D) ms))) (other (y == x) refl f) h

-- one of them is x, where x is open
beside_less : (x : ℕ) (ys : List ℕ) → has ys x ≡ true → length (filter (λ y. not (y == x)) ys) < length ys
beside_less x [] h = absurd (true≢false (sym h))
beside_less x (y ∷ ys) h = by_test (y == x) h (beside_less x ys) (shorter ys)
  where
    shorter : (zs : List ℕ) → length (filter (λ v. not (v == x)) zs) ≤ length zs
    shorter [] = omega arith
    shorter (z ∷ zs) = either (not (z == x)) (shorter zs)
      where
        either : (t : Bool) → length (filter (λ v. not (v == x)) zs) ≤ length zs
            → length (cond t (z ∷ filter (λ v. not (v == x)) zs) (filter (λ v. not (v == x)) zs)) ≤ suc (length zs)
        either true l = omega arith
        either false l = omega arith

    by_test : (t : Bool) → (t || has ys x) ≡ true → (has ys x ≡ true → length (filter (λ v. not (v == x)) ys) < length ys) → length (filter (λ v. not (v == x)) ys) ≤ length ys
        → length (cond (not t) (y ∷ filter (λ v. not (v == x)) ys) (filter (λ v. not (v == x)) ys)) < suc (length ys)
    by_test true g later l = omega arith
    by_test false g later l = let i = later g in omega arith

module _ (w : Wanted) (count : ℕ) (l : Level) (levels : List Level) (nodes : List Node) where
  -- a node that becomes open
  pub opened_work : (x : ℕ) (bounded : Option ℤ) → IsNode count l → picked_in w.order (family_of l.sets) w.members ≡ Some x
      → work w.members (record { variable = x; from = 0; bounded = bounded } ∷ nodes) (l ∷ levels) < work w.members nodes levels + tree_size (open_count w.members l)
  opened_work x bounded node p =
      let n : Node = record { variable = x; from = 0; bounded = bounded } in
      let rises = node.domains.family.rising x in
      let all = filter_from_low 0 0 INFINITY (family_of l.sets x) rises (omega arith) in
      let few = rising_length 0 INFINITY (family_of l.sets x) rises (omega arith) in
      let many : length (values_left l n) ≤ INFINITY + 1 = omega (arith, ap (λ (ns : List ℕ). length ns) all) in
      let b = below_tree (length (values_left l n)) (open_beside x w.members l) (open_count w.members l) many
      (beside_less x (open_ones (map (seen_in (family_of l.sets)) w.members)) (among_picked w.order (family_of l.sets) (map (seen_in (family_of l.sets)) w.members) x p)) in
      omega arith

  -- a child of an open node
  pub child_work : (n n' : Node) (value : ℕ) (child : Level) → IsOpen w count l n → IsNode count child → child.posted ≡ with_value l.posted n.variable value
      → n'.variable ≡ n.variable → values_left l n ≡ value ∷ values_left l n'
      → node_work w.members n' l + tree_size (open_count w.members child) ≤ node_work w.members n l
  child_work n n' value child o c e same step =
      let left = node_left child.posted child.sets c.domains in
      let there = subst (λ (ps : List Indexical). AreLeft INFINITY ps (family_of child.sets)) e left in
      let some = node_some child.posted child.sets c.domains in
      let inside = left_narrower INFINITY l.posted (exactly n.variable value ∷ []) (family_of l.sets) (family_of child.sets) (node_left l.posted l.sets o.node.domains) there in
      let only_one = left_exactly INFINITY l.posted n.variable value (family_of child.sets) there in
      let one : only (family_of child.sets n.variable) ≡ Some value = ap only (single_from 0 INFINITY value (family_of child.sets n.variable) (left.family.rising n.variable)
      (subst (λ k. has (family_of child.sets n.variable) k ≡ true) (only_one (some n.variable).0 (some n.variable).1) (some n.variable).1) only_one) in
      let f = others_open (family_of l.sets) (family_of child.sets) left.family inside some n.variable value one w.members in
      let g = tree_grows (open_count w.members child) (open_beside n.variable w.members l) f in
      let v : open_beside n'.variable w.members l ≡ open_beside n.variable w.members l = ap (λ x. open_beside x w.members l) same in
      let t : tree_size (open_beside n'.variable w.members l) ≡ tree_size (open_beside n.variable w.members l) = ap tree_size v in
      let k : length (values_left l n) * tree_size (open_beside n.variable w.members l) ≡ tree_size (open_beside n.variable w.members l) + length (values_left l n') * tree_size
      (open_beside n.variable w.members l) = ap (λ (ns : List ℕ). length ns * tree_size (open_beside n.variable w.members l)) step
      ∙ suc-mul (length (values_left l n')) (tree_size (open_beside n.variable w.members l))
      ∙ add_comm (length (values_left l n') * tree_size (open_beside n.variable w.members l)) (tree_size (open_beside n.variable w.members l)) in
      let r : length (values_left l n') * tree_size (open_beside n'.variable w.members l) ≡ length (values_left l n') * tree_size (open_beside n.variable w.members l) =
      ap (λ m. length (values_left l n') * m) t in
      omega arith

  -- a value that is passed
  pub passed_work : (n n' : Node) (value : ℕ) → n'.variable ≡ n.variable → values_left l n ≡ value ∷ values_left l n' → node_work w.members n' l < node_work w.members n l
  passed_work n n' value same step =
      let i = tree_some (open_beside n.variable w.members l) in
      let r : length (values_left l n') * tree_size (open_beside n'.variable w.members l) ≡ length (values_left l n') * tree_size (open_beside n.variable w.members l) =
      ap (λ x. length (values_left l n') * tree_size (open_beside x w.members l)) same in
      let k : length (values_left l n) * tree_size (open_beside n.variable w.members l) ≡ tree_size (open_beside n.variable w.members l) + length (values_left l n') * tree_size
      (open_beside n.variable w.members l) = ap (λ (ns : List ℕ). length ns * tree_size (open_beside n.variable w.members l)) step
      ∙ suc-mul (length (values_left l n')) (tree_size (open_beside n.variable w.members l))
      ∙ add_comm (length (values_left l n') * tree_size (open_beside n.variable w.members l)) (tree_size (open_beside n.variable w.members l)) in
      omega arith

-- a level whose sets are smaller
module _ (w : Wanted) (count : ℕ) where
  pub bounded_work : (l m : Level) (n : Node) → AreDomains l.posted l.sets → AreDomains m.posted m.sets → IsInside (family_of m.sets) (family_of l.sets) → node_work w.members n m ≤ node_work w.members n l
  bounded_work l m n c d inside =
      let f = fewer_beside (family_of l.sets) (family_of m.sets) d.family inside (node_some m.posted m.sets d) n.variable w.members in
      let g = tree_grows (open_beside n.variable w.members m) (open_beside n.variable w.members l) f in
      let e = values_under (family_of l.sets n.variable) (family_of m.sets n.variable) n.from (c.family.rising n.variable) (d.family.rising n.variable) (inside.at n.variable) in
      let s = shorter (has (family_of m.sets n.variable)) (values_left l n) in
      let k : length (values_left m n) ≤ length (values_left l n) = subst (λ (ns : List ℕ). length ns ≤ length (values_left l n)) e s in
      let p = mul-le-mul k g in
      omega arith
    where
      shorter : (t : ℕ → Bool) (ns : List ℕ) → length (filter t ns) ≤ length ns
      shorter t [] = omega arith
      shorter t (n ∷ ns) = either (t n) (shorter t ns)
        where
          either : (b : Bool) → length (filter t ns) ≤ length ns → length (cond b (n ∷ filter t ns) (filter t ns)) ≤ suc (length ns)
          either true h = omega arith
          either false h = omega arith
