-- Public lemmas: what is collected of a range's leaves, put in relation.
use Rattle.std.proofs.Common.{◌≡◌, ℕ, Bool, true, false, cond, List, [], ◌∷◌, ◌++◌, map, Option, Some, None, refl, ap, sym, ◌∙◌, subst}
use Rattle.std.specs.Prelude.{All, filter_map}
use Rattle.std.proofs.lemmas.Bool.{true≢false}
use Rattle.std.proofs.lemmas.List.{map-append}
use Rattle.std.proofs.lemmas.List.Elements.{All-nil, All-cons}
use Rattle.fd_language.specs.declared.range_node.Feature.{Feature}
use Rattle.fd_language.specs.declared.range_node.Feature.TheVariants as feature
use Rattle.fd_language.specs.declared.range_node.RangeNode.{RangeNode}
use Rattle.fd_language.specs.Features.{is_val, is_same_feature, feature_at, range_features}
use Rattle.fd_language.specs.PostfixRanges.{nodes_of}
use Rattle.fd_language.specs.Lists.{Each}
use Rattle.fd_language.specs.Occurrences.{occurrence_at, range_occurrences}
use Rattle.std.specs.List.{cons_option}
use Rattle.fd_language.specs.Range.{Range, Leaf, Role, a_parameter, a_min, a_max, a_val, a_dom, leaf, leaf_of, from_leaf, from_range, collecting, leaves, reads}
use Rattle.fd_language.specs.Range.{read_at, vals, val_at}
use Rattle.fd_language.proofs.Leaves.{ranges_related, same_leaves, two, leaves_tell}

-- What joins lists takes what is collected of a range to what it takes each leaf's to.
pub collected_by : {X Y : Type 0} (h : List X → List Y) → h [] ≡ [] → ((xs ys : List X) → h (xs ++ ys) ≡ h xs ++ h ys) → (f : Leaf → List X) (r : Range)
    → h (from_range f r) ≡ from_range (λ l. h (f l)) r
collected_by {X} {Y} h none both f r =
    ranges_related (λ (xs : List X) (ys : List Y). h xs ≡ ys) (collecting f) (collecting (λ l. h (f l))) (λ n k. at_node (leaf_of n)) (λ n k x y e. e)
    (λ n k x u y v e g. both x u ∙ two (λ a b. a ++ b) e g) r
  where
    at_node : (o : Option Leaf) → h (from_leaf f o) ≡ from_leaf (λ l. h (f l)) o
    at_node None = none
    at_node (Some l) = refl

-- the variables that occur
pub variables_collected : (r : Range) → map (λ p. p.variable) (range_occurrences r) ≡ from_range (λ l. l.variable ∷ []) r
variables_collected r = collected_by (map (λ p. p.variable)) refl (map-append (λ p. p.variable)) occurrence_at r

-- What is read is what is read of the features, and what is read by val.
pub reads_of_features : (r : Range) → reads r ≡ map (λ d. d.0) (range_features r)
reads_of_features r = same_leaves read_at (λ l. map (λ d. d.0) (feature_at l)) by_role r ∙ sym (collected_by (map (λ d. d.0)) refl (map-append (λ d. d.0)) feature_at r) where
  by_role : (k : Role) (y : ℕ) → read_at (leaf k y) ≡ map (λ d. d.0) (feature_at (leaf k y))
  by_role a_parameter y = refl
  by_role a_min y = refl
  by_role a_max y = refl
  by_role a_val y = refl
  by_role a_dom y = refl

-- features that pass as the same are the same
pub same_feature : (f g : Feature) → is_same_feature f g ≡ true → f ≡ g
same_feature feature.Min feature.Min h = refl
same_feature feature.Max feature.Max h = refl
same_feature feature.Val feature.Val h = refl
same_feature feature.Dom feature.Dom h = refl
same_feature f g h = absurd (true≢false (sym h))

-- the variables that features name by val
abbrev pub vals_of : List (ℕ × Feature) → List ℕ
vals_of [] = []
vals_of (d ∷ ds) = cond (is_val d.1) (d.0 ∷ vals_of ds) (vals_of ds)

vals_both : (ds es : List (ℕ × Feature)) → vals_of (ds ++ es) ≡ vals_of ds ++ vals_of es
vals_both [] es = refl
vals_both (d ∷ ds) es = by_test (is_val d.1) (vals_both ds es) where
  by_test : (b : Bool) → vals_of (ds ++ es) ≡ vals_of ds ++ vals_of es → cond b (d.0 ∷ vals_of (ds ++ es)) (vals_of (ds ++ es)) ≡ cond b (d.0 ∷ vals_of ds) (vals_of ds) ++ vals_of es
  by_test true e = ap (λ l. d.0 ∷ l) e
  by_test false e = e

pub vals_of_features : (r : Range) → vals r ≡ vals_of (range_features r)
vals_of_features r = same_leaves val_at (λ l. vals_of (feature_at l)) by_role r ∙ sym (collected_by vals_of refl vals_both feature_at r) where
  by_role : (k : Role) (y : ℕ) → val_at (leaf k y) ≡ vals_of (feature_at (leaf k y))
  by_role a_parameter y = refl
  by_role a_min y = refl
  by_role a_max y = refl
  by_role a_val y = refl
  by_role a_dom y = refl

-- What holds of each node that is no leaf, and of each leaf of which H holds, holds of all nodes of a range.
pub all_nodes : (P : RangeNode → Type 0) (H : Leaf → Type 0) → ((n : RangeNode) → leaf_of n ≡ None → P n)
    → ((n : RangeNode) (l : Leaf) → leaf_of n ≡ Some l → H l → P n) → (r : Range) → Each H (leaves r) → All P (nodes_of r)
all_nodes P H alone at r h = go (nodes_of r) (subst (Each H) (sym (leaves_tell r).1.node_leaves) h) where
  put : (n : RangeNode) (ns : List RangeNode) (o : Option Leaf) → leaf_of n ≡ o → (Each H (filter_map leaf_of ns) → All P ns) → Each H (cons_option o (filter_map leaf_of ns)) → All P (n ∷ ns)
  put n ns None e later k = All-cons P n ns (alone n e) (later k)
  put n ns (Some l) e later k = All-cons P n ns (at n l e k.0) (later k.1)

  go : (ns : List RangeNode) → Each H (filter_map leaf_of ns) → All P ns
  go [] k = All-nil P
  go (n ∷ ns) k = put n ns (leaf_of n) refl (go ns) k
