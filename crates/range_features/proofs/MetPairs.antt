-- What is met, and what is still to come.
use Rattle.std.proofs.Common.{◌≡◌, ℕ, Bool, true, false, cond, not, ◌||◌, ◌&&◌, List, [], ◌∷◌, ◌++◌, filter, Option, Some, refl, sym, ap, ◌∙◌, append_assoc}
use Rattle.std.specs.Prelude.{nat_eq}
use Rattle.std.specs.List.{list_any}
use Rattle.std.specs.Option.{option_to_list}
use Rattle.fd_language.specs.declared.range_node.RangeNode.{RangeNode}
use Rattle.fd_language.specs.declared.range_node.Feature.{Feature}
use Rattle.fd_language.specs.declared.range_node.Feature.TheVariants as feature
use Rattle.fd_language.specs.Range.{from_node}
use Rattle.fd_language.specs.Features.{feature_at, is_same_pair, each_once, node_features}
use Rattle.range_features.specs.declared.Seen.{Seen}
use Rattle.range_features.specs.MetPairs.{sees, unseen, Meets}

-- a filter behind a filter
filter_both : (p q r : ℕ × Feature → Bool) → ((e : ℕ × Feature) → r e ≡ (p e && q e)) → (l : List (ℕ × Feature)) → filter r l ≡ filter p (filter q l)
filter_both p q r h [] = refl
filter_both p q r h (e ∷ l) = ap (λ (c : Bool). cond c (e ∷ filter r l) (filter r l)) (h e) ∙ go (q e) (filter_both p q r h l)
  where
    kept : (a : Bool) → filter r l ≡ filter p (filter q l) → cond (a && true) (e ∷ filter r l) (filter r l) ≡ cond a (e ∷ filter p (filter q l)) (filter p (filter q l))
    kept true same = ap (λ (k : List (ℕ × Feature)). e ∷ k) same
    kept false same = same

    dropped : (a : Bool) → filter r l ≡ filter p (filter q l) → cond (a && false) (e ∷ filter r l) (filter r l) ≡ filter p (filter q l)
    dropped true same = same
    dropped false same = same

    go : (b : Bool) → filter r l ≡ filter p (filter q l) → cond (p e && b) (e ∷ filter r l) (filter r l) ≡ filter p (cond b (e ∷ filter q l) (filter q l))
    go true same = kept (p e) same
    go false same = dropped (p e) same

-- once the pair d is met, nothing else changes
later : (old new : Seen) (d : ℕ × Feature) → ((e : ℕ × Feature) → sees new e ≡ (sees old e || is_same_pair e d)) → (ns : List RangeNode)
    → unseen new ns ≡ filter (λ e. not (sees old e)) (filter (λ e. not (is_same_pair e d)) (each_once (node_features ns)))
later old new d h ns = filter_both (λ e. not (sees old e)) (λ e. not (is_same_pair e d)) (λ e. not (sees new e))
    (λ e. ap not (h e) ∙ neither (sees old e) (is_same_pair e d)) (each_once (node_features ns))
  where
    neither : (a b : Bool) → not (a || b) ≡ (not a && not b)
    neither true b = refl
    neither false b = refl

opened : (n : RangeNode) (o : Option (ℕ × Feature)) (s : Seen) (ns : List RangeNode) → option_to_list o ≡ from_node feature_at n
    → unseen s (n ∷ ns) ≡ filter (λ e. not (sees s e)) (each_once (option_to_list o ++ node_features ns))
opened n o s ns e = ap (λ (l : List (ℕ × Feature)). filter (λ e. not (sees s e)) (each_once (l ++ node_features ns))) (sym e)

pub met_again : (n : RangeNode) (d : ℕ × Feature) (old new : Seen) (found : List (ℕ × Feature)) → option_to_list (Some d) ≡ from_node feature_at n
    → sees old d ≡ true → ((e : ℕ × Feature) → sees new e ≡ (sees old e || is_same_pair e d)) → Meets n old found new found
met_again n d old new found e h g ns =
    let rest : List (ℕ × Feature) = filter (λ e. not (sees old e)) (filter (λ e. not (is_same_pair e d)) (each_once (node_features ns))) in
    let whole : unseen old (n ∷ ns) ≡ rest = opened n (Some d) old ns e ∙ ap (λ (b : Bool). cond (not b) (d ∷ rest) rest) h in
    ap (λ (l : List (ℕ × Feature)). found ++ l) (later old new d g ns ∙ sym whole)

pub met_new : (n : RangeNode) (d : ℕ × Feature) (old new : Seen) (found next : List (ℕ × Feature)) → option_to_list (Some d) ≡ from_node feature_at n
    → sees old d ≡ false → ((e : ℕ × Feature) → sees new e ≡ (sees old e || is_same_pair e d)) → next ≡ found ++ d ∷ [] → Meets n old found new next
met_new n d old new found next e h g i ns =
    let rest : List (ℕ × Feature) = filter (λ e. not (sees old e)) (filter (λ e. not (is_same_pair e d)) (each_once (node_features ns))) in
    let whole : unseen old (n ∷ ns) ≡ d ∷ rest = opened n (Some d) old ns e ∙ ap (λ (b : Bool). cond (not b) (d ∷ rest) rest) h in
    ap (λ (l : List (ℕ × Feature)). l ++ unseen new ns) i ∙ append_assoc found (d ∷ []) (unseen new ns)
    ∙ ap (λ (l : List (ℕ × Feature)). found ++ d ∷ l) (later old new d g ns) ∙ ap (λ (l : List (ℕ × Feature)). found ++ l) (sym whole)

-- before the first node nothing is met
all_kept : (p : ℕ × Feature → Bool) → ((e : ℕ × Feature) → p e ≡ false) → (l : List (ℕ × Feature)) → filter (λ e. not (p e)) l ≡ l
all_kept p h [] = refl
all_kept p h (e ∷ l) = ap (λ (b : Bool). cond (not b) (e ∷ filter (λ e. not (p e)) l) (filter (λ e. not (p e)) l)) (h e) ∙ ap (λ (k : List (ℕ × Feature)). e ∷ k) (all_kept p h l)

pub none_met : (s : Seen) → s.min.keys ≡ [] → s.max.keys ≡ [] → s.val.keys ≡ [] → s.dom.keys ≡ [] → (ns : List RangeNode) → unseen s ns ≡ each_once (node_features ns)
none_met s a b c d ns = all_kept (sees s) none (each_once (node_features ns))
  where
    none : (e : ℕ × Feature) → sees s e ≡ false
    none (y, feature.Min) = ap (λ (l : List ℕ). list_any (nat_eq y) l) a
    none (y, feature.Max) = ap (λ (l : List ℕ). list_any (nat_eq y) l) b
    none (y, feature.Val) = ap (λ (l : List ℕ). list_any (nat_eq y) l) c
    none (y, feature.Dom) = ap (λ (l : List ℕ). list_any (nat_eq y) l) d

pub is_new : (b c : Bool) → c ≡ not b → c ≡ true → b ≡ false
is_new true c e h = absurd cc
is_new false c e h = refl

pub is_known : (b c : Bool) → c ≡ not b → c ≡ false → b ≡ true
is_known true c e h = refl
is_known false c e h = absurd cc
