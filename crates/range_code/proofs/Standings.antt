-- How the variables of a range stand, told from what it reads.
use Rattle.std.proofs.Common.{◌≡◌, ℕ, ℤ, Bool, true, false, cond, not, ◌||◌, ◌&&◌, ◌==◌, List, [], ◌∷◌}
use Rattle.std.proofs.Common.{◌++◌, map, filter, refl, sym, ◌∙◌, ap, inl, inr, eqb-true}
use Rattle.std.specs.List.{All, list_any}
use Rattle.std.proofs.lemmas.Bool.{cases_Bool}
use Rattle.std.proofs.lemmas.List.Elements.{All-nil, All-cons, All-head, All-tail, All-filter}
use Rattle.std.specs.Cmp.{second_so, first_so}
use Rattle.fd_language.specs.declared.range_node.Feature.{Feature}
use Rattle.fd_language.specs.declared.range_node.Feature.TheVariants as feature
use Rattle.fd_language.specs.declared.range_node.RangeNode.{RangeNode}
use Rattle.fd_language.specs.declared.range_node.RangeNode.TheVariants as node
use Rattle.fd_language.specs.Range.{from_node, Range, reads, read_at, vals, val_at, is_none_left}
use Rattle.fd_language.specs.Check.{fill_range}
use Rattle.fd_language.specs.Family.{universe}
use Rattle.fd_language.specs.Features.{is_val, range_features, is_same_feature, is_same_pair, each_once, features_of, feature_at, node_features}
use Rattle.fd_language.proofs.Lemmas.{same_feature, two, filled_leaves, reads_of_features, vals_of, vals_of_features}
use Rattle.range_code.specs.declared.frame.Arg.{Arg}
use Rattle.range_code.specs.Nodes.{IsSeen, IsReadable}

-- what nodes read is there
module _ (count : ℕ) (args : List Arg) where
  abbrev Seen : ℕ × Feature → Type 0
  Seen d = IsSeen count args d.0

  one_seen : (m : RangeNode) (ds : List (ℕ × Feature)) → IsReadable count args m → All Seen ds → All Seen (from_node feature_at m ++ ds)
  one_seen (node.Min y) ds h g = All-cons Seen (y, feature.Min) ds h g
  one_seen (node.Max y) ds h g = All-cons Seen (y, feature.Max) ds h g
  one_seen (node.Val y) ds h g = All-cons Seen (y, feature.Val) ds h g
  one_seen (node.Dom y) ds h g = All-cons Seen (y, feature.Dom) ds h g
  one_seen (node.Int z) ds h g = g
  one_seen node.Infinity ds h g = g
  one_seen (node.Param x) ds h g = g
  one_seen node.Add ds h g = g
  one_seen node.Sub ds h g = g
  one_seen node.Mul ds h g = g
  one_seen node.DivDown ds h g = g
  one_seen node.DivUp ds h g = g
  one_seen node.Span ds h g = g
  one_seen node.One ds h g = g
  one_seen node.Union ds h g = g
  one_seen node.Inter ds h g = g
  one_seen node.Outside ds h g = g
  one_seen node.Plus ds h g = g
  one_seen node.Minus ds h g = g
  one_seen node.Times ds h g = g
  one_seen node.Over ds h g = g

  pub features_seen : (ns : List RangeNode) → All (IsReadable count args) ns → All Seen (node_features ns)
  features_seen [] h = All-nil Seen
  features_seen (m ∷ ns) h = one_seen m (node_features ns) (All-head (IsReadable count args) m ns h) (features_seen ns (All-tail (IsReadable count args) m ns h))

-- what holds of all pairs holds of them once each
pub all_once : (P : ℕ × Feature → Type 0) (ds : List (ℕ × Feature)) → All P ds → All P (each_once ds)
all_once P [] h = All-nil P
all_once P (d ∷ ds) h = All-cons P d (filter (λ e. not (is_same_pair e d)) (each_once ds)) (All-head P d ds h)
    (All-filter (λ e. not (is_same_pair e d)) P (each_once ds) (all_once P ds (All-tail P d ds h)))

pub same_is : (d e : ℕ × Feature) → is_same_pair d e ≡ true → d ≡ e
same_is d e h = two (λ x f. (x, f)) (eqb-true d.0 e.0 (first_so (d.0 == e.0) (is_same_feature d.1 e.1) h)) (same_feature d.1 e.1 (second_so (d.0 == e.0) (is_same_feature d.1 e.1) h))

without : (t : ℕ × Feature → Bool) (d : ℕ × Feature) (l : List (ℕ × Feature)) → (t d || list_any t (filter (λ e. not (is_same_pair e d)) l)) ≡ (t d || list_any t l)
without t d [] = refl
without t d (e ∷ l) = elim (cases_Bool (is_same_pair e d)) [
  | inl i ↦ ap (λ b. t d || list_any t (cond (not b) (e ∷ filter (λ z. not (is_same_pair z d)) l) (filter (λ z. not (is_same_pair z d)) l))) i
      ∙ (without t d l ∙ again (t d) (t e) (list_any t l) (ap t (same_is e d i)))
  | inr i ↦ ap (λ b. t d || list_any t (cond (not b) (e ∷ filter (λ z. not (is_same_pair z d)) l) (filter (λ z. not (is_same_pair z d)) l))) i
      ∙ past (t d) (t e) (list_any t (filter (λ z. not (is_same_pair z d)) l)) (list_any t l) (without t d l)
] where
  again : (a b c : Bool) → b ≡ a → (a || c) ≡ (a || (b || c))
  again true b c h = refl
  again false b c h = ap (λ x. x || c) (sym h)

  past : (a b c k : Bool) → (a || c) ≡ (a || k) → (a || (b || c)) ≡ (a || (b || k))
  past true b c k h = refl
  past false b c k h = ap (λ x. b || x) h

pub any_once : (t : ℕ × Feature → Bool) (ds : List (ℕ × Feature)) → list_any t (each_once ds) ≡ list_any t ds
any_once t [] = refl
any_once t (d ∷ ds) = without t d (each_once ds) ∙ ap (λ b. t d || b) (any_once t ds)

any_firsts : (t : ℕ → Bool) (ds : List (ℕ × Feature)) → list_any (λ d. t d.0) ds ≡ list_any t (map (λ d. d.0) ds)
any_firsts t [] = refl
any_firsts t (d ∷ ds) = ap (λ b. t d.0 || b) (any_firsts t ds)

any_vals : (t : ℕ → Bool) (ds : List (ℕ × Feature)) → list_any (λ d. is_val d.1 && t d.0) ds ≡ list_any t (vals_of ds)
any_vals t [] = refl
any_vals t (d ∷ ds) = by_test (is_val d.1) (any_vals t ds) where
  by_test : (b : Bool) → list_any (λ d. is_val d.1 && t d.0) ds ≡ list_any t (vals_of ds)
      → ((b && t d.0) || list_any (λ d. is_val d.1 && t d.0) ds) ≡ list_any t (cond b (d.0 ∷ vals_of ds) (vals_of ds))
  by_test true e = ap (λ c. t d.0 || c) e
  by_test false e = e

pub any_read : (t : ℕ → Bool) (r : Range) → list_any (λ d. t d.0) (features_of r) ≡ list_any t (reads r)
any_read t r = any_once (λ d. t d.0) (range_features r) ∙ any_firsts t (range_features r) ∙ ap (list_any t) (sym (reads_of_features r))

pub any_val : (t : ℕ → Bool) (r : Range) → list_any (λ d. is_val d.1 && t d.0) (features_of r) ≡ list_any t (vals r)
any_val t r = any_once (λ d. is_val d.1 && t d.0) (range_features r) ∙ any_vals t (range_features r) ∙ ap (list_any t) (sym (vals_of_features r))

-- parameters' integers change nothing of what is read
pub reads_filled : (p : ℕ → ℤ) (r : Range) → reads (fill_range p r) ≡ reads r
reads_filled p r = filled_leaves read_at (λ x. refl) p r

pub vals_filled : (p : ℕ → ℤ) (r : Range) → vals (fill_range p r) ≡ vals r
vals_filled p r = filled_leaves val_at (λ x. refl) p r

pub universe_some : (M : ℕ) → is_none_left (universe M) ≡ false
unfolding universe
universe_some M = refl
