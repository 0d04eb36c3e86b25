-- What a posted range reads, by its code's slots.
use Rattle.std.proofs.Common.{◌≡◌, ℕ, ℤ, ◌<◌, ◌+◌, Bool, true, false, cond, ◌||◌, ◌&&◌, not, ◌==◌, List, [], ◌∷◌, ◌++◌, map, take, filter, length, get_or, refl}
use Rattle.std.proofs.Common.{ap, sym, ◌∙◌, subst, inl, inr, eqb-true, All}
use Rattle.std.proofs.lemmas.Bool.{cases_Bool, and_parts}
use Rattle.std.proofs.lemmas.List.{map-append, take_more}
use Rattle.std.proofs.lemmas.List.Elements.{All-map}
use Rattle.std.specs.List.{list_any}
use Rattle.fd_language.specs.declared.TheConstants.{INFINITY}
use Rattle.fd_language.specs.declared.range_node.Feature.{Feature}
use Rattle.fd_language.specs.declared.range_node.Feature.TheVariants as feature
use Rattle.fd_language.specs.Features.{feature_at, range_features, is_same_feature, is_same_pair, each_once}
use Rattle.fd_language.specs.Check.{fill_range}
use Rattle.fd_language.specs.PostfixRanges.{nodes_of}
use Rattle.fd_language.specs.Monotonicity.{IsMonotone}
use Rattle.fd_language.specs.RangeRenaming.{rename_range}
use Rattle.fd_language.specs.RangeVerdict.{is_accepted}
use Rattle.fd_language.specs.Range.{Range, Role, leaf, a_parameter, a_min, a_max, a_val, a_dom}
use Rattle.range_code.specs.declared.frame.Arg.{Arg}
use Rattle.range_code.specs.Slots.{slot_of, in_slots, slot_features}
use Rattle.range_code.specs.Frames.{IsArgumentFrame, slot_variable, slot_integer, posted}
use Rattle.range_code.specs.Nodes.{IsSeen}
use Rattle.range_code.proofs.Lemmas.{all_readable, one_use, posted_monotone, features_seen, all_once}
use Rattle.fd_language.proofs.Lemmas.{same_feature, whole_nodes, renamed_leaves, filled_leaves, same_leaves, collected_by}
use Rattle.dependency_chains.specs.declared.Change.{Change}
use Rattle.dependency_chains.specs.WokenAgents.{wakes, is_woken}

abbrev Pair : Type 0
Pair = ℕ × Feature

abbrev named : (ℕ → ℕ) → Pair → Pair
named f d = (f d.0, d.1)

-- with other variables a range reads the same of them, whatever its parameters are
range_slots : (f : ℕ → ℕ) (r : Range) → range_features (rename_range f r) ≡ map (named f) (range_features r)
range_slots f r = renamed_leaves feature_at f r ∙ same_leaves (λ l. feature_at (leaf l.role (f l.variable))) (λ l. map (named f) (feature_at l)) by_role r
    ∙ sym (collected_by (map (named f)) refl (map-append (named f)) feature_at r) where
      by_role : (k : Role) (y : ℕ) → feature_at (leaf k (f y)) ≡ map (named f) (feature_at (leaf k y))
      by_role a_parameter y = refl
      by_role a_min y = refl
      by_role a_max y = refl
      by_role a_val y = refl
      by_role a_dom y = refl

range_named : (p : ℕ → ℤ) (f : ℕ → ℕ) (r : Range) → range_features (rename_range f (fill_range p r)) ≡ map (named f) (range_features r)
range_named p f r = range_slots f (fill_range p r) ∙ ap (map (named f)) (filled_leaves feature_at (λ x. refl) p r)

-- a test of pairs finds the same where each stands once
same_pair : (d e : Pair) → is_same_pair e d ≡ true → e ≡ d
same_pair d e h = let k = and_parts (e.0 == d.0) (is_same_feature e.1 d.1) h in let i : e.0 ≡ d.0 = eqb-true e.0 d.0 k.0 in let j : e.1 ≡ d.1 = same_feature e.1 d.1 k.1 in pairs i j where
  pairs : {a b : ℕ} {f g : Feature} → a ≡ b → f ≡ g → ◌≡◌ {A = Pair} (a, f) (b, g)
  pairs e f = cc

any_without : (q : Pair → Bool) (d : Pair) → q d ≡ false → (es : List Pair) → list_any q (filter (λ e. not (is_same_pair e d)) es) ≡ list_any q es
any_without q d h [] = refl
any_without q d h (e ∷ es) = elim (cases_Bool (is_same_pair e d)) [
  | inl s ↦ ap (λ b. list_any q (cond (not b) (e ∷ filter (λ x. not (is_same_pair x d)) es) (filter (λ x. not (is_same_pair x d)) es))) s ∙ any_without q d h es
      ∙ sym (ap (λ b. b || list_any q es) (ap q (same_pair d e s) ∙ h))
  | inr s ↦ ap (λ b. list_any q (cond (not b) (e ∷ filter (λ x. not (is_same_pair x d)) es) (filter (λ x. not (is_same_pair x d)) es))) s ∙ ap (λ b. q e || b) (any_without q d h es)
]

any_once : (q : Pair → Bool) (ds : List Pair) → list_any q (each_once ds) ≡ list_any q ds
any_once q [] = refl
any_once q (d ∷ ds) = elim (cases_Bool (q d)) [
  | inl e ↦ ap (λ b. b || list_any q (filter (λ x. not (is_same_pair x d)) (each_once ds))) e ∙ sym (ap (λ b. b || list_any q ds) e)
  | inr e ↦ ap (λ b. q d || b) (any_without q d e (each_once ds) ∙ any_once q ds)
]

any_mapped : (q : Pair → Bool) (f : Pair → Pair) (ds : List Pair) → list_any q (map f ds) ≡ list_any (λ d. q (f d)) ds
any_mapped q f [] = refl
any_mapped q f (d ∷ ds) = ap (λ b. q (f d) || b) (any_mapped q f ds)

-- the slots' variables with what is read of them wake as the posted range does
pub read_alike : (r : Range) (args : List Arg) (ds : List Pair) (c : Change) (x : ℕ) → ds ≡ map (named (slot_variable args)) (slot_features r)
    → is_woken c x ds ≡ is_woken c x (range_features (posted r args))
read_alike r args ds c x e =
    let q : Pair → Bool = (λ d. (d.0 == x) && wakes c d.1) in
    ap (list_any q) e
    ∙ any_mapped q (named (slot_variable args)) (slot_features r)
    ∙ any_once (λ d. q (named (slot_variable args) d)) (range_features (in_slots r))
    ∙ ap (list_any (λ d. q (named (slot_variable args) d))) (range_slots (slot_of r) r)
    ∙ any_mapped (λ d. q (named (slot_variable args) d)) (named (slot_of r)) (range_features r)
    ∙ sym (any_mapped q (named (λ y. slot_variable args (slot_of r y))) (range_features r))
    ∙ sym (ap (list_any q) (range_named (λ y. slot_integer args (slot_of r y)) (λ y. slot_variable args (slot_of r y)) r))

-- each slot that is read has a variable
pub slots_seen : (count : ℕ) (r : Range) (args : List Arg) → is_accepted INFINITY r ≡ true → IsArgumentFrame count r args → All (λ d. IsSeen count args d.0) (slot_features r)
slots_seen count r args h frame = all_once (λ d. IsSeen count args d.0) (range_features (in_slots r))
    (subst (λ (l : List Pair). All (λ d. IsSeen count args d.0) l) (whole_nodes feature_at (in_slots r))
    (features_seen count args (nodes_of (in_slots r)) (all_readable count r args frame (one_use r h))))

pub slot_read : (count : ℕ) (r q : Range) (args : List Arg) (fs : List Pair) (i : ℕ) (d : Pair) → q ≡ r → is_accepted INFINITY q ≡ true → fs ≡ slot_features q
    → IsArgumentFrame count r args → i < length fs → IsSeen count args (get_or fs i d).0
slot_read count r q args fs i d e h f frame l = subst (λ (z : List Pair). All (λ b. IsSeen count args b.0) z) (sym (f ∙ ap slot_features e))
    (slots_seen count r args (sym (ap (is_accepted INFINITY) e) ∙ h) frame) i d l

pub one_more_read : (args : List Arg) (fs : List Pair) (i v : ℕ) (old new : List Pair) (d : Pair) → i < length fs → d ≡ get_or fs i (0, feature.Min)
    → v ≡ slot_variable args d.0 → old ≡ map (named (slot_variable args)) (take i fs) → new ≡ old ++ (v, d.1) ∷ []
    → new ≡ map (named (slot_variable args)) (take (i + 1) fs)
one_more_read args fs i v old new d l e f g h =
    h ∙ ap (λ o. o ++ (v, d.1) ∷ []) g ∙ ap (λ w. map (named (slot_variable args)) (take i fs) ++ (w, d.1) ∷ []) f
    ∙ ap (λ z. map (named (slot_variable args)) (take i fs) ++ named (slot_variable args) z ∷ []) e
    ∙ sym (ap (map (named (slot_variable args))) (take_more fs i (0, feature.Min) l) ∙ map-append (named (slot_variable args)) (take i fs) (get_or fs i (0, feature.Min) ∷ []))

pub all_read : (count : ℕ) (r q : Range) (args : List Arg) (fs ds : List Pair) → q ≡ r → is_accepted INFINITY q ≡ true → fs ≡ slot_features q
    → IsArgumentFrame count r args → ds ≡ map (named (slot_variable args)) fs → All (λ d. d.0 < count) ds
all_read count r q args fs ds e h f frame g = subst (λ (z : List Pair). All (λ d. d.0 < count) z) (sym g)
    (All-map (λ d. d.0 < count) (named (slot_variable args)) fs (λ k d l. (slot_read count r q args fs k d e h f frame l).1))

pub read_same : (r q : Range) (args : List Arg) (fs ds : List Pair) → q ≡ r → fs ≡ slot_features q → ds ≡ map (named (slot_variable args)) fs
    → (x : ℕ) (c : Change) → is_woken c x ds ≡ is_woken c x (range_features (posted r args))
read_same r q args fs ds e f g x c = read_alike r args ds c x (g ∙ ap (map (named (slot_variable args))) (f ∙ ap slot_features e))

pub monotone : (count : ℕ) (r q : Range) (args : List Arg) → q ≡ r → is_accepted INFINITY q ≡ true → IsArgumentFrame count r args → IsMonotone INFINITY (posted r args)
monotone count r q args e h frame = posted_monotone count r args (sym (ap (is_accepted INFINITY) e) ∙ h) frame
