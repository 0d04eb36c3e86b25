-- Ranges whose variables are their slots.
use Rattle.std.proofs.Common.{◌≡◌, ℕ, ◌+◌, ◌*◌, max, Bool, true, not, ◌&&◌, ◌==◌, List, [], ◌∷◌, map, length, refl, sym, ap, ◌∙◌, eq-eqb}
use Rattle.std.specs.List.{list_all}
use Rattle.std.proofs.lemmas.Bool.{or_left, or_right}
use Rattle.std.proofs.lemmas.List.{map-append}
use Rattle.std.proofs.lemmas.List.Folds.{list_all-map}
use Rattle.fd_language.specs.Family.{has}
use Rattle.fd_language.specs.Lists.{Each}
use Rattle.fd_language.specs.Needs.{once}
use Rattle.fd_language.specs.Range.{Range, Span, One, Dom, Union, Inter, Outside, Plus, Minus, Times, Over, Expr, Number, Infinity, Param, Min, Max, Val, Add}
use Rattle.fd_language.specs.Range.{Sub, Mul, DivDown, DivUp, Role, leaf, a_parameter, reads, params, param_at, param_by}
use Rattle.fd_language.specs.Occurrences.{Occurrence, range_occurrences}
use Rattle.fd_language.specs.PostfixRanges.{nodes_of}
use Rattle.fd_language.specs.RangeRenaming.{rename_expr, rename_range}
use Rattle.fd_language.specs.RangeVerdict.{bound, expr_within, range_within, over_limit, factor_over_limit, has_one_use, is_accepted}
use Rattle.fd_language.proofs.Lemmas.{two, whole_nodes, variables_collected, renamed_leaves, renamed_agree, renamed_as_is, collected_by, reads_occur}
use Rattle.fd_language.proofs.Lemmas.{params_occur, reads_map, range_fits_same, same_leaves, has_once, each_map}
use Rattle.range_code.specs.Slots.{slots_of, slot_of, in_slots}
use Rattle.range_code.specs.Nodes.{node_variables}
use Rattle.listing_loader.specs.Marks.{are_in_order, has_slots_in_order}
use Rattle.listing_loader.proofs.SlotNumbers.{own_place, places_in_order, same_place, has_renamed, as_many}

-- the variables of a range, at each of their places
abbrev pub variables : Range → List ℕ
variables r = map (λ q. q.variable) (range_occurrences r)

vars_of : (r : Range) → node_variables (nodes_of r) ≡ variables r
vars_of r = whole_nodes (λ l. l.variable ∷ []) r ∙ sym (variables_collected r)

renamed_vars : (f : ℕ → ℕ) (r : Range) → variables (rename_range f r) ≡ map f (variables r)
renamed_vars f r =
    variables_collected (rename_range f r) ∙ renamed_leaves (λ l. l.variable ∷ []) f r
    ∙ sym (collected_by (map f) refl (map-append f) (λ l. l.variable ∷ []) r) ∙ ap (map f) (sym (variables_collected r))

-- what holds of each variable holds of each occurrence
each_in : (P : ℕ → Type 0) (os : List Occurrence) → ((y : ℕ) → has (map (λ q. q.variable) os) y ≡ true → P y) → Each (λ q. P q.variable) os
each_in P [] h = tt
each_in P (o ∷ os) h = (
  h o.variable (or_left (o.variable == o.variable) (has (map (λ q. q.variable) os) o.variable) (eq-eqb o.variable o.variable refl)),
  each_in P os (λ y k. h y (or_right (o.variable == y) (has (map (λ q. q.variable) os) y) k)),
)

-- the slots of a range in slots are in order,
pub slots_in_order : (r : Range) → has_slots_in_order (nodes_of (in_slots r)) ≡ true
slots_in_order r = ap (are_in_order 0) (vars_of (in_slots r) ∙ renamed_vars (slot_of r) r) ∙ places_in_order (variables r)

-- and a range whose slots are in order is in slots.
pub in_order_same : (r : Range) → has_slots_in_order (nodes_of r) ≡ true → in_slots r ≡ r
in_order_same r h =
    let ordered : are_in_order 0 (variables r) ≡ true = ap (are_in_order 0) (sym (vars_of r)) ∙ h in
    renamed_agree (slot_of r) (λ y. y) r (each_in (λ y. slot_of r y ≡ y) (range_occurrences r) (own_place (variables r) ordered)) ∙ renamed_as_is r

-- ---- a range in slots has as many slots, and is accepted as before

module _ (r : Range) where
  apart : (x y : ℕ) → has (variables r) x ≡ true → has (variables r) y ≡ true → slot_of r x ≡ slot_of r y → x ≡ y
  apart x y h k e = same_place (once (variables r)) x y (once_has x h) (once_has y k) e where
    once_has : (z : ℕ) → has (variables r) z ≡ true → has (once (variables r)) z ≡ true
    once_has z h = has_once (variables r) z ∙ h

  pub as_many_slots : length (slots_of (in_slots r)) ≡ length (slots_of r)
  as_many_slots = ap (λ l. length (once l)) (renamed_vars (slot_of r) r) ∙ as_many (slot_of r) (variables r) apart (variables r) (λ x h. h)

  all_variables : Each (λ q. has (variables r) q.variable ≡ true) (range_occurrences r)
  all_variables = each_in (λ y. has (variables r) y ≡ true) (range_occurrences r) (λ y h. h)

  read_is : (y : ℕ) → has (reads r) y ≡ true → has (variables r) y ≡ true
  read_is y h = reads_occur (λ y. has (variables r) y ≡ true) r all_variables y h

-- ---- limits don't look at names

module _ (M : ℕ) (f : ℕ → ℕ) where
  bound_same : (e : Expr) → bound M (rename_expr f e) ≡ bound M e
  bound_same (Number z) = refl
  bound_same Infinity = refl
  bound_same (Param x) = refl
  bound_same (Min y) = refl
  bound_same (Max y) = refl
  bound_same (Val y) = refl
  bound_same (Add a b) = two (λ x y. x + y) (bound_same a) (bound_same b)
  bound_same (Sub a b) = two (λ x y. x + y) (bound_same a) (bound_same b)
  bound_same (Mul a b) = two (λ x y. x * y) (bound_same a) (bound_same b)
  bound_same (DivDown a b) = ap (λ x. max x M) (bound_same a)
  bound_same (DivUp a b) = ap (λ x. max x M) (bound_same a)

  within_two : (a b : Expr) (n m : ℕ) → expr_within M (rename_expr f a) ≡ expr_within M a → expr_within M (rename_expr f b) ≡ expr_within M b → n ≡ m
      → ((expr_within M (rename_expr f a) && expr_within M (rename_expr f b)) && not (over_limit n))
      ≡ ((expr_within M a && expr_within M b) && not (over_limit m))
  within_two a b n m e g k = two (λ x y. x && y) (two (λ x y. x && y) e g) (ap (λ n. not (over_limit n)) k)

  expr_within_same : (e : Expr) → expr_within M (rename_expr f e) ≡ expr_within M e
  expr_within_same (Number z) = refl
  expr_within_same Infinity = refl
  expr_within_same (Param x) = refl
  expr_within_same (Min y) = refl
  expr_within_same (Max y) = refl
  expr_within_same (Val y) = refl
  expr_within_same (Add a b) = within_two a b _ _ (expr_within_same a) (expr_within_same b) (bound_same (Add a b))
  expr_within_same (Sub a b) = within_two a b _ _ (expr_within_same a) (expr_within_same b) (bound_same (Sub a b))
  expr_within_same (Mul a b) = within_two a b _ _ (expr_within_same a) (expr_within_same b) (bound_same (Mul a b))
  expr_within_same (DivDown a b) = within_two a b _ _ (expr_within_same a) (expr_within_same b) (bound_same (DivDown a b))
  expr_within_same (DivUp a b) = within_two a b _ _ (expr_within_same a) (expr_within_same b) (bound_same (DivUp a b))

  factor_two : (r : Range) (c : Expr) → range_within M (rename_range f r) ≡ range_within M r → (test : ℕ → Bool)
      → ((range_within M (rename_range f r) && expr_within M (rename_expr f c)) && not (test (bound M (rename_expr f c))))
      ≡ ((range_within M r && expr_within M c) && not (test (bound M c)))
  factor_two r c e test = two (λ x y. x && y) (two (λ x y. x && y) e (expr_within_same c)) (ap (λ n. not (test n)) (bound_same c))

  range_within_same : (r : Range) → range_within M (rename_range f r) ≡ range_within M r
  range_within_same (Span a b) = two (λ x y. x && y) (expr_within_same a) (expr_within_same b)
  range_within_same (One t) = expr_within_same t
  range_within_same (Dom y) = refl
  range_within_same (Union r q) = two (λ x y. x && y) (range_within_same r) (range_within_same q)
  range_within_same (Inter r q) = two (λ x y. x && y) (range_within_same r) (range_within_same q)
  range_within_same (Outside r) = range_within_same r
  range_within_same (Plus r c) = factor_two r c (range_within_same r) (λ n. over_limit (M + n))
  range_within_same (Minus r c) = factor_two r c (range_within_same r) (λ n. over_limit (M + n))
  range_within_same (Times r c) = factor_two r c (range_within_same r) (factor_over_limit M)
  range_within_same (Over r c) = factor_two r c (range_within_same r) (factor_over_limit M)

-- ---- no variable has two uses

params_map : (f : ℕ → ℕ) (r : Range) → params (rename_range f r) ≡ map f (params r)
params_map f r =
    renamed_leaves param_at f r ∙ same_leaves (λ l. param_at (leaf l.role (f l.variable))) (λ l. map f (param_at l)) by_role r ∙ sym (collected_by (map f) refl (map-append f) param_at r) where
      by_role : (k : Role) (y : ℕ) → param_by k (f y) ≡ map f (param_by k y)
      by_role a_parameter y = refl
      by_role k y = refl

all_same : (t u : ℕ → Bool) (xs : List ℕ) → Each (λ x. t x ≡ u x) xs → list_all t xs ≡ list_all u xs
all_same t u [] h = refl
all_same t u (x ∷ xs) h = two (λ a b. a && b) h.0 (all_same t u xs h.1)

one_use_same : (r : Range) → has_one_use (in_slots r) ≡ has_one_use r
one_use_same r =
    ap (list_all (λ x. not (has (reads (in_slots r)) x))) (params_map (slot_of r) r)
    ∙ list_all-map (λ x. not (has (reads (in_slots r)) x)) (slot_of r) (params r)
    ∙ all_same (λ x. not (has (reads (in_slots r)) (slot_of r x))) (λ x. not (has (reads r) x)) (params r)
    (each_map (λ x. has (variables r) x ≡ true) (λ x. not (has (reads (in_slots r)) (slot_of r x)) ≡ not (has (reads r) x))
    (λ x h. ap not (ap (λ l. has l (slot_of r x)) (reads_map (slot_of r) r) ∙ has_renamed (slot_of r) (variables r) (apart r) (reads r) x (read_is r) h))
    (params r) (params_occur (λ q. has (variables r) q.variable ≡ true) r (all_variables r)))

pub accepted_same : (M : ℕ) (r : Range) → is_accepted M (in_slots r) ≡ is_accepted M r
accepted_same M r = two (λ x y. x && y) (range_within_same M (slot_of r) r) (two (λ x y. x && y) (range_fits_same M (slot_of r) r true) (one_use_same r))
