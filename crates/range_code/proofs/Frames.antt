-- Each node of a range finds its argument.
use Rattle.std.proofs.Common.{◌≡◌, ℕ, suc, ◌+◌, ◌<◌, Bool, true, false, cond, not, ◌||◌, ◌==◌, nat_eq, List, [], ◌∷◌, map, length, Option, Some, None, refl}
use Rattle.std.proofs.Common.{sym, ◌∙◌, ap, subst, ◌⊎◌, inl, inr, arith, eqb-true, eq-eqb}
use Rattle.std.specs.List.{All, list_all, position_or_len}
use Rattle.std.specs.Prelude.{flat_map}
use Rattle.std.proofs.lemmas.Option.{none-some, same_Some}
use Rattle.std.proofs.lemmas.Bool.{cases_Bool, true≢false, or_left, or_cases, or_from}
use Rattle.std.proofs.lemmas.List.Elements.{All-map}
use Rattle.std.proofs.Math.Numerals.{one-add}
use Rattle.std.specs.Cmp.{second_so, first_so}
use Rattle.fd_language.specs.declared.range_node.Need.{Need}
use Rattle.fd_language.specs.declared.range_node.RangeNode.{RangeNode}
use Rattle.fd_language.specs.declared.range_node.RangeNode.TheVariants as node
use Rattle.fd_language.specs.Family.{has}
use Rattle.fd_language.specs.Lists.{Each}
use Rattle.fd_language.specs.Range.{Range, Leaf, leaf_of, leaves, from_range, is_parameter_role, reads, read_at, params, param_at}
use Rattle.fd_language.specs.RangeVerdict.{has_one_use}
use Rattle.fd_language.specs.Needs.{need_of}
use Rattle.fd_language.specs.Occurrences.{Occurrence, range_occurrences}
use Rattle.fd_language.specs.PostfixRanges.{nodes_of}
use Rattle.fd_language.specs.RangeRenaming.{rename_range}
use Rattle.fd_language.proofs.Lemmas.{has_once, in_left, in_right, in_flat, range_leaves, variables_collected, all_nodes}
use Rattle.range_code.specs.declared.frame.Arg.{Arg}
use Rattle.range_code.specs.declared.frame.Arg.TheVariants.{Var, Int}
use Rattle.range_code.specs.Slots.{slots_of, slot_of, need_at, in_slots}
use Rattle.range_code.specs.Frames.{IsArg, AreArgs, IsArgumentFrame, variable_of, arg_at}
use Rattle.range_code.specs.Nodes.{IsSeen, IsReadable, rename_node}
use Rattle.range_code.proofs.Variables.{renamed_nodes}

abbrev pub of_occurrences : List Occurrence → List ℕ
of_occurrences ps = map (λ q. q.variable) ps

-- what is read, and what is a parameter, occurs
occurs : (f : Leaf → List ℕ) → ((l : Leaf) (y : ℕ) → has (f l) y ≡ true → has (l.variable ∷ []) y ≡ true) → (r : Range) (y : ℕ) → has (from_range f r) y ≡ true
    → has (of_occurrences (range_occurrences r)) y ≡ true
occurs f by r y h =
    subst (λ l. has l y ≡ true) (sym (variables_collected r ∙ range_leaves (λ l. l.variable ∷ []) r))
    (in_flat f (λ l. l.variable ∷ []) y (λ l. by l y) (leaves r) (subst (λ l. has l y ≡ true) (range_leaves f r) h))

pub reads_occur : (r : Range) (y : ℕ) → has (reads r) y ≡ true → has (of_occurrences (range_occurrences r)) y ≡ true
reads_occur r y h = occurs read_at (λ l z. by_test (is_parameter_role l.role) l.variable z) r y h where
  by_test : (b : Bool) (x z : ℕ) → has (cond b [] (x ∷ [])) z ≡ true → has (x ∷ []) z ≡ true
  by_test true x z e = absurd (true≢false (sym e))
  by_test false x z e = e

pub params_occur : (r : Range) (y : ℕ) → has (params r) y ≡ true → has (of_occurrences (range_occurrences r)) y ≡ true
params_occur r y h = occurs param_at (λ l z. by_test (is_parameter_role l.role) l.variable z) r y h where
  by_test : (b : Bool) (x z : ℕ) → has (cond b (x ∷ []) []) z ≡ true → has (x ∷ []) z ≡ true
  by_test true x z e = e
  by_test false x z e = absurd (true≢false (sym e))

-- the argument that a leaf finds by the slot of its variable
module _ (count : ℕ) (args : List Arg) (f : ℕ → ℕ) where
  abbrev Finds : Leaf → Type 0
  Finds l = cond (is_parameter_role l.role) (f l.variable < length args) (IsSeen count args (f l.variable))

  each_finds : (ls : List Leaf) → ((y : ℕ) → has (flat_map read_at ls) y ≡ true → IsSeen count args (f y)) → ((x : ℕ) → has (flat_map param_at ls) x ≡ true → f x < length args) → Each Finds ls
  each_finds [] s t = tt
  each_finds (l ∷ ls) s t = (
    here (is_parameter_role l.role) l.variable (λ y e. s y (in_left (read_at l) (flat_map read_at ls) y e)) (λ x e. t x (in_left (param_at l) (flat_map param_at ls) x e)),
    each_finds ls (λ y e. s y (in_right (read_at l) (flat_map read_at ls) y e)) (λ x e. t x (in_right (param_at l) (flat_map param_at ls) x e)),
  ) where
    here : (b : Bool) (y : ℕ) → ((z : ℕ) → has (cond b [] (y ∷ [])) z ≡ true → IsSeen count args (f z))
        → ((z : ℕ) → has (cond b (y ∷ []) []) z ≡ true → f z < length args) → cond b (f y < length args) (IsSeen count args (f y))
    here true y u v = v y (or_left (y == y) false (eq-eqb y y refl))
    here false y u v = u y (or_left (y == y) false (eq-eqb y y refl))

  leaf_readable : (n : RangeNode) (l : Leaf) → leaf_of n ≡ Some l → Finds l → IsReadable count args (rename_node f n)
  leaf_readable (node.Param x) l e h = subst Finds (sym (same_Some _ _ e)) h
  leaf_readable (node.Min y) l e h = subst Finds (sym (same_Some _ _ e)) h
  leaf_readable (node.Max y) l e h = subst Finds (sym (same_Some _ _ e)) h
  leaf_readable (node.Val y) l e h = subst Finds (sym (same_Some _ _ e)) h
  leaf_readable (node.Dom y) l e h = subst Finds (sym (same_Some _ _ e)) h
  leaf_readable n l e h = tt

  operator_readable : (n : RangeNode) → leaf_of n ≡ None → IsReadable count args (rename_node f n)
  operator_readable (node.Param x) e = absurd (none-some _ (sym e))
  operator_readable (node.Min y) e = absurd (none-some _ (sym e))
  operator_readable (node.Max y) e = absurd (none-some _ (sym e))
  operator_readable (node.Val y) e = absurd (none-some _ (sym e))
  operator_readable (node.Dom y) e = absurd (none-some _ (sym e))
  operator_readable n e = tt

  range_readable : (r : Range) → ((y : ℕ) → has (reads r) y ≡ true → IsSeen count args (f y)) → ((x : ℕ) → has (params r) x ≡ true → f x < length args)
      → All (IsReadable count args) (nodes_of (rename_range f r))
  range_readable r s t =
      subst (All (IsReadable count args)) (renamed_nodes f r)
      (All-map (IsReadable count args) (rename_node f) (nodes_of r)
      (all_nodes (λ n. IsReadable count args (rename_node f n)) Finds operator_readable leaf_readable r
      (each_finds (leaves r) (λ y e. s y (subst (λ l. has l y ≡ true) (sym (range_leaves read_at r)) e)) (λ x e. t x (subst (λ l. has l x ≡ true) (sym (range_leaves param_at r)) e)))))

-- the argument of a variable that has a slot
pub record HasArg (count : ℕ) (need : ℕ → Option Need) (xs : List ℕ) (args : List Arg) (y : ℕ) : Type 0 where
  pub within : position_or_len (nat_eq y) xs < length args
  pub fitting : IsArg count (need y) (arg_at args (position_or_len (nat_eq y) xs))

has_arg : (count : ℕ) (need : ℕ → Option Need) (xs : List ℕ) (args : List Arg) (y : ℕ) → AreArgs count (map need xs) args → has xs y ≡ true → HasArg count need xs args y
has_arg count need [] args y a h = absurd (true≢false (sym h))
has_arg count need (x ∷ xs) [] y a h = absurd a
has_arg count need (x ∷ xs) (b ∷ bs) y a h = elim (cases_Bool (nat_eq y x)) [
  | inl e ↦
      let i : position_or_len (nat_eq y) (x ∷ xs) ≡ 0 = ap (λ c. cond (not c) (1 + position_or_len (nat_eq y) xs) 0) e in
      record {
        within = subst (λ n. n < suc (length bs)) (sym i) (omega arith);
        fitting = subst (λ n. IsArg count (need y) (arg_at (b ∷ bs) n)) (sym i) (subst (λ z. IsArg count (need z) b) (sym (eqb-true y x e)) a.0);
      }
  | inr e ↦
      let i : position_or_len (nat_eq y) (x ∷ xs) ≡ suc (position_or_len (nat_eq y) xs) = ap (λ c. cond (not c) (1 + position_or_len (nat_eq y) xs) 0) e ∙ one-add (position_or_len (nat_eq y) xs) in
      let k = has_arg count need xs bs y a.1 (later x y xs e h) in
      record {
        within = subst (λ n. n < suc (length bs)) (sym i) (up (position_or_len (nat_eq y) xs) (length bs) k.within);
        fitting = subst (λ n. IsArg count (need y) (arg_at (b ∷ bs) n)) (sym i) k.fitting;
      }
] where
  up : (m n : ℕ) → m < n → suc m < suc n
  up m n h = omega arith

  later : (x y : ℕ) (xs : List ℕ) → nat_eq y x ≡ false → ((x == y) || has xs y) ≡ true → has xs y ≡ true
  later x y xs e h = elim (or_cases (x == y) (has xs y) h) [ inl i ↦ absurd (true≢false (sym (eq-eqb y x (sym (eqb-true x y i))) ∙ e)) | inr i ↦ i ]

seen_arg : (count : ℕ) (a : Arg) → IsArg count None a → (variable_of a < count) × (a ≡ Var (variable_of a))
seen_arg count (Var k) h = (h, refl)
seen_arg count (Int z) h = absurd h

-- a variable that is read is no parameter
pub no_parameter : (xs ys : List ℕ) (y : ℕ) → list_all (λ x. not (has ys x)) xs ≡ true → has ys y ≡ true → has xs y ≡ false
no_parameter [] ys y h g = refl
no_parameter (x ∷ xs) ys y h g = or_from (x == y) (has xs y) (apart (cases_Bool (x == y))) (no_parameter xs ys y (second_so (not (has ys x)) (list_all (λ z. not (has ys z)) xs) h) g) where
  flip : (a : Bool) → not a ≡ true → a ≡ true → ⊥
  flip a h g = grind arith

  apart : ((x == y) ≡ true) ⊎ ((x == y) ≡ false) → (x == y) ≡ false
  apart (inl e) = absurd (flip (has ys x) (first_so (not (has ys x)) (list_all (λ z. not (has ys z)) xs) h) (subst (λ z. has ys z ≡ true) (sym (eqb-true x y e)) g))
  apart (inr e) = e

module _ (count : ℕ) (r : Range) (args : List Arg) (fit : IsArgumentFrame count r args) (one : has_one_use r ≡ true) where
  pub slotted : (y : ℕ) → has (of_occurrences (range_occurrences r)) y ≡ true → HasArg count (need_at r) (slots_of r) args y
  slotted y h = has_arg count (need_at r) (slots_of r) args y fit (has_once (of_occurrences (range_occurrences r)) y ∙ h)

  pub reads_seen : (y : ℕ) → has (reads r) y ≡ true → IsSeen count args (slot_of r y)
  reads_seen y h =
      let k = slotted y (reads_occur r y h) in
      let s = seen_arg count (arg_at args (slot_of r y))
      (subst (λ n. IsArg count n (arg_at args (slot_of r y))) (ap (λ b. cond b (Some (need_of r y)) None) (no_parameter (params r) (reads r) y one h))
      k.fitting) in
      (k.within, s.0, s.1)

  params_there : (x : ℕ) → has (params r) x ≡ true → slot_of r x < length args
  params_there x h = (slotted x (params_occur r x h)).within

  pub all_readable : All (IsReadable count args) (nodes_of (in_slots r))
  all_readable = range_readable count args (slot_of r) r reads_seen params_there
