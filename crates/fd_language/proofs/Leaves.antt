-- Public lemmas on walks over ranges: what two walks have in common, and what is collected of the leaves.
use Rattle.std.proofs.Common.{◌≡◌, ℕ, suc, ◌+◌, ℤ, List, [], ◌∷◌, ◌++◌, length, refl, ap, sym, subst, ◌∙◌, arith, true}
use Rattle.std.proofs.lemmas.Bool.{true≢false}
use Rattle.std.specs.Prelude.{flat_map, filter_map, Option, Some, None}
use Rattle.std.specs.List.{cons_option}
use Rattle.std.proofs.lemmas.List.{append-nil, append_assoc}
use Rattle.std.proofs.lemmas.List.Concat.{flat_map-append}
use mathlib.Core.Path.{fun_ext}
use Rattle.fd_language.specs.declared.range_node.RangeNode.{RangeNode}
use Rattle.fd_language.specs.declared.range_node.RangeNode.TheVariants as node
use Rattle.fd_language.specs.Range.{Range, Span, One, Dom, Union, Inter, Outside, Plus, Minus, Times, Over, Expr, Number, Infinity, Param, Min, Max, Val, Add}
use Rattle.fd_language.specs.Range.{Sub, Mul, DivDown, DivUp, Leaf, Role, leaf, a_parameter, a_min, a_max, a_val, a_dom, is_parameter_role, Walk, walk_expr}
use Rattle.fd_language.specs.Range.{walk_range, leaf_of, from_leaf, from_node, collecting, from_expr, from_range, expr_leaves, leaves, reads, read_by, read_at}
use Rattle.fd_language.specs.Range.{vals, val_by, val_at, params, param_by, param_at}
use Rattle.fd_language.specs.Occurrences.{Occurrence, occurrence_at, range_occurrences}
use Rattle.fd_language.specs.Features.{feature_at}
use Rattle.fd_language.specs.Lists.{Each}
use Rattle.fd_language.specs.NewLeaves.{NewLeaves, new_expr, new_range}
use Rattle.fd_language.specs.RangeRenaming.{rename_expr, rename_range, renaming}
use Rattle.fd_language.specs.Check.{fill_range, filling}
use Rattle.fd_language.specs.Counts.{takes}
use Rattle.fd_language.specs.PostfixRanges.{InFront, postfix, expr_nodes, range_nodes, nodes_of}
use Rattle.fd_language.specs.RangeVerdict.{counting, range_size}
use Rattle.fd_language.specs.RangeLaws.{LeavesTell}
use Rattle.fd_language.specs.Family.{has}
use Rattle.fd_language.proofs.Sets.{in_flat}
use Rattle.fd_language.proofs.Lists.{each_before, each_after}

-- how many operands a node has
abbrev pub operands : RangeNode → ℕ
operands n = (takes n).ranges + (takes n).terms

-- Two walks that are related at each leaf, and at each node where they are related at its operands, are related.
module _ {X Y : Type 0} (R : X → Y → Type 0) (v : Walk X) (w : Walk Y)
    (at_leaf : (n : RangeNode) → operands n ≡ 0 → R (v.at_leaf n) (w.at_leaf n))
    (at_one : (n : RangeNode) → operands n ≡ 1 → (a : X) (b : Y) → R a b → R (v.at_one n a) (w.at_one n b))
    (at_two : (n : RangeNode) → operands n ≡ 2 → (a c : X) (b d : Y) → R a b → R c d → R (v.at_two n a c) (w.at_two n b d)) where
  pub exprs_related : (e : Expr) → R (walk_expr v e) (walk_expr w e)
  exprs_related (Number z) = at_leaf (node.Int z) refl
  exprs_related Infinity = at_leaf node.Infinity refl
  exprs_related (Param x) = at_leaf (node.Param x) refl
  exprs_related (Min y) = at_leaf (node.Min y) refl
  exprs_related (Max y) = at_leaf (node.Max y) refl
  exprs_related (Val y) = at_leaf (node.Val y) refl
  exprs_related (Add a b) = at_two node.Add refl _ _ _ _ (exprs_related a) (exprs_related b)
  exprs_related (Sub a b) = at_two node.Sub refl _ _ _ _ (exprs_related a) (exprs_related b)
  exprs_related (Mul a b) = at_two node.Mul refl _ _ _ _ (exprs_related a) (exprs_related b)
  exprs_related (DivDown a b) = at_two node.DivDown refl _ _ _ _ (exprs_related a) (exprs_related b)
  exprs_related (DivUp a b) = at_two node.DivUp refl _ _ _ _ (exprs_related a) (exprs_related b)

  pub ranges_related : (r : Range) → R (walk_range v r) (walk_range w r)
  ranges_related (Span a b) = at_two node.Span refl _ _ _ _ (exprs_related a) (exprs_related b)
  ranges_related (One e) = at_one node.One refl _ _ (exprs_related e)
  ranges_related (Dom y) = at_leaf (node.Dom y) refl
  ranges_related (Union r q) = at_two node.Union refl _ _ _ _ (ranges_related r) (ranges_related q)
  ranges_related (Inter r q) = at_two node.Inter refl _ _ _ _ (ranges_related r) (ranges_related q)
  ranges_related (Outside r) = at_one node.Outside refl _ _ (ranges_related r)
  ranges_related (Plus r c) = at_two node.Plus refl _ _ _ _ (ranges_related r) (exprs_related c)
  ranges_related (Minus r c) = at_two node.Minus refl _ _ _ _ (ranges_related r) (exprs_related c)
  ranges_related (Times r c) = at_two node.Times refl _ _ _ _ (ranges_related r) (exprs_related c)
  ranges_related (Over r c) = at_two node.Over refl _ _ _ _ (ranges_related r) (exprs_related c)

-- nothing is put together of nothing alone
pub first_nil : {A : Type 0} (xs ys : List A) → xs ++ ys ≡ [] → xs ≡ []
first_nil [] ys h = refl
first_nil (x ∷ xs) ys h = absurd (cc)

pub second_nil : {A : Type 0} (xs ys : List A) → xs ++ ys ≡ [] → ys ≡ []
second_nil [] ys h = h
second_nil (x ∷ xs) ys h = absurd (cc)

-- equal operands give the same
pub two : {A B C : Type 0} (op : A → B → C) {a a' : A} {b b' : B} → a ≡ a' → b ≡ b' → op a b ≡ op a' b'
two op {a' = a'} {b = b} e f = ap (λ x. op x b) e ∙ ap (op a') f

-- a leaf stands behind nothing, and an operator names no variable
node_alone : {X : Type 0} (f : Leaf → List X) (n : RangeNode) → from_node f n ≡ flat_map f (from_node (λ l. l ∷ []) n)
node_alone f (node.Param x) = sym (append-nil (f (leaf a_parameter x)))
node_alone f (node.Min y) = sym (append-nil (f (leaf a_min y)))
node_alone f (node.Max y) = sym (append-nil (f (leaf a_max y)))
node_alone f (node.Val y) = sym (append-nil (f (leaf a_val y)))
node_alone f (node.Dom y) = sym (append-nil (f (leaf a_dom y)))
node_alone f n = refl

no_leaf : {X : Type 0} (f : Leaf → List X) (n : RangeNode) (k : ℕ) → operands n ≡ suc k → from_node f n ≡ []
no_leaf f (node.Param x) k h = absurd (omega (arith, h))
no_leaf f (node.Min y) k h = absurd (omega (arith, h))
no_leaf f (node.Max y) k h = absurd (omega (arith, h))
no_leaf f (node.Val y) k h = absurd (omega (arith, h))
no_leaf f (node.Dom y) k h = absurd (omega (arith, h))
no_leaf f n k h = refl

-- What is collected of a range is collected of the list of its leaves.
pub range_leaves : {X : Type 0} (f : Leaf → List X) (r : Range) → from_range f r ≡ flat_map f (leaves r)
range_leaves f r = ranges_related (λ xs ls. xs ≡ flat_map f ls) (collecting f) (collecting (λ l. l ∷ []))
    (λ n h. node_alone f n) (λ n h x y e. e) (λ n h x u y v e g. two (λ x y. x ++ y) e g ∙ sym (flat_map-append f y v)) r

-- and of the list of its nodes
pub nodes_leaves : {X : Type 0} (f : Leaf → List X) (r : Range) (rest : List RangeNode) → flat_map (from_node f) (range_nodes r rest) ≡ from_range f r ++ flat_map (from_node f) rest
nodes_leaves f r = ranges_related (λ (ns : InFront) xs. (rest : List RangeNode) → flat_map (from_node f) (ns rest) ≡ xs ++ flat_map (from_node f) rest) postfix (collecting f)
    (λ n h rest. refl)
    (λ n h x y e rest. e (n ∷ rest) ∙ ap (λ l. y ++ (l ++ flat_map (from_node f) rest)) (no_leaf f n 0 h))
    (λ n h x u y v e g rest. e (u (n ∷ rest)) ∙ (ap (λ l. y ++ l) (g (n ∷ rest) ∙ ap (λ l. v ++ (l ++ flat_map (from_node f) rest)) (no_leaf f n 1 h))
    ∙ sym (append_assoc y v (flat_map (from_node f) rest))))
    r

listed : (ns : List RangeNode) → filter_map leaf_of ns ≡ flat_map (from_node (λ l. l ∷ [])) ns
listed [] = refl
listed (n ∷ ns) = with_rest (leaf_of n) (filter_map leaf_of ns) ∙ ap (λ l. from_node (λ l. l ∷ []) n ++ l) (listed ns) where
  with_rest : (o : Option Leaf) (ls : List Leaf) → cons_option o ls ≡ from_leaf (λ l. l ∷ []) o ++ ls
  with_rest None ls = refl
  with_rest (Some l) ls = refl

pub whole_nodes : {X : Type 0} (f : Leaf → List X) (r : Range) → flat_map (from_node f) (nodes_of r) ≡ from_range f r
whole_nodes f r = nodes_leaves f r [] ∙ append-nil (from_range f r)

-- What follows the nodes of a term or a range may follow later.
pub expr_append : (e : Expr) (xs ys : List RangeNode) → expr_nodes e (xs ++ ys) ≡ expr_nodes e xs ++ ys
expr_append e = exprs_related (λ (ns : InFront) (ms : InFront). (xs ys : List RangeNode) → ns (xs ++ ys) ≡ ns xs ++ ys) postfix postfix
    (λ n h xs ys. refl) (λ n h x y e xs ys. e (n ∷ xs) ys) (λ n h x u y v e g xs ys. ap x (g (n ∷ xs) ys) ∙ e (u (n ∷ xs)) ys) e

pub range_append : (r : Range) (xs ys : List RangeNode) → range_nodes r (xs ++ ys) ≡ range_nodes r xs ++ ys
range_append r = ranges_related (λ (ns : InFront) (ms : InFront). (xs ys : List RangeNode) → ns (xs ++ ys) ≡ ns xs ++ ys) postfix postfix
    (λ n h xs ys. refl) (λ n h x y e xs ys. e (n ∷ xs) ys) (λ n h x u y v e g xs ys. ap x (g (n ∷ xs) ys) ∙ e (u (n ∷ xs)) ys) r

-- There are as many nodes as the size says.
size_more : (k : ℕ) → k + 0 ≡ k
size_more k = omega arith

one_size : (l a r : ℕ) → l ≡ a + suc r → l ≡ suc a + r
one_size l a r e = omega arith

two_size : (l m a b r : ℕ) → l ≡ a + m → m ≡ b + suc r → l ≡ suc (a + b) + r
two_size l m a b r e f = omega arith

leaf_size : (r : ℕ) → suc r ≡ 1 + r
leaf_size r = omega arith

count_nodes_then : (r : Range) (rest : List RangeNode) → length (range_nodes r rest) ≡ range_size r + length rest
count_nodes_then r = ranges_related (λ (ns : InFront) k. (rest : List RangeNode) → length (ns rest) ≡ k + length rest) postfix counting
    (λ n h rest. leaf_size (length rest)) (λ n h x y e rest. one_size _ y (length rest) (e (n ∷ rest))) (λ n h x u y v e g rest. two_size _ _ y v (length rest) (e (u (n ∷ rest))) (g (n ∷ rest))) r

pub count_nodes : (r : Range) → length (nodes_of r) ≡ range_size r
count_nodes r = count_nodes_then r [] ∙ size_more (range_size r)

-- What is collected of a range with new leaves is what is collected of what each leaf became.
abbrev pub from_new : {X : Type 0} → (Leaf → List X) → NewLeaves → Role → ℕ → List X
from_new f h a_parameter x = from_expr f (h.param x)
from_new f h a_min y = from_expr f (h.for_min y)
from_new f h a_max y = from_expr f (h.for_max y)
from_new f h a_val y = from_expr f (h.one_value y)
from_new f h a_dom y = f (leaf a_dom (h.domain y))

module _ {X : Type 0} (f : Leaf → List X) (h : NewLeaves) where
  expr_new : (e : Expr) → from_expr f (new_expr h e) ≡ from_expr (λ l. from_new f h l.role l.variable) e
  expr_new (Add a b) = two (λ x y. x ++ y) (expr_new a) (expr_new b)
  expr_new (Sub a b) = two (λ x y. x ++ y) (expr_new a) (expr_new b)
  expr_new (Mul a b) = two (λ x y. x ++ y) (expr_new a) (expr_new b)
  expr_new (DivDown a b) = two (λ x y. x ++ y) (expr_new a) (expr_new b)
  expr_new (DivUp a b) = two (λ x y. x ++ y) (expr_new a) (expr_new b)
  expr_new e = refl

  pub new_leaves : (r : Range) → from_range f (new_range h r) ≡ from_range (λ l. from_new f h l.role l.variable) r
  new_leaves (Span a b) = two (λ x y. x ++ y) (expr_new a) (expr_new b)
  new_leaves (One e) = expr_new e
  new_leaves (Dom y) = refl
  new_leaves (Union r q) = two (λ x y. x ++ y) (new_leaves r) (new_leaves q)
  new_leaves (Inter r q) = two (λ x y. x ++ y) (new_leaves r) (new_leaves q)
  new_leaves (Outside r) = new_leaves r
  new_leaves (Plus r c) = two (λ x y. x ++ y) (new_leaves r) (expr_new c)
  new_leaves (Minus r c) = two (λ x y. x ++ y) (new_leaves r) (expr_new c)
  new_leaves (Times r c) = two (λ x y. x ++ y) (new_leaves r) (expr_new c)
  new_leaves (Over r c) = two (λ x y. x ++ y) (new_leaves r) (expr_new c)

-- Where the leaves give the same, all gives the same.
pub same_leaves : {X : Type 0} (f g : Leaf → List X) → ((k : Role) (y : ℕ) → f (leaf k y) ≡ g (leaf k y)) → (r : Range) → from_range f r ≡ from_range g r
same_leaves f g h r = ap (λ (k : Leaf → List _). from_range k r) (fun_ext (λ l. h l.role l.variable))

-- renamed, and with each parameter filled in
pub renamed_leaves : {X : Type 0} (f : Leaf → List X) (g : ℕ → ℕ) (r : Range) → from_range f (rename_range g r) ≡ from_range (λ l. f (leaf l.role (g l.variable))) r
renamed_leaves f g r = new_leaves f (renaming g) r ∙ same_leaves (λ l. from_new f (renaming g) l.role l.variable) (λ l. f (leaf l.role (g l.variable))) by_role r where
  by_role : (k : Role) (y : ℕ) → from_new f (renaming g) k y ≡ f (leaf k (g y))
  by_role a_parameter y = refl
  by_role a_min y = refl
  by_role a_max y = refl
  by_role a_val y = refl
  by_role a_dom y = refl

-- What is collected of no parameter stays the same when parameters are filled in.
pub filled_leaves : {X : Type 0} (f : Leaf → List X) → ((x : ℕ) → f (leaf a_parameter x) ≡ []) → (p : ℕ → ℤ) (r : Range) → from_range f (fill_range p r) ≡ from_range f r
filled_leaves f none p r = new_leaves f (filling p) r ∙ same_leaves (λ l. from_new f (filling p) l.role l.variable) f by_role r where
  by_role : (k : Role) (y : ℕ) → from_new f (filling p) k y ≡ f (leaf k y)
  by_role a_parameter y = sym (none y)
  by_role a_min y = refl
  by_role a_max y = refl
  by_role a_val y = refl
  by_role a_dom y = refl

-- two ways to replace a leaf that do the same
abbrev pub Agree : NewLeaves → NewLeaves → Role → ℕ → Type 0
Agree h g a_parameter x = h.param x ≡ g.param x
Agree h g a_min y = h.for_min y ≡ g.for_min y
Agree h g a_max y = h.for_max y ≡ g.for_max y
Agree h g a_val y = h.one_value y ≡ g.one_value y
Agree h g a_dom y = h.domain y ≡ g.domain y

-- Where they do so at each leaf, they give the same range.
module _ (h g : NewLeaves) where
  abbrev AllAgree : List Leaf → Type 0
  AllAgree ls = Each (λ l. Agree h g l.role l.variable) ls

  both_agree : {A B C : Type 0} (op : A → B → C) {a a' : A} {b b' : B} (xs ys : List Leaf) → (AllAgree xs → a ≡ a') → (AllAgree ys → b ≡ b') → AllAgree (xs ++ ys) → op a b ≡ op a' b'
  both_agree op xs ys i j s = two op (i (each_before (λ l. Agree h g l.role l.variable) xs ys s)) (j (each_after (λ l. Agree h g l.role l.variable) xs ys s))

  expr_agrees : (e : Expr) → AllAgree (expr_leaves e) → new_expr h e ≡ new_expr g e
  expr_agrees (Number z) s = refl
  expr_agrees Infinity s = refl
  expr_agrees (Add a b) s = both_agree Add (expr_leaves a) (expr_leaves b) (expr_agrees a) (expr_agrees b) s
  expr_agrees (Sub a b) s = both_agree Sub (expr_leaves a) (expr_leaves b) (expr_agrees a) (expr_agrees b) s
  expr_agrees (Mul a b) s = both_agree Mul (expr_leaves a) (expr_leaves b) (expr_agrees a) (expr_agrees b) s
  expr_agrees (DivDown a b) s = both_agree DivDown (expr_leaves a) (expr_leaves b) (expr_agrees a) (expr_agrees b) s
  expr_agrees (DivUp a b) s = both_agree DivUp (expr_leaves a) (expr_leaves b) (expr_agrees a) (expr_agrees b) s
  expr_agrees e s = s.0

  range_agrees : (r : Range) → AllAgree (leaves r) → new_range h r ≡ new_range g r
  range_agrees (Span a b) s = both_agree Span (expr_leaves a) (expr_leaves b) (expr_agrees a) (expr_agrees b) s
  range_agrees (One e) s = ap One (expr_agrees e s)
  range_agrees (Dom y) s = ap Dom s.0
  range_agrees (Union r q) s = both_agree Union (leaves r) (leaves q) (range_agrees r) (range_agrees q) s
  range_agrees (Inter r q) s = both_agree Inter (leaves r) (leaves q) (range_agrees r) (range_agrees q) s
  range_agrees (Outside r) s = ap Outside (range_agrees r s)
  range_agrees (Plus r c) s = both_agree Plus (leaves r) (expr_leaves c) (range_agrees r) (expr_agrees c) s
  range_agrees (Minus r c) s = both_agree Minus (leaves r) (expr_leaves c) (range_agrees r) (expr_agrees c) s
  range_agrees (Times r c) s = both_agree Times (leaves r) (expr_leaves c) (range_agrees r) (expr_agrees c) s
  range_agrees (Over r c) s = both_agree Over (leaves r) (expr_leaves c) (range_agrees r) (expr_agrees c) s

-- Where a fact that makes them agree holds of each occurrence, they give the same range.
pub occurrences_agree : (h g : NewLeaves) (P : Occurrence → Type 0)
    → ((k : Role) (y : ℕ) → P (record { variable = y; parameter = is_parameter_role k }) → Agree h g k y) → (r : Range) → Each P (range_occurrences r)
    → new_range h r ≡ new_range g r
occurrences_agree h g P by r s = range_agrees h g r (at_leaves (leaves r) (subst (λ ps. Each P ps) (range_leaves occurrence_at r) s)) where
  at_leaves : (ls : List Leaf) → Each P (flat_map occurrence_at ls) → Each (λ l. Agree h g l.role l.variable) ls
  at_leaves [] e = tt
  at_leaves (l ∷ ls) e = (by l.role l.variable e.0, at_leaves ls e.1)

-- Renamings that agree at each occurrence give the same range.
pub renamed_agree : (f g : ℕ → ℕ) (r : Range) → Each (λ p. f p.variable ≡ g p.variable) (range_occurrences r) → rename_range f r ≡ rename_range g r
renamed_agree f g r s = occurrences_agree (renaming f) (renaming g) (λ p. f p.variable ≡ g p.variable) by_role r s where
  by_role : (k : Role) (y : ℕ) → f y ≡ g y → Agree (renaming f) (renaming g) k y
  by_role a_parameter y e = ap Param e
  by_role a_min y e = ap Min e
  by_role a_max y e = ap Max e
  by_role a_val y e = ap Val e
  by_role a_dom y e = e

-- And so do parameters that agree at each occurrence.
pub filled_agree : (p q : ℕ → ℤ) (r : Range) → Each (λ x. p x.variable ≡ q x.variable) (range_occurrences r) → fill_range p r ≡ fill_range q r
filled_agree p q r s = occurrences_agree (filling p) (filling q) (λ x. p x.variable ≡ q x.variable) by_role r s where
  by_role : (k : Role) (y : ℕ) → p y ≡ q y → Agree (filling p) (filling q) k y
  by_role a_parameter y e = ap Number e
  by_role a_min y e = refl
  by_role a_max y e = refl
  by_role a_val y e = refl
  by_role a_dom y e = refl

-- what becomes of leaves that are replaced by g and then by h
abbrev pub both_new : NewLeaves → NewLeaves → NewLeaves
both_new h g = record {
  param = λ x. new_expr h (g.param x);
  for_min = λ y. new_expr h (g.for_min y);
  for_max = λ y. new_expr h (g.for_max y);
  one_value = λ y. new_expr h (g.one_value y);
  domain = λ y. h.domain (g.domain y);
}

-- Leaves that are replaced twice are replaced at once so.
module _ (h g : NewLeaves) where
  expr_twice : (e : Expr) → new_expr h (new_expr g e) ≡ new_expr (both_new h g) e
  expr_twice (Add a b) = two Add (expr_twice a) (expr_twice b)
  expr_twice (Sub a b) = two Sub (expr_twice a) (expr_twice b)
  expr_twice (Mul a b) = two Mul (expr_twice a) (expr_twice b)
  expr_twice (DivDown a b) = two DivDown (expr_twice a) (expr_twice b)
  expr_twice (DivUp a b) = two DivUp (expr_twice a) (expr_twice b)
  expr_twice e = refl

  pub new_twice : (r : Range) → new_range h (new_range g r) ≡ new_range (both_new h g) r
  new_twice (Span a b) = two Span (expr_twice a) (expr_twice b)
  new_twice (One e) = ap One (expr_twice e)
  new_twice (Dom y) = refl
  new_twice (Union r q) = two Union (new_twice r) (new_twice q)
  new_twice (Inter r q) = two Inter (new_twice r) (new_twice q)
  new_twice (Outside r) = ap Outside (new_twice r)
  new_twice (Plus r c) = two Plus (new_twice r) (expr_twice c)
  new_twice (Minus r c) = two Minus (new_twice r) (expr_twice c)
  new_twice (Times r c) = two Times (new_twice r) (expr_twice c)
  new_twice (Over r c) = two Over (new_twice r) (expr_twice c)

-- variables that are named anew twice
pub renamed_twice : (f g : ℕ → ℕ) (r : Range) → rename_range f (rename_range g r) ≡ rename_range (λ y. f (g y)) r
renamed_twice f g r = new_twice (renaming f) (renaming g) r

-- Integers may be filled in before or after the variables are renamed.
pub filled_renamed : (f : ℕ → ℕ) (p : ℕ → ℤ) (r : Range) → fill_range p (rename_range f r) ≡ rename_range f (fill_range (λ y. p (f y)) r)
filled_renamed f p r = new_twice (filling p) (renaming f) r ∙ sym (new_twice (renaming f) (filling (λ y. p (f y))) r)

-- A range whose variables keep their names is as it was.
expr_as_is : (e : Expr) → rename_expr (λ y. y) e ≡ e
expr_as_is (Add a b) = two Add (expr_as_is a) (expr_as_is b)
expr_as_is (Sub a b) = two Sub (expr_as_is a) (expr_as_is b)
expr_as_is (Mul a b) = two Mul (expr_as_is a) (expr_as_is b)
expr_as_is (DivDown a b) = two DivDown (expr_as_is a) (expr_as_is b)
expr_as_is (DivUp a b) = two DivUp (expr_as_is a) (expr_as_is b)
expr_as_is e = refl

pub renamed_as_is : (r : Range) → rename_range (λ y. y) r ≡ r
renamed_as_is (Span a b) = two Span (expr_as_is a) (expr_as_is b)
renamed_as_is (One e) = ap One (expr_as_is e)
renamed_as_is (Dom y) = refl
renamed_as_is (Union r q) = two Union (renamed_as_is r) (renamed_as_is q)
renamed_as_is (Inter r q) = two Inter (renamed_as_is r) (renamed_as_is q)
renamed_as_is (Outside r) = ap Outside (renamed_as_is r)
renamed_as_is (Plus r c) = two Plus (renamed_as_is r) (expr_as_is c)
renamed_as_is (Minus r c) = two Minus (renamed_as_is r) (expr_as_is c)
renamed_as_is (Times r c) = two Times (renamed_as_is r) (expr_as_is c)
renamed_as_is (Over r c) = two Over (renamed_as_is r) (expr_as_is c)

-- a leaf that stays as it is
abbrev pub Stays : NewLeaves → Role → ℕ → Type 0
Stays h k y = Agree h (renaming (λ y. y)) k y

-- Where each leaf stays as it is, so does all.
pub range_stays : (h : NewLeaves) (r : Range) → Each (λ l. Stays h l.role l.variable) (leaves r) → new_range h r ≡ r
range_stays h r s = range_agrees h (renaming (λ y. y)) r s ∙ renamed_as_is r

-- Without parameters nothing is filled in.
pub filled_as_is : (p : ℕ → ℤ) (r : Range) → params r ≡ [] → fill_range p r ≡ r
filled_as_is p r none = range_stays (filling p) r (each_none (leaves r) (sym (range_leaves param_at r) ∙ none)) where
  by_role : (k : Role) (y : ℕ) → param_by k y ≡ [] → Stays (filling p) k y
  by_role a_parameter y e = absurd cc
  by_role a_min y e = refl
  by_role a_max y e = refl
  by_role a_val y e = refl
  by_role a_dom y e = refl

  each_none : (ls : List Leaf) → flat_map param_at ls ≡ [] → Each (λ l. Stays (filling p) l.role l.variable) ls
  each_none [] e = tt
  each_none (l ∷ ls) e = (by_role l.role l.variable (first_nil _ _ e), each_none ls (second_nil (param_by l.role l.variable) _ e))

-- What is read by val is read.
pub vals_read : (r : Range) (v : ℕ) → has (vals r) v ≡ true → has (reads r) v ≡ true
vals_read r v h =
    subst (λ xs. has xs v ≡ true) (sym (range_leaves read_at r)) (in_flat val_at read_at v (λ l. by_role l.role l.variable) (leaves r) (subst (λ xs. has xs v ≡ true) (range_leaves val_at r) h)) where
      by_role : (k : Role) (y : ℕ) → has (val_by k y) v ≡ true → has (read_by k y) v ≡ true
      by_role a_val y e = e
      by_role k y e = absurd (true≢false (sym e))

pub leaves_tell : LeavesTell
leaves_tell r = (
  record {
    reads_are = range_leaves read_at r;
    vals_are = range_leaves val_at r;
    params_are = range_leaves param_at r;
    occurrences_are = range_leaves occurrence_at r;
    features_are = range_leaves feature_at r;
  },
  record { node_leaves = listed (nodes_of r) ∙ whole_nodes (λ l. l ∷ []) r; features_are = whole_nodes feature_at r; size = count_nodes r },
)
