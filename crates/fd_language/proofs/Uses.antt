-- No variable has two uses exactly where the nodes show no clash.
use Rattle.std.proofs.Common.{◌≡◌, ℕ, suc, Bool, true, false, cond, not, ◌&&◌, ◌==◌, List, [], ◌∷◌, ◌++◌, refl, sym, ◌∙◌, subst, inl, inr, eqb-true, eq-eqb}
use Rattle.std.proofs.lemmas.Bool.{true≢false, or_left, or_right, or_cases}
use Rattle.std.specs.List.{list_all}
use Rattle.fd_language.specs.declared.range_node.RangeNode.{RangeNode}
use Rattle.fd_language.specs.declared.range_node.Offence.{Offence}
use Rattle.fd_language.specs.Family.{has}
use Rattle.fd_language.specs.Range.{Range, Leaf, leaf_of, from_leaf, from_node, is_parameter_role, reads, read_at, params, param_at}
use Rattle.fd_language.specs.PostfixRanges.{nodes_of}
use Rattle.fd_language.specs.RangeVerdict.{where_first_clash, leaf_clashes, clashes, has_one_use}
use Rattle.std.specs.Prelude.{flat_map, Option, Some, None}
use Rattle.std.proofs.lemmas.List.{append-nil}
use Rattle.fd_language.proofs.Sets.{has_either, in_left, in_right}
use Rattle.fd_language.proofs.Leaves.{whole_nodes}
use Rattle.fd_language.proofs.NoOffences.{nil}

-- the parameters and the named variables of a list of nodes
abbrev node_params : List RangeNode → List ℕ
node_params ns = flat_map (from_node param_at) ns

abbrev node_reads : List RangeNode → List ℕ
node_reads ns = flat_map (from_node read_at) ns

Apart : List ℕ → List ℕ → Type 0
Apart xs ys = (z : ℕ) → has xs z ≡ true → has ys z ≡ true → ⊥

later : (x z : ℕ) (xs ys : List ℕ) → has (x ∷ (xs ++ ys)) z ≡ true → has (xs ++ (x ∷ ys)) z ≡ true
later x z xs ys h = elim (or_cases (x == z) (has (xs ++ ys) z) h) [
  | inl e ↦ in_right xs (x ∷ ys) z (or_left (x == z) (has ys z) e)
  | inr e ↦ elim (has_either xs ys z e) [ inl f ↦ in_left xs (x ∷ ys) z f | inr f ↦ in_right xs (x ∷ ys) z (or_right (x == z) (has ys z) f) ]
]

sooner : (x z : ℕ) (xs ys : List ℕ) → has (xs ++ (x ∷ ys)) z ≡ true → has (x ∷ (xs ++ ys)) z ≡ true
sooner x z xs ys h = elim (has_either xs (x ∷ ys) z h) [
  | inl e ↦ or_right (x == z) (has (xs ++ ys) z) (in_left xs ys z e)
  | inr e ↦ elim (or_cases (x == z) (has ys z) e) [ inl f ↦ or_left (x == z) (has (xs ++ ys) z) f | inr f ↦ or_right (x == z) (has (xs ++ ys) z) (in_right xs ys z f) ]
]

no_clash : (other own : Bool) (p : ℕ) (os : List Offence) → nil (where_first_clash other own p ++ os) ≡ true → ((other ≡ true → own ≡ true)) × (nil os ≡ true)
no_clash true true p os h = ((λ e. refl), h)
no_clash true false p os h = absurd (true≢false (sym h))
no_clash false own p os h = ((λ e. absurd (true≢false (sym e))), h)

clash_free : (other own : Bool) (p : ℕ) (os : List Offence) → (other ≡ true → ⊥) → nil os ≡ true → nil (where_first_clash other own p ++ os) ≡ true
clash_free true own p os f h = absurd (f refl)
clash_free false own p os f h = h

added : (x : ℕ) (ps ys : List ℕ) → Apart ps ys → (has ys x ≡ true → has ps x ≡ true) → Apart (x ∷ ps) ys
unfolding Apart
added x ps ys a f = λ z h g. elim (or_cases (x == z) (has ps z) h) [
  | inl e ↦ let i : has ys x ≡ true = subst (λ n. has ys n ≡ true) (sym (eqb-true x z e)) g in a x (f i) i
  | inr e ↦ a z e g
]

turned : (ps ys : List ℕ) → Apart ps ys → Apart ys ps
unfolding Apart
turned ps ys a = λ z h g. a z g h

module _ (at : ℕ → ℕ) where
  -- the clashes behind the node with the number n
  abbrev behind : ℕ → List RangeNode → List ℕ → List ℕ → List Offence
  behind n ns ps ys = clashes at (suc n) ps ys ns

  forward : (ns : List RangeNode) (n : ℕ) (ps ys : List ℕ) → Apart ps ys → nil (clashes at n ps ys ns) ≡ true → Apart (node_params ns ++ ps) (node_reads ns ++ ys)
  unfolding Apart
  forward [] n ps ys a h = a
  forward (m ∷ ns) n ps ys a h = by_leaf (forward ns (suc n)) (leaf_of m) h where
    by_kind : ((qs zs : List ℕ) → Apart qs zs → nil (behind n ns qs zs) ≡ true → Apart (node_params ns ++ qs) (node_reads ns ++ zs)) → (b : Bool) (x : ℕ)
        → nil (cond b (where_first_clash (has ys x) (has ps x) (at n) ++ behind n ns (x ∷ ps) ys)
        (where_first_clash (has ps x) (has ys x) (at n) ++ behind n ns ps (x ∷ ys))) ≡ true
        → Apart ((cond b (x ∷ []) [] ++ node_params ns) ++ ps) ((cond b [] (x ∷ []) ++ node_reads ns) ++ ys)
    by_kind more true x h =
        let c = no_clash (has ys x) (has ps x) (at n) (behind n ns (x ∷ ps) ys) h in
        λ z i j. more (x ∷ ps) ys (added x ps ys a c.0) c.1 z (later x z (node_params ns) ps i) j
    by_kind more false x h =
        let c = no_clash (has ps x) (has ys x) (at n) (behind n ns ps (x ∷ ys)) h in
        λ z i j. more ps (x ∷ ys) (turned (x ∷ ys) ps (added x ys ps (turned ps ys a) c.0)) c.1 z i (later x z (node_reads ns) ys j)

    by_leaf : ((qs zs : List ℕ) → Apart qs zs → nil (behind n ns qs zs) ≡ true → Apart (node_params ns ++ qs) (node_reads ns ++ zs)) → (o : Option Leaf)
        → nil (leaf_clashes (at n) ps ys o (behind n ns)) ≡ true
        → Apart ((from_leaf param_at o ++ node_params ns) ++ ps) ((from_leaf read_at o ++ node_reads ns) ++ ys)
    by_leaf more None h = more ps ys a h
    by_leaf more (Some l) h = by_kind more (is_parameter_role l.role) l.variable h

  backward : (ns : List RangeNode) (n : ℕ) (ps ys : List ℕ) → Apart (node_params ns ++ ps) (node_reads ns ++ ys) → nil (clashes at n ps ys ns) ≡ true
  unfolding Apart
  backward [] n ps ys a = refl
  backward (m ∷ ns) n ps ys a = by_leaf (backward ns (suc n)) (leaf_of m) a where
    by_kind : ((qs zs : List ℕ) → Apart (node_params ns ++ qs) (node_reads ns ++ zs) → nil (behind n ns qs zs) ≡ true) → (b : Bool) (x : ℕ)
        → Apart ((cond b (x ∷ []) [] ++ node_params ns) ++ ps) ((cond b [] (x ∷ []) ++ node_reads ns) ++ ys)
        → nil (cond b (where_first_clash (has ys x) (has ps x) (at n) ++ behind n ns (x ∷ ps) ys) (where_first_clash (has ps x) (has ys x) (at n) ++ behind n ns ps (x ∷ ys))) ≡ true
    by_kind more true x a = clash_free (has ys x) (has ps x) (at n) (behind n ns (x ∷ ps) ys)
        (λ e. a x (or_left (x == x) (has (node_params ns ++ ps) x) (eq-eqb x x refl)) (in_right (node_reads ns) ys x e))
        (more (x ∷ ps) ys (λ z i j. a z (sooner x z (node_params ns) ps i) j))
    by_kind more false x a = clash_free (has ps x) (has ys x) (at n) (behind n ns ps (x ∷ ys))
        (λ e. a x (in_right (node_params ns) ps x e) (or_left (x == x) (has (node_reads ns ++ ys) x) (eq-eqb x x refl)))
        (more ps (x ∷ ys) (λ z i j. a z i (sooner x z (node_reads ns) ys j)))

    by_leaf : ((qs zs : List ℕ) → Apart (node_params ns ++ qs) (node_reads ns ++ zs) → nil (behind n ns qs zs) ≡ true) → (o : Option Leaf)
        → Apart ((from_leaf param_at o ++ node_params ns) ++ ps) ((from_leaf read_at o ++ node_reads ns) ++ ys)
        → nil (leaf_clashes (at n) ps ys o (behind n ns)) ≡ true
    by_leaf more None a = more ps ys a
    by_leaf more (Some l) a = by_kind more (is_parameter_role l.role) l.variable a

all_apart : (xs ys : List ℕ) → list_all (λ x. not (has ys x)) xs ≡ true → Apart xs ys
unfolding Apart
all_apart [] ys h = λ z i j. true≢false (sym i)
all_apart (x ∷ xs) ys h = λ z i j. elim (or_cases (x == z) (has xs z) i) [
  | inl e ↦ clear (has ys x) (list_all (λ k. not (has ys k)) xs) h (subst (λ n. has ys n ≡ true) (sym (eqb-true x z e)) j)
  | inr e ↦ all_apart xs ys (rest (has ys x) (list_all (λ k. not (has ys k)) xs) h) z e j
] where
  clear : (b c : Bool) → (not b && c) ≡ true → b ≡ true → ⊥
  clear true c h e = true≢false (sym h)
  clear false c h e = true≢false (sym e)

  rest : (b c : Bool) → (not b && c) ≡ true → c ≡ true
  rest true c h = absurd (true≢false (sym h))
  rest false c h = h

apart_all : (xs ys : List ℕ) → Apart xs ys → list_all (λ x. not (has ys x)) xs ≡ true
unfolding Apart
apart_all [] ys a = refl
apart_all (x ∷ xs) ys a = both (has ys x) (list_all (λ k. not (has ys k)) xs) (λ e. a x (or_left (x == x) (has xs x) (eq-eqb x x refl)) e)
    (apart_all xs ys (λ z i j. a z (or_right (x == z) (has xs z) i) j)) where
      both : (b c : Bool) → (b ≡ true → ⊥) → c ≡ true → (not b && c) ≡ true
      both true c f h = absurd (f refl)
      both false c f h = h

none : Apart [] []
unfolding Apart
none = λ z i j. true≢false (sym i)

all_params : (r : Range) → node_params (nodes_of r) ++ [] ≡ params r
all_params r = append-nil (node_params (nodes_of r)) ∙ whole_nodes param_at r

all_reads : (r : Range) → node_reads (nodes_of r) ++ [] ≡ reads r
all_reads r = append-nil (node_reads (nodes_of r)) ∙ whole_nodes read_at r

pub one_use : (at : ℕ → ℕ) (r : Range) → nil (clashes at 0 [] [] (nodes_of r)) ≡ true → has_one_use r ≡ true
one_use at r h =
    let a : Apart (node_params (nodes_of r) ++ []) (node_reads (nodes_of r) ++ []) = forward at (nodes_of r) 0 [] [] none h in
    let b : Apart (params r) (reads r) = subst (λ l. Apart l (reads r)) (all_params r) (subst (λ l. Apart (node_params (nodes_of r) ++ []) l) (all_reads r) a) in
    apart_all (params r) (reads r) b

pub one_use_back : (at : ℕ → ℕ) (r : Range) → has_one_use r ≡ true → nil (clashes at 0 [] [] (nodes_of r)) ≡ true
one_use_back at r h =
    let b : Apart (params r) (reads r) = all_apart (params r) (reads r) h in
    let a : Apart (node_params (nodes_of r) ++ []) (node_reads (nodes_of r) ++ []) = subst (λ l. Apart l (node_reads (nodes_of r) ++ [])) (sym (all_params r))
    (subst (λ l. Apart (params r) l) (sym (all_reads r)) b) in
    backward at (nodes_of r) 0 [] [] a
