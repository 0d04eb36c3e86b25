-- A list of nodes spells a range where its counts come out even.
use Rattle.std.proofs.Common.{◌≡◌, ◌↔◌, IsTrue, nat_eq, get_or, drop, ℕ, ◌+◌, ◌-◌, ◌<◌, ◌≤◌, Bool, true, false, not, List, [], ◌∷◌, length, Option, Some, None}
use Rattle.std.proofs.Common.{refl, sym, ◌∙◌, ap, subst, arith}
use Rattle.std.proofs.lemmas.Bool.{true≢false, not-true, not-false}
use Rattle.fd_language.specs.declared.range_node.RangeNode.{RangeNode}
use Rattle.fd_language.specs.declared.range_node.RangeNode.TheVariants as node
use Rattle.fd_language.specs.Range.{Range, Expr}
use Rattle.fd_language.specs.PostfixRanges.{Shape, term_alone, term_of_terms, range_alone, range_of_term, range_of_terms, range_of_range, range_of_ranges}
use Rattle.fd_language.specs.PostfixRanges.{range_of_both, shape_of, put, built_behind, expr_nodes, range_nodes, nodes_of, built, builds_range, IsSpelled}
use Rattle.fd_language.specs.PostfixRanges.{spelled_range, spelled_range-nodes}
use Rattle.std.proofs.lemmas.List.{at_drop_more, drop_all}
use Rattle.fd_language.specs.Counts.{taken, takes, IsReached}
use Rattle.fd_language.specs.declared.operand_counts.Operands.{Operands}

-- a term is built where there are enough terms
term_put : (s : Shape) (ns : List RangeNode) (rs : List Range) (ts : List Expr) → (taken s).gives_range ≡ false → (taken s).terms ≤ length ts
    → IsReached (built_behind ns (put s rs ts)) ns (length rs) (length ts - (taken s).terms + 1)
term_put (term_alone e) ns rs ts g h = (rs, e ∷ ts, refl, omega arith, refl)
term_put (term_of_terms make) ns rs [] g h = absurd (omega arith)
term_put (term_of_terms make) ns rs (b ∷ []) g h = absurd (omega arith)
term_put (term_of_terms make) ns rs (b ∷ a ∷ ts) g h = (rs, make a b ∷ ts, refl, omega arith, refl)
term_put s ns rs ts g h = absurd (true≢false g)

-- a range is built where there are just as many terms, and enough ranges
range_put : (s : Shape) (ns : List RangeNode) (rs : List Range) (ts : List Expr) → (taken s).gives_range ≡ true → length ts ≡ (taken s).terms → (taken s).ranges ≤ length rs
    → IsReached (built_behind ns (put s rs ts)) ns (length rs - (taken s).ranges + 1) 0
range_put (term_alone e) ns rs ts g t h = absurd (true≢false (sym g))
range_put (term_of_terms make) ns rs ts g t h = absurd (true≢false (sym g))
range_put (range_alone r) ns rs [] g t h = (r ∷ rs, [], omega arith, refl, refl)
range_put (range_of_term make) ns rs (e ∷ []) g t h = (make e ∷ rs, [], omega arith, refl, refl)
range_put (range_of_terms make) ns rs (b ∷ a ∷ []) g t h = (make a b ∷ rs, [], omega arith, refl, refl)
range_put (range_of_range make) ns (r ∷ rs) [] g t h = (make r ∷ rs, [], omega arith, refl, refl)
range_put (range_of_ranges make) ns (q ∷ r ∷ rs) [] g t h = (make r q ∷ rs, [], omega arith, refl, refl)
range_put (range_of_both make) ns (r ∷ rs) (c ∷ []) g t h = (make r c ∷ rs, [], omega arith, refl, refl)
range_put s ns rs ts g t h = absurd (omega arith)

-- the nodes of what waits, from the bottom, and then the nodes that follow
abbrev terms_then : List Expr → List RangeNode → List RangeNode
terms_then [] ns = ns
terms_then (t ∷ ts) ns = terms_then ts (expr_nodes t ns)

abbrev ranges_then : List Range → List RangeNode → List RangeNode
ranges_then [] ns = ns
ranges_then (r ∷ rs) ns = ranges_then rs (range_nodes r ns)

-- what builds a range spells it
abbrev Spells : Option Range → List RangeNode → Type 0
Spells None ns = Unit {0}
Spells (Some r) ns = nodes_of r ≡ ns

-- a node stands behind the nodes of the operands of what it makes
abbrev StandsBehind : RangeNode → Shape → Type 0
StandsBehind n (term_alone e) = (rest : List RangeNode) → expr_nodes e rest ≡ n ∷ rest
StandsBehind n (term_of_terms make) = (a b : Expr) (rest : List RangeNode) → expr_nodes (make a b) rest ≡ expr_nodes a (expr_nodes b (n ∷ rest))
StandsBehind n (range_alone r) = (rest : List RangeNode) → range_nodes r rest ≡ n ∷ rest
StandsBehind n (range_of_term make) = (t : Expr) (rest : List RangeNode) → range_nodes (make t) rest ≡ expr_nodes t (n ∷ rest)
StandsBehind n (range_of_terms make) = (a b : Expr) (rest : List RangeNode) → range_nodes (make a b) rest ≡ expr_nodes a (expr_nodes b (n ∷ rest))
StandsBehind n (range_of_range make) = (r : Range) (rest : List RangeNode) → range_nodes (make r) rest ≡ range_nodes r (n ∷ rest)
StandsBehind n (range_of_ranges make) = (r q : Range) (rest : List RangeNode) → range_nodes (make r q) rest ≡ range_nodes r (range_nodes q (n ∷ rest))
StandsBehind n (range_of_both make) = (r : Range) (c : Expr) (rest : List RangeNode) → range_nodes (make r c) rest ≡ range_nodes r (expr_nodes c (n ∷ rest))

stands_behind : (n : RangeNode) → StandsBehind n (shape_of n)
stands_behind node.Add = λ a b rest. refl
stands_behind node.Sub = λ a b rest. refl
stands_behind node.Mul = λ a b rest. refl
stands_behind node.DivDown = λ a b rest. refl
stands_behind node.DivUp = λ a b rest. refl
stands_behind node.Span = λ a b rest. refl
stands_behind node.One = λ t rest. refl
stands_behind node.Union = λ r q rest. refl
stands_behind node.Inter = λ r q rest. refl
stands_behind node.Outside = λ r rest. refl
stands_behind node.Plus = λ r c rest. refl
stands_behind node.Minus = λ r c rest. refl
stands_behind node.Times = λ r c rest. refl
stands_behind node.Over = λ r c rest. refl
stands_behind n = λ rest. refl

-- all that waits, and then the nodes that follow
abbrev nodes_then : List Range → List Expr → List RangeNode → List RangeNode
nodes_then rs ts ns = ranges_then rs (terms_then ts ns)

put_spells : (n : RangeNode) (s : Shape) → StandsBehind n s → (ns : List RangeNode)
    → ((us : List Range) (vs : List Expr) → Spells (built ns us vs) (nodes_then us vs ns)) → (rs : List Range) (ts : List Expr)
    → Spells (built_behind ns (put s rs ts)) (nodes_then rs ts (n ∷ ns))
put_spells n (term_alone e) f ns h rs ts = subst (λ l. Spells (built ns rs (e ∷ ts)) (nodes_then rs ts l)) (f ns) (h rs (e ∷ ts))
put_spells n (term_of_terms make) f ns h rs (b ∷ a ∷ ts) = subst (λ l. Spells (built ns rs (make a b ∷ ts)) (nodes_then rs ts l)) (f a b ns) (h rs (make a b ∷ ts))
put_spells n (range_alone r) f ns h rs [] = subst (λ l. Spells (built ns (r ∷ rs) []) (ranges_then rs l)) (f ns) (h (r ∷ rs) [])
put_spells n (range_of_term make) f ns h rs (t ∷ []) = subst (λ l. Spells (built ns (make t ∷ rs) []) (ranges_then rs l)) (f t ns) (h (make t ∷ rs) [])
put_spells n (range_of_terms make) f ns h rs (b ∷ a ∷ []) = subst (λ l. Spells (built ns (make a b ∷ rs) []) (ranges_then rs l)) (f a b ns) (h (make a b ∷ rs) [])
put_spells n (range_of_range make) f ns h (r ∷ rs) [] = subst (λ l. Spells (built ns (make r ∷ rs) []) (ranges_then rs l)) (f r ns) (h (make r ∷ rs) [])
put_spells n (range_of_ranges make) f ns h (q ∷ r ∷ rs) [] = subst (λ l. Spells (built ns (make r q ∷ rs) []) (ranges_then rs l)) (f r q ns) (h (make r q ∷ rs) [])
put_spells n (range_of_both make) f ns h (r ∷ rs) (c ∷ []) = subst (λ l. Spells (built ns (make r c ∷ rs) []) (ranges_then rs l)) (f r c ns) (h (make r c ∷ rs) [])
put_spells n s f ns h rs ts = tt

built_spells : (ns : List RangeNode) (rs : List Range) (ts : List Expr) → Spells (built ns rs ts) (nodes_then rs ts ns)
built_spells [] (r ∷ []) [] = refl
built_spells [] rs ts = tt
built_spells (n ∷ ns) rs ts = put_spells n (shape_of n) (stands_behind n) ns (λ us vs. built_spells ns us vs) rs ts

from_some : (ns : List RangeNode) (o : Option Range) → Spells o ns → (r : Range) → o ≡ Some r → IsSpelled ns
from_some ns None s r e = absurd cc
from_some ns (Some q) s r e = (q, s)

pub is_spelled : (ns : List RangeNode) (r : Range) → built ns [] [] ≡ Some r → IsSpelled ns
is_spelled ns r e = from_some ns (built ns [] []) (built_spells ns [] []) r e

pub not_spelled : (ns : List RangeNode) → built ns [] [] ≡ None → IsSpelled ns → ⊥
not_spelled ns e (r, i) = let h : built ns [] [] ≡ Some r = subst (λ m. built m [] [] ≡ Some r) i (builds_range r [] []) in absurd cc

-- at the end one range waits, and no term
pub ends_even : (rs : List Range) (ts : List Expr) → length rs ≡ 1 → length ts ≡ 0 → (r : Range) × (built [] rs ts ≡ Some r)
ends_even [] ts h g = absurd (omega arith)
ends_even (r ∷ []) [] h g = (r, refl)
ends_even (r ∷ q ∷ rs) ts h g = absurd (omega arith)
ends_even (r ∷ []) (t ∷ ts) h g = absurd (omega arith)

pub ends_odd : (rs : List Range) (ts : List Expr) → (length rs ≡ 1 → length ts ≡ 0 → ⊥) → built [] rs ts ≡ None
ends_odd [] [] h = refl
ends_odd [] (t ∷ ts) h = refl
ends_odd (r ∷ []) [] h = absurd (h refl refl)
ends_odd (r ∷ []) (t ∷ ts) h = refl
ends_odd (r ∷ q ∷ rs) [] h = refl
ends_odd (r ∷ q ∷ rs) (t ∷ ts) h = refl

pub after_expr : (n : RangeNode) (o : Operands) (ranges terms : ℕ) → o ≡ takes n → not o.gives_range ≡ true → o.terms ≤ terms →
    (ns : List RangeNode) (rs : List Range) (ts : List Expr) → length rs ≡ ranges → length ts ≡ terms → IsReached (built (n ∷ ns) rs ts) ns ranges (terms - o.terms + 1)
after_expr n o ranges terms e f l ns rs ts h g =
    subst (λ k. IsReached (built (n ∷ ns) rs ts) ns k (terms - o.terms + 1)) h
    (subst (λ k. IsReached (built (n ∷ ns) rs ts) ns (length rs) (k - o.terms + 1)) g
    (subst (λ q. IsReached (built (n ∷ ns) rs ts) ns (length rs) (length ts - q.terms + 1)) (sym e)
    (term_put (shape_of n) ns rs ts (ap (λ q. q.gives_range) (sym e) ∙ not-true o.gives_range f)
    (subst (λ q. q.terms ≤ length ts) e (subst (λ k. o.terms ≤ k) (sym g) l)))))

pub after_range : (n : RangeNode) (o : Operands) (ranges terms : ℕ) → o ≡ takes n → not o.gives_range ≡ false → o.ranges ≤ ranges → terms ≡ o.terms →
    (ns : List RangeNode) (rs : List Range) (ts : List Expr) → length rs ≡ ranges → length ts ≡ terms → IsReached (built (n ∷ ns) rs ts) ns (ranges - o.ranges + 1) 0
after_range n o ranges terms e f l i ns rs ts h g =
    subst (λ k. IsReached (built (n ∷ ns) rs ts) ns (k - o.ranges + 1) 0) h
    (subst (λ q. IsReached (built (n ∷ ns) rs ts) ns (length rs - q.ranges + 1) 0) (sym e)
    (range_put (shape_of n) ns rs ts (ap (λ q. q.gives_range) (sym e) ∙ not-false o.gives_range f) (g ∙ (i ∙ ap (λ q. q.terms) e))
    (subst (λ q. q.ranges ≤ length rs) e (subst (λ k. o.ranges ≤ k) (sym h) l))))

pub ends_none : (ns : List RangeNode) (i : ℕ) (d : RangeNode) (ranges terms : ℕ) → i < length ns → IsReached (built ns [] []) (drop i ns) ranges terms →
    ((ms : List RangeNode) (rs : List Range) (ts : List Expr) → length rs ≡ ranges → length ts ≡ terms → built (get_or ns i d ∷ ms) rs ts ≡ None) →
    IsTrue false ↔ IsSpelled ns
ends_none ns i d ranges terms l (rs, ts, h, g, o) f =
    let e : built ns [] [] ≡ None = o ∙ (at_drop_more (λ ms. built ms rs ts) ns i d l ∙ f (drop (i + 1) ns) rs ts h g) in
    ((λ k. absurd (true≢false (sym k))), (λ s. absurd (not_spelled ns e s)))

at_end : (ns : List RangeNode) (rs : List Range) (ts : List Expr) (b : Bool) → built ns [] [] ≡ built [] rs ts → (b ≡ true → (length rs ≡ 1) × (length ts ≡ 0))
    → (length rs ≡ 1 → length ts ≡ 0 → b ≡ true) → IsTrue b ↔ IsSpelled ns
at_end ns rs ts true o f g = let k = f refl in let e = ends_even rs ts k.0 k.1 in ((λ h. is_spelled ns e.0 (o ∙ e.1)), (λ s. refl))
at_end ns rs ts false o f g = ((λ h. absurd (true≢false (sym h))), (λ s. absurd (not_spelled ns (o ∙ ends_odd rs ts (λ h k. true≢false (sym (g h k)))) s)))

two_tests : (r t ranges terms : ℕ) (b : Bool) → r ≡ ranges → t ≡ terms → (b ≡ true → (ranges ≡ 1) × (terms ≡ 0)) → b ≡ true → (r ≡ 1) × (t ≡ 0)
two_tests r t ranges terms b h g f k = (h ∙ (f k).0, g ∙ (f k).1)

pub ends_all : (ns : List RangeNode) (i : ℕ) (ranges terms : ℕ) (b : Bool) → length ns ≤ i → IsReached (built ns [] []) (drop i ns) ranges terms
    → (b ≡ true → (ranges ≡ 1) × (terms ≡ 0)) → (ranges ≡ 1 → terms ≡ 0 → b ≡ true) → IsTrue b ↔ IsSpelled ns
ends_all ns i ranges terms b l (rs, ts, h, g, o) f k =
    at_end ns rs ts b (o ∙ ap (λ ms. built ms rs ts) (drop_all i ns l)) (two_tests (length rs) (length ts) ranges terms b h g f) (λ x y. k (sym h ∙ x) (sym g ∙ y))

pub spells_back : (ns : List RangeNode) → IsSpelled ns → nodes_of (spelled_range ns) ≡ ns
spells_back ns (r, e) = subst (λ m. nodes_of (spelled_range m) ≡ m) e (ap nodes_of (spelled_range-nodes r))

eq_zero : (n : ℕ) → nat_eq n 0 ≡ true → n ≡ 0
eq_zero n h = grind arith

zero_eq : (n : ℕ) → n ≡ 0 → nat_eq n 0 ≡ true
zero_eq n h = grind arith

pub ends_one : (ns : List RangeNode) (i : ℕ) (ranges terms : ℕ) → length ns ≤ i → IsReached (built ns [] []) (drop i ns) ranges terms → ranges ≡ 1 → IsTrue (nat_eq terms 0) ↔ IsSpelled ns
ends_one ns i ranges terms l h e = ends_all ns i ranges terms (nat_eq terms 0) l h (λ k. (e, eq_zero terms k)) (λ x y. zero_eq terms y)

not_one : (n : ℕ) → (n ≡ 1 → ⊥) → nat_eq n 1 ≡ true → ⊥
not_one n f h = f (grind arith)

pub ends_other : (ns : List RangeNode) (i : ℕ) (ranges terms : ℕ) → length ns ≤ i → IsReached (built ns [] []) (drop i ns) ranges terms → (ranges ≡ 1 → ⊥) → IsTrue (nat_eq ranges 1) ↔ IsSpelled ns
ends_other ns i ranges terms l h f = ends_all ns i ranges terms (nat_eq ranges 1) l h (λ k. absurd (not_one ranges f k)) (λ x y. absurd (f x))

pub spells_same : (ms ns : List RangeNode) → ms ≡ ns → IsSpelled ms → nodes_of (spelled_range ns) ≡ ns
spells_same ms ns e s = subst (λ m. nodes_of (spelled_range m) ≡ m) e (spells_back ms s)
