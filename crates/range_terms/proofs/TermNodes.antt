-- Nodes, places and offenders, put one behind the other.
use Rattle.std.proofs.Common.{◌≡◌, ℕ, List, [], ◌∷◌, ◌++◌, refl, sym, ap, ◌∙◌}
use Rattle.std.proofs.lemmas.List.{append-nil, append_assoc}
use Rattle.fd_language.specs.declared.range_node.RangeNode.{RangeNode}
use Rattle.fd_language.specs.Range.{Range, Expr}
use Rattle.fd_language.specs.PostfixRanges.{expr_nodes, range_nodes, nodes_of}
use Rattle.fd_language.proofs.Lemmas.{expr_append, range_append}
use Rattle.range_terms.specs.TermNodes.{Wanted, nothing, one_node, joined}

-- a node behind those of two terms, of two ranges, of a range and a term
pub two_exprs : (a b : Expr) (n : RangeNode) → expr_nodes a (expr_nodes b (n ∷ [])) ≡ (expr_nodes a [] ++ expr_nodes b []) ++ n ∷ []
two_exprs a b n = expr_append a [] (expr_nodes b (n ∷ [])) ∙ ap (λ (k : List RangeNode). expr_nodes a [] ++ k) (expr_append b [] (n ∷ []))
    ∙ sym (append_assoc (expr_nodes a []) (expr_nodes b []) (n ∷ []))

pub two_ranges : (r q : Range) (n : RangeNode) → range_nodes r (range_nodes q (n ∷ [])) ≡ (nodes_of r ++ nodes_of q) ++ n ∷ []
two_ranges r q n = range_append r [] (range_nodes q (n ∷ [])) ∙ ap (λ (k : List RangeNode). nodes_of r ++ k) (range_append q [] (n ∷ [])) ∙ sym (append_assoc (nodes_of r) (nodes_of q) (n ∷ []))

pub range_and_expr : (r : Range) (c : Expr) (n : RangeNode) → range_nodes r (expr_nodes c (n ∷ [])) ≡ (nodes_of r ++ expr_nodes c []) ++ n ∷ []
range_and_expr r c n = range_append r [] (expr_nodes c (n ∷ [])) ∙ ap (λ (k : List RangeNode). nodes_of r ++ k) (expr_append c [] (n ∷ [])) ∙ sym (append_assoc (nodes_of r) (expr_nodes c []) (n ∷ []))

abbrev of_lists : List RangeNode → List ℕ → List ℕ → Wanted
of_lists ns ps os = record { nodes = ns; places = ps; offenders = os }

same_wanted : (u v : Wanted) → u.nodes ≡ v.nodes → u.places ≡ v.places → u.offenders ≡ v.offenders → u ≡ v
same_wanted u v a b c =
    ap (λ (k : List RangeNode). of_lists k u.places u.offenders) a ∙ ap (λ (k : List ℕ). of_lists v.nodes k u.offenders) b ∙ ap (λ (k : List ℕ). of_lists v.nodes v.places k) c

-- an operator's node behind its one operand, or its two
pub behind_one : (u : Wanted) (ns : List RangeNode) (n : RangeNode) (p : ℕ) → ns ≡ u.nodes ++ n ∷ [] → of_lists ns (u.places ++ p ∷ []) u.offenders ≡ joined u (one_node n p)
behind_one u ns n p e = same_wanted (of_lists ns (u.places ++ p ∷ []) u.offenders) (joined u (one_node n p)) e refl (sym (append-nil u.offenders))

pub behind_two : (u v : Wanted) (ns : List RangeNode) (n : RangeNode) (p : ℕ) → ns ≡ (u.nodes ++ v.nodes) ++ n ∷ []
    → of_lists ns (u.places ++ (v.places ++ p ∷ [])) (u.offenders ++ v.offenders) ≡ joined (joined u v) (one_node n p)
behind_two u v ns n p e =
    same_wanted (of_lists ns (u.places ++ (v.places ++ p ∷ [])) (u.offenders ++ v.offenders)) (joined (joined u v) (one_node n p)) e
    (sym (append_assoc u.places v.places (p ∷ []))) (sym (append-nil (u.offenders ++ v.offenders)))

pub joined-nil : (u : Wanted) → joined u nothing ≡ u
joined-nil u = same_wanted (joined u nothing) u (append-nil u.nodes) (append-nil u.places) (append-nil u.offenders)

pub joined_assoc : (u v w : Wanted) → joined (joined u v) w ≡ joined u (joined v w)
joined_assoc u v w = same_wanted (joined (joined u v) w) (joined u (joined v w)) (append_assoc u.nodes v.nodes w.nodes)
    (append_assoc u.places v.places w.places) (append_assoc u.offenders v.offenders w.offenders)
