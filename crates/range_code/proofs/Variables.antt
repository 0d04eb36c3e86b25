-- The variables of a range's nodes are those that occur in it.
use Rattle.std.proofs.Common.{◌≡◌, ℕ, List, [], ◌∷◌, ◌++◌, map, refl, sym, ◌∙◌, ap, Option, Some, None}
use Rattle.std.specs.Prelude.{option_map}
use Rattle.std.specs.Option.{option_to_list}
use Rattle.std.proofs.lemmas.List.Concat.{flat_map-append}
use Rattle.std.proofs.lemmas.List.{append-nil}
use Rattle.fd_language.specs.declared.range_node.RangeNode.{RangeNode}
use Rattle.fd_language.specs.declared.range_node.RangeNode.TheVariants as node
use Rattle.fd_language.specs.Range.{Range, Span, One, Dom, Union, Inter, Outside, Plus, Minus, Times, Over, Expr, Number, Infinity, Param, Min, Max, Val, Add}
use Rattle.fd_language.specs.Range.{Sub, Mul, DivDown, DivUp, Leaf, leaf_of, from_leaf, from_node}
use Rattle.fd_language.specs.Occurrences.{range_occurrences}
use Rattle.fd_language.specs.PostfixRanges.{expr_nodes, range_nodes, nodes_of}
use Rattle.fd_language.specs.RangeRenaming.{rename_expr, rename_range}
use Rattle.fd_language.proofs.Lemmas.{whole_nodes, variables_collected}
use Rattle.range_code.specs.Nodes.{node_variable, node_variables, rename_node}

pub node_variables_of : (r : Range) → node_variables (nodes_of r) ≡ map (λ q. q.variable) (range_occurrences r)
node_variables_of r = whole_nodes (λ l. l.variable ∷ []) r ∙ sym (variables_collected r)

-- the variables of one more node
pub one_more : (ms : List RangeNode) (m : RangeNode) → node_variables (ms ++ m ∷ []) ≡ node_variables ms ++ option_to_list (node_variable m)
one_more ms m = flat_map-append (from_node (λ l. l.variable ∷ [])) ms (m ∷ []) ∙ ap (λ l. node_variables ms ++ l) (append-nil (from_node (λ l. l.variable ∷ []) m) ∙ alone (leaf_of m)) where
  alone : (o : Option Leaf) → from_leaf (λ l. l.variable ∷ []) o ≡ option_to_list (option_map (λ l. l.variable) o)
  alone None = refl
  alone (Some l) = refl

expr_names : (f : ℕ → ℕ) (e : Expr) (rest : List RangeNode) → map (rename_node f) (expr_nodes e rest) ≡ expr_nodes (rename_expr f e) (map (rename_node f) rest)
expr_names f (Number z) rest = refl
expr_names f Infinity rest = refl
expr_names f (Param x) rest = refl
expr_names f (Min y) rest = refl
expr_names f (Max y) rest = refl
expr_names f (Val y) rest = refl
expr_names f (Add a b) rest = expr_names f a (expr_nodes b (node.Add ∷ rest)) ∙ ap (expr_nodes (rename_expr f a)) (expr_names f b (node.Add ∷ rest))
expr_names f (Sub a b) rest = expr_names f a (expr_nodes b (node.Sub ∷ rest)) ∙ ap (expr_nodes (rename_expr f a)) (expr_names f b (node.Sub ∷ rest))
expr_names f (Mul a b) rest = expr_names f a (expr_nodes b (node.Mul ∷ rest)) ∙ ap (expr_nodes (rename_expr f a)) (expr_names f b (node.Mul ∷ rest))
expr_names f (DivDown a b) rest = expr_names f a (expr_nodes b (node.DivDown ∷ rest)) ∙ ap (expr_nodes (rename_expr f a)) (expr_names f b (node.DivDown ∷ rest))
expr_names f (DivUp a b) rest = expr_names f a (expr_nodes b (node.DivUp ∷ rest)) ∙ ap (expr_nodes (rename_expr f a)) (expr_names f b (node.DivUp ∷ rest))

range_names : (f : ℕ → ℕ) (r : Range) (rest : List RangeNode) → map (rename_node f) (range_nodes r rest) ≡ range_nodes (rename_range f r) (map (rename_node f) rest)
range_names f (Span a b) rest = expr_names f a (expr_nodes b (node.Span ∷ rest)) ∙ ap (expr_nodes (rename_expr f a)) (expr_names f b (node.Span ∷ rest))
range_names f (Union r q) rest = range_names f r (range_nodes q (node.Union ∷ rest)) ∙ ap (range_nodes (rename_range f r)) (range_names f q (node.Union ∷ rest))
range_names f (Inter r q) rest = range_names f r (range_nodes q (node.Inter ∷ rest)) ∙ ap (range_nodes (rename_range f r)) (range_names f q (node.Inter ∷ rest))
range_names f (Plus r c) rest = range_names f r (expr_nodes c (node.Plus ∷ rest)) ∙ ap (range_nodes (rename_range f r)) (expr_names f c (node.Plus ∷ rest))
range_names f (Minus r c) rest = range_names f r (expr_nodes c (node.Minus ∷ rest)) ∙ ap (range_nodes (rename_range f r)) (expr_names f c (node.Minus ∷ rest))
range_names f (Times r c) rest = range_names f r (expr_nodes c (node.Times ∷ rest)) ∙ ap (range_nodes (rename_range f r)) (expr_names f c (node.Times ∷ rest))
range_names f (Over r c) rest = range_names f r (expr_nodes c (node.Over ∷ rest)) ∙ ap (range_nodes (rename_range f r)) (expr_names f c (node.Over ∷ rest))
range_names f (One t) rest = expr_names f t (node.One ∷ rest)
range_names f (Dom y) rest = refl
range_names f (Outside r) rest = range_names f r (node.Outside ∷ rest)

pub renamed_nodes : (f : ℕ → ℕ) (r : Range) → map (rename_node f) (nodes_of r) ≡ nodes_of (rename_range f r)
renamed_nodes f r = range_names f r []
