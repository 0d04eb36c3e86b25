-- Ranges without parameters and pointwise forms, by their nodes.
use Rattle.std.proofs.Common.{◌≡◌, ℕ, Bool, true, false, not, ◌&&◌, ◌||◌, List, [], ◌∷◌, ◌++◌, None, is_none, refl, sym, ap, ◌∙◌, subst, true≢false}
use Rattle.std.specs.List.{list_any}
use Rattle.fd_language.specs.declared.TheConstants.{INFINITY}
use Rattle.fd_language.specs.declared.range_node.RangeNode.{RangeNode}
use Rattle.fd_language.specs.declared.range_node.RangeNode.TheVariants as node
use Rattle.fd_language.specs.PostfixRanges.{expr_nodes, range_nodes, nodes_of}
use Rattle.fd_language.specs.PlacedTerm.{PlacedTerm}
use Rattle.fd_language.specs.Range.{Range, Span, One, Dom, Union, Inter, Outside, Plus, Minus, Times, Over, Expr, Number, Infinity, Param, Min, Max, Val, Add}
use Rattle.fd_language.specs.Range.{Sub, Mul, DivDown, DivUp, expr_params, params, is_none_left}
use Rattle.fd_language.specs.RangeVerdict.{verdict}
use Rattle.fd_language.specs.Spelling.{read_range, not_a_range}
use Rattle.fd_model.specs.Refusals.{range_refusal, or_later, unspelled, offence_refusal}
use Rattle.answer_check.specs.FlatForm.{is_plain, is_flat_range}
use Rattle.answer_check.specs.Goals.{is_left_out}
use Rattle.std.proofs.Math.Bool.{or_assoc}

abbrev any : List RangeNode → Bool
any ns = list_any is_left_out ns

none_append : (xs ys : List ℕ) → not (is_none_left (xs ++ ys)) ≡ (not (is_none_left xs) || not (is_none_left ys))
none_append [] ys = refl
none_append (x ∷ xs) ys = refl

joined : (d e : Expr) (rest : List RangeNode) → (not (is_none_left (expr_params d)) || (not (is_none_left (expr_params e)) || any rest))
    ≡ (not (is_none_left (expr_params d ++ expr_params e)) || any rest)
joined d e rest = sym (or_assoc (not (is_none_left (expr_params d))) (not (is_none_left (expr_params e))) (any rest)) ∙ ap (λ x. x || any rest) (sym (none_append (expr_params d) (expr_params e)))

any_expr : (e : Expr) (rest : List RangeNode) → any (expr_nodes e rest) ≡ (not (is_none_left (expr_params e)) || any rest)
any_expr (Number z) rest = refl
any_expr Infinity rest = refl
any_expr (Param x) rest = refl
any_expr (Min y) rest = refl
any_expr (Max y) rest = refl
any_expr (Val y) rest = refl
any_expr (Add d e) rest = any_expr d (expr_nodes e (node.Add ∷ rest)) ∙ ap (λ x. not (is_none_left (expr_params d)) || x) (any_expr e (node.Add ∷ rest)) ∙ joined d e rest
any_expr (Sub d e) rest = any_expr d (expr_nodes e (node.Sub ∷ rest)) ∙ ap (λ x. not (is_none_left (expr_params d)) || x) (any_expr e (node.Sub ∷ rest)) ∙ joined d e rest
any_expr (Mul d e) rest = any_expr d (expr_nodes e (node.Mul ∷ rest)) ∙ ap (λ x. not (is_none_left (expr_params d)) || x) (any_expr e (node.Mul ∷ rest)) ∙ joined d e rest
any_expr (DivDown d e) rest = any_expr d (expr_nodes e (node.DivDown ∷ rest)) ∙ ap (λ x. not (is_none_left (expr_params d)) || x) (any_expr e (node.DivDown ∷ rest)) ∙ joined d e rest
any_expr (DivUp d e) rest = any_expr d (expr_nodes e (node.DivUp ∷ rest)) ∙ ap (λ x. not (is_none_left (expr_params d)) || x) (any_expr e (node.DivUp ∷ rest)) ∙ joined d e rest

abbrev loose : Range → Bool
loose r = not (is_none_left (params r) && is_plain r)

by_both : (a b c d l : Bool) → (not (a && c) || (not (b && d) || l)) ≡ (not ((a && b) && (c && d)) || l)
by_both true true true d l = refl
by_both true true false d l = refl
by_both true false true d l = refl
by_both true false false d l = refl
by_both false b c d l = refl

none_both : (xs ys : List ℕ) → is_none_left (xs ++ ys) ≡ (is_none_left xs && is_none_left ys)
none_both [] ys = refl
none_both (x ∷ xs) ys = refl

plain_expr : (b : Bool) → not (b && true) ≡ not b
plain_expr true = refl
plain_expr false = refl

out_always : (a b l : Bool) → (a || (b || true)) ≡ (true || l)
out_always true b l = refl
out_always false true l = refl
out_always false false l = refl

out_plain : (b l : Bool) → (true || l) ≡ (not (b && false) || l)
out_plain true l = refl
out_plain false l = refl

two_ranges : (r q : Range) (l : Bool) → (loose r || (loose q || l)) ≡ (not (is_none_left (params r ++ params q) && (is_plain r && is_plain q)) || l)
two_ranges r q l = by_both (is_none_left (params r)) (is_none_left (params q)) (is_plain r) (is_plain q) l
    ∙ ap (λ x. not (x && (is_plain r && is_plain q)) || l) (sym (none_both (params r) (params q)))

any_range : (r : Range) (rest : List RangeNode) → any (range_nodes r rest) ≡ (loose r || any rest)
any_range (Span d e) rest =
    any_expr d (expr_nodes e (node.Span ∷ rest)) ∙ ap (λ x. not (is_none_left (expr_params d)) || x) (any_expr e (node.Span ∷ rest)) ∙ joined d e rest
    ∙ ap (λ x. x || any rest) (sym (plain_expr (is_none_left (expr_params d ++ expr_params e))))
any_range (One t) rest = any_expr t (node.One ∷ rest) ∙ ap (λ x. x || any rest) (sym (plain_expr (is_none_left (expr_params t))))
any_range (Dom y) rest = refl
any_range (Union r q) rest = any_range r (range_nodes q (node.Union ∷ rest)) ∙ ap (λ x. loose r || x) (any_range q (node.Union ∷ rest)) ∙ two_ranges r q (any rest)
any_range (Inter r q) rest = any_range r (range_nodes q (node.Inter ∷ rest)) ∙ ap (λ x. loose r || x) (any_range q (node.Inter ∷ rest)) ∙ two_ranges r q (any rest)
any_range (Outside r) rest = any_range r (node.Outside ∷ rest)
any_range (Plus r c) rest = any_range r (expr_nodes c (node.Plus ∷ rest)) ∙ ap (λ x. loose r || x) (any_expr c (node.Plus ∷ rest))
    ∙ out_always (loose r) (not (is_none_left (expr_params c))) (any rest) ∙ out_plain (is_none_left (params (Plus r c))) (any rest)
any_range (Minus r c) rest = any_range r (expr_nodes c (node.Minus ∷ rest)) ∙ ap (λ x. loose r || x) (any_expr c (node.Minus ∷ rest))
    ∙ out_always (loose r) (not (is_none_left (expr_params c))) (any rest) ∙ out_plain (is_none_left (params (Minus r c))) (any rest)
any_range (Times r c) rest = any_range r (expr_nodes c (node.Times ∷ rest)) ∙ ap (λ x. loose r || x) (any_expr c (node.Times ∷ rest))
    ∙ out_always (loose r) (not (is_none_left (expr_params c))) (any rest) ∙ out_plain (is_none_left (params (Times r c))) (any rest)
any_range (Over r c) rest = any_range r (expr_nodes c (node.Over ∷ rest)) ∙ ap (λ x. loose r || x) (any_expr c (node.Over ∷ rest))
    ∙ out_always (loose r) (not (is_none_left (expr_params c))) (any rest) ∙ out_plain (is_none_left (params (Over r c))) (any rest)

or_none : (b : Bool) → (b || false) ≡ b
or_none true = refl
or_none false = refl

open_is : (r : Range) (b : Bool) → any (nodes_of r) ≡ b → loose r ≡ b
open_is r b h = sym (or_none (loose r)) ∙ sym (any_range r []) ∙ h

and_none : (b : Bool) → (b && false) ≡ false
and_none true = refl
and_none false = refl

not_not : (b : Bool) → not b ≡ true → b ≡ false
not_not true h = absurd (true≢false (sym h))
not_not false h = refl

not_false : (b : Bool) → not b ≡ false → b ≡ true
not_false true h = refl
not_false false h = absurd (true≢false h)

pub flat_not : (x : PlacedTerm) (r : Range) → r ≡ (read_range INFINITY x).tree → list_any is_left_out (nodes_of r) ≡ true → is_flat_range INFINITY x (read_range INFINITY x).tree ≡ false
flat_not x r e h = subst (λ q. is_flat_range INFINITY x q ≡ false) e
    (ap (λ b. is_none (range_refusal INFINITY INFINITY x) && b) (not_not (is_none_left (params r) && is_plain r) (open_is r true h))
    ∙ and_none (is_none (range_refusal INFINITY INFINITY x)))

pub flat_yes : (x : PlacedTerm) (r : Range) (places : List ℕ) → not_a_range INFINITY x ≡ None → r ≡ (read_range INFINITY x).tree
    → places ≡ (read_range INFINITY x).places → list_any is_left_out (nodes_of r) ≡ false → verdict INFINITY places r ≡ None
    → is_flat_range INFINITY x (read_range INFINITY x).tree ≡ true
flat_yes x r places none e f h v =
    let accepted : verdict INFINITY (read_range INFINITY x).places (read_range INFINITY x).tree ≡ None = ap
    (λ q. verdict INFINITY (read_range INFINITY x).places q) (sym e) ∙ ap (λ ps. verdict INFINITY ps r) (sym f) ∙ v in
    let refusal : is_none (range_refusal INFINITY INFINITY x) ≡ true = ap
    (λ o. is_none (or_later (unspelled o) (offence_refusal (verdict INFINITY (read_range INFINITY x).places (read_range INFINITY x).tree)))) none
    ∙ ap (λ o. is_none (offence_refusal o)) accepted in
    subst (λ q. is_flat_range INFINITY x q ≡ true) e (ap (λ b. b && (is_none_left (params r) && is_plain r)) refusal ∙ not_false (is_none_left (params r) && is_plain r) (open_is r false h))
