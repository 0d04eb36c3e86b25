-- Folding changes no value, and the walk over nodes gives the folded range.
use Rattle.std.proofs.Common.{◌≡◌, ℕ, ℤ, pos, Bool, true, false, cond, ◌&&◌, List, [], ◌∷◌, ◌++◌, map, filter, fold, reverse, ◌≤ℤ◌, Option, Some, None, refl}
use Rattle.std.proofs.Common.{sym, ◌∙◌, ap, subst, inl, inr, arith}
use mir.Syntax.{w128}
use Rattle.std.specs.List.{All}
use Rattle.std.specs.Int.{int_wrap}
use Rattle.std.proofs.lemmas.Int.{int_wrap_fits, fits_signed_from_abs}
use Rattle.std.proofs.lemmas.List.{append-nil, append_assoc, reverse-append, reverse-reverse}
use Rattle.std.proofs.lemmas.Bool.{cases_Bool, true≢false}
use Rattle.std.proofs.lemmas.List.Elements.{All-head, All-tail, All-cons}
use Rattle.std.specs.Cmp.{second_so, first_so}
use Rattle.fd_language.specs.declared.TheConstants.{INFINITY}
use Rattle.fd_language.specs.declared.range_node.RangeNode.{RangeNode}
use Rattle.fd_language.specs.declared.range_node.RangeNode.TheVariants as node
use Rattle.fd_language.specs.Family.{Family, has}
use Rattle.fd_language.specs.Range.{Range, Span, One, Dom, Union, Inter, Outside, Plus, Minus, Times, Over, Expr, Number, Infinity, Param, Min, Max, Val, Add}
use Rattle.fd_language.specs.Range.{Sub, Mul, DivDown, DivUp, in_range}
use Rattle.fd_language.specs.Needs.{is_literal}
use Rattle.fd_language.specs.Check.{fill_range, literal_value}
use Rattle.fd_language.specs.PostfixRanges.{nodes_of, expr_nodes, range_nodes}
use Rattle.fd_language.proofs.Lemmas.{two, literal_is, expr_append, range_append}
use Rattle.range_code.specs.declared.frame.Arg.{Arg}
use Rattle.range_code.specs.declared.fold.Piece.{Piece}
use Rattle.range_code.specs.declared.fold.Piece.TheVariants.{Literal, Other}
use Rattle.range_code.specs.FoldedRanges.{or_value, folded, folded_range}
use Rattle.range_code.specs.Pieces.{piece_node, piece_of, combined, joined, taken, literals, top_literal, under_literal, FitsAlone}
use Rattle.range_code.specs.Instructions.{integers}
use Rattle.range_code.specs.Nodes.{IsReadable}
use Rattle.range_code.specs.Steps.{either, outside, moved}
use Rattle.domain_ranges.specs.Narrowing.{between}
use Rattle.range_code.specs.Work.{IsLimited, operated, filled_value, filled_set, Fits, RangeFits}
use Rattle.range_code.specs.declared.form.Evaluation.{Evaluation}
use Rattle.range_code.specs.declared.form.Shift.{Shift}
use Rattle.range_code.specs.declared.form.Evaluation.TheVariants.{Nodes, Differs, Above, Below, Between, Row, Without, Except, Chosen, Counter, Counted, Products, Quotients, Disjunction}
use Rattle.range_code.specs.declared.form.Bound.{Bound}
use Rattle.range_code.specs.Forms.{IsShiftUsable, IsUsable, IsInterval, IsEvaluation}
use Rattle.range_code.specs.SpelledRanges.{counter_range, counted_range, products_range, quotients_range, disjunction_range, MeansSame}
use Rattle.range_code.proofs.Tables.{one_is, union_is, inter_is, outside_is, plus_is, minus_is, times_is, over_is}

-- the last piece of a list is the first one of the list turned round
pub last_first : (old front : List Piece) (p : Piece) → old ≡ front ++ p ∷ [] → reverse old ≡ p ∷ reverse front
last_first old front p e = ap reverse e ∙ reverse-append front (p ∷ [])

-- a term that is a literal, or none
pub folds_to : (P : Expr → Type 0) (e other : Expr) → (is_literal e ≡ true → P (Number (literal_value INFINITY e))) → (is_literal e ≡ false → P other) → P (or_value e other)
folds_to P e other h g = elim (cases_Bool (is_literal e)) [
  | inl i ↦ subst (λ b. P (cond b (Number (literal_value INFINITY e)) other)) (sym i) (h i)
  | inr i ↦ subst (λ b. P (cond b (Number (literal_value INFINITY e)) other)) (sym i) (g i)
]

module _ (S : Family) (p : ℕ → ℤ) where
  literal_filled : (e : Expr) → is_literal e ≡ true → literal_value INFINITY e ≡ filled_value S p e
  literal_filled e h = sym (literal_is INFINITY p S e h)

  abbrev Same : Expr → Expr → Type 0
  Same e f = filled_value S p f ≡ filled_value S p e

  pub value_folded : (e : Expr) → filled_value S p (folded e) ≡ filled_value S p e
  value_folded (Number z) = refl
  value_folded Infinity = refl
  value_folded (Param x) = refl
  value_folded (Min y) = refl
  value_folded (Max y) = refl
  value_folded (Val y) = refl
  value_folded (Add a b) = folds_to (Same (Add a b)) (Add a b) (Add (folded a) (folded b)) (literal_filled (Add a b)) (λ i. two (λ x y. operated node.Add x y) (value_folded a) (value_folded b))
  value_folded (Sub a b) = folds_to (Same (Sub a b)) (Sub a b) (Sub (folded a) (folded b)) (literal_filled (Sub a b)) (λ i. two (λ x y. operated node.Sub x y) (value_folded a) (value_folded b))
  value_folded (Mul a b) = folds_to (Same (Mul a b)) (Mul a b) (Mul (folded a) (folded b)) (literal_filled (Mul a b)) (λ i. two (λ x y. operated node.Mul x y) (value_folded a) (value_folded b))
  value_folded (DivDown a b) = two (λ x y. operated node.DivDown x y) (value_folded a) (value_folded b)
  value_folded (DivUp a b) = two (λ x y. operated node.DivUp x y) (value_folded a) (value_folded b)

  pub set_folded : (r : Range) → filled_set S p (folded_range r) ≡ filled_set S p r
  set_folded (Span a b) = two between (value_folded a) (value_folded b)
  set_folded (One t) = sym (one_is INFINITY (filled_value S p (folded t))) ∙ (ap (λ z. between z z) (value_folded t) ∙ one_is INFINITY (filled_value S p t))
  set_folded (Dom y) = refl
  set_folded (Union r q) =
      sym (union_is INFINITY (in_range INFINITY S (fill_range p (folded_range r))) (in_range INFINITY S (fill_range p (folded_range q))))
      ∙ (two either (set_folded r) (set_folded q) ∙ union_is INFINITY (in_range INFINITY S (fill_range p r)) (in_range INFINITY S (fill_range p q)))
  set_folded (Inter r q) =
      sym (inter_is INFINITY (in_range INFINITY S (fill_range p (folded_range r))) (in_range INFINITY S (fill_range p (folded_range q))))
      ∙ (two (λ x y. filter (has y) x) (set_folded r) (set_folded q) ∙ inter_is INFINITY (in_range INFINITY S (fill_range p r)) (in_range INFINITY S (fill_range p q)))
  set_folded (Outside r) =
      sym (outside_is INFINITY (in_range INFINITY S (fill_range p (folded_range r)))) ∙ (ap outside (set_folded r) ∙ outside_is INFINITY (in_range INFINITY S (fill_range p r)))
  set_folded (Plus r c) =
      sym (plus_is INFINITY (in_range INFINITY S (fill_range p (folded_range r))) (filled_value S p (folded c)))
      ∙ (two (moved node.Plus) (set_folded r) (value_folded c) ∙ plus_is INFINITY (in_range INFINITY S (fill_range p r)) (filled_value S p c))
  set_folded (Minus r c) =
      sym (minus_is INFINITY (in_range INFINITY S (fill_range p (folded_range r))) (filled_value S p (folded c)))
      ∙ (two (moved node.Minus) (set_folded r) (value_folded c) ∙ minus_is INFINITY (in_range INFINITY S (fill_range p r)) (filled_value S p c))
  set_folded (Times r c) =
      sym (times_is INFINITY (in_range INFINITY S (fill_range p (folded_range r))) (filled_value S p (folded c)))
      ∙ (two (moved node.Times) (set_folded r) (value_folded c) ∙ times_is INFINITY (in_range INFINITY S (fill_range p r)) (filled_value S p c))
  set_folded (Over r c) =
      sym (over_is INFINITY (in_range INFINITY S (fill_range p (folded_range r))) (filled_value S p (folded c)))
      ∙ (two (moved node.Over) (set_folded r) (value_folded c) ∙ over_is INFINITY (in_range INFINITY S (fill_range p r)) (filled_value S p c))

  pub fits_folded : (e : Expr) → Fits S p e → Fits S p (folded e)
  fits_folded (Number z) h = tt
  fits_folded Infinity h = tt
  fits_folded (Param x) h = tt
  fits_folded (Min y) h = tt
  fits_folded (Max y) h = tt
  fits_folded (Val y) h = tt
  fits_folded (Add a b) h = folds_to (Fits S p) (Add a b) (Add (folded a) (folded b)) (λ i. tt)
      (λ i. (fits_folded a h.0, fits_folded b h.1, subst IsLimited (sym (two (λ x y. operated node.Add x y) (value_folded a) (value_folded b))) h.2))
  fits_folded (Sub a b) h = folds_to (Fits S p) (Sub a b) (Sub (folded a) (folded b)) (λ i. tt)
      (λ i. (fits_folded a h.0, fits_folded b h.1, subst IsLimited (sym (two (λ x y. operated node.Sub x y) (value_folded a) (value_folded b))) h.2))
  fits_folded (Mul a b) h = folds_to (Fits S p) (Mul a b) (Mul (folded a) (folded b)) (λ i. tt)
      (λ i. (fits_folded a h.0, fits_folded b h.1, subst IsLimited (sym (two (λ x y. operated node.Mul x y) (value_folded a) (value_folded b))) h.2))
  fits_folded (DivDown a b) h = (fits_folded a h.0, fits_folded b h.1, (subst IsLimited (sym (value_folded a)) h.2.0, subst (λ z. pos 0 ≤ℤ z) (sym (value_folded b)) h.2.1))
  fits_folded (DivUp a b) h = (fits_folded a h.0, fits_folded b h.1, (subst IsLimited (sym (value_folded a)) h.2.0, subst (λ z. pos 0 ≤ℤ z) (sym (value_folded b)) h.2.1))

  pub range_fits_folded : (r : Range) → RangeFits S p r → RangeFits S p (folded_range r)
  range_fits_folded (Span a b) h = (fits_folded a h.0, fits_folded b h.1)
  range_fits_folded (One t) h = fits_folded t h
  range_fits_folded (Dom y) h = tt
  range_fits_folded (Union r q) h = (range_fits_folded r h.0, range_fits_folded q h.1)
  range_fits_folded (Inter r q) h = (range_fits_folded r h.0, range_fits_folded q h.1)
  range_fits_folded (Outside r) h = range_fits_folded r h
  range_fits_folded (Plus r c) h = (range_fits_folded r h.0, fits_folded c h.1, subst IsLimited (sym (value_folded c)) h.2)
  range_fits_folded (Minus r c) h = (range_fits_folded r h.0, fits_folded c h.1, subst IsLimited (sym (value_folded c)) h.2)
  range_fits_folded (Times r c) h = (range_fits_folded r h.0, fits_folded c h.1)
  range_fits_folded (Over r c) h = (range_fits_folded r h.0, fits_folded c h.1, subst (λ z. pos 1 ≤ℤ z) (sym (value_folded c)) h.2)

-- What may be read: the same of a range and of its nodes, and of the folded range.
module _ (count : ℕ) (args : List Arg) where
  abbrev Readable : List RangeNode → Type 0
  Readable ns = All (IsReadable count args) ns

  put : (n : RangeNode) (ns : List RangeNode) → IsReadable count args n → Readable ns → Readable (n ∷ ns)
  put n ns h k = All-cons (IsReadable count args) n ns h k

  behind : (n : RangeNode) (ns : List RangeNode) → Readable (n ∷ ns) → Readable ns
  behind n ns h = All-tail (IsReadable count args) n ns h

  first : (n : RangeNode) (ns : List RangeNode) → Readable (n ∷ ns) → IsReadable count args n
  first n ns h = All-head (IsReadable count args) n ns h

  abbrev TermReads : Expr → Type 0
  TermReads (Number z) = Unit {0}
  TermReads Infinity = Unit {0}
  TermReads (Param x) = IsReadable count args (node.Param x)
  TermReads (Min y) = IsReadable count args (node.Min y)
  TermReads (Max y) = IsReadable count args (node.Max y)
  TermReads (Val y) = IsReadable count args (node.Val y)
  TermReads (Add a b) = TermReads a × TermReads b
  TermReads (Sub a b) = TermReads a × TermReads b
  TermReads (Mul a b) = TermReads a × TermReads b
  TermReads (DivDown a b) = TermReads a × TermReads b
  TermReads (DivUp a b) = TermReads a × TermReads b

  abbrev RangeReads : Range → Type 0
  RangeReads (Span a b) = TermReads a × TermReads b
  RangeReads (One t) = TermReads t
  RangeReads (Dom y) = IsReadable count args (node.Dom y)
  RangeReads (Union r q) = RangeReads r × RangeReads q
  RangeReads (Inter r q) = RangeReads r × RangeReads q
  RangeReads (Outside r) = RangeReads r
  RangeReads (Plus r c) = RangeReads r × TermReads c
  RangeReads (Minus r c) = RangeReads r × TermReads c
  RangeReads (Times r c) = RangeReads r × TermReads c
  RangeReads (Over r c) = RangeReads r × TermReads c

  term_to : (e : Expr) (rest : List RangeNode) → Readable (expr_nodes e rest) → TermReads e × Readable rest
  term_to (Number z) rest h = (tt, behind (node.Int z) rest h)
  term_to Infinity rest h = (tt, behind node.Infinity rest h)
  term_to (Param x) rest h = (first (node.Param x) rest h, behind (node.Param x) rest h)
  term_to (Min y) rest h = (first (node.Min y) rest h, behind (node.Min y) rest h)
  term_to (Max y) rest h = (first (node.Max y) rest h, behind (node.Max y) rest h)
  term_to (Val y) rest h = (first (node.Val y) rest h, behind (node.Val y) rest h)
  term_to (Add a b) rest h = let f = term_to a (expr_nodes b (node.Add ∷ rest)) h in let g = term_to b (node.Add ∷ rest) f.1 in ((f.0, g.0), behind node.Add rest g.1)
  term_to (Sub a b) rest h = let f = term_to a (expr_nodes b (node.Sub ∷ rest)) h in let g = term_to b (node.Sub ∷ rest) f.1 in ((f.0, g.0), behind node.Sub rest g.1)
  term_to (Mul a b) rest h = let f = term_to a (expr_nodes b (node.Mul ∷ rest)) h in let g = term_to b (node.Mul ∷ rest) f.1 in ((f.0, g.0), behind node.Mul rest g.1)
  term_to (DivDown a b) rest h = let f = term_to a (expr_nodes b (node.DivDown ∷ rest)) h in let g = term_to b (node.DivDown ∷ rest) f.1 in ((f.0, g.0), behind node.DivDown rest g.1)
  term_to (DivUp a b) rest h = let f = term_to a (expr_nodes b (node.DivUp ∷ rest)) h in let g = term_to b (node.DivUp ∷ rest) f.1 in ((f.0, g.0), behind node.DivUp rest g.1)

  term_from : (e : Expr) (rest : List RangeNode) → TermReads e → Readable rest → Readable (expr_nodes e rest)
  term_from (Number z) rest h k = put (node.Int z) rest tt k
  term_from Infinity rest h k = put node.Infinity rest tt k
  term_from (Param x) rest h k = put (node.Param x) rest h k
  term_from (Min y) rest h k = put (node.Min y) rest h k
  term_from (Max y) rest h k = put (node.Max y) rest h k
  term_from (Val y) rest h k = put (node.Val y) rest h k
  term_from (Add a b) rest h k = term_from a (expr_nodes b (node.Add ∷ rest)) h.0 (term_from b (node.Add ∷ rest) h.1 (put node.Add rest tt k))
  term_from (Sub a b) rest h k = term_from a (expr_nodes b (node.Sub ∷ rest)) h.0 (term_from b (node.Sub ∷ rest) h.1 (put node.Sub rest tt k))
  term_from (Mul a b) rest h k = term_from a (expr_nodes b (node.Mul ∷ rest)) h.0 (term_from b (node.Mul ∷ rest) h.1 (put node.Mul rest tt k))
  term_from (DivDown a b) rest h k = term_from a (expr_nodes b (node.DivDown ∷ rest)) h.0 (term_from b (node.DivDown ∷ rest) h.1 (put node.DivDown rest tt k))
  term_from (DivUp a b) rest h k = term_from a (expr_nodes b (node.DivUp ∷ rest)) h.0 (term_from b (node.DivUp ∷ rest) h.1 (put node.DivUp rest tt k))

  range_to : (r : Range) (rest : List RangeNode) → Readable (range_nodes r rest) → RangeReads r × Readable rest
  range_to (Span a b) rest h = let f = term_to a (expr_nodes b (node.Span ∷ rest)) h in let g = term_to b (node.Span ∷ rest) f.1 in ((f.0, g.0), behind node.Span rest g.1)
  range_to (One t) rest h = let f = term_to t (node.One ∷ rest) h in (f.0, behind node.One rest f.1)
  range_to (Dom y) rest h = (first (node.Dom y) rest h, behind (node.Dom y) rest h)
  range_to (Union r q) rest h = let f = range_to r (range_nodes q (node.Union ∷ rest)) h in let g = range_to q (node.Union ∷ rest) f.1 in ((f.0, g.0), behind node.Union rest g.1)
  range_to (Inter r q) rest h = let f = range_to r (range_nodes q (node.Inter ∷ rest)) h in let g = range_to q (node.Inter ∷ rest) f.1 in ((f.0, g.0), behind node.Inter rest g.1)
  range_to (Outside r) rest h = let f = range_to r (node.Outside ∷ rest) h in (f.0, behind node.Outside rest f.1)
  range_to (Plus r c) rest h = let f = range_to r (expr_nodes c (node.Plus ∷ rest)) h in let g = term_to c (node.Plus ∷ rest) f.1 in ((f.0, g.0), behind node.Plus rest g.1)
  range_to (Minus r c) rest h = let f = range_to r (expr_nodes c (node.Minus ∷ rest)) h in let g = term_to c (node.Minus ∷ rest) f.1 in ((f.0, g.0), behind node.Minus rest g.1)
  range_to (Times r c) rest h = let f = range_to r (expr_nodes c (node.Times ∷ rest)) h in let g = term_to c (node.Times ∷ rest) f.1 in ((f.0, g.0), behind node.Times rest g.1)
  range_to (Over r c) rest h = let f = range_to r (expr_nodes c (node.Over ∷ rest)) h in let g = term_to c (node.Over ∷ rest) f.1 in ((f.0, g.0), behind node.Over rest g.1)

  range_from : (r : Range) (rest : List RangeNode) → RangeReads r → Readable rest → Readable (range_nodes r rest)
  range_from (Span a b) rest h k = term_from a (expr_nodes b (node.Span ∷ rest)) h.0 (term_from b (node.Span ∷ rest) h.1 (put node.Span rest tt k))
  range_from (One t) rest h k = term_from t (node.One ∷ rest) h (put node.One rest tt k)
  range_from (Dom y) rest h k = put (node.Dom y) rest h k
  range_from (Union r q) rest h k = range_from r (range_nodes q (node.Union ∷ rest)) h.0 (range_from q (node.Union ∷ rest) h.1 (put node.Union rest tt k))
  range_from (Inter r q) rest h k = range_from r (range_nodes q (node.Inter ∷ rest)) h.0 (range_from q (node.Inter ∷ rest) h.1 (put node.Inter rest tt k))
  range_from (Outside r) rest h k = range_from r (node.Outside ∷ rest) h (put node.Outside rest tt k)
  range_from (Plus r c) rest h k = range_from r (expr_nodes c (node.Plus ∷ rest)) h.0 (term_from c (node.Plus ∷ rest) h.1 (put node.Plus rest tt k))
  range_from (Minus r c) rest h k = range_from r (expr_nodes c (node.Minus ∷ rest)) h.0 (term_from c (node.Minus ∷ rest) h.1 (put node.Minus rest tt k))
  range_from (Times r c) rest h k = range_from r (expr_nodes c (node.Times ∷ rest)) h.0 (term_from c (node.Times ∷ rest) h.1 (put node.Times rest tt k))
  range_from (Over r c) rest h k = range_from r (expr_nodes c (node.Over ∷ rest)) h.0 (term_from c (node.Over ∷ rest) h.1 (put node.Over rest tt k))

  literal_reads : (e : Expr) → is_literal e ≡ true → TermReads e
  literal_reads (Number z) i = tt
  literal_reads Infinity i = tt
  literal_reads (Add a b) i = (literal_reads a (first_so (is_literal a) (is_literal b) i), literal_reads b (second_so (is_literal a) (is_literal b) i))
  literal_reads (Sub a b) i = (literal_reads a (first_so (is_literal a) (is_literal b) i), literal_reads b (second_so (is_literal a) (is_literal b) i))
  literal_reads (Mul a b) i = (literal_reads a (first_so (is_literal a) (is_literal b) i), literal_reads b (second_so (is_literal a) (is_literal b) i))
  literal_reads e i = absurd (true≢false (sym i))

  term_folded : (e : Expr) → TermReads e → TermReads (folded e)
  term_folded (Number z) h = tt
  term_folded Infinity h = tt
  term_folded (Param x) h = h
  term_folded (Min y) h = h
  term_folded (Max y) h = h
  term_folded (Val y) h = h
  term_folded (Add a b) h = folds_to TermReads (Add a b) (Add (folded a) (folded b)) (λ i. tt) (λ i. (term_folded a h.0, term_folded b h.1))
  term_folded (Sub a b) h = folds_to TermReads (Sub a b) (Sub (folded a) (folded b)) (λ i. tt) (λ i. (term_folded a h.0, term_folded b h.1))
  term_folded (Mul a b) h = folds_to TermReads (Mul a b) (Mul (folded a) (folded b)) (λ i. tt) (λ i. (term_folded a h.0, term_folded b h.1))
  term_folded (DivDown a b) h = (term_folded a h.0, term_folded b h.1)
  term_folded (DivUp a b) h = (term_folded a h.0, term_folded b h.1)

  term_unfolded : (e : Expr) → TermReads (folded e) → TermReads e
  term_unfolded (Number z) h = tt
  term_unfolded Infinity h = tt
  term_unfolded (Param x) h = h
  term_unfolded (Min y) h = h
  term_unfolded (Max y) h = h
  term_unfolded (Val y) h = h
  term_unfolded (Add a b) h = folds_to (λ f. TermReads f → TermReads (Add a b)) (Add a b) (Add (folded a) (folded b)) (λ i g. literal_reads (Add a b) i)
      (λ i g. (term_unfolded a g.0, term_unfolded b g.1)) h
  term_unfolded (Sub a b) h = folds_to (λ f. TermReads f → TermReads (Sub a b)) (Sub a b) (Sub (folded a) (folded b)) (λ i g. literal_reads (Sub a b) i)
      (λ i g. (term_unfolded a g.0, term_unfolded b g.1)) h
  term_unfolded (Mul a b) h = folds_to (λ f. TermReads f → TermReads (Mul a b)) (Mul a b) (Mul (folded a) (folded b)) (λ i g. literal_reads (Mul a b) i)
      (λ i g. (term_unfolded a g.0, term_unfolded b g.1)) h
  term_unfolded (DivDown a b) h = (term_unfolded a h.0, term_unfolded b h.1)
  term_unfolded (DivUp a b) h = (term_unfolded a h.0, term_unfolded b h.1)

  range_folded : (r : Range) → RangeReads r → RangeReads (folded_range r)
  range_folded (Span a b) h = (term_folded a h.0, term_folded b h.1)
  range_folded (One t) h = term_folded t h
  range_folded (Dom y) h = h
  range_folded (Union r q) h = (range_folded r h.0, range_folded q h.1)
  range_folded (Inter r q) h = (range_folded r h.0, range_folded q h.1)
  range_folded (Outside r) h = range_folded r h
  range_folded (Plus r c) h = (range_folded r h.0, term_folded c h.1)
  range_folded (Minus r c) h = (range_folded r h.0, term_folded c h.1)
  range_folded (Times r c) h = (range_folded r h.0, term_folded c h.1)
  range_folded (Over r c) h = (range_folded r h.0, term_folded c h.1)

  range_unfolded : (r : Range) → RangeReads (folded_range r) → RangeReads r
  range_unfolded (Span a b) h = (term_unfolded a h.0, term_unfolded b h.1)
  range_unfolded (One t) h = term_unfolded t h
  range_unfolded (Dom y) h = h
  range_unfolded (Union r q) h = (range_unfolded r h.0, range_unfolded q h.1)
  range_unfolded (Inter r q) h = (range_unfolded r h.0, range_unfolded q h.1)
  range_unfolded (Outside r) h = range_unfolded r h
  range_unfolded (Plus r c) h = (range_unfolded r h.0, term_unfolded c h.1)
  range_unfolded (Minus r c) h = (range_unfolded r h.0, term_unfolded c h.1)
  range_unfolded (Times r c) h = (range_unfolded r h.0, term_unfolded c h.1)
  range_unfolded (Over r c) h = (range_unfolded r h.0, term_unfolded c h.1)

  pub readable_folded : (r : Range) → Readable (nodes_of r) → Readable (nodes_of (folded_range r))
  readable_folded r h = range_from (folded_range r) [] (range_folded r (range_to r [] h).0) (range_to r [] h).1

  pub readable_unfolded : (r : Range) → Readable (nodes_of (folded_range r)) → Readable (nodes_of r)
  readable_unfolded r h = range_from r [] (range_unfolded r (range_to (folded_range r) [] h).0) (range_to (folded_range r) [] h).1

-- a form of the range is one of the folded range
usable_folded : (r : Range) (b : Bound) → IsUsable r b → IsUsable (folded_range r) b
usable_folded r b u = record { width = u.width; division = u.division; seen = λ count args h. u.seen count args (readable_unfolded count args r h) }

interval_folded : (r : Range) (a b : Bound) → IsInterval r a b → IsInterval (folded_range r) a b
interval_folded r a b h = record { set = λ S p. set_folded S p r ∙ h.set S p; low = usable_folded r a h.low; high = usable_folded r b h.high }

shift_folded : (r : Range) (s : Shift) → IsShiftUsable r s → IsShiftUsable (folded_range r) s
shift_folded r s u = record { width = u.width; seen = λ count args h. u.seen count args (readable_unfolded count args r h) }

same_folded : (r q : Range) → MeansSame r q → MeansSame (folded_range r) q
same_folded r q h = record { set = λ S p. set_folded S p r ∙ h.set S p; readable = λ count args g. h.readable count args (readable_unfolded count args r g) }

pub form_folded : (r : Range) (f : Evaluation) → IsEvaluation r f → IsEvaluation (folded_range r) f
form_folded r Nodes h = tt
form_folded r (Differs slot) h = ap folded_range h
form_folded r (Above s z) h = record { set = λ S p. set_folded S p r ∙ h.set S p; usable = shift_folded r s h.usable }
form_folded r (Below z s) h = record { set = λ S p. set_folded S p r ∙ h.set S p; usable = shift_folded r s h.usable }
form_folded r (Between a b) h = interval_folded r a b h
form_folded r (Row a b) h = (interval_folded r a b h.0, h.1)
form_folded r (Without a b) h = record { set = λ S p. set_folded S p r ∙ h.set S p; low = usable_folded r a h.low; high = usable_folded r b h.high }
form_folded r (Except a) h = record { set = λ S p. set_folded S p r ∙ h.set S p; value = usable_folded r a h.value }
form_folded r (Chosen c) h = record { set = λ S p. set_folded S p r ∙ h.set S p; high = h.high; rising = h.rising; seen = λ count args g. h.seen count args (readable_unfolded count args r g) }
form_folded r (Counter v slot) h = same_folded r (counter_range v slot) h
form_folded r (Counted v slot) h = (same_folded r (counted_range v slot) h.0, h.1)
form_folded r (Products x y) h = same_folded r (products_range x y) h
form_folded r (Quotients x y) h = same_folded r (quotients_range x y) h
form_folded r (Disjunction x y) h = same_folded r (disjunction_range x y) h

-- The walk over the nodes, with the last piece first.
abbrev pub walked : List Piece → List RangeNode → List Piece
walked ps [] = ps
walked ps (n ∷ ns) = walked (piece_of n ∷ ps) ns

walked_append : (ps : List Piece) (ns ms : List RangeNode) → walked ps (ns ++ ms) ≡ walked (walked ps ns) ms
walked_append ps [] ms = refl
walked_append ps (n ∷ ns) ms = walked_append (piece_of n ∷ ps) ns ms

abbrev pieces : Expr → List Piece → List Piece
pieces e ps = walked ps (expr_nodes (folded e) [])

abbrev range_pieces : Range → List Piece → List Piece
range_pieces r ps = walked ps (range_nodes (folded_range r) [])

walked_expr : (e : Expr) (ps : List Piece) (rest : List RangeNode) → walked ps (expr_nodes e rest) ≡ walked (walked ps (expr_nodes e [])) rest
walked_expr e ps rest = ap (walked ps) (expr_append e [] rest) ∙ walked_append ps (expr_nodes e []) rest

walked_range : (r : Range) (ps : List Piece) (rest : List RangeNode) → walked ps (range_nodes r rest) ≡ walked (walked ps (range_nodes r [])) rest
walked_range r ps rest = ap (walked ps) (range_append r [] rest) ∙ walked_append ps (range_nodes r []) rest

two_terms : (a b : Expr) (n : RangeNode) (ps : List Piece) → walked ps (expr_nodes (folded a) (expr_nodes (folded b) (n ∷ []))) ≡ piece_of n ∷ pieces b (pieces a ps)
two_terms a b n ps = walked_expr (folded a) ps (expr_nodes (folded b) (n ∷ [])) ∙ walked_expr (folded b) (pieces a ps) (n ∷ [])

two_ranges : (r q : Range) (n : RangeNode) (ps : List Piece) → walked ps (range_nodes (folded_range r) (range_nodes (folded_range q) (n ∷ []))) ≡ piece_of n ∷ range_pieces q (range_pieces r ps)
two_ranges r q n ps = walked_range (folded_range r) ps (range_nodes (folded_range q) (n ∷ [])) ∙ walked_range (folded_range q) (range_pieces r ps) (n ∷ [])

both_kinds : (r : Range) (c : Expr) (n : RangeNode) (ps : List Piece) → walked ps (range_nodes (folded_range r) (expr_nodes (folded c) (n ∷ []))) ≡ piece_of n ∷ pieces c (range_pieces r ps)
both_kinds r c n ps = walked_range (folded_range r) ps (expr_nodes (folded c) (n ∷ [])) ∙ walked_expr (folded c) (range_pieces r ps) (n ∷ [])

-- a literal is one piece, and the last piece of another term is none
yes_literal : (e other : Expr) → is_literal e ≡ true → or_value e other ≡ Number (literal_value INFINITY e)
yes_literal e other i = ap (λ b. cond b (Number (literal_value INFINITY e)) other) i

no_literal : (e other : Expr) → is_literal e ≡ false → or_value e other ≡ other
no_literal e other i = ap (λ b. cond b (Number (literal_value INFINITY e)) other) i

literal_folded : (e : Expr) → is_literal e ≡ true → folded e ≡ Number (literal_value INFINITY e)
literal_folded (Number z) i = refl
literal_folded Infinity i = refl
literal_folded (Add a b) i = yes_literal (Add a b) (Add (folded a) (folded b)) i
literal_folded (Sub a b) i = yes_literal (Sub a b) (Sub (folded a) (folded b)) i
literal_folded (Mul a b) i = yes_literal (Mul a b) (Mul (folded a) (folded b)) i
literal_folded e i = absurd (true≢false (sym i))

one_piece : (e : Expr) (ps : List Piece) → is_literal e ≡ true → pieces e ps ≡ Literal (literal_value INFINITY e) ∷ ps
one_piece e ps i = ap (λ f. walked ps (expr_nodes f [])) (literal_folded e i)

record EndsOther (ps : List Piece) : Type 0 where
  node : RangeNode
  rest : List Piece
  same : ps ≡ Other node ∷ rest

other_last : (e : Expr) (ps : List Piece) → is_literal e ≡ false → EndsOther (pieces e ps)
other_last (Number z) ps i = absurd (true≢false i)
other_last Infinity ps i = absurd (true≢false i)
other_last (Param x) ps i = record { node = node.Param x; rest = ps; same = refl }
other_last (Min y) ps i = record { node = node.Min y; rest = ps; same = refl }
other_last (Max y) ps i = record { node = node.Max y; rest = ps; same = refl }
other_last (Val y) ps i = record { node = node.Val y; rest = ps; same = refl }
other_last (Add a b) ps i = record {
  node = node.Add;
  rest = pieces b (pieces a ps);
  same = ap (λ f. walked ps (expr_nodes f [])) (no_literal (Add a b) (Add (folded a) (folded b)) i) ∙ two_terms a b node.Add ps;
}
other_last (Sub a b) ps i = record {
  node = node.Sub;
  rest = pieces b (pieces a ps);
  same = ap (λ f. walked ps (expr_nodes f [])) (no_literal (Sub a b) (Sub (folded a) (folded b)) i) ∙ two_terms a b node.Sub ps;
}
other_last (Mul a b) ps i = record {
  node = node.Mul;
  rest = pieces b (pieces a ps);
  same = ap (λ f. walked ps (expr_nodes f [])) (no_literal (Mul a b) (Mul (folded a) (folded b)) i) ∙ two_terms a b node.Mul ps;
}
other_last (DivDown a b) ps i = record { node = node.DivDown; rest = pieces b (pieces a ps); same = two_terms a b node.DivDown ps }
other_last (DivUp a b) ps i = record { node = node.DivUp; rest = pieces b (pieces a ps); same = two_terms a b node.DivUp ps }

not_joined : (n : RangeNode) (a b : Expr) (ps : List Piece) → (is_literal a && is_literal b) ≡ false → joined n (pieces b (pieces a ps)) ≡ Other n ∷ pieces b (pieces a ps)
not_joined n a b ps i = elim (cases_Bool (is_literal b)) [
  | inr j ↦ let k = other_last b (pieces a ps) j in ap (joined n) k.same ∙ ap (λ qs. Other n ∷ qs) (sym k.same)
  | inl j ↦
      let l : is_literal a ≡ false = first_false (is_literal a) (is_literal b) i j in
      let k = other_last a ps l in
      let both : pieces b (pieces a ps) ≡ Literal (literal_value INFINITY b) ∷ Other k.node ∷ k.rest = one_piece b (pieces a ps) j ∙ ap (λ qs. Literal (literal_value INFINITY b) ∷ qs) k.same in
      ap (joined n) both ∙ ap (λ qs. Other n ∷ qs) (sym both)
] where
  first_false : (x y : Bool) → (x && y) ≡ false → y ≡ true → x ≡ false
  first_false x y h g = grind arith

wraps_not : (z : ℤ) → IsLimited z → int_wrap w128 z ≡ z
wraps_not z h = int_wrap_fits w128 z (fits_signed_from_abs w128 z (omega arith))

module _ (S : Family) (p : ℕ → ℤ) where
  are_joined : (n : RangeNode) (a b : Expr) (ps : List Piece) → ((x y : ℤ) → combined n x y ≡ int_wrap w128 (operated n x y)) → is_literal a ≡ true
      → is_literal b ≡ true → IsLimited (operated n (filled_value S p a) (filled_value S p b)) →
      joined n (pieces b (pieces a ps)) ≡ Literal (operated n (literal_value INFINITY a) (literal_value INFINITY b)) ∷ ps
  are_joined n a b ps c i j h =
      let both : pieces b (pieces a ps) ≡ Literal (literal_value INFINITY b) ∷ Literal (literal_value INFINITY a) ∷ ps = one_piece b (pieces a ps) j
      ∙ ap (λ qs. Literal (literal_value INFINITY b) ∷ qs) (one_piece a ps i) in
      ap (joined n) both ∙ ap (λ z. Literal z ∷ ps) (c (literal_value INFINITY a) (literal_value INFINITY b)
      ∙ wraps_not (operated n (literal_value INFINITY a) (literal_value INFINITY b))
      (subst IsLimited (sym (two (operated n) (literal_filled S p a i) (literal_filled S p b j))) h))

  joined_add : (a b : Expr) (ps : List Piece) → IsLimited (operated node.Add (filled_value S p a) (filled_value S p b)) → joined node.Add (pieces b (pieces a ps)) ≡ pieces (Add a b) ps
  joined_add a b ps h = folds_to (λ f. joined node.Add (pieces b (pieces a ps)) ≡ walked ps (expr_nodes f [])) (Add a b) (Add (folded a) (folded b))
      (λ i. are_joined node.Add a b ps (λ x y. refl) (first_so (is_literal a) (is_literal b) i) (second_so (is_literal a) (is_literal b) i) h)
      (λ i. not_joined node.Add a b ps i ∙ sym (two_terms a b node.Add ps))

  joined_sub : (a b : Expr) (ps : List Piece) → IsLimited (operated node.Sub (filled_value S p a) (filled_value S p b)) → joined node.Sub (pieces b (pieces a ps)) ≡ pieces (Sub a b) ps
  joined_sub a b ps h = folds_to (λ f. joined node.Sub (pieces b (pieces a ps)) ≡ walked ps (expr_nodes f [])) (Sub a b) (Sub (folded a) (folded b))
      (λ i. are_joined node.Sub a b ps (λ x y. refl) (first_so (is_literal a) (is_literal b) i) (second_so (is_literal a) (is_literal b) i) h)
      (λ i. not_joined node.Sub a b ps i ∙ sym (two_terms a b node.Sub ps))

  joined_mul : (a b : Expr) (ps : List Piece) → IsLimited (operated node.Mul (filled_value S p a) (filled_value S p b)) → joined node.Mul (pieces b (pieces a ps)) ≡ pieces (Mul a b) ps
  joined_mul a b ps h = folds_to (λ f. joined node.Mul (pieces b (pieces a ps)) ≡ walked ps (expr_nodes f [])) (Mul a b) (Mul (folded a) (folded b))
      (λ i. are_joined node.Mul a b ps (λ x y. refl) (first_so (is_literal a) (is_literal b) i) (second_so (is_literal a) (is_literal b) i) h)
      (λ i. not_joined node.Mul a b ps i ∙ sym (two_terms a b node.Mul ps))

  term_walk : (e : Expr) (ps : List Piece) (rest : List RangeNode) → Fits S p e → fold taken ps (expr_nodes e rest) ≡ fold taken (pieces e ps) rest
  term_walk (Number z) ps rest h = refl
  term_walk Infinity ps rest h = refl
  term_walk (Param x) ps rest h = refl
  term_walk (Min y) ps rest h = refl
  term_walk (Max y) ps rest h = refl
  term_walk (Val y) ps rest h = refl
  term_walk (Add a b) ps rest h = term_walk a ps (expr_nodes b (node.Add ∷ rest)) h.0 ∙ (term_walk b (pieces a ps) (node.Add ∷ rest) h.1 ∙ ap (λ qs. fold taken qs rest) (joined_add a b ps h.2))
  term_walk (Sub a b) ps rest h = term_walk a ps (expr_nodes b (node.Sub ∷ rest)) h.0 ∙ (term_walk b (pieces a ps) (node.Sub ∷ rest) h.1 ∙ ap (λ qs. fold taken qs rest) (joined_sub a b ps h.2))
  term_walk (Mul a b) ps rest h = term_walk a ps (expr_nodes b (node.Mul ∷ rest)) h.0 ∙ (term_walk b (pieces a ps) (node.Mul ∷ rest) h.1 ∙ ap (λ qs. fold taken qs rest) (joined_mul a b ps h.2))
  term_walk (DivDown a b) ps rest h = term_walk a ps (expr_nodes b (node.DivDown ∷ rest)) h.0
      ∙ (term_walk b (pieces a ps) (node.DivDown ∷ rest) h.1 ∙ ap (λ qs. fold taken qs rest) (sym (two_terms a b node.DivDown ps)))
  term_walk (DivUp a b) ps rest h = term_walk a ps (expr_nodes b (node.DivUp ∷ rest)) h.0
      ∙ (term_walk b (pieces a ps) (node.DivUp ∷ rest) h.1 ∙ ap (λ qs. fold taken qs rest) (sym (two_terms a b node.DivUp ps)))

  range_walk : (r : Range) (ps : List Piece) (rest : List RangeNode) → RangeFits S p r → fold taken ps (range_nodes r rest) ≡ fold taken (range_pieces r ps) rest
  range_walk (Span a b) ps rest h = term_walk a ps (expr_nodes b (node.Span ∷ rest)) h.0
      ∙ (term_walk b (pieces a ps) (node.Span ∷ rest) h.1 ∙ ap (λ qs. fold taken qs rest) (sym (two_terms a b node.Span ps)))
  range_walk (One t) ps rest h = term_walk t ps (node.One ∷ rest) h ∙ ap (λ qs. fold taken qs rest) (sym (walked_expr (folded t) ps (node.One ∷ [])))
  range_walk (Dom y) ps rest h = refl
  range_walk (Union r q) ps rest h = range_walk r ps (range_nodes q (node.Union ∷ rest)) h.0
      ∙ (range_walk q (range_pieces r ps) (node.Union ∷ rest) h.1 ∙ ap (λ qs. fold taken qs rest) (sym (two_ranges r q node.Union ps)))
  range_walk (Inter r q) ps rest h = range_walk r ps (range_nodes q (node.Inter ∷ rest)) h.0
      ∙ (range_walk q (range_pieces r ps) (node.Inter ∷ rest) h.1 ∙ ap (λ qs. fold taken qs rest) (sym (two_ranges r q node.Inter ps)))
  range_walk (Outside r) ps rest h = range_walk r ps (node.Outside ∷ rest) h ∙ ap (λ qs. fold taken qs rest) (sym (walked_range (folded_range r) ps (node.Outside ∷ [])))
  range_walk (Plus r c) ps rest h = range_walk r ps (expr_nodes c (node.Plus ∷ rest)) h.0
      ∙ (term_walk c (range_pieces r ps) (node.Plus ∷ rest) h.1 ∙ ap (λ qs. fold taken qs rest) (sym (both_kinds r c node.Plus ps)))
  range_walk (Minus r c) ps rest h = range_walk r ps (expr_nodes c (node.Minus ∷ rest)) h.0
      ∙ (term_walk c (range_pieces r ps) (node.Minus ∷ rest) h.1 ∙ ap (λ qs. fold taken qs rest) (sym (both_kinds r c node.Minus ps)))
  range_walk (Times r c) ps rest h = range_walk r ps (expr_nodes c (node.Times ∷ rest)) h.0
      ∙ (term_walk c (range_pieces r ps) (node.Times ∷ rest) h.1 ∙ ap (λ qs. fold taken qs rest) (sym (both_kinds r c node.Times ps)))
  range_walk (Over r c) ps rest h = range_walk r ps (expr_nodes c (node.Over ∷ rest)) h.0
      ∙ (term_walk c (range_pieces r ps) (node.Over ∷ rest) h.1 ∙ ap (λ qs. fold taken qs rest) (sym (both_kinds r c node.Over ps)))

-- the pieces in their order
in_order : (ps : List Piece) (ns : List RangeNode) → reverse (walked ps ns) ≡ reverse ps ++ map piece_of ns
in_order ps [] = sym (append-nil (reverse ps))
in_order ps (n ∷ ns) = in_order (piece_of n ∷ ps) ns ∙ (ap (λ l. l ++ map piece_of ns) (reverse-append (piece_of n ∷ []) ps) ∙ append_assoc (reverse ps) (piece_of n ∷ []) (map piece_of ns))

same_node : (n : RangeNode) → piece_node (piece_of n) ≡ n
same_node (node.Int z) = refl
same_node n = refl

same_nodes : (ns : List RangeNode) → map piece_node (map piece_of ns) ≡ ns
same_nodes [] = refl
same_nodes (n ∷ ns) = two (λ x xs. x ∷ xs) (same_node n) (same_nodes ns)

same_literals : (ns : List RangeNode) → literals (map piece_of ns) ≡ integers ns
same_literals [] = refl
same_literals (node.Int z ∷ ns) = ap (λ l. z ∷ l) (same_literals ns)
same_literals (n ∷ ns) = same_literals ns

pub record ArePieces (r : Range) (items : List Piece) : Type 0 where
  pub nodes : map piece_node items ≡ nodes_of (folded_range r)
  pub values : literals items ≡ integers (nodes_of (folded_range r))

pub pieces_are : (r : Range) (ns : List RangeNode) (items : List Piece) → FitsAlone r → ns ≡ nodes_of r → reverse items ≡ fold taken [] ns → ArePieces r items
pieces_are r ns items h e f =
    let back : reverse items ≡ walked [] (nodes_of (folded_range r)) = f ∙ (ap (fold taken []) e ∙ range_walk (λ y. []) (λ y. pos 1) r [] [] h) in
    let exact : items ≡ map piece_of (nodes_of (folded_range r)) = sym (reverse-reverse items) ∙ (ap reverse back ∙ in_order [] (nodes_of (folded_range r))) in
    record { nodes = ap (map piece_node) exact ∙ same_nodes (nodes_of (folded_range r)); values = ap literals exact ∙ same_literals (nodes_of (folded_range r)) }

-- an operator of two literals
both_there : (n : RangeNode) (ps qs us : List Piece) (a b : ℤ) → Some b ≡ top_literal ps → qs ≡ under_literal ps → Some a ≡ top_literal qs
    → us ≡ under_literal qs → joined n ps ≡ Literal (combined n a b) ∷ us
both_there n [] qs us a b e f g h = absurd cc
both_there n (Other m ∷ ps) qs us a b e f g h = absurd cc
both_there n (Literal y ∷ []) qs us a b e f g h = absurd (let k : Some a ≡ None = g ∙ ap top_literal f in cc)
both_there n (Literal y ∷ Other m ∷ ps) qs us a b e f g h = absurd (let k : Some a ≡ None = g ∙ ap top_literal f in cc)
both_there n (Literal y ∷ Literal x ∷ ps) qs us a b e f g h =
    let first : b ≡ y = cc in
    let k : Some a ≡ Some x = g ∙ ap top_literal f in
    let second : a ≡ x = cc in
    let rest : us ≡ ps = h ∙ ap under_literal f in
    two (λ z l. Literal z ∷ l) (sym (two (combined n) second first)) (sym rest)

pub put_joined : (n : RangeNode) (old mid under new : List Piece) (ob oa : Option ℤ) (a b z : ℤ) → ob ≡ top_literal (reverse old) → ob ≡ Some b
    → reverse mid ≡ under_literal (reverse old) → oa ≡ top_literal (reverse mid) → oa ≡ Some a → reverse under ≡ under_literal (reverse mid) →
    z ≡ combined n a b → new ≡ under ++ Literal z ∷ [] → reverse new ≡ joined n (reverse old)
put_joined n old mid under new ob oa a b z e f g h i j k l =
    ap reverse l ∙ (reverse-append under (Literal z ∷ []) ∙ (ap (λ y. Literal y ∷ reverse under) k ∙ sym (both_there n (reverse old) (reverse mid) (reverse under) a b (sym f ∙ e) g (sym i ∙ h) j)))
