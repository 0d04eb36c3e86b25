-- The range that a term spells, with a place for each node, or what fits nowhere in it. The word `infinity` of a text is a number N, the greatest that a
-- variable may have.
use Rattle.std.specs.Prelude.{ℕ, pos, min, Bool, true, false, if◌then◌else◌, List, [], ◌∷◌, ◌++◌, Option, Some, None, codes}
use Rattle.std.specs.Str.{bytes_eq}
use Rattle.fd_language.specs.Term.{Name}
use Rattle.fd_language.specs.PlacedTerm.{PlacedTerm, var, int, atom, comp, no_parts, part}
use Rattle.fd_language.specs.Range.{Range, Span, One, Dom, Union, Inter, Outside, Plus, Minus, Times, Over, Expr, Number, Infinity, Param, Min, Max, Val, Add}
use Rattle.fd_language.specs.Range.{Sub, Mul, DivDown, DivUp}

-- What is read: the value with the places of its nodes in postfix order, which hold where no subterm offends, and the places of the subterms that fit nowhere.
pub record Parsed (A : Type 0) : Type 0 where
  pub tree : A
  pub places : List ℕ
  pub offenders : List ℕ

abbrev pub read : {A : Type 0} → A → ℕ → Parsed A
read value p = record { tree = value; places = p ∷ []; offenders = [] }

-- a subterm that fits nowhere, whatever stands in it
abbrev pub offends : {A : Type 0} → A → ℕ → Parsed A
offends value p = record { tree = value; places = []; offenders = p ∷ [] }

abbrev pub read_one : {A B : Type 0} → (A → B) → ℕ → Parsed A → Parsed B
read_one make p a = record { tree = make a.tree; places = a.places ++ p ∷ []; offenders = a.offenders }

abbrev pub read_both : {A B C : Type 0} → (A → B → C) → ℕ → Parsed A → Parsed B → Parsed C
read_both make p a b = record { tree = make a.tree b.tree; places = a.places ++ (b.places ++ p ∷ []); offenders = a.offenders ++ b.offenders }

-- the operators of terms
abbrev pub expr_operator : Name → Option (Expr → Expr → Expr)
expr_operator f =
    if bytes_eq f (codes "+") then Some Add else
    if bytes_eq f (codes "-") then Some Sub else
    if bytes_eq f (codes "*") then Some Mul else
    if bytes_eq f (codes "/<") then Some DivDown else
    if bytes_eq f (codes "/>") then Some DivUp else None

-- what a term reads of a variable
abbrev pub expr_feature : Name → Option (ℕ → Expr)
expr_feature f =
    if bytes_eq f (codes "min") then Some Min else
    if bytes_eq f (codes "max") then Some Max else
    if bytes_eq f (codes "val") then Some Val else None

abbrev pub read_feature : Option (ℕ → Expr) → Bool → ℕ → ℕ → Parsed Expr
read_feature (Some make) true p y = read (make y) p
read_feature (Some make) false p y = offends Infinity p
read_feature None features p y = offends Infinity p

abbrev pub read_operator : Option (Expr → Expr → Expr) → ℕ → Parsed Expr → Parsed Expr → Parsed Expr
read_operator (Some make) p a b = read_both make p a b
read_operator None p a b = offends Infinity p

-- in term position, where `infinity` is the number N: at true, min, max and val may stand in it, at false they fit nowhere
abbrev pub read_expr : ℕ → Bool → PlacedTerm → Parsed Expr
read_expr N features (var x p) = read (Param x) p
read_expr N features (int z p) = read (Number z) p
read_expr N features (atom a p) = if bytes_eq a (codes "infinity") then read (Number (pos N)) p else offends Infinity p
read_expr N features (comp f p no_parts) = offends Infinity p
read_expr N features (comp f p (part (var y q) no_parts)) = read_feature (expr_feature f) features p y
read_expr N features (comp f p (part a no_parts)) = offends Infinity p
read_expr N features (comp f p (part a (part b no_parts))) = read_operator (expr_operator f) p (read_expr N features a) (read_expr N features b)
read_expr N features (comp f p (part a (part b (part c ts)))) = offends Infinity p

-- Set operators take two ranges, pointwise operators a range and a term.
pub data RangeForm : Type 0 where
  of_terms : (Expr → Expr → Range) → RangeForm
  of_ranges : (Range → Range → Range) → RangeForm
  pointwise : (Range → Expr → Range) → RangeForm
  no_form : RangeForm

abbrev pub range_form : Name → RangeForm
range_form f =
    if bytes_eq f (codes "..") then of_terms Span else
    if bytes_eq f (codes ":") then of_ranges Union else
    if bytes_eq f (codes "&") then of_ranges Inter else
    if bytes_eq f (codes "+") then pointwise Plus else
    if bytes_eq f (codes "-") then pointwise Minus else
    if bytes_eq f (codes "*") then pointwise Times else
    if bytes_eq f (codes "/") then pointwise Over else no_form

abbrev pub empty_range : Range
empty_range = One Infinity

abbrev pub read_form : RangeForm → ℕ → Parsed Range → Parsed Range → Parsed Expr → Parsed Expr → Parsed Expr → Parsed Range
read_form (of_terms make) p r q a b c = read_both make p a b
read_form (of_ranges make) p r q a b c = read_both make p r q
read_form (pointwise make) p r q a b c = read_both make p r c
read_form no_form p r q a b c = offends empty_range p

abbrev pub read_dom : PlacedTerm → ℕ → Parsed Range
read_dom (var y q) p = read (Dom y) p
read_dom t p = offends empty_range p

abbrev pub read_single : Name → PlacedTerm → ℕ → Parsed Range → Parsed Expr → Parsed Range
read_single f t p r e =
    if bytes_eq f (codes "{}") then read_one One p e else
    if bytes_eq f (codes "-") then read_one Outside p r else
    if bytes_eq f (codes "dom") then read_dom t p else offends empty_range p

-- in range position
abbrev pub read_range : ℕ → PlacedTerm → Parsed Range
read_range N (var x p) = offends empty_range p
read_range N (int z p) = offends empty_range p
read_range N (atom a p) = offends empty_range p
read_range N (comp f p no_parts) = offends empty_range p
read_range N (comp f p (part t no_parts)) = read_single f t p (read_range N t) (read_expr N true t)
read_range N (comp f p (part a (part b no_parts))) = read_form (range_form f) p (read_range N a) (read_range N b) (read_expr N true a) (read_expr N true b) (read_expr N false b)
read_range N (comp f p (part a (part b (part c ts)))) = offends empty_range p

-- the smallest place decides
abbrev pub least_place : List ℕ → Option ℕ
least_place [] = None
least_place (p ∷ []) = Some p
least_place (p ∷ q ∷ ps) = least_place (min p q ∷ ps)

-- the place at which the term is refused, and none where it spells a range
abbrev pub not_a_range : ℕ → PlacedTerm → Option ℕ
not_a_range N t = least_place (read_range N t).offenders
