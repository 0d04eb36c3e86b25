-- What is wanted of each kind of term in each position.
use Rattle.std.proofs.Common.{◌≡◌, ℕ, ◌<◌, ◌≤◌, Bool, true, false, cond, List, [], ◌∷◌, length, Option, Some, None, refl, sym, ap, subst, ◌∙◌, arith}
use Rattle.std.specs.Prelude.{codes, ℤ, pos}
use Rattle.std.specs.Str.{bytes_eq}
use Rattle.fd_language.specs.Term.{Name}
use Rattle.fd_language.specs.PlacedTerm.{PlacedTerm, var, int, atom, comp, no_parts, one, two}
use Rattle.fd_language.specs.declared.range_node.RangeNode.{RangeNode}
use Rattle.fd_language.specs.declared.range_node.RangeNode.TheVariants as node
use Rattle.fd_language.specs.Range as fd
use Rattle.fd_language.specs.Range.{Range, Expr}
use Rattle.fd_language.specs.PostfixRanges.{expr_nodes, nodes_of}
use Rattle.fd_language.specs.Spelling.{Parsed, read, offends, read_one, RangeForm, of_terms, of_ranges, pointwise, no_form, range_form, read_form, read_dom}
use Rattle.fd_language.specs.Spelling.{read_expr, read_range, read_feature, read_operator, expr_operator, expr_feature, empty_range}
use Rattle.term_pool.specs.declared.TermId.{TermId}
use Rattle.range_terms.specs.declared.names.RangeOperator.{RangeOperator}
use Rattle.range_terms.specs.declared.forms.Position.{Position}
use Rattle.range_terms.specs.declared.forms.Position.TheVariants as position
use Rattle.term_pool.specs.PlacedTerms.{parts_by}
use Rattle.range_terms.specs.TermNodes.{Wanted, wanted, one_node, joined, of_expr, of_range}
use Rattle.range_terms.specs.Forms.{IsNoVariable, IsNumber, IsOfTerms}
use Rattle.range_terms.specs.Names.{range_operator_of, term_operator_of, feature_of}
use Rattle.fd_language.proofs.Lemmas.{expr_append, range_append}
use Rattle.range_terms.proofs.TermNodes.{two_exprs, two_ranges, range_and_expr, behind_one, behind_two}
use Rattle.range_terms.proofs.Rows.{IsRangeRow, range_row, IsTermRow, term_row, IsFeatureRow, feature_row}

-- it fits nowhere
abbrev pub FitsNowhere : Wanted → ℕ → Type 0
FitsNowhere w p = (w.places ≡ []) × (w.offenders ≡ p ∷ [])

-- two parts where a range is wanted
abbrev IsDouble : ℕ → Option RangeOperator → PlacedTerm → PlacedTerm → ℕ → Wanted → Type 0
IsDouble N (Some o) a b p w = w ≡ joined (joined (wanted N o.left a) (wanted N o.right b)) (one_node o.node p)
IsDouble N None a b p w = FitsNowhere w p

double : (N : ℕ) (f : RangeForm) (o : Option RangeOperator) → IsRangeRow f o → (a b : PlacedTerm) (p : ℕ)
    → IsDouble N o a b p (of_range (read_form f p (read_range N a) (read_range N b) (read_expr N true a) (read_expr N true b) (read_expr N false b)))
unfolding wanted
double N (of_terms make) (Some o) row a b p =
    behind_two (of_expr (read_expr N true a)) (of_expr (read_expr N true b)) (nodes_of (make (read_expr N true a).tree (read_expr N true b).tree)) o.node p
    (row.2 (read_expr N true a).tree (read_expr N true b).tree ∙ two_exprs (read_expr N true a).tree (read_expr N true b).tree o.node)
    ∙ ap (λ (l : Position). joined (joined (wanted N l a) (of_expr (read_expr N true b))) (one_node o.node p)) (sym row.0)
    ∙ ap (λ (r : Position). joined (joined (wanted N o.left a) (wanted N r b)) (one_node o.node p)) (sym row.1)
double N (of_ranges make) (Some o) row a b p =
    behind_two (of_range (read_range N a)) (of_range (read_range N b)) (nodes_of (make (read_range N a).tree (read_range N b).tree)) o.node p
    (row.2 (read_range N a).tree (read_range N b).tree ∙ two_ranges (read_range N a).tree (read_range N b).tree o.node)
    ∙ ap (λ (l : Position). joined (joined (wanted N l a) (of_range (read_range N b))) (one_node o.node p)) (sym row.0)
    ∙ ap (λ (r : Position). joined (joined (wanted N o.left a) (wanted N r b)) (one_node o.node p)) (sym row.1)
double N (pointwise make) (Some o) row a b p =
    behind_two (of_range (read_range N a)) (of_expr (read_expr N false b)) (nodes_of (make (read_range N a).tree (read_expr N false b).tree)) o.node p
    (row.2 (read_range N a).tree (read_expr N false b).tree ∙ range_and_expr (read_range N a).tree (read_expr N false b).tree o.node)
    ∙ ap (λ (l : Position). joined (joined (wanted N l a) (of_expr (read_expr N false b))) (one_node o.node p)) (sym row.0)
    ∙ ap (λ (r : Position). joined (joined (wanted N o.left a) (wanted N r b)) (one_node o.node p)) (sym row.1)
double N no_form None row a b p = (refl, refl)
double N no_form (Some o) row a b p = absurd row
double N (of_terms make) None row a b p = absurd row
double N (of_ranges make) None row a b p = absurd row
double N (pointwise make) None row a b p = absurd row

pub double_range : (N : ℕ) (f : Name) (o : RangeOperator) (a b : PlacedTerm) (p : ℕ) → range_operator_of f ≡ Some o
    → wanted N position.Range (comp f p (two a b)) ≡ joined (joined (wanted N o.left a) (wanted N o.right b)) (one_node o.node p)
unfolding wanted
double_range N f o a b p e = double N (range_form f) (Some o) (subst (IsRangeRow (range_form f)) e (range_row f)) a b p

pub no_double_range : (N : ℕ) (f : Name) (a b : PlacedTerm) (p : ℕ) → range_operator_of f ≡ None → FitsNowhere (wanted N position.Range (comp f p (two a b))) p
unfolding wanted
no_double_range N f a b p e = double N (range_form f) None (subst (IsRangeRow (range_form f)) e (range_row f)) a b p

-- one part where a range is wanted
pub single_one : (N : ℕ) (f : Name) (x : PlacedTerm) (p : ℕ) → bytes_eq f (codes "{}") ≡ true → wanted N position.Range (comp f p (one x)) ≡ joined (wanted N position.Term x) (one_node node.One p)
unfolding wanted
single_one N f x p h =
    ap (λ (b : Bool). of_range (cond b (read_one fd.One p (read_expr N true x))
    (cond (bytes_eq f (codes "-")) (read_one fd.Outside p (read_range N x)) (cond (bytes_eq f (codes "dom")) (read_dom x p) (offends empty_range p))))) h
    ∙ behind_one (of_expr (read_expr N true x)) (expr_nodes (read_expr N true x).tree (node.One ∷ [])) node.One p (expr_append (read_expr N true x).tree [] (node.One ∷ []))

pub single_outside : (N : ℕ) (f : Name) (x : PlacedTerm) (p : ℕ) → bytes_eq f (codes "{}") ≡ false → bytes_eq f (codes "-") ≡ true
    → wanted N position.Range (comp f p (one x)) ≡ joined (wanted N position.Range x) (one_node node.Outside p)
unfolding wanted
single_outside N f x p h k =
    ap (λ (b : Bool). of_range (cond b (read_one fd.One p (read_expr N true x))
    (cond (bytes_eq f (codes "-")) (read_one fd.Outside p (read_range N x)) (cond (bytes_eq f (codes "dom")) (read_dom x p) (offends empty_range p))))) h
    ∙ ap (λ (b : Bool). of_range (cond b (read_one fd.Outside p (read_range N x)) (cond (bytes_eq f (codes "dom")) (read_dom x p) (offends empty_range p)))) k
    ∙ behind_one (of_range (read_range N x)) (nodes_of (fd.Outside (read_range N x).tree)) node.Outside p (range_append (read_range N x).tree [] (node.Outside ∷ []))

pub single_other : (N : ℕ) (f : Name) (x : PlacedTerm) (p : ℕ) → bytes_eq f (codes "{}") ≡ false → bytes_eq f (codes "-") ≡ false
    → wanted N position.Range (comp f p (one x)) ≡ of_range (cond (bytes_eq f (codes "dom")) (read_dom x p) (offends empty_range p))
unfolding wanted
single_other N f x p h k =
    ap (λ (b : Bool). of_range (cond b (read_one fd.One p (read_expr N true x))
    (cond (bytes_eq f (codes "-")) (read_one fd.Outside p (read_range N x)) (cond (bytes_eq f (codes "dom")) (read_dom x p) (offends empty_range p))))) h
    ∙ ap (λ (b : Bool). of_range (cond b (read_one fd.Outside p (read_range N x)) (cond (bytes_eq f (codes "dom")) (read_dom x p) (offends empty_range p)))) k

pub single_dom : (N : ℕ) (f : Name) (x : PlacedTerm) (p : ℕ) → bytes_eq f (codes "{}") ≡ false → bytes_eq f (codes "-") ≡ false
    → bytes_eq f (codes "dom") ≡ true → wanted N position.Range (comp f p (one x)) ≡ of_range (read_dom x p)
single_dom N f x p h k d = single_other N f x p h k ∙ ap (λ (b : Bool). of_range (cond b (read_dom x p) (offends empty_range p))) d

pub nowhere_same : (u v : Wanted) (p : ℕ) → u ≡ v → FitsNowhere v p → FitsNowhere u p
nowhere_same u v p e h = subst (λ (w : Wanted). FitsNowhere w p) (sym e) h

pub no_single : (N : ℕ) (f : Name) (x : PlacedTerm) (p : ℕ) → bytes_eq f (codes "{}") ≡ false → bytes_eq f (codes "-") ≡ false
    → bytes_eq f (codes "dom") ≡ false → FitsNowhere (wanted N position.Range (comp f p (one x))) p
no_single N f x p h k d =
    nowhere_same (wanted N position.Range (comp f p (one x))) (of_range (offends empty_range p)) p
    (single_other N f x p h k ∙ ap (λ (b : Bool). of_range (cond b (read_dom x p) (offends empty_range p))) d) (refl, refl)

-- one part where a number is wanted
abbrev IsFeature : Option RangeNode → ℕ → Wanted → Type 0
IsFeature (Some n) p w = w ≡ one_node n p
IsFeature None p w = FitsNowhere w p

feature : (m : Option (ℕ → Expr)) (o : Option RangeNode) (y : ℕ) → IsFeatureRow m y o → (p : ℕ) → IsFeature o p (of_expr (read_feature m true p y))
feature (Some make) (Some n) y row p = ap (λ (ns : List RangeNode). record { nodes = ns; places = p ∷ []; offenders = [] }) row
feature None None y row p = (refl, refl)
feature None (Some n) y row p = absurd row
feature (Some make) None y row p = absurd row

pub feature_node : (N : ℕ) (f : Name) (x : PlacedTerm) (y q p : ℕ) (n : RangeNode) → x ≡ var y q → feature_of f y ≡ Some n → wanted N position.Term (comp f p (one x)) ≡ one_node n p
unfolding wanted
feature_node N f x y q p n v e = ap (λ (t : PlacedTerm). of_expr (read_expr N true (comp f p (one t)))) v
    ∙ feature (expr_feature f) (Some n) y (subst (IsFeatureRow (expr_feature f) y) e (feature_row f y)) p

pub no_feature : (N : ℕ) (f : Name) (x : PlacedTerm) (y q p : ℕ) → x ≡ var y q → feature_of f y ≡ None → FitsNowhere (wanted N position.Term (comp f p (one x))) p
unfolding wanted
no_feature N f x y q p v e =
    nowhere_same (of_expr (read_expr N true (comp f p (one x)))) (of_expr (read_feature (expr_feature f) true p y)) p (ap (λ (t : PlacedTerm). of_expr (read_expr N true (comp f p (one t)))) v)
    (feature (expr_feature f) None y (subst (IsFeatureRow (expr_feature f) y) e (feature_row f y)) p)

pub feature_of_other : (N : ℕ) (f : Name) (x : PlacedTerm) (p : ℕ) → IsNoVariable x → FitsNowhere (wanted N position.Term (comp f p (one x))) p
unfolding wanted
feature_of_other N f (var y q) p h = absurd h
feature_of_other N f (int z q) p h = (refl, refl)
feature_of_other N f (atom a q) p h = (refl, refl)
feature_of_other N f (comp g q ts) p h = (refl, refl)

-- and where no domain may change it
pub no_constant : (N : ℕ) (f : Name) (x : PlacedTerm) (p : ℕ) → FitsNowhere (wanted N position.Constant (comp f p (one x))) p
unfolding wanted
no_constant N f (var y q) p = go (expr_feature f)
  where
    go : (m : Option (ℕ → Expr)) → FitsNowhere (of_expr (read_feature m false p y)) p
    go (Some make) = (refl, refl)
    go None = (refl, refl)
no_constant N f (int z q) p = (refl, refl)
no_constant N f (atom a q) p = (refl, refl)
no_constant N f (comp g q ts) p = (refl, refl)

-- two parts where a number is wanted
abbrev IsOperation : Option RangeNode → ℕ → Wanted → Wanted → Wanted → Type 0
IsOperation (Some n) p u v w = w ≡ joined (joined u v) (one_node n p)
IsOperation None p u v w = FitsNowhere w p

operation : (m : Option (Expr → Expr → Expr)) (o : Option RangeNode) → IsTermRow m o → (p : ℕ) (a b : Parsed Expr) → IsOperation o p (of_expr a) (of_expr b) (of_expr (read_operator m p a b))
operation (Some make) (Some n) row p a b = behind_two (of_expr a) (of_expr b) (expr_nodes (make a.tree b.tree) []) n p (row a.tree b.tree ∙ two_exprs a.tree b.tree n)
operation None None row p a b = (refl, refl)
operation None (Some n) row p a b = absurd row
operation (Some make) None row p a b = absurd row

pub operation_node : (N : ℕ) (l : Position) → IsOfTerms l → (f : Name) (a b : PlacedTerm) (p : ℕ) (n : RangeNode) → term_operator_of f ≡ Some n
    → wanted N l (comp f p (two a b)) ≡ joined (joined (wanted N l a) (wanted N l b)) (one_node n p)
unfolding wanted
operation_node N position.Range h f a b p n e = absurd h
operation_node N position.Term h f a b p n e = operation (expr_operator f) (Some n) (subst (IsTermRow (expr_operator f)) e (term_row f)) p (read_expr N true a) (read_expr N true b)
operation_node N position.Constant h f a b p n e = operation (expr_operator f) (Some n) (subst (IsTermRow (expr_operator f)) e (term_row f)) p (read_expr N false a) (read_expr N false b)

pub no_operation : (N : ℕ) (l : Position) → IsOfTerms l → (f : Name) (a b : PlacedTerm) (p : ℕ) → term_operator_of f ≡ None → FitsNowhere (wanted N l (comp f p (two a b))) p
unfolding wanted
no_operation N position.Range h f a b p e = absurd h
no_operation N position.Term h f a b p e = operation (expr_operator f) None (subst (IsTermRow (expr_operator f)) e (term_row f)) p (read_expr N true a) (read_expr N true b)
no_operation N position.Constant h f a b p e = operation (expr_operator f) None (subst (IsTermRow (expr_operator f)) e (term_row f)) p (read_expr N false a) (read_expr N false b)

-- no parts, or more than two
pub none_nowhere : (N : ℕ) (l : Position) (f : Name) (p : ℕ) → FitsNowhere (wanted N l (comp f p no_parts)) p
unfolding wanted
none_nowhere N position.Range f p = (refl, refl)
none_nowhere N position.Term f p = (refl, refl)
none_nowhere N position.Constant f p = (refl, refl)

pub empty_nowhere : (N : ℕ) (l : Position) (by : TermId → PlacedTerm) (f : Name) (p : ℕ) (ts : List TermId) → length ts < 1 → FitsNowhere (wanted N l (comp f p (parts_by by ts))) p
empty_nowhere N l by f p [] h = none_nowhere N l f p
empty_nowhere N l by f p (t ∷ ts) h = absurd (omega arith)

pub several_nowhere : (N : ℕ) (l : Position) (by : TermId → PlacedTerm) (f : Name) (p : ℕ) (ts : List TermId) → 3 ≤ length ts → FitsNowhere (wanted N l (comp f p (parts_by by ts))) p
unfolding wanted
several_nowhere N l by f p [] h = absurd (omega arith)
several_nowhere N l by f p (t ∷ []) h = absurd (omega arith)
several_nowhere N l by f p (t ∷ u ∷ []) h = absurd (omega arith)
several_nowhere N position.Range by f p (t ∷ u ∷ v ∷ ts) h = (refl, refl)
several_nowhere N position.Term by f p (t ∷ u ∷ v ∷ ts) h = (refl, refl)
several_nowhere N position.Constant by f p (t ∷ u ∷ v ∷ ts) h = (refl, refl)

pub constant_of_one : (N : ℕ) (by : TermId → PlacedTerm) (f : Name) (p : ℕ) (ts : List TermId) → 1 ≤ length ts → length ts < 2 → FitsNowhere (wanted N position.Constant (comp f p (parts_by by ts))) p
constant_of_one N by f p [] h k = absurd (omega arith)
constant_of_one N by f p (t ∷ []) h k = no_constant N f (by t) p
constant_of_one N by f p (t ∷ u ∷ ts) h k = absurd (omega arith)

-- numbers
pub a_parameter : (N : ℕ) (l : Position) (x p : ℕ) → IsNumber l (node.Param x) p (wanted N l (var x p))
unfolding wanted
a_parameter N position.Range x p = (refl, refl)
a_parameter N position.Term x p = refl
a_parameter N position.Constant x p = refl

pub an_integer : (N : ℕ) (l : Position) (z : ℤ) (p : ℕ) → IsNumber l (node.Int z) p (wanted N l (int z p))
unfolding wanted
an_integer N position.Range z p = (refl, refl)
an_integer N position.Term z p = refl
an_integer N position.Constant z p = refl

pub the_infinity : (N : ℕ) (l : Position) (a : Name) (p : ℕ) → bytes_eq a (codes "infinity") ≡ true → IsNumber l (node.Int (pos N)) p (wanted N l (atom a p))
unfolding wanted
the_infinity N position.Range a p h = (refl, refl)
the_infinity N position.Term a p h = ap (λ (b : Bool). of_expr (cond b (read (fd.Number (pos N)) p) (offends fd.Infinity p))) h
the_infinity N position.Constant a p h = ap (λ (b : Bool). of_expr (cond b (read (fd.Number (pos N)) p) (offends fd.Infinity p))) h

pub no_atom : (N : ℕ) (l : Position) (a : Name) (p : ℕ) → bytes_eq a (codes "infinity") ≡ false → FitsNowhere (wanted N l (atom a p)) p
unfolding wanted
no_atom N position.Range a p h = (refl, refl)
no_atom N position.Term a p h = nowhere_same (of_expr (cond (bytes_eq a (codes "infinity")) (read (fd.Number (pos N)) p) (offends fd.Infinity p)))
    (of_expr (offends fd.Infinity p)) p (ap (λ (b : Bool). of_expr (cond b (read (fd.Number (pos N)) p) (offends fd.Infinity p))) h) (refl, refl)
no_atom N position.Constant a p h = nowhere_same (of_expr (cond (bytes_eq a (codes "infinity")) (read (fd.Number (pos N)) p) (offends fd.Infinity p)))
    (of_expr (offends fd.Infinity p)) p (ap (λ (b : Bool). of_expr (cond b (read (fd.Number (pos N)) p) (offends fd.Infinity p))) h) (refl, refl)
