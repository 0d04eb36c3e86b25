-- The sides of a comparison as terms of a range, and what is still to be spelled of them.
use Rattle.std.specs.Prelude.{◌≡◌, ℕ, ◌+◌, ◌*◌, ◌<◌, pos, Bool, true, false, ◌&&◌, ◌||◌, if◌then◌else◌, List, [], ◌∷◌, ◌++◌, length, All, Option, Some, None}
use Rattle.std.specs.Prelude.{option_and_then, codes}
use Rattle.std.specs.Str.{bytes_eq}
use Rattle.fd_language.specs.declared.TheConstants.{INFINITY}
use Rattle.fd_language.specs.declared.range_node.RangeNode.{RangeNode}
use Rattle.fd_language.specs.declared.range_node.RangeNode.TheVariants as node
use Rattle.fd_language.specs.PostfixRanges.{expr_nodes}
use Rattle.fd_language.specs.Range.{Range, Span, Expr, Number, Val, Add, Sub, Mul}
use Rattle.fd_language.specs.RangeVerdict.{bound}
use Rattle.fd_language.specs.Term.{Name, Term, Var, Int, Atom, Comp, no_terms, term}
use Rattle.fd_model.specs.FlatConstraints.{is_narrow, is_flat, is_flat_comparison}
use Rattle.term_pool.specs.Contents.{Contents}
use Rattle.term_pool.specs.Terms.{term_of, size}
use Rattle.answer_check.specs.declared.sides.Task.{Task}
use Rattle.answer_check.specs.declared.sides.Task.TheVariants as task
use Rattle.answer_check.specs.declared.sides.Width.{Width}
use Rattle.answer_check.specs.declared.sides.Spelling.{Spelling}

-- the operator by its name
abbrev pub operation_by : Name → Expr → Expr → Expr
operation_by f d e = if bytes_eq f (codes "+") then Add d e else if bytes_eq f (codes "-") then Sub d e else Mul d e

-- the term of a range that has the same value, where each variable has one
abbrev pub expr_of : Term → Expr
expr_of (Var x) = Val x
expr_of (Int z) = Number z
expr_of (Atom a) = Number (pos 0)
expr_of (Comp f no_terms) = Number (pos 0)
expr_of (Comp f (term s no_terms)) = Sub (Number (pos 0)) (expr_of s)
expr_of (Comp f (term s (term t no_terms))) = operation_by f (expr_of s) (expr_of t)
expr_of (Comp f (term s (term t (term u us)))) = Number (pos 0)

abbrev pub flat_side : Term → Option Expr
flat_side t = if is_flat INFINITY t then Some (expr_of t) else None

-- the interval between two flat sides
abbrev pub sides_in : Term → Term → Option Range
sides_in s t = if is_flat_comparison INFINITY s t then Some (Span (expr_of s) (expr_of t)) else None

abbrev pub interval_in : Expr → Expr → Option Range
interval_in d e = if is_narrow (bound INFINITY d + bound INFINITY e) then Some (Span d e) else None

-- an operator of two terms by its name
abbrev pub operator_in : Name → Option RangeNode
operator_in f = if bytes_eq f (codes "+") then Some node.Add else if bytes_eq f (codes "-") then Some node.Sub else if bytes_eq f (codes "*") then Some node.Mul else None

-- a width of a flat term, and that of an operator of two of them
abbrev pub narrowed : ℕ → Bool → Option Width
narrowed n b = if is_narrow n then Some (record { most = n; is_ground = b }) else None

abbrev pub joined_width : RangeNode → Width → Width → Option Width
joined_width node.Mul l r = if l.is_ground || r.is_ground then narrowed (l.most * r.most) (l.is_ground && r.is_ground) else None
joined_width n l r = narrowed (l.most + r.most) (l.is_ground && r.is_ground)

-- ---- terms that are spelled, the last one first

-- no variable stands in it
abbrev pub is_ground_expr : Expr → Bool
is_ground_expr (Number z) = true
is_ground_expr (Add d e) = is_ground_expr d && is_ground_expr e
is_ground_expr (Sub d e) = is_ground_expr d && is_ground_expr e
is_ground_expr (Mul d e) = is_ground_expr d && is_ground_expr e
is_ground_expr e = false

abbrev pub width_by : Expr → Width
width_by e = record { most = bound INFINITY e; is_ground = is_ground_expr e }

abbrev pub all_nodes : List Expr → List RangeNode
all_nodes [] = []
all_nodes (e ∷ es) = all_nodes es ++ expr_nodes e []

abbrev pub all_widths : List Expr → List Width
all_widths [] = []
all_widths (e ∷ es) = all_widths es ++ width_by e ∷ []

pub record Holds (m : Spelling) (es : List Expr) : Type 0 where
  pub nodes : m.nodes.items ≡ all_nodes es
  pub widths : m.widths.items ≡ all_widths es

-- what an operator makes of two terms
abbrev pub made_by : RangeNode → Expr → Expr → Expr
made_by node.Add d e = Add d e
made_by node.Sub d e = Sub d e
made_by n d e = Mul d e

-- and whether it is flat
abbrev pub may_join : RangeNode → Expr → Expr → Bool
may_join node.Mul d e = (is_ground_expr d || is_ground_expr e) && is_narrow (bound INFINITY d * bound INFINITY e)
may_join n d e = is_narrow (bound INFINITY d + bound INFINITY e)

abbrev pub joined : RangeNode → List Expr → Option (List Expr)
joined n (e ∷ d ∷ es) = if may_join n d e then Some (made_by n d e ∷ es) else None
joined n es = None

abbrev pub alone : Expr → List Expr → Option (List Expr)
alone e es = if is_narrow (bound INFINITY e) then Some (e ∷ es) else None

abbrev pub before : Option Expr → List Expr → Option (List Expr)
before None es = None
before (Some e) es = Some (e ∷ es)

-- what a task does to them, and what tasks do, the last one first
abbrev pub step : Contents → Task → List Expr → Option (List Expr)
step c (task.Spell t) es = before (flat_side (term_of c t)) es
step c (task.Put n) es = joined n es

abbrev pub run : Contents → List Task → List Expr → Option (List Expr)
run c [] es = Some es
run c (k ∷ ks) es = option_and_then (step c k) (run c ks es)

-- how long the tasks can take
abbrev pub task_weight : Contents → Task → ℕ
task_weight c (task.Spell t) = 2 * size (term_of c t)
task_weight c (task.Put n) = 1

unfoldable pub load : Contents → List Task → ℕ
load c [] = 0
load c (k ∷ ks) = task_weight c k + load c ks

-- an operator of comparisons
abbrev pub IsOperator : RangeNode → Type 0
IsOperator node.Add = Unit {0}
IsOperator node.Sub = Unit {0}
IsOperator node.Mul = Unit {0}
IsOperator n = ⊥

-- the term of a task is of the pool
abbrev pub IsOf : Contents → Task → Type 0
IsOf c (task.Spell t) = t.number < length c.entries
IsOf c (task.Put n) = IsOperator n

-- what an operation made of the terms that are spelled: others, or nothing
abbrev pub Makes : Option (List Expr) → Spelling → Bool → Type 0
Makes o new true = (es : List Expr) × (o ≡ Some es) × Holds new es
Makes o new false = o ≡ None

abbrev pub Applies : (List Expr → Option (List Expr)) → Spelling → Spelling → Bool → Type 0
Applies op old new b = (es : List Expr) → Holds old es → Makes (op es) new b

-- The terms and the tasks that are new come to what the task does, or it does nothing.
pub record Does (c : Contents) (k : Task) (old : Spelling) (old_ahead : List Task) (new : Spelling) (new_ahead : List Task) : Type 0 where
  pub more : List Task
  pub pushed : new_ahead ≡ old_ahead ++ more
  pub made : (es : List Expr) → Holds old es → (fs : List Expr) × (run c more fs ≡ step c k es) × Holds new fs
  pub lighter : load c more < task_weight c k
  pub within : All (IsOf c) more

abbrev pub IsDone : Contents → Task → Spelling → List Task → Spelling → List Task → Bool → Type 0
IsDone c k old old_ahead new new_ahead true = Does c k old old_ahead new new_ahead
IsDone c k old old_ahead new new_ahead false = (es : List Expr) → Holds old es → step c k es ≡ None

-- what is spelled and what is ahead come to the aim
pub record IsLeft (c : Contents) (aim : Option (List Expr)) (made : Spelling) (ahead : List Task) : Type 0 where
  pub terms : List Expr
  pub is : run c ahead terms ≡ aim
  pub holds : Holds made terms
  pub within : All (IsOf c) ahead
