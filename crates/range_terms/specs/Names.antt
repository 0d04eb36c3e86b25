-- The nodes of the names of operators.
use Rattle.std.specs.Prelude.{ℕ, Option, Some, None, if◌then◌else◌, codes}
use Rattle.std.specs.Str.{bytes_eq}
use Rattle.fd_language.specs.Term.{Name}
use Rattle.fd_language.specs.declared.range_node.RangeNode.{RangeNode}
use Rattle.fd_language.specs.declared.range_node.RangeNode.TheVariants as node
use Rattle.range_terms.specs.declared.names.RangeOperator.{RangeOperator}
use Rattle.range_terms.specs.declared.forms.Position.{Position}
use Rattle.range_terms.specs.declared.forms.Position.TheVariants as position

abbrev pub operator_with : RangeNode → Position → Position → Option RangeOperator
operator_with n l r = Some (record { node = n; left = l; right = r })

-- an operator of two operands that gives a range, with the positions of its operands
abbrev pub range_operator_of : Name → Option RangeOperator
range_operator_of f =
    if bytes_eq f (codes "..") then operator_with node.Span position.Term position.Term else
    if bytes_eq f (codes ":") then operator_with node.Union position.Range position.Range else
    if bytes_eq f (codes "&") then operator_with node.Inter position.Range position.Range else
    if bytes_eq f (codes "+") then operator_with node.Plus position.Range position.Constant else
    if bytes_eq f (codes "-") then operator_with node.Minus position.Range position.Constant else
    if bytes_eq f (codes "*") then operator_with node.Times position.Range position.Constant else
    if bytes_eq f (codes "/") then operator_with node.Over position.Range position.Constant else None

-- an operator of two terms
abbrev pub term_operator_of : Name → Option RangeNode
term_operator_of f =
    if bytes_eq f (codes "+") then Some node.Add else
    if bytes_eq f (codes "-") then Some node.Sub else
    if bytes_eq f (codes "*") then Some node.Mul else
    if bytes_eq f (codes "/<") then Some node.DivDown else
    if bytes_eq f (codes "/>") then Some node.DivUp else None

-- what a term reads of a variable
abbrev pub feature_of : Name → ℕ → Option RangeNode
feature_of f y =
    if bytes_eq f (codes "min") then Some (node.Min y) else
    if bytes_eq f (codes "max") then Some (node.Max y) else
    if bytes_eq f (codes "val") then Some (node.Val y) else None
